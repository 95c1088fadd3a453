-- A host of host bytes can be learned.
use Rattle.std.proofs.Common.{◌≡◌, ◌≢◌, ℕ, zero, suc, ◌<◌, Bool, true, false, ◌&&◌, List, [], ◌∷◌, ◌++◌, length, take, get_or, if◌then◌else◌, refl, ap, sym, ◌∙◌, arith}
use Rattle.std.specs.Prelude.{◌==◌, nat_eq, slice_index_or}
use Rattle.std.specs.Cmp.Lexicographic.{pointwise}
use Rattle.std.specs.Fmt.{decimal}
use Rattle.std.specs.List.{list_all}
use Rattle.std.proofs.lemmas.Bool.Decides.{nat_tests}
use Rattle.sshc_hosts.specs.HostText.{host_text}
use Rattle.sshc_hosts.specs.Learning.{IsLearnable, Lacks}
use Rattle.sshc_hosts.specs.MatchingLines.{is_hashed, revoked_mark}
use Rattle.sshc_hosts_openssh.specs.Learnable.{is_host_byte}

both : (a b : Bool) → (a && b) ≡ true → (a ≡ true) × (b ≡ true)
both true b is = (refl, is)
both false b is = absurd cc

equal : (b k : ℕ) → (b == k) ≡ true → b ≡ k
equal b k is = grind (arith, nat_tests)

-- a host byte isn't one that is none
not_so : (t : Bool) (b k : ℕ) → (b == k) ≡ t → is_host_byte k ≡ false → is_host_byte b ≡ true → (b == k) ≡ false
not_so false b k is none one = is
not_so true b k is none one = let clash : true ≡ false = sym one ∙ ap (λ (x : ℕ). is_host_byte x) (equal b k is) ∙ none in absurd cc

passes : (host : List ℕ) → list_all is_host_byte host ≡ true → (at d : ℕ) → at < length host → is_host_byte (slice_index_or host at d) ≡ true
passes [] all at d within = absurd (omega (arith, within))
passes (b ∷ host) all zero d within = (both (is_host_byte b) (list_all is_host_byte host) all).0
passes (b ∷ host) all (suc at) d within = passes host (both (is_host_byte b) (list_all is_host_byte host) all).1 at d (omega (arith, within))

lacks : (k : ℕ) → is_host_byte k ≡ false → (host : List ℕ) → list_all is_host_byte host ≡ true → Lacks host k
lacks k none host all at d within = not_so (slice_index_or host at d == k) (slice_index_or host at d) k refl none (passes host all at d within)

-- the text of a host doesn't begin as a mark
unmarked : (alone : Bool) (b : ℕ) (host : List ℕ) (port : ℕ) → is_host_byte b ≡ true → (if alone then b ∷ host else 91 ∷ (b ∷ host) ++ 93 ∷ 58 ∷ decimal port) ≢ revoked_mark
unmarked true b host port one = λ same. let clash : true ≡ false = sym one ∙ ap (λ (text : List ℕ). is_host_byte (get_or text 0 0)) same in absurd cc
unmarked false b host port one = λ same. absurd (omega (arith, ap (λ (text : List ℕ). get_or text 0 0) same))

flipped : (b k : ℕ) → (b == k) ≡ false → (k == b) ≡ false
flipped b k is = grind (arith, nat_tests)

unhashed : (b : ℕ) (host : List ℕ) → (124 == b) ≡ false → is_hashed (b ∷ host) ≡ false
unhashed b host is = ap (λ (t : Bool). t && pointwise nat_eq (49 ∷ 124 ∷ []) (take 2 host)) is

pub all_learnable : (host : List ℕ) (port : ℕ) → 0 < length host → list_all is_host_byte host ≡ true → IsLearnable host (host_text host port)
unfolding host_text
all_learnable [] port some is = absurd (omega (arith, some))
all_learnable (b ∷ host) port some is =
    let one : is_host_byte b ≡ true = (both (is_host_byte b) (list_all is_host_byte host) is).0 in
    record {
      some = some;
      no_space = lacks 32 refl (b ∷ host) is;
      no_comma = lacks 44 refl (b ∷ host) is;
      no_line_feed = lacks 10 refl (b ∷ host) is;
      no_comment = not_so (b == 35) b 35 refl refl one;
      not_hashed = unhashed b host (flipped b 124 (not_so (b == 124) b 124 refl refl one));
      no_mark = unmarked (port == 22) b host port one;
    }
