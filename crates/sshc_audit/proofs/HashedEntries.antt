-- Hashed entries: what they match, and which bytes they lack.
use Rattle.std.proofs.Common.{◌≡◌, ℕ, zero, suc, ◌<◌, ◌/◌, ◌^◌, Bool, true, false, List, [], ◌∷◌, ◌++◌, length, Option, Some, Ok, refl, ap, sym, ◌∙◌, arith}
use Rattle.std.specs.Prelude.{◌==◌, not, if◌then◌else◌, bytes_eq, filter, slice_index}
use Rattle.std.specs.List.{AllByRecursion}
use Rattle.std.specs.Int.{w32, byte_at, bytes_high_first, to_be_bytes}
use Rattle.std.proofs.lemmas.Nat.{mod_below}
use Rattle.std.proofs.lemmas.Bool.Decides.{nat_tests}
use Rattle.std.proofs.lemmas.Bool.{eqb-true}
use Rattle.std.proofs.lemmas.Slice.Eq.{bytes_eq-Decides}
use Rattle.sshc_wire.specs.CasesLaws.{both_false, both_true, not_true}
use Rattle.base64.specs.Engines.{standard}
use Rattle.base64.specs.GeneralPurpose.{encode_of, decode_of, decoded_of, IsBytes}
use Rattle.base64.proofs.EngineFacts.{decode_of-encode_of}
use Rattle.sha1.specs.Sha1.{digest_bytes, sha1}
use Rattle.sshc_key.specs.KeyText.{is_no_line_end}
use Rattle.sshc_hosts.specs.Hmac.{hmac_sha1}
use Rattle.sshc_hosts.specs.Learning.{Lacks}
use Rattle.sshc_hosts.specs.MatchingLines.{parts_at, base64_bytes, hash_matches, hashed_matches, is_hashed, entry_matches}
use Rattle.sshc_hosts.proofs.LineLemmas.{parts_at-first, parts_at-lacking}
use Rattle.sshc_hosts.proofs.LearningLemmas.{Lacks-append, Lacks-cons}
use Rattle.sshc_hosts.proofs.Base64Lemmas.{Lacks-from_test, base64_lacks, base64_no_line_feed}
use Rattle.sshc_audit.specs.Hashing.{hashed_entry, is_name}
use Rattle.sshc_audit.specs.Removing.{begins_apart}

-- ---- digests are bytes

abbrev pub AreBytes : List ℕ → Type 0
AreBytes xs = AllByRecursion (λ b. b < 256) xs

bytes_at : (xs : List ℕ) → AreBytes xs → IsBytes xs
bytes_at [] are i = omega arith
bytes_at (x ∷ xs) are zero = are.0
bytes_at (x ∷ xs) are (suc i) = bytes_at xs are.1 i

bytes_append : (xs ys : List ℕ) → AreBytes xs → AreBytes ys → AreBytes (xs ++ ys)
bytes_append [] ys h k = k
bytes_append (x ∷ xs) ys h k = (h.0, bytes_append xs ys h.1 k)

byte_below : (i n : ℕ) → byte_at i n < 256
byte_below zero n = mod_below n 256 (omega arith)
byte_below (suc i) n = mod_below (n / 256 ^ suc i) 256 (omega arith)

high_first : (k n : ℕ) → AreBytes (bytes_high_first k n)
high_first zero n = tt
high_first (suc k) n = (byte_below k n, high_first k n)

digest_are : (h : List ℕ) (n : ℕ) → AreBytes (digest_bytes h n)
unfolding digest_bytes
digest_are h zero = tt
digest_are h (suc n) = bytes_append (digest_bytes h n) (to_be_bytes w32 (slice_index h n)) (digest_are h n) (high_first 4 (slice_index h n))

sha1_are : (m : List ℕ) → AreBytes (sha1 m)
unfolding sha1
sha1_are m = digest_are _ 5

-- an HMAC is bytes
pub hmac_bytes : (key message : List ℕ) → IsBytes (hmac_sha1 key message)
unfolding hmac_sha1
hmac_bytes key message = bytes_at _ (sha1_are _)

-- ---- base64 is decoded again

no_line_end : (b : ℕ) → (b == 13) ≡ false → (b == 10) ≡ false → is_no_line_end b ≡ true
no_line_end b no_return no_feed = rw (no_return, no_feed) refl

kept_all : (xs : List ℕ) → Lacks xs 13 → Lacks xs 10 → filter is_no_line_end xs ≡ xs
kept_all [] no_return no_feed = refl
kept_all (x ∷ xs) no_return no_feed =
    let kept : is_no_line_end x ≡ true = no_line_end x (no_return 0 0 (omega arith)) (no_feed 0 0 (omega arith)) in
    rw kept (ap (λ (rest : List ℕ). x ∷ rest) (kept_all xs (λ k d within. no_return (suc k) d (omega arith)) (λ k d within. no_feed (suc k) d (omega arith))))

pub base64_back : (bytes : List ℕ) → IsBytes bytes → base64_bytes (encode_of standard bytes) ≡ Some bytes
unfolding decoded_of
base64_back bytes are =
    let text : List ℕ = encode_of standard bytes in
    let kept : filter is_no_line_end text ≡ text = kept_all text (base64_lacks bytes 13 refl refl (Lacks-from_test 13 standard.encode_table refl)) (base64_no_line_feed bytes) in
    let back : decode_of standard text ≡ Ok bytes = decode_of-encode_of standard bytes refl are in
    ap (decoded_of standard) kept ∙ rw back refl

-- ---- what a hashed entry matches

bar_lacks : (m : List ℕ) → Lacks (encode_of standard m) 124
bar_lacks m = base64_lacks m 124 refl refl (Lacks-from_test 124 standard.encode_table refl)

hashed_parts : (salt hash : List ℕ) → parts_at 124 (encode_of standard salt ++ 124 ∷ encode_of standard hash) ≡ encode_of standard salt ∷ encode_of standard hash ∷ []
hashed_parts salt hash =
    parts_at-first 124 (encode_of standard salt) (encode_of standard hash) (bar_lacks salt)
    ∙ ap (λ (parts : List (List ℕ)). encode_of standard salt ∷ parts) (parts_at-lacking 124 (encode_of standard hash) (bar_lacks hash))

by_parts : (host rest : List ℕ) (parts : List (List ℕ)) → parts_at 124 rest ≡ parts → entry_matches host (124 ∷ 49 ∷ 124 ∷ rest) ≡ hashed_matches host ([] ∷ (49 ∷ []) ∷ parts)
by_parts host rest parts is = ap (λ (ps : List (List ℕ)). hashed_matches host ([] ∷ (49 ∷ []) ∷ ps)) is

-- a hashed entry matches exactly the host texts with its HMAC
pub hashed_matches_by : (host salt entry : List ℕ) → IsBytes salt → entry_matches host (hashed_entry salt entry) ≡ bytes_eq (hmac_sha1 salt host) (hmac_sha1 salt entry)
hashed_matches_by host salt entry bytes =
    by_parts host (encode_of standard salt ++ 124 ∷ encode_of standard (hmac_sha1 salt entry)) _ (hashed_parts salt (hmac_sha1 salt entry))
    ∙ ap (λ (s : Option (List ℕ)). hash_matches host s (base64_bytes (encode_of standard (hmac_sha1 salt entry)))) (base64_back salt bytes)
    ∙ ap (λ (h : Option (List ℕ)). hash_matches host (Some salt) h) (base64_back (hmac_sha1 salt entry) (hmac_bytes salt entry))

pub name_open : (entry : List ℕ) → is_name entry ≡ true → is_hashed entry ≡ false
name_open entry is = not_true (is_hashed entry) (both_true (not (length entry == 0)) (not (is_hashed entry)) is).1

name_matches : (host entry : List ℕ) → is_name entry ≡ true → entry_matches host entry ≡ bytes_eq entry host
name_matches host entry is = ap (λ (b : Bool). if b then hashed_matches host (parts_at 124 entry) else bytes_eq entry host) (name_open entry is)

same_test : (a b : Bool) → (a ≡ true → b ≡ true) → (b ≡ true → a ≡ true) → a ≡ b
same_test true b to from = sym (to refl)
same_test false true to from = from refl
same_test false false to from = refl

-- a name that is hashed matches a host text that shares its HMAC with no other name as it did before
pub hashed_as_before : (host salt entry : List ℕ) → IsBytes salt → is_name entry ≡ true → (hmac_sha1 salt host ≡ hmac_sha1 salt entry → entry ≡ host)
    → entry_matches host (hashed_entry salt entry) ≡ entry_matches host entry
hashed_as_before host salt entry bytes name alone =
    hashed_matches_by host salt entry bytes
    ∙ same_test (bytes_eq (hmac_sha1 salt host) (hmac_sha1 salt entry)) (bytes_eq entry host)
    (λ e. (bytes_eq-Decides entry host).1 (alone ((bytes_eq-Decides (hmac_sha1 salt host) (hmac_sha1 salt entry)).0 e)))
    (λ e. (bytes_eq-Decides (hmac_sha1 salt host) (hmac_sha1 salt entry)).1 (ap (hmac_sha1 salt) (sym ((bytes_eq-Decides entry host).0 e))))
    ∙ sym (name_matches host entry name)

-- ---- bytes that a hashed entry lacks

pub hashed_lacks : (salt entry : List ℕ) (byte : ℕ) → (124 == byte) ≡ false → (49 == byte) ≡ false → ((m : List ℕ) → Lacks (encode_of standard m) byte) → Lacks (hashed_entry salt entry) byte
hashed_lacks salt entry byte bar one base64 =
    let hash : List ℕ = encode_of standard (hmac_sha1 salt entry) in
    let rest : List ℕ = encode_of standard salt ++ 124 ∷ hash in
    Lacks-cons 124 (49 ∷ 124 ∷ rest) byte bar (Lacks-cons 49 (124 ∷ rest) byte one (Lacks-cons 124 rest byte bar
    (Lacks-append (encode_of standard salt) (124 ∷ hash) byte (base64 salt) (Lacks-cons 124 hash byte bar (base64 (hmac_sha1 salt entry))))))

pub comma_lacks : (m : List ℕ) → Lacks (encode_of standard m) 44
comma_lacks m = base64_lacks m 44 refl refl (Lacks-from_test 44 standard.encode_table refl)

-- an entry that isn't a name begins neither a comment nor a mark
some_length : (b : ℕ) (rest : List ℕ) → (length (b ∷ rest) == 0) ≡ false
some_length b rest = let some : 0 < length (b ∷ rest) = omega arith in grind (arith, nat_tests, some)

hash_sign : (rest : List ℕ) → is_name (35 ∷ rest) ≡ true
hash_sign rest = rw (some_length 35 rest) refl

at_sign : (rest : List ℕ) → is_name (64 ∷ rest) ≡ true
at_sign rest = rw (some_length 64 rest) refl

no_name_case : (sign b : ℕ) (rest : List ℕ) (first : Bool) → is_name (sign ∷ rest) ≡ true → (b == sign) ≡ first → is_name (b ∷ rest) ≡ false → first ≡ false
no_name_case sign b rest false name e h = refl
no_name_case sign b rest true name e h =
    let is : b ≡ sign = eqb-true b sign e in
    sym (ap (λ (x : ℕ). is_name (x ∷ rest)) is ∙ name) ∙ h

pub no_name_apart : (entry : List ℕ) → is_name entry ≡ false → begins_apart entry ≡ false
no_name_apart [] h = refl
no_name_apart (b ∷ rest) h =
    both_false (b == 35) (b == 64) (no_name_case 35 b rest (b == 35) (hash_sign rest) refl h) (no_name_case 64 b rest (b == 64) (at_sign rest) refl h)
