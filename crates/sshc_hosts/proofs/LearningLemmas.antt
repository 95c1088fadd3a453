-- The line that is learned: it names its host and no other.
use Rattle.std.proofs.Common.{◌≡◌, ℕ, zero, suc, ◌+◌, ◌<◌, ◌^◌, ◌%◌, Bool, true, false, List, [], ◌∷◌, ◌++◌, length, get_or, Some, None, refl, ap, ◌∙◌, arith}
use Rattle.std.specs.Prelude.{◌==◌, if◌then◌else◌, option_map}
use Rattle.std.specs.Fmt.{decimal}
use Rattle.std.specs.Str.{bytes_eq}
use Rattle.std.specs.List.{list_any}
use Rattle.std.proofs.lemmas.Bool.Decides.{nat_tests}
use Rattle.std.proofs.lemmas.Fmt.{decimal_by_steps}
use Rattle.std.proofs.lemmas.List.Elements.{All-append}
use Rattle.sshc_hosts.specs.HostText.{host_text}
use Rattle.sshc_hosts.specs.declared.marks.Mark.TheVariants.{Recorded}
use Rattle.sshc_hosts.specs.MatchingLines.{parts_at, is_comment, hashed_matches, entry_matches, field_matches, marked, marked_as, marked_key, line_key}
use Rattle.sshc_hosts.specs.Learning.{Lacks, IsLearnable}
use Rattle.sshc_hosts.proofs.LineLemmas.{parts_at-first, parts_at-lacking}
use Rattle.sshc_hosts.proofs.MarkLemmas.{no_mark}

-- ---- bytes that a text lacks

pub Lacks-nothing : (byte : ℕ) → Lacks [] byte
Lacks-nothing byte k d within = absurd (omega arith)

single_at : (b byte : ℕ) → (b == byte) ≡ false → (k d : ℕ) → k < 1 → (get_or (b ∷ []) k d == byte) ≡ false
single_at b byte apart zero d within = apart
single_at b byte apart (suc k) d within = absurd (omega arith)

pub Lacks-single : (b byte : ℕ) → (b == byte) ≡ false → Lacks (b ∷ []) byte
Lacks-single b byte apart k d within = single_at b byte apart k d within

pub Lacks-append : (xs ys : List ℕ) (byte : ℕ) → Lacks xs byte → Lacks ys byte → Lacks (xs ++ ys) byte
Lacks-append xs ys byte front back = All-append (λ b. (b == byte) ≡ false) xs ys front back

pub Lacks-cons : (b : ℕ) (xs : List ℕ) (byte : ℕ) → (b == byte) ≡ false → Lacks xs byte → Lacks (b ∷ xs) byte
Lacks-cons b xs byte apart rest = Lacks-append (b ∷ []) xs byte (Lacks-single b byte apart) rest

-- a number's digits lack each byte below `0`
decimal_lacks : (byte n : ℕ) → byte < 48 → n < 2 ^ 64 → Lacks (decimal n) byte
decimal_lacks byte n low short =
    decimal_by_steps (λ n ds. Lacks ds byte)
    (λ n small. Lacks-single (48 + n) byte (grind (arith, nat_tests)))
    (λ n ds big front. Lacks-append ds ((48 + n % 10) ∷ []) byte front (Lacks-single (48 + n % 10) byte (grind (arith, nat_tests)))) n short

-- ---- the host text of a host that can be learned

bracketed_lacks : (host : List ℕ) (port byte : ℕ) → byte < 48 → port < 2 ^ 64 → Lacks host byte → Lacks (91 ∷ host ++ 93 ∷ 58 ∷ decimal port) byte
bracketed_lacks host port byte low short none =
    Lacks-cons 91 (host ++ 93 ∷ 58 ∷ decimal port) byte (grind (arith, nat_tests))
    (Lacks-append host (93 ∷ 58 ∷ decimal port) byte none
    (Lacks-cons 93 (58 ∷ decimal port) byte (grind (arith, nat_tests))
    (Lacks-cons 58 (decimal port) byte (grind (arith, nat_tests)) (decimal_lacks byte port low short))))

learnable_case : (host : List ℕ) (port : ℕ) (b : Bool) → port < 2 ^ 64
    → IsLearnable host (if b then host else 91 ∷ host ++ 93 ∷ 58 ∷ decimal port)
    → IsLearnable (if b then host else 91 ∷ host ++ 93 ∷ 58 ∷ decimal port) (if b then host else 91 ∷ host ++ 93 ∷ 58 ∷ decimal port)
learnable_case host port true short fit = fit
learnable_case host port false short fit = record {
  some = omega arith;
  no_space = bracketed_lacks host port 32 (omega arith) short fit.no_space;
  no_comma = bracketed_lacks host port 44 (omega arith) short fit.no_comma;
  no_line_feed = bracketed_lacks host port 10 (omega arith) short fit.no_line_feed;
  no_comment = refl;
  not_hashed = refl;
  no_mark = fit.no_mark;
}

pub IsLearnable-host_text : (host : List ℕ) (port : ℕ) → port < 2 ^ 64 → IsLearnable host (host_text host port) → IsLearnable (host_text host port) (host_text host port)
unfolding host_text
IsLearnable-host_text host port short fit = learnable_case host port (port == 22) short fit

-- ---- the fields of the line

-- the fields of a line that begins with a name and an algorithm, and continues with more fields
three_fields : (host name rest : List ℕ) → Lacks host 32 → Lacks name 32 → parts_at 32 (host ++ 32 ∷ (name ++ 32 ∷ rest)) ≡ host ∷ name ∷ parts_at 32 rest
three_fields host name rest plain_host plain_name =
    parts_at-first 32 host (name ++ 32 ∷ rest) plain_host ∙ ap (λ (fields : List (List ℕ)). host ∷ fields) (parts_at-first 32 name rest plain_name)

begun : (host rest : List ℕ) → 0 < length host → is_comment (host ++ rest) ≡ is_comment host
begun [] rest some = absurd (omega arith)
begun (b ∷ host) rest some = refl

any_case : (p : List ℕ → Bool) (x : List ℕ) (b : Bool) → p x ≡ b → list_any p (x ∷ []) ≡ b
any_case p x true e = rw e refl
any_case p x false e = rw e refl

any_single : (p : List ℕ → Bool) (x : List ℕ) → list_any p (x ∷ []) ≡ p x
any_single p x = any_case p x (p x) refl

-- a host text matches itself, and no other one
field_is : (other host : List ℕ) → IsLearnable host host → field_matches other host ≡ bytes_eq host other
field_is other host fit =
    let one : parts_at 44 host ≡ host ∷ [] = parts_at-lacking 44 host fit.no_comma in
    let entry : entry_matches other host ≡ bytes_eq host other = ap (λ b. if b then hashed_matches other (parts_at 124 host) else bytes_eq host other) fit.not_hashed in
    ap (λ parts. list_any (λ e. entry_matches other e) parts) one ∙ any_single (λ e. entry_matches other e) host ∙ entry

recorded_case : (key : List ℕ) (b : Bool) → option_map (marked_as Recorded) (if b then Some key else None) ≡ (if b then Some (marked_as Recorded key) else None)
recorded_case key true = refl
recorded_case key false = refl

-- the key of the line, which is recorded, if the host text is this one
pub line_key-learned : (other host name rest key : List ℕ) (later : List (List ℕ)) → IsLearnable host host → Lacks name 32 → parts_at 32 rest ≡ key ∷ later
    → line_key other (host ++ 32 ∷ (name ++ 32 ∷ rest)) ≡ (if bytes_eq host other then Some (marked_as Recorded key) else None)
line_key-learned other host name rest key later fit plain_name behind =
    let line : List ℕ = host ++ 32 ∷ (name ++ 32 ∷ rest) in
    let parts : parts_at 32 line ≡ host ∷ name ∷ key ∷ later =
    three_fields host name rest fit.no_space plain_name ∙ ap (λ (fields : List (List ℕ)). host ∷ name ∷ fields) behind in
    let no_comment : is_comment line ≡ false = begun host (32 ∷ (name ++ 32 ∷ rest)) fit.some ∙ fit.no_comment in
    ap (λ b. if b then None else marked_key other (marked (parts_at 32 line))) no_comment
    ∙ ap (λ fields. marked_key other (marked fields)) parts
    ∙ ap (marked_key other) (no_mark host (name ∷ key ∷ later) fit.no_mark)
    ∙ ap (λ b. option_map (marked_as Recorded) (if b then Some key else None)) (field_is other host fit)
    ∙ recorded_case key (bytes_eq host other)

-- the last field, and a field before others
pub last_field : (key : List ℕ) → Lacks key 32 → parts_at 32 key ≡ key ∷ []
last_field key plain = parts_at-lacking 32 key plain

pub field_before : (key comment : List ℕ) → Lacks key 32 → parts_at 32 (key ++ 32 ∷ comment) ≡ key ∷ parts_at 32 comment
field_before key comment plain = parts_at-first 32 key comment plain
