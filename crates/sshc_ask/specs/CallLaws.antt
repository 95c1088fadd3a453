-- A call that finds a whole answer returns its reading, unless a fault or lack of memory ended it before.
use Rattle.std.proofs.Common.{◌≡◌, ℕ, ◌+◌, ◌^◌, ◌<◌, ◌≤◌, ◌⊎◌, inl, inr, List, [], ◌∷◌, ◌++◌, length, Option, Some, None, Ok, Result, refl, sym, ap, subst, ◌∙◌, arith, append_assoc, length-append}
use Rattle.std.specs.Int.{w32}
use Rattle.sshc_wire.specs.CasesLaws.{some_is}
use Rattle.sshc_wire.specs.declared.error.WireError.{WireError}
use Rattle.sshc_wire.specs.Contents.{IsAtEnd, prepend}
use Rattle.sshc_wire.specs.Format.{done}
use Rattle.sshc_wire.specs.FormatLaws.{ok_is}
use Rattle.sshc_wire.specs.PartsLaws.{number32, strings}
use Rattle.sshc_wire.specs.Reads.{number_at, string_at}
use Rattle.sshc_wire.specs.Wire.{IsShort, string_text, u32_text}
use Rattle.sshc_key.specs.AgentNumbers.{MAX_AGENT_FRAME_LEN}
use Rattle.sshc_ask.specs.AgentCalls.{Course, Finds, IsComplete, IsCourse, answered, oversized, taken, unheard, unsent}

-- ---- numbers and strings at the front are what they are

four : (n : ℕ) → length (u32_text n) ≡ 4
unfolding u32_text
four n = refl

is_pair : {A : Type 0} (x y : A × List ℕ) → done {E = WireError} x ≡ done y → x ≡ y
is_pair x y e = ok_is {E = WireError} x y e

one_number : (n m : ℕ) (a b : List ℕ) → n < 2 ^ 32 → m < 2 ^ 32 → u32_text n ++ a ≡ u32_text m ++ b → (n ≡ m) × (a ≡ b)
one_number n m a b small short same =
    let both = is_pair (n, a) (m, b) (sym (number32.again n a small) ∙ ap (number_at w32) same ∙ number32.again m b short) in
    (ap (λ (p : ℕ × List ℕ). p.0) both, ap (λ (p : ℕ × List ℕ). p.1) both)

one_string : (s t a b : List ℕ) → IsShort s → IsShort t → string_text s ++ a ≡ string_text t ++ b → (s ≡ t) × (a ≡ b)
one_string s t a b short few same =
    let both = is_pair (s, a) (t, b) (sym (strings.again s a short) ∙ ap string_at same ∙ strings.again t b few) in
    (ap (λ (p : List ℕ × List ℕ). p.0) both, ap (λ (p : List ℕ × List ℕ). p.1) both)

string_parts : (s rest : List ℕ) → string_text s ++ rest ≡ u32_text (length s) ++ (s ++ rest)
unfolding string_text
string_parts s rest = append_assoc (u32_text (length s)) s rest

-- ---- a cut answer is no whole one

-- if fewer bytes than an answer were taken, and no bytes remain, there was no answer
no_answer_left : (answer rest given : List ℕ) → length answer ≤ MAX_AGENT_FRAME_LEN → IsCourse (unheard given) → string_text answer ++ rest ≡ given ++ [] → ⊥
no_answer_left answer rest given few (inl short) same =
    let size = ap length (sym (string_parts answer rest) ∙ same) in
    absurd (omega (arith, short, size, length-append (u32_text (length answer)) (answer ++ rest), four (length answer), length-append given []))
no_answer_left answer rest given few (inr (n, part, is, small, short)) same =
    let numbers = one_number (length answer) n (answer ++ rest) (part ++ []) (omega (arith, few)) (omega (arith, small))
    (sym (string_parts answer rest) ∙ same ∙ ap (λ (g : List ℕ). g ++ []) is ∙ append_assoc (u32_text n) part []) in
    absurd (omega (arith, short, numbers.0, ap length numbers.1, length-append answer rest, length-append part []))

ended_with : (answer rest given : List ℕ) (after : Option (List ℕ)) → length answer ≤ MAX_AGENT_FRAME_LEN → IsCourse (unheard given) → Some (string_text answer ++ rest) ≡ prepend given after → IsAtEnd after → ⊥
ended_with answer rest given None few is left nothing = absurd cc
ended_with answer rest given (Some []) few is left nothing = no_answer_left answer rest given few is (some_is _ _ left)
ended_with answer rest given (Some (b ∷ more)) few is left nothing = absurd cc

oversized_with : (answer rest : List ℕ) (n : ℕ) (after : Option (List ℕ)) → length answer ≤ MAX_AGENT_FRAME_LEN → IsCourse (oversized n) → Some (string_text answer ++ rest) ≡ prepend (u32_text n) after → ⊥
oversized_with answer rest n None few is left = absurd cc
oversized_with answer rest n (Some more) few is left =
    let numbers = one_number (length answer) n (answer ++ rest) more (omega (arith, few)) is.1 (sym (string_parts answer rest) ∙ some_is _ _ left) in
    absurd (omega (arith, few, is.0, numbers.0))

answered_with : (answer rest found : List ℕ) (after : Option (List ℕ)) → length answer ≤ MAX_AGENT_FRAME_LEN → IsCourse (answered found) → Some (string_text answer ++ rest) ≡ prepend (string_text found) after
    → (found ≡ answer) × (after ≡ Some rest)
answered_with answer rest found None few is left = absurd cc
answered_with answer rest found (Some more) few is left =
    let same = one_string answer found rest more (omega (arith, few)) (omega (arith, is)) (some_is _ _ left) in
    (sym same.0, ap (λ (r : List ℕ). Some r) (sym same.1))

-- with a whole answer at the front of the remaining bytes
pub is_complete : (course : Course) (before after : Option (List ℕ)) → IsCourse course → before ≡ prepend (taken course) after → IsComplete course before after
is_complete unsent before after is left = tt
is_complete (unheard given) before after is left = λ found rest finds nothing. ended_with found rest given after finds.0 is (sym finds.1 ∙ left) nothing
is_complete (oversized n) before after is left = λ found rest finds. oversized_with found rest n after finds.0 is (sym finds.1 ∙ left)
is_complete (answered answer) before after is left = λ found rest finds. answered_with found rest answer after finds.0 is (sym finds.1 ∙ left)
