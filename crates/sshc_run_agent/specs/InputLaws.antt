-- All inputs that bytes contain, one by one: they are the ones that Frames returns (sshc_agent_core), and pieces of bytes
-- contain together what they contain one after the other.
use Rattle.std.proofs.Common.{◌≡◌, ℕ, zero, suc, ◌+◌, ◌<◌, ◌≤◌, Bool, true, false, cond, List, [], ◌∷◌, ◌++◌, length, take, drop, Option, Some, None, Result, Ok, Err, refl, sym, ap, subst, ◌∙◌, arith, length-drop}
use Rattle.std.specs.Prelude.{nat_lt}
use Rattle.std.specs.Int.{w32}
use Rattle.std.proofs.lemmas.Bool.{ltb-false}
use Rattle.sshc_wire.specs.CasesLaws.{some_is}
use Rattle.sshc_wire.specs.declared.error.WireError.{WireError}
use Rattle.sshc_wire.specs.Reads.{number_at}
use Rattle.sshc_agent_core.specs.declared.input.AgentInput.{AgentInput}
use Rattle.sshc_agent_core.specs.declared.input.AgentInput.TheVariants.{Frame, Oversize}
use Rattle.sshc_key.specs.AgentNumbers.{MAX_AGENT_FRAME_LEN}
use Rattle.sshc_agent_core.specs.AgentFrames.{FrameBytes, Gives, GivesAll, framed_by, framed_in, next_in, pushed}
use Rattle.sshc_agent_core.specs.FrameLaws.{number_by, one_list, pieces}
use Rattle.sshc_run_agent.specs.AgentTurns.{inputs_of, most, rest_of, taken_by, taken_in}

-- after a frame or a length fewer bytes remain
framed_less : (over short : Bool) (n size : ℕ) (rest : List ℕ) (x : AgentInput × FrameBytes) → length rest < size → framed_by over short n rest ≡ Some x → most x.1 < size + 1
framed_less true short n size rest x less e =
    subst (λ (y : AgentInput × FrameBytes). most y.1 < size + 1) (some_is (Oversize n, record { bytes = []; over = true }) x e) (omega (arith, less))
framed_less false true n size rest x less e = absurd cc
framed_less false false n size rest x less e =
    subst (λ (y : AgentInput × FrameBytes). most y.1 < size + 1) (some_is (Frame (take n rest), record { bytes = drop n rest; over = false }) x e) (omega (arith, less, length-drop n rest))

number_less : (bytes : List ℕ) (n : ℕ × List ℕ) → number_at w32 bytes ≡ Ok n → length n.1 < length bytes
unfolding number_at
number_less bytes n e =
    let h = number_by (nat_lt (length bytes) 4) 0 (take 4 bytes) (drop 4 bytes) n e in
    let long : 4 ≤ length bytes = ltb-false _ _ h.0 in
    omega (arith, long, length-drop 4 bytes, ap length h.2)

by_parts : (over : Bool) (bytes : List ℕ) (r : Result (ℕ × List ℕ) WireError) (x : AgentInput × FrameBytes) →
    number_at w32 bytes ≡ r → cond over None (framed_in r) ≡ Some x →
    most x.1 < most (record { bytes = bytes; over = over })
by_parts true bytes r x read is = absurd cc
by_parts false bytes (Err e) x read is = absurd cc
by_parts false bytes (Ok n) x read is =
    framed_less (nat_lt MAX_AGENT_FRAME_LEN n.0) (nat_lt (length n.1) n.0) n.0 (length bytes) n.1 x
    (number_less bytes n read) is

-- after an input is returned, fewer inputs can follow
pub next_less : (s : FrameBytes) (x : AgentInput × FrameBytes) → next_in s ≡ Some x → most x.1 < most s
unfolding next_in
next_less s x e = by_parts s.over s.bytes (number_at w32 s.bytes) x refl e

-- ---- they are the inputs returned, and no others follow

gives_by : (n : ℕ) (s : FrameBytes) (o : Option (AgentInput × FrameBytes)) →
    ((t : FrameBytes) → most t ≤ n → GivesAll t (taken_in n t).inputs (taken_in n t).left) →
    next_in s ≡ o → most s ≤ suc n →
    GivesAll s (taken_by s o (λ left. taken_in n left)).inputs (taken_by s o (λ left. taken_in n left)).left
gives_by n s None later is fits = record { gives = refl; nothing = is }
gives_by n s (Some x) later is fits =
    let less = next_less s x is in
    let all = later x.1 (omega (arith, less, fits)) in
    record { gives = (x.1, is, all.gives); nothing = all.nothing }

none_by : (s : FrameBytes) (o : Option (AgentInput × FrameBytes)) → next_in s ≡ o → most s ≤ 0 → next_in s ≡ None
none_by s None is fits = is
none_by s (Some x) is fits = let less = next_less s x is in absurd (omega (arith, less, fits))

gives_in : (n : ℕ) (s : FrameBytes) → most s ≤ n → GivesAll s (taken_in n s).inputs (taken_in n s).left
unfolding taken_in
gives_in zero s fits = record { gives = refl; nothing = none_by s (next_in s) refl fits }
gives_in (suc n) s fits = gives_by n s (next_in s) (λ t less. gives_in n t less) refl fits

pub gives_inputs : (s : FrameBytes) → GivesAll s (inputs_of s) (rest_of s)
gives_inputs s = gives_in (most s) s (omega arith)

-- after the same inputs the same bytes remain
same_rest : (s t u : FrameBytes) (inputs : List AgentInput) → Gives s inputs t → Gives s inputs u → t ≡ u
same_rest s t u [] one two = sym one ∙ two
same_rest s t u (input ∷ inputs) one two =
    let is = some_is (input, one.0) (input, two.0) (sym one.1 ∙ two.1) in
    same_rest one.0 t u inputs one.2
    (subst (λ (v : FrameBytes). Gives v inputs u) (sym (ap (λ (p : AgentInput × FrameBytes). p.1) is)) two.2)

-- only these are all inputs
only_inputs : (s t : FrameBytes) (inputs : List AgentInput) → GivesAll s inputs t →
    (inputs_of s ≡ inputs) × (rest_of s ≡ t)
only_inputs s t inputs all =
    let one = gives_inputs s in
    let same = one_list s (rest_of s) t (inputs_of s) inputs one all in
    (same, same_rest s (rest_of s) t inputs (subst (λ xs. Gives s xs (rest_of s)) same one.gives) all.gives)

-- the first of all inputs is the one returned next, and the others are those of the remaining bytes
pub one_more : (s : FrameBytes) (x : AgentInput × FrameBytes) → next_in s ≡ Some x →
    (inputs_of s ≡ x.0 ∷ inputs_of x.1) × (rest_of s ≡ rest_of x.1)
one_more s x is =
    let later = gives_inputs x.1 in
    only_inputs s (rest_of x.1) (x.0 ∷ inputs_of x.1)
    (record { gives = (x.1, is, later.gives); nothing = later.nothing })

pub no_more : (s : FrameBytes) → next_in s ≡ None → (inputs_of s ≡ []) × (rest_of s ≡ s)
no_more s none = only_inputs s s [] (record { gives = refl; nothing = none })

-- the inputs of bytes that come in two pieces are those of the first, and then those of the second after the bytes that
-- the first left over; and so are the remaining bytes
pub in_pieces : (s : FrameBytes) (a b : List ℕ) → let left = rest_of (pushed s a) in
    (inputs_of (pushed s (a ++ b)) ≡ inputs_of (pushed s a) ++ inputs_of (pushed left b))
    × (rest_of (pushed s (a ++ b)) ≡ rest_of (pushed left b))
in_pieces s a b =
    let left : FrameBytes = rest_of (pushed s a) in
    let both = pieces s left (rest_of (pushed left b)) a b (inputs_of (pushed s a)) (inputs_of (pushed left b))
    (gives_inputs (pushed s a)) (gives_inputs (pushed left b)) in
    only_inputs (pushed s (a ++ b)) (rest_of (pushed left b)) (inputs_of (pushed s a) ++ inputs_of (pushed left b)) both

-- ---- the same, as laws

abbrev pub PiecesGiveTheSame : Type 0
PiecesGiveTheSame = (s : FrameBytes) (a b : List ℕ) → inputs_of (pushed s (a ++ b)) ≡ inputs_of (pushed s a) ++ inputs_of (pushed (rest_of (pushed s a)) b)

abbrev pub InputsAreAll : Type 0
InputsAreAll = (s : FrameBytes) → GivesAll s (inputs_of s) (rest_of s)
