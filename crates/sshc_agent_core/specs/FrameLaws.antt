-- Frames don't depend on the pieces in which their bytes come.
use Rattle.std.proofs.Common.{◌≡◌, ℕ, ◌≤◌, Bool, true, false, cond, List, [], ◌∷◌, ◌++◌, length, take, drop, Option, Some, None, Result, Ok, Err, refl, sym, ap, subst, ◌∙◌, arith, append_assoc, length-append}
use Rattle.std.specs.Prelude.{nat_lt}
use Rattle.std.specs.Int.{w32, from_be_bytes}
use Rattle.std.proofs.lemmas.Bool.{le-ltb, ltb-false}
use Rattle.std.proofs.lemmas.List.{take-append-le, drop-append-le}
use Rattle.sshc_wire.specs.CasesLaws.{some_is}
use Rattle.sshc_wire.specs.declared.error.WireError.{WireError}
use Rattle.sshc_wire.specs.declared.error.WireError.TheVariants.{Short}
use Rattle.sshc_wire.specs.FormatLaws.{ok_is}
use Rattle.sshc_wire.specs.Reads.{number_at}
use Rattle.sshc_agent_core.specs.declared.input.AgentInput.{AgentInput}
use Rattle.sshc_agent_core.specs.declared.input.AgentInput.TheVariants.{Frame, Oversize}
use Rattle.sshc_key.specs.AgentNumbers.{MAX_AGENT_FRAME_LEN}
use Rattle.sshc_agent_core.specs.AgentFrames.{FrameBytes, Gives, GivesAll, framed_by, framed_in, next_in, pushed}

pub number_by : (b : Bool) (n : ℕ) (front rest : List ℕ) (x : ℕ × List ℕ) → cond {A = Result (ℕ × List ℕ) WireError} b (Err Short) (Ok (from_be_bytes w32 front, rest)) ≡ Ok x → (b ≡ false) × (from_be_bytes w32 front ≡ x.0) × (rest ≡ x.1)
number_by true n front rest x e = absurd cc
number_by false n front rest x e = let is = ok_is {E = WireError} (from_be_bytes w32 front, rest) x e in (refl, ap (λ (p : ℕ × List ℕ). p.0) is, ap (λ (p : ℕ × List ℕ). p.1) is)

-- a number at the front is read the same, whatever follows
number_front : (a b : List ℕ) (x : ℕ × List ℕ) → number_at w32 a ≡ Ok x → number_at w32 (a ++ b) ≡ Ok (x.0, x.1 ++ b)
unfolding number_at
number_front a b x e =
    let h = number_by (nat_lt (length a) 4) 0 (take 4 a) (drop 4 a) x e in
    let long : 4 ≤ length a = ltb-false _ _ h.0 in
    let test : nat_lt (length (a ++ b)) 4 ≡ false = le-ltb _ _ (omega (arith, long, length-append a b)) in
    let front : take 4 (a ++ b) ≡ take 4 a = take-append-le 4 a b long in
    let back : drop 4 (a ++ b) ≡ drop 4 a ++ b = drop-append-le 4 a b long in
    rw (test, front, back, h.1, h.2) refl

abbrev Next : Type 0
Next = Option (AgentInput × FrameBytes)

abbrev frame_more : ℕ → List ℕ → List ℕ → Next
frame_more n rest b = Some (Frame (take n rest), record { bytes = drop n rest ++ b; over = false })

-- by the two tests of a length
framed_more : (over short : Bool) (n : ℕ) (rest b : List ℕ) (x : AgentInput × FrameBytes) → (short ≡ false → n ≤ length rest)
    → framed_by over short n rest ≡ Some x → framed_by over (nat_lt (length (rest ++ b)) n) n (rest ++ b) ≡ Some (x.0, pushed x.1 b)
framed_more true short n rest b x long e =
    let is = some_is (Oversize n, record { bytes = []; over = true }) x e in
    subst (λ (y : AgentInput × FrameBytes). framed_by true (nat_lt (length (rest ++ b)) n) n (rest ++ b) ≡ Some (y.0, pushed y.1 b)) is refl
framed_more false true n rest b x long e = absurd cc
framed_more false false n rest b x long e =
    let fits = long refl in
    let test : nat_lt (length (rest ++ b)) n ≡ false = le-ltb _ _ (omega (arith, fits, length-append rest b)) in
    let is = some_is (Frame (take n rest), record { bytes = drop n rest; over = false }) x e in
    rw (test, take-append-le n rest b fits, drop-append-le n rest b fits)
    (subst (λ (y : AgentInput × FrameBytes). frame_more n rest b ≡ Some (y.0, pushed y.1 b)) is refl)

by_number : (r : Result (ℕ × List ℕ) WireError) (a b : List ℕ) (x : AgentInput × FrameBytes) → number_at w32 a ≡ r → framed_in r ≡ Some x → framed_in (number_at w32 (a ++ b)) ≡ Some (x.0, pushed x.1 b)
by_number (Err e) a b x read is = absurd cc
by_number (Ok n) a b x read is =
    ap framed_in (number_front a b n read) ∙ framed_more (nat_lt MAX_AGENT_FRAME_LEN n.0) (nat_lt (length n.1) n.0) n.0 n.1 b x (λ e. ltb-false _ _ e) is

by_over : (over : Bool) (bytes b : List ℕ) (x : AgentInput × FrameBytes) → next_in (record { bytes = bytes; over = over }) ≡ Some x → next_in (pushed (record { bytes = bytes; over = over }) b) ≡ Some (x.0, pushed x.1 b)
unfolding next_in
by_over true bytes b x e = absurd cc
by_over false bytes b x e = by_number (number_at w32 bytes) bytes b x refl e

-- what is returned is the same if more bytes follow
pub next_more : (s : FrameBytes) (b : List ℕ) (x : AgentInput × FrameBytes) → next_in s ≡ Some x → next_in (pushed s b) ≡ Some (x.0, pushed x.1 b)
next_more s b x e = by_over s.over s.bytes b x e

pub gives_more : (s t : FrameBytes) (inputs : List AgentInput) (b : List ℕ) → Gives s inputs t → Gives (pushed s b) inputs (pushed t b)
gives_more s t [] b is = ap (λ (u : FrameBytes). pushed u b) is
gives_more s t (input ∷ inputs) b (mid, next, rest) = (pushed mid b, next_more s b (input, mid) next, gives_more mid t inputs b rest)

pub gives_on : (s t u : FrameBytes) (first second : List AgentInput) → Gives s first t → Gives t second u → Gives s (first ++ second) u
gives_on s t u [] second is rest = subst (λ (v : FrameBytes). Gives v second u) (sym is) rest
gives_on s t u (input ∷ first) second (mid, next, more) rest = (mid, next, gives_on mid t u first second more rest)

pushed_by : (over : Bool) (bytes a b : List ℕ) → pushed (pushed (record { bytes = bytes; over = over }) a) b ≡ pushed (record { bytes = bytes; over = over }) (a ++ b)
pushed_by true bytes a b = refl
pushed_by false bytes a b = ap (λ (all : List ℕ). record { bytes = all; over = false }) (append_assoc bytes a b)

pub pushed_on : (s : FrameBytes) (a b : List ℕ) → pushed (pushed s a) b ≡ pushed s (a ++ b)
pushed_on s a b = pushed_by s.over s.bytes a b

-- pieces: what two pieces yield, one after the other, is what they yield together
pub pieces : (s t u : FrameBytes) (a b : List ℕ) (first second : List AgentInput) → GivesAll (pushed s a) first t → GivesAll (pushed t b) second u → GivesAll (pushed s (a ++ b)) (first ++ second) u
pieces s t u a b first second one two = record {
  gives = subst (λ (v : FrameBytes). Gives v (first ++ second) u) (pushed_on s a b) (gives_on (pushed (pushed s a) b) (pushed t b) u first second (gives_more (pushed s a) t first b one.gives) two.gives);
  nothing = two.nothing;
}

none_or_some : (x : AgentInput × FrameBytes) (o : Next) → o ≡ None → o ≡ Some x → ⊥
none_or_some x o a b = let e : None ≡ Some x = sym a ∙ b in cc

-- there is one list of all inputs
pub one_list : (s t u : FrameBytes) (first second : List AgentInput) → GivesAll s first t → GivesAll s second u → first ≡ second
one_list s t u [] [] one two = refl
one_list s t u [] (input ∷ second) one two =
    let none : next_in s ≡ None = ap next_in one.gives ∙ one.nothing in
    absurd (none_or_some (input, two.gives.0) (next_in s) none two.gives.1)
one_list s t u (input ∷ first) [] one two =
    let none : next_in s ≡ None = ap next_in two.gives ∙ two.nothing in
    absurd (none_or_some (input, one.gives.0) (next_in s) none one.gives.1)
one_list s t u (input ∷ first) (other ∷ second) one two =
    let is = some_is (input, one.gives.0) (other, two.gives.0) (sym one.gives.1 ∙ two.gives.1) in
    let mid : one.gives.0 ≡ two.gives.0 = ap (λ (p : AgentInput × FrameBytes). p.1) is in
    let rest = one_list one.gives.0 t u first second (record { gives = one.gives.2; nothing = one.nothing }) (record { gives = subst (λ (v : FrameBytes). Gives v second u) (sym mid) two.gives.2; nothing = two.nothing }) in
    ap (λ (p : AgentInput × FrameBytes). p.0 ∷ first) is ∙ ap (λ (more : List AgentInput). other ∷ more) rest
