-- The front of a list that was rotated and truncated.
use Rattle.std.proofs.Common.{◌≡◌, ℕ, ◌+◌, ◌-◌, ◌≤◌, Bool, true, false, List, ◌++◌, Some, Ok, length, take, drop, sym, ◌∙◌, ap, arith, length-drop, drop-drop}
use Rattle.std.specs.Prelude.{nat_lt}
use Rattle.std.specs.Int.{w32}
use Rattle.std.proofs.lemmas.Bool.{le-ltb, ltb-false}
use Rattle.std.proofs.lemmas.List.{take_all, take_at}
use Rattle.sshc_wire.specs.Reads.{number_at}
use Rattle.sshc_agent_core.specs.declared.input.AgentInput.{AgentInput}
use Rattle.sshc_agent_core.specs.declared.input.AgentInput.TheVariants.{Frame}
use Rattle.sshc_agent_core.specs.AgentFrames.{framed_by, framed_in, next_in}
use Rattle.sshc_agent_core.specs.FrameLaws.{number_by}

-- the back was rotated to the front, and the rest was cut off
pub turned_cut : (count left : ℕ) (whole turned cut : List ℕ) → left ≡ length whole - count → turned ≡ drop count whole ++ take count whole → cut ≡ take left turned → cut ≡ drop count whole
turned_cut count left whole turned cut len is cuts = cuts ∙ ap (take left) is ∙ take_at (drop count whole) (take count whole) left (omega (arith, len, length-drop count whole))

pub range_to_end : (at : ℕ) (whole contents : List ℕ) → whole ≡ contents → take (length whole - at) (drop at whole) ≡ drop at contents
range_to_end at whole contents is = take_all (length whole - at) (drop at whole) (omega (arith, length-drop at whole)) ∙ ap (drop at) is

-- what follows a number at the front
number_rest : (left : List ℕ) (n : ℕ) (rest : List ℕ) → number_at w32 left ≡ Ok (n, rest) → (4 ≤ length left) × (drop 4 left ≡ rest)
unfolding number_at
number_rest left n rest e =
    let h = number_by (nat_lt (length left) 4) 0 (take 4 left) (drop 4 left) (n, rest) e in
    (ltb-false _ _ h.0, h.2)

-- a whole frame ends within the bytes
pub frame_within : (bytes : List ℕ) (at n : ℕ) (rest : List ℕ) → at ≤ length bytes → number_at w32 (drop at bytes) ≡ Ok (n, rest) → n ≤ length rest → at + (4 + n) ≤ length bytes
frame_within bytes at n rest within read fits =
    let h = number_rest (drop at bytes) n rest read in
    let size : length rest ≡ length (drop at bytes) - 4 = sym (ap length h.1) ∙ length-drop 4 (drop at bytes) in
    omega (arith, within, fits, size, h.0, length-drop at bytes)

-- a whole frame at an index is returned
pub frame_front : (bytes : List ℕ) (at n : ℕ) (rest frame : List ℕ) → number_at w32 (drop at bytes) ≡ Ok (n, rest) → n ≤ 262144 → n ≤ length rest → frame ≡ take n rest
    → next_in (record { bytes = drop at bytes; over = false }) ≡ Some (Frame frame, record { bytes = drop (at + (4 + n)) bytes; over = false })
unfolding next_in
frame_front bytes at n rest frame read small fits is =
    let h = number_rest (drop at bytes) n rest read in
    let behind : drop n rest ≡ drop (at + (4 + n)) bytes = ap (drop n) (sym h.1) ∙ drop-drop n 4 (drop at bytes) ∙ drop-drop (4 + n) at bytes in
    let low : nat_lt 262144 n ≡ false = le-ltb _ _ small in
    let whole : nat_lt (length rest) n ≡ false = le-ltb _ _ fits in
    ap framed_in read ∙ ap (λ (b : Bool). framed_by b (nat_lt (length rest) n) n rest) low ∙ ap (λ (b : Bool). framed_by false b n rest) whole
    ∙ ap (λ (f : List ℕ). Some (Frame f, record { bytes = drop n rest; over = false })) (sym is)
    ∙ ap (λ (left : List ℕ). Some (Frame frame, record { bytes = left; over = false })) behind

-- the same where nothing above the limit came
pub carried : (over : Bool) (bytes left : List ℕ) (input : AgentInput) → over ≡ false → next_in (record { bytes = bytes; over = false }) ≡ Some (input, record { bytes = left; over = false })
    → next_in (record { bytes = bytes; over = over }) ≡ Some (input, record { bytes = left; over = over })
carried true bytes left input none is = absurd cc
carried false bytes left input none is = is
