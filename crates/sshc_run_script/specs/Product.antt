-- Two machines side by side: an event that is the first machine's own is taken by it, every other by the other one, in
-- whatever order they come. Neither sees the other's state. They share the records' order and the signer.
use Rattle.std.specs.Prelude.{◌≡◌, ◌⊎◌, true, false, not, if◌then◌else◌}
use Rattle.sshc_key.specs.Asking.{asked_on, Always}
use Rattle.sshc_run_script.specs.Machine.{RunStop, TurnOf, Turns, Machine}
use Rattle.sshc_run_script.specs.Part.{Own, SaysBy, AsksBy}
use Rattle.sshc_run_reader.specs.Script.{Frame}

pub record Both (A : Type 0) (B : Type 0) : Type 0 where
  pub one : A
  pub other : B

abbrev pub in_one : {A : Type 0} {B : Type 0} → Both A B → TurnOf A → TurnOf (Both A B)
in_one s t = record { records = t.records; state = record s { one = t.state }; next = t.next }

abbrev pub in_other : {A : Type 0} {B : Type 0} → Both A B → TurnOf B → TurnOf (Both A B)
in_other s t = record { records = t.records; state = record s { other = t.state }; next = t.next }

-- an event of the first machine's own is taken by it, every other by the other one
unfoldable pub both_turn : {A : Type 0} {B : Type 0} → Own → Turns A → Turns B → Turns (Both A B)
both_turn own one other s frame = if own.event frame then asked_on (in_one s) (one s.one frame) else asked_on (in_other s) (other s.other frame)

-- both, each with its initial state, as one machine
abbrev pub both_machine : {A : Type 0} {B : Type 0} → Own → Machine A → Machine B → Machine (Both A B)
both_machine own one other = record { first = record { one = one.first; other = other.first }; turn = both_turn own one.turn other.turn }

-- the records and calls of each are its own, at its own events
pub record Apart {A : Type 0} {B : Type 0} (own : Own) (one : Turns A) (other : Turns B) : Type 0 where
  pub one_says : (s : A) (frame : Frame) → own.event frame ≡ true → Always (λ (t : TurnOf A). SaysBy own.output true t.records) (one s frame)
  pub one_asks : (s : A) (frame : Frame) → own.event frame ≡ true → AsksBy own.asker true (one s frame)
  pub other_says : (s : B) (frame : Frame) → own.event frame ≡ false → Always (λ (t : TurnOf B). SaysBy own.output false t.records) (other s frame)
  pub other_asks : (s : B) (frame : Frame) → own.event frame ≡ false → AsksBy own.asker false (other s frame)

-- what isn't the first machine's
abbrev pub others : Own → Own
others own = record { event = λ frame. not (own.event frame); output = λ output. not (own.output output); asker = λ asker. not (own.asker asker) }

-- why both stop: by whose event it is
abbrev pub BothCause : {A : Type 0} {B : Type 0} → Own → (A → Frame → RunStop → Type 0) → (B → Frame → RunStop → Type 0) → Both A B → Frame → RunStop → Type 0
BothCause own OneCause OtherCause s frame stop = ((own.event frame ≡ true) × OneCause s.one frame stop) ⊎ ((own.event frame ≡ false) × OtherCause s.other frame stop)
