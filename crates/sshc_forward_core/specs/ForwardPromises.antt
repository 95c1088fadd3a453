-- What a run of events guarantees, in one record. `run_forward` has it as its clause, and the run of the program too.
use Rattle.std.specs.Prelude.{◌≡◌, ◌⊎◌, ℕ, true, List, ◌++◌, [], length, Option, Some, Result, Ok, Err}
use Rattle.std.specs.FinMap.{len}
use Rattle.sshc_wire.specs.Faults.{Rose}
use Rattle.sshc_forward_core.specs.declared.event.FwdEvent.{FwdEvent}
use Rattle.sshc_forward_core.specs.Forwards.{Forwards, no_pairs, is_taken}
use Rattle.sshc_forward_core.specs.PairAccount.{ran}
use Rattle.sshc_forward_core.specs.declared.error.FwdError.{FwdError}
use Rattle.sshc_forward_core.specs.declared.error.FwdError.TheVariants as errors
use Rattle.sshc_forward_core.specs.EventText.{NoEvent, Whole, front}
use Rattle.sshc_forward_core.specs.ForwardRun.{Streams, streams, AreEvents, NoneTaken, Runs}

-- ---- the outside

-- a source: the remaining bytes, where they are known, and how often a read failed
pub record SourceState : Type 0 where
  pub left : Option (List ℕ)
  pub faults : ℕ

abbrev pub source_state : Option (List ℕ) → ℕ → SourceState
source_state left faults = record { left = left; faults = faults }

-- a sink: the bytes that it holds, where they are known, and how often a write failed
pub record SinkState : Type 0 where
  pub contents : Option (List ℕ)
  pub faults : ℕ

abbrev pub sink_state : Option (List ℕ) → ℕ → SinkState
sink_state contents faults = record { contents = contents; faults = faults }

pub record Outside : Type 0 where
  pub source : SourceState
  pub sink : SinkState

abbrev pub outside : SourceState → SinkState → Outside
outside source sink = record { source = source; sink = sink }

abbrev pub streams_of : Outside → Streams
streams_of o = streams o.source.left o.sink.contents

-- ---- where the events of whole bytes stop

-- the bytes after the events, which begin at this place: there are none, and so many pairs are left; or they begin no
-- event; or they begin one that names what is in use
abbrev pub Stops : Forwards → ℕ → List ℕ → Result ℕ FwdError → Type 0
Stops t place bytes (Ok left) = (bytes ≡ []) × (left ≡ len t.pairs)
Stops t place bytes (Err (errors.BadEvent at)) = (front bytes ≡ NoEvent) × (at ≡ place)
Stops t place bytes (Err (errors.Taken at)) =
    (event : FwdEvent) × (more : List ℕ) × (front bytes ≡ Whole event more) × (is_taken event t ≡ true) × (at ≡ place)
Stops t place bytes (Err e) = ⊥

-- the bytes are events, none of which is refused, and stop so after them
abbrev pub StopsAs : List ℕ → Result ℕ FwdError → Type 0
StopsAs bytes stop =
    (events : List FwdEvent) × (first : List ℕ) × (rest : List ℕ)
    × (bytes ≡ first ++ rest) × AreEvents events first × NoneTaken events no_pairs
    × Stops (ran events no_pairs).after (length first) rest stop

-- a read or a write failed, or memory ran out
abbrev pub WasCut : Result ℕ FwdError → Type 0
WasCut (Ok left) = ⊥
WasCut (Err (errors.BadEvent at)) = ⊥
WasCut (Err (errors.Taken at)) = ⊥
WasCut (Err e) = Unit {0}

-- if the whole bytes are known and stop so, this is the answer, unless the run was cut
abbrev pub IsExact : Option (List ℕ) → Result ℕ FwdError → Type 0
IsExact left answer = (bytes : List ℕ) (stop : Result ℕ FwdError) → left ≡ Some bytes → StopsAs bytes stop → (answer ≡ stop) ⊎ WasCut answer

-- if the whole bytes are known, all of them events and none refused, and no count of faults rises, the answer is how many
-- pairs are left, or out of memory
abbrev pub IsComplete : Outside → Outside → Result ℕ FwdError → Type 0
IsComplete before now answer =
    (bytes : List ℕ) (events : List FwdEvent) →
    before.source.left ≡ Some bytes → AreEvents events bytes → NoneTaken events no_pairs →
    (Rose before.source.faults now.source.faults → ⊥) → (Rose before.sink.faults now.sink.faults → ⊥) →
    (answer ≡ Ok (len (ran events no_pairs).after.pairs)) ⊎ (answer ≡ Err errors.NoMemory)

-- ---- the guarantees

pub record ForwardPromises (before now : Outside) (answer : Result ℕ FwdError) : Type 0 where
  -- what was read and written, by the events: the lines of what is to be done for each, on an error a front of them
  pub run : Runs (streams_of before) (streams_of now) answer
  -- where whole bytes are known, the answer is the way in which their events stop, unless a read or a write failed or
  -- memory ran out
  pub exact : IsExact before.source.left answer
  pub complete : IsComplete before now answer
  -- a read fault is returned only if the source's count rose, and with every other answer the count hasn't changed
  pub read_fault : answer ≡ Err errors.ReadFault → Rose before.source.faults now.source.faults
  pub read_told : (answer ≡ Err errors.ReadFault → ⊥) → now.source.faults ≡ before.source.faults
  -- the same of a write fault and the sink
  pub write_fault : answer ≡ Err errors.WriteFault → Rose before.sink.faults now.sink.faults
  pub write_told : (answer ≡ Err errors.WriteFault → ⊥) → now.sink.faults ≡ before.sink.faults
