-- A run: events are read from a source, and the lines of what is to be done are written to a sink.
-- What a run did is said of the bytes that it read and wrote; the code takes one event at a time.
use Rattle.std.specs.Prelude.{◌≡◌, ℕ, ◌+◌, ◌⊎◌, Bool, true, false, List, [], ◌∷◌, ◌++◌, length, Option, Result, Ok, Err}
use Rattle.std.specs.FinMap.{len}
use Rattle.sshc_wire.specs.Contents.{prepend, append, IsAtEnd, WroteFront}
use Rattle.sshc_forward_core.specs.declared.event.FwdEvent.{FwdEvent}
use Rattle.sshc_forward_core.specs.declared.output.FwdOutput.{FwdOutput}
use Rattle.sshc_forward_core.specs.declared.error.FwdError.{FwdError}
use Rattle.sshc_forward_core.specs.declared.error.FwdError.TheVariants as errors
use Rattle.sshc_forward_core.specs.Forwards.{Forwards, no_pairs, is_taken, effect}
use Rattle.sshc_forward_core.specs.PairAccount.{ran}
use Rattle.sshc_forward_core.specs.EventReading.{IsWhole, IsBad}
use Rattle.sshc_forward_core.specs.OutputLines.{lines}

-- what remains in the source, and what the sink holds
pub record Streams : Type 0 where
  pub left : Option (List ℕ)
  pub contents : Option (List ℕ)

abbrev pub streams : Option (List ℕ) → Option (List ℕ) → Streams
streams left contents = record { left = left; contents = contents }

-- the bytes are these events, one after the other
abbrev pub AreEvents : List FwdEvent → List ℕ → Type 0
AreEvents [] bytes = bytes ≡ []
AreEvents (event ∷ events) bytes =
    (first : List ℕ) × (rest : List ℕ) × (bytes ≡ first ++ rest) × IsWhole event first × AreEvents events rest

-- none of the events is refused
abbrev pub NoneTaken : List FwdEvent → Forwards → Type 0
NoneTaken [] t = Unit {0}
NoneTaken (event ∷ events) t = (is_taken event t ≡ false) × NoneTaken events (effect event t).after

-- these events, and these bytes of them, were taken, and then more bytes were read
pub record Took (old new : Streams) (events : List FwdEvent) (bytes more : List ℕ) : Type 0 where
  pub spelled : AreEvents events bytes
  pub free : NoneTaken events no_pairs
  pub read : old.left ≡ prepend (bytes ++ more) new.left

-- all lines for the events were written
abbrev pub WroteAll : Streams → Streams → List FwdEvent → Type 0
WroteAll old new events = new.contents ≡ append old.contents (lines (ran events no_pairs).outputs)

-- the source was read to its end, all of it events
pub record Ended (old new : Streams) (left : ℕ) : Type 0 where
  pub events : List FwdEvent
  pub bytes : List ℕ
  pub took : Took old new events bytes []
  pub end : IsAtEnd new.left
  pub wrote : WroteAll old new events
  pub pairs : left ≡ len (ran events no_pairs).after.pairs

-- the bytes at this place begin no event
pub record StoppedBad (old new : Streams) (at : ℕ) : Type 0 where
  pub events : List FwdEvent
  pub bytes : List ℕ
  pub bad : List ℕ
  pub took : Took old new events bytes bad
  pub place : length bytes ≡ at
  pub is_bad : IsBad new.left bad
  pub wrote : WroteAll old new events

-- the event at this place names what is in use
pub record StoppedTaken (old new : Streams) (at : ℕ) : Type 0 where
  pub events : List FwdEvent
  pub bytes : List ℕ
  pub event : FwdEvent
  pub one : List ℕ
  pub took : Took old new events bytes one
  pub place : length bytes ≡ at
  pub is_event : IsWhole event one
  pub taken : is_taken event (ran events no_pairs).after ≡ true
  pub wrote : WroteAll old new events

-- the run stopped between two events: all lines of the events before were written
pub record Unread (old new : Streams) : Type 0 where
  pub events : List FwdEvent
  pub bytes : List ℕ
  pub more : List ℕ
  pub took : Took old new events bytes more
  pub wrote : WroteAll old new events

-- the run was cut off at an event: all lines of the events before it were written, and a front of its own
pub record CutAt (old new : Streams) : Type 0 where
  pub events : List FwdEvent
  pub bytes : List ℕ
  pub event : FwdEvent
  pub one : List ℕ
  pub took : Took old new events bytes one
  pub is_event : IsWhole event one
  pub free : is_taken event (ran events no_pairs).after ≡ false
  pub wrote :
      WroteFront (append old.contents (lines (ran events no_pairs).outputs)) new.contents
      (lines (effect event (ran events no_pairs).after).outputs)

abbrev pub Runs : Streams → Streams → Result ℕ FwdError → Type 0
Runs old new (Ok left) = Ended old new left
Runs old new (Err (errors.BadEvent at)) = StoppedBad old new at
Runs old new (Err (errors.Taken at)) = StoppedTaken old new at
Runs old new (Err errors.ReadFault) = Unread old new
Runs old new (Err errors.WriteFault) = CutAt old new
Runs old new (Err errors.NoMemory) = Unread old new ⊎ CutAt old new

-- ---- one event

-- an event was read, which names nothing in use
pub record TookOne (old new : Streams) (t : Forwards) (event : FwdEvent) (one : List ℕ) : Type 0 where
  pub is_event : IsWhole event one
  pub free : is_taken event t ≡ false
  pub read : old.left ≡ prepend one new.left

-- its lines were written
pub record DidOne (old new : Streams) (t after : Forwards) (at now : ℕ) : Type 0 where
  pub event : FwdEvent
  pub one : List ℕ
  pub took : TookOne old new t event one
  pub place : now ≡ at + length one
  pub moved : after ≡ (effect event t).after
  pub wrote : new.contents ≡ append old.contents (lines (effect event t).outputs)

-- bytes were read, and nothing was written
pub record ReadOnly (old new : Streams) : Type 0 where
  pub bytes : List ℕ
  pub read : old.left ≡ prepend bytes new.left
  pub same : new.contents ≡ old.contents

-- a front of its lines was written
pub record CutOne (old new : Streams) (t : Forwards) : Type 0 where
  pub event : FwdEvent
  pub one : List ℕ
  pub took : TookOne old new t event one
  pub wrote : WroteFront old.contents new.contents (lines (effect event t).outputs)

pub record BadOne (old new : Streams) : Type 0 where
  pub bad : List ℕ
  pub read : old.left ≡ prepend bad new.left
  pub is_bad : IsBad new.left bad
  pub same : new.contents ≡ old.contents

pub record TakenOne (old new : Streams) (t : Forwards) : Type 0 where
  pub event : FwdEvent
  pub one : List ℕ
  pub is_event : IsWhole event one
  pub taken : is_taken event t ≡ true
  pub read : old.left ≡ prepend one new.left
  pub same : new.contents ≡ old.contents

pub record NoMore (old new : Streams) (t after : Forwards) : Type 0 where
  pub left : old.left ≡ new.left
  pub end : IsAtEnd new.left
  pub same : new.contents ≡ old.contents
  pub unmoved : after ≡ t

abbrev pub OneGives : Streams → Streams → Forwards → Forwards → ℕ → ℕ → Result Bool FwdError → Type 0
OneGives old new t after at now (Ok false) = NoMore old new t after
OneGives old new t after at now (Ok true) = DidOne old new t after at now
OneGives old new t after at now (Err (errors.BadEvent place)) = BadOne old new × (place ≡ at)
OneGives old new t after at now (Err (errors.Taken place)) = TakenOne old new t × (place ≡ at)
OneGives old new t after at now (Err errors.NoMemory) = ReadOnly old new ⊎ CutOne old new t
OneGives old new t after at now (Err errors.ReadFault) = ReadOnly old new
OneGives old new t after at now (Err errors.WriteFault) = CutOne old new t

-- the lines of these outputs were written, or a front of them
abbrev pub WritesGive : {A : Type 0} → List FwdOutput → Option (List ℕ) → Option (List ℕ) → Result A FwdError → Type 0
WritesGive outputs old new (Ok x) = new ≡ append old (lines outputs)
WritesGive outputs old new (Err errors.NoMemory) = WroteFront old new (lines outputs)
WritesGive outputs old new (Err errors.WriteFault) = WroteFront old new (lines outputs)
WritesGive outputs old new (Err e) = ⊥

-- a step and its lines
abbrev pub StepGives : {A : Type 0} → FwdEvent → Option (List ℕ) → Option (List ℕ) → Forwards → Forwards → ℕ → Result A FwdError → Type 0
StepGives event old new t after at (Ok x) =
    (is_taken event t ≡ false) × (after ≡ (effect event t).after) × (new ≡ append old (lines (effect event t).outputs))
StepGives event old new t after at (Err (errors.BadEvent place)) = ⊥
StepGives event old new t after at (Err (errors.Taken place)) = (is_taken event t ≡ true) × (new ≡ old) × (place ≡ at)
StepGives event old new t after at (Err errors.NoMemory) =
    (new ≡ old) ⊎ ((is_taken event t ≡ false) × WroteFront old new (lines (effect event t).outputs))
StepGives event old new t after at (Err errors.ReadFault) = ⊥
StepGives event old new t after at (Err errors.WriteFault) =
    (is_taken event t ≡ false) × WroteFront old new (lines (effect event t).outputs)
