-- What reading an event returns, in terms of the bytes that were read.
use Rattle.std.specs.Prelude.{◌≡◌, ℕ, List, ◌++◌, length, Option, Some, None, Result, Ok, Err}
use Rattle.sshc_wire.specs.Contents.{prepend, IsAtEnd}
use Rattle.sshc_forward_core.specs.declared.event.FwdEvent.{FwdEvent}
use Rattle.sshc_forward_core.specs.declared.error.EventFault.{EventFault}
use Rattle.sshc_forward_core.specs.declared.error.EventFault.TheVariants as faults
use Rattle.sshc_forward_core.specs.declared.error.NextFault.{NextFault}
use Rattle.sshc_forward_core.specs.declared.error.NextFault.TheVariants as nexts
use Rattle.sshc_forward_core.specs.EventText.{NoEvent, Whole, front}

-- the same error, unless memory ran out
abbrev pub Fails : {A : Type 0} → EventFault → Result A EventFault → Type 0
Fails faults.NoMemory read = Unit {0}
Fails faults.Bad read = read ≡ Err faults.Bad

-- the call returns the part at the front, and leaves the bytes after it
abbrev pub Gives : {X A : Type 0} → (X → A) → Result X EventFault → List ℕ → Result (A × List ℕ) EventFault → Type 0
Gives view (Ok x) new read = read ≡ Ok (view x, new)
Gives view (Err e) new read = Fails e read

-- the call returns the value of all of the bytes
abbrev pub GivesAll : {X A : Type 0} → (X → A) → Result X EventFault → Result A EventFault → Type 0
GivesAll view (Ok x) read = read ≡ Ok (view x)
GivesAll view (Err e) read = Fails e read

-- these bytes were read, and `P` holds of them
abbrev pub Gave : Option (List ℕ) → Option (List ℕ) → (List ℕ → Type 0) → Type 0
Gave old new P = (bytes : List ℕ) × (old ≡ prepend bytes new) × P bytes

-- these bytes are the whole event, whatever follows
pub record IsWhole (event : FwdEvent) (bytes : List ℕ) : Type 0 where
  pub is : (more : List ℕ) → front (bytes ++ more) ≡ Whole event more

-- these bytes begin no event, neither alone nor followed by the bytes that remain
pub record IsBad (new : Option (List ℕ)) (bytes : List ℕ) : Type 0 where
  pub given : front bytes ≡ NoEvent
  pub all : (more : List ℕ) → new ≡ Some more → front (bytes ++ more) ≡ NoEvent

abbrev pub Anything : List ℕ → Type 0
Anything bytes = Unit {0}

abbrev pub NextGives : Option (List ℕ) → Option (List ℕ) → Result (Option (FwdEvent × ℕ)) NextFault → Type 0
NextGives old new (Ok None) = (old ≡ new) × IsAtEnd new
NextGives old new (Ok (Some e)) = Gave old new (λ bytes. IsWhole e.0 bytes × (length bytes ≡ e.1))
NextGives old new (Err nexts.Bad) = Gave old new (λ bytes. IsBad new bytes)
NextGives old new (Err nexts.ReadFault) = Gave old new Anything
NextGives old new (Err nexts.NoMemory) = Gave old new Anything
