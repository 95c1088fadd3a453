-- Counts of I/O faults, and of the calls that were made. A count never falls; at its type's end it is saturated.
-- The code keeps a number; the definitions compare it before a call and after it.
use Rattle.std.specs.Prelude.{◌≡◌, ℕ, ◌+◌, ◌-◌, ◌^◌, ◌≤◌, ◌==◌, ◌&&◌, Bool, true, nat_lt, if◌then◌else◌, min, Result, Ok, Err, IsErrOf}
use Rattle.sshc_wire.specs.declared.source.Failed.{Failed}
use Rattle.sshc_wire.specs.declared.source.Failed.TheVariants.{Fault}

-- the count has risen, or is saturated
abbrev pub Rose : ℕ → ℕ → Type 0
Rose before now = min (before + 1) (2 ^ 64 - 1) ≤ now

-- the count has gained one, or is saturated
abbrev pub CountsOne : ℕ → ℕ → Type 0
CountsOne before now = now ≡ min (before + 1) (2 ^ 64 - 1)

-- whether a call moved no byte, though there was a byte or room for one; a call that failed moved none
abbrev pub moved_nothing : Result ℕ Failed → ℕ → Bool
moved_nothing (Ok n) size = (n == 0) && nat_lt 0 size
moved_nothing (Err e) size = true

-- the count of calls that moved nothing gains one with such a call, and else is as it was
abbrev pub CountsEmpty : Result ℕ Failed → ℕ → ℕ → ℕ → Type 0
CountsEmpty result size before now = now ≡ (if moved_nothing result size then min (before + 1) (2 ^ 64 - 1) else before)

-- a count never falls; a fault is returned only where it rose, and with every other result it stays
pub record HasCause {T : Type 0} (before now : ℕ) (result : Result T Failed) : Type 0 where
  pub later : before ≤ now
  pub fault : IsErrOf result Fault → Rose before now
  pub same : (IsErrOf result Fault → ⊥) → now ≡ before

-- what contracts see of a stream over the system: its calls, those that moved nothing, and those that failed
pub record Counted : Type 0 where
  pub calls : ℕ
  pub empty : ℕ
  pub faults : ℕ

-- what contracts see of the system's files: how often a read and an append failed
pub record CountedFiles : Type 0 where
  pub read_faults : ℕ
  pub append_faults : ℕ
