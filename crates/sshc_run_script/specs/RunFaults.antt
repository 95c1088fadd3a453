-- How often the source and the sink of a run failed and the signer refused, and that a fault of theirs is returned only
-- if its count rose.
use Rattle.std.specs.Prelude.{◌≡◌, ℕ, ◌≤◌, Option, Some, Result, Err}
use Rattle.sshc_wire.specs.Faults.{Rose}
use Rattle.sshc_auth.specs.declared.ended.Ended.{Ended}
use Rattle.sshc_run_script.specs.declared.error.RunError.{RunError}
use Rattle.sshc_run_script.specs.declared.error.RunError.TheVariants as errors

-- how often reads of the source failed, and writes to the sink
pub record FaultCounts : Type 0 where
  pub reads : ℕ
  pub writes : ℕ

abbrev pub fault_counts : ℕ → ℕ → FaultCounts
fault_counts reads writes = record { reads = reads; writes = writes }

-- a fault of the source or the sink is returned only if its count rose, and with every other result the count hasn't
-- changed
pub record FaultsAnswered (was is : FaultCounts) (answer : Result Ended RunError) : Type 0 where
  pub read_later : was.reads ≤ is.reads
  pub write_later : was.writes ≤ is.writes
  pub read_fault : answer ≡ Err errors.ReadFault → Rose was.reads is.reads
  pub read_told : (answer ≡ Err errors.ReadFault → ⊥) → is.reads ≡ was.reads
  pub write_fault : answer ≡ Err errors.WriteFault → Rose was.writes is.writes
  pub write_told : (answer ≡ Err errors.WriteFault → ⊥) → is.writes ≡ was.writes

-- what taking one event does to the signer's count of refusals: `SignerFault` is returned only if it rose
pub record SignerTaken (before now : ℕ) (answer : Option (Result Ended RunError)) : Type 0 where
  pub later : before ≤ now
  pub fault : answer ≡ Some (Err errors.SignerFault) → Rose before now

-- the same of many events
pub record SignerCounted (before now : ℕ) (answer : Result Ended RunError) : Type 0 where
  pub later : before ≤ now
  pub fault : answer ≡ Err errors.SignerFault → Rose before now
