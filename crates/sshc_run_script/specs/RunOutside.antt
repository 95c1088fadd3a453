-- How a contract sees the source, the sink and the signer of a run, and what a run does to their counts. Sources and
-- sinks over memory show their contents; for others `left` and `held` are `None`, and then nothing is stated of bytes.
use Rattle.std.specs.Prelude.{◌≡◌, ℕ, ◌+◌, ◌≤◌, List, Option, Some, IfNone, Result, Err}
use Rattle.sshc_wire.specs.Contents.{WritesMove, WritesFor}
use Rattle.sshc_wire.specs.Faults.{Rose}
use Rattle.sshc_key.specs.Signers.{SignCall}
use Rattle.sshc_auth.specs.declared.ended.Ended.{Ended}
use Rattle.sshc_run_script.specs.declared.error.RunError.{RunError}
use Rattle.sshc_run_script.specs.declared.error.RunError.TheVariants as errors
use Rattle.sshc_run_script.specs.Outcome.{Streams}
use Rattle.sshc_run_script.specs.RunFaults.{FaultCounts, FaultsAnswered}

-- a source: the remaining bytes, the reads that were made, those that moved nothing, and those that failed
pub record SourceState : Type 0 where
  pub left : Option (List ℕ)
  pub reads : ℕ
  pub empty_reads : ℕ
  pub faults : ℕ

abbrev pub source_state : Option (List ℕ) → ℕ → ℕ → ℕ → SourceState
source_state left reads empty_reads faults = record { left = left; reads = reads; empty_reads = empty_reads; faults = faults }

-- a sink: the bytes that it holds, the writes that were made, those that moved nothing, and those that failed
pub record SinkState : Type 0 where
  pub held : Option (List ℕ)
  pub writes : ℕ
  pub empty_writes : ℕ
  pub faults : ℕ

abbrev pub sink_state : Option (List ℕ) → ℕ → ℕ → ℕ → SinkState
sink_state held writes empty_writes faults = record { held = held; writes = writes; empty_writes = empty_writes; faults = faults }

-- both, and the calls that the signer answered
pub record RunOutside : Type 0 where
  pub source : SourceState
  pub sink : SinkState
  pub calls : List SignCall

abbrev pub run_outside : SourceState → SinkState → List SignCall → RunOutside
run_outside source sink calls = record { source = source; sink = sink; calls = calls }

-- only the contents, the reads and the signer's calls
abbrev pub streams_of : RunOutside → Streams
streams_of o = record { left = o.source.left; held = o.sink.held; reads = o.source.reads; calls = o.calls }

abbrev pub faults_of : RunOutside → FaultCounts
faults_of o = record { reads = o.source.faults; writes = o.sink.faults }

-- at most one read and one write moved nothing, each write but the last moved a byte, and a fault is returned if and
-- only if its count rose
pub record CountsMoved (before now : RunOutside) (answer : Result Ended RunError) : Type 0 where
  pub last_read : now.source.empty_reads ≤ before.source.empty_reads + 1
  pub last_write : now.sink.empty_writes ≤ before.sink.empty_writes + 1
  pub writes : WritesFor before.sink.held now.sink.held before.sink.writes now.sink.writes
  pub faults : FaultsAnswered (faults_of before) (faults_of now) answer

-- ---- one event

-- what taking one event does to the source's counts. If the run continues, each read moved a byte
pub record SourceTaken (before now : SourceState) (answer : Option (Result Ended RunError)) : Type 0 where
  pub moving : IfNone answer (now.empty_reads ≡ before.empty_reads)
  pub last : now.empty_reads ≤ before.empty_reads + 1
  pub later : before.faults ≤ now.faults
  pub fault : answer ≡ Some (Err errors.ReadFault) → Rose before.faults now.faults
  pub told : (answer ≡ Some (Err errors.ReadFault) → ⊥) → now.faults ≡ before.faults

-- and to the sink's. If the run continues, each write moved a byte
pub record SinkTaken (before now : SinkState) (answer : Option (Result Ended RunError)) : Type 0 where
  pub moving : IfNone answer (now.empty_writes ≡ before.empty_writes)
  pub last : now.empty_writes ≤ before.empty_writes + 1
  pub moved : IfNone answer (WritesMove before.held now.held before.writes now.writes)
  pub writes : WritesFor before.held now.held before.writes now.writes
  pub later : before.faults ≤ now.faults
  pub fault : answer ≡ Some (Err errors.WriteFault) → Rose before.faults now.faults
  pub told : (answer ≡ Some (Err errors.WriteFault) → ⊥) → now.faults ≡ before.faults
