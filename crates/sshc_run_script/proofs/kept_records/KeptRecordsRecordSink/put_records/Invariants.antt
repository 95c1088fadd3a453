use Rattle.std.proofs.Common.{◌≡◌, Some, take}
use Rattle.sshc_wire.specs.Contents.{append}
use Rattle.sshc_run_script.specs.RecordLines.{lines, text_lines}
use Rattle.sshc_run_script.proofs.kept_records.KeptRecordsRecordSink.put_records.Given as goal

abbrev pub invariant-loop-at : goal.invariant-loop-at
invariant-loop-at l = Some (text_lines l.self) ≡ append (Some (text_lines l.initial.self)) (lines (take l.at l.records.records))
