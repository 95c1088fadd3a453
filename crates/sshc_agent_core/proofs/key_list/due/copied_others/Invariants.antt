use Rattle.std.proofs.Common.{◌≡◌, ◌++◌, drop}
use Rattle.sshc_agent_core.specs.Deadlines.{others}
use Rattle.sshc_agent_core.proofs.key_list.due.copied_others.Given as goal

abbrev pub invariant-loop-item : goal.invariant-loop-item
invariant-loop-item l = l.rest ++ others l.blob (drop l.item-index l.blobs) ≡ others l.blob l.blobs
