use Rattle.std.proofs.Common.{◌≡◌, ◌+◌, sum_by}
use Rattle.indexmap.specs.IndexMap.{values}
use Rattle.sshc_agent_core.specs.KeyList.{listed}
use Rattle.sshc_agent_core.proofs.key_list.holding.fits.Given as goal

abbrev pub invariant-loop-key : goal.invariant-loop-key
invariant-loop-key l = l.total + sum_by listed l.key-iterator ≡ l.start + sum_by listed (values l.keys)
