use Rattle.std.proofs.Common.{◌≡◌, ◌++◌}
use Rattle.std.specs.List.{flat_map}
use Rattle.indexmap.specs.IndexMap.{values}
use Rattle.sshc_agent_core.specs.KeyList.{identity_text}
use Rattle.sshc_agent_core.proofs.key_list.holding.put_identities.Given as goal

abbrev pub invariant-loop-key : goal.invariant-loop-key
invariant-loop-key l = l.out.items ++ flat_map identity_text l.key-iterator ≡ l.initial.out.items ++ flat_map identity_text (values l.keys)
