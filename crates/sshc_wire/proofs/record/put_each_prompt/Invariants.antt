use Rattle.std.proofs.Common.{◌≡◌, ◌++◌, take}
use Rattle.std.specs.List.{flat_map}
use Rattle.sshc_wire.specs.Records.{prompt_text}
use Rattle.sshc_wire.proofs.record.put_each_prompt.Given as goal

abbrev pub invariant-loop-one : goal.invariant-loop-one
invariant-loop-one l = l.out.items ≡ l.initial.out.items ++ flat_map prompt_text (take l.one-index l.prompts)
