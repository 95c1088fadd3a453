use Rattle.std.proofs.Common.{take}
use Rattle.std.specs.List.{All}
use Rattle.sshc_wire.specs.Fitting.{FitsPrompt}
use Rattle.sshc_wire.proofs.fitting.fit_prompts.Given as goal

abbrev pub invariant-loop-one : goal.invariant-loop-one
invariant-loop-one l = All FitsPrompt (take l.one-index l.prompts)
