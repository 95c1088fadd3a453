use Rattle.std.proofs.Common.{◌≡◌, drop}
use Rattle.sshc_forward_core.specs.PairAccount.{given_after}
use Rattle.sshc_forward_core.proofs.given.Given.after.Given as goal

abbrev pub invariant-loop-output : goal.invariant-loop-output
invariant-loop-output l = given_after l.given (drop l.output-index l.outputs) ≡ given_after l.fn.self l.outputs
