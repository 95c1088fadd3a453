use Rattle.std.proofs.Common.{◌≡◌}
use Rattle.sshc_run.specs.Blocks.{drawing}
use Rattle.sshc_run.proofs.blocks.generate.Given as goal

-- the number of blocks so far
abbrev pub invariant-loop-done : goal.invariant-loop-done
invariant-loop-done l = l.drawn ≡ drawing l.seed l.done
