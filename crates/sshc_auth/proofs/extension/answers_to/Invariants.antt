use Rattle.std.proofs.Common.{◌≡◌, ◌++◌, drop, map}
use Rattle.sshc_auth.specs.Extensions.{answers_to}
use Rattle.sshc_auth.proofs.extension.answers_to.Given as goal

abbrev pub invariant-loop-extension : goal.invariant-loop-extension
invariant-loop-extension l =
    l.answers.items ++ answers_to (drop l.extension-index l.extensions) (map (λ w. w.now) l.left.items)
    ≡ answers_to l.extensions l.waiters
