use Rattle.std.proofs.Common.{◌≡◌, ◌++◌, drop, map}
use Rattle.sshc_auth.specs.Extensions.{answers_seen}
use Rattle.sshc_auth.proofs.extension.answer_seen.Given as goal

abbrev pub invariant-loop-waiter : goal.invariant-loop-waiter
invariant-loop-waiter l =
    l.answers.items ++ answers_seen l.name (map (λ w. w.now) (drop l.waiter-index l.waiters))
    ≡ l.initial.answers.items ++ answers_seen l.name (map (λ w. w.now) l.waiters)
