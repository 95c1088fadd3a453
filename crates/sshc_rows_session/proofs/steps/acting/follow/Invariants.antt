use Rattle.sshc_client_table.specs.Grown.{Grown}
use Rattle.sshc_rows_session.proofs.steps.acting.follow.Given as goal

abbrev pub invariant-loop-line : goal.invariant-loop-line
invariant-loop-line l = Grown l.initial.session l.session
