use Rattle.std.proofs.Common.{length}
use Rattle.sshc_handle_state.specs.Picking.{link_at}
use Rattle.sshc_handle_state.proofs.DealingLemmas.{DealtSo}
use Rattle.sshc_handle_state.proofs.dealing.deal.Given as goal

-- the records so far are dealt with
abbrev pub invariant-records : goal.invariant-records
invariant-records g l =
    DealtSo l.initial.output.records l.output.records l.initial.failed l.failed l.initial.tickets l.tickets
    (link_at (g.T.Transport.answers l.initial.transport) (g.T.Transport.handed l.initial.transport) (g.T.Transport.faults l.initial.transport))
    (link_at (g.T.Transport.answers l.transport) (g.T.Transport.handed l.transport) (g.T.Transport.faults l.transport))

abbrev pub decreases-records : goal.decreases-records
decreases-records g l = length l.output.records
