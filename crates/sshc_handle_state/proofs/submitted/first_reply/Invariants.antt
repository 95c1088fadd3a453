use Rattle.std.proofs.Common.{◌≡◌}
use Rattle.sshc_handle_state.specs.Picking.{is_reply}
use Rattle.sshc_handle_tickets.proofs.Firsts.{IsPassed}
use Rattle.sshc_handle_state.proofs.submitted.first_reply.Given as goal

abbrev pub invariant-loop-at : goal.invariant-loop-at
invariant-loop-at l = record { same : l.events ≡ l.initial.events; passed : IsPassed is_reply l.events.items l.at }
