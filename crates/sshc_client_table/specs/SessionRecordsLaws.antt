-- Laws of the definitions in specs/SessionRecords.antt.
use Rattle.std.proofs.Common.{List, [], ◌∷◌, ◌++◌, refl}
use Rattle.std.specs.Prelude.{◌==◌}
use Rattle.sshc_wire.specs.CasesLaws.{by_cases}
use Rattle.sshc_wire.specs.declared.record.Record.{Record}
use Rattle.sshc_wire.specs.declared.resolution.Resolution.{Resolution}
use Rattle.sshc_wire.specs.declared.ticket.Ticket.{Ticket}
use Rattle.sshc_auth.specs.Row.{resolved}
use Rattle.sshc_client_table.specs.SessionRecords.{AreSessions}

pub sessions_on : (a b : List Record) → AreSessions a → AreSessions b → AreSessions (a ++ b)
sessions_on [] b one other = other
sessions_on (output ∷ a) b one other = (one.0, sessions_on a b one.1 other)

-- the answer to a ticket, if it has one
pub resolved_session : (ticket : Ticket) (resolution : Resolution) → AreSessions (resolved ticket resolution)
resolved_session ticket resolution = by_cases AreSessions (ticket.0 == 0) _ _ tt (refl, tt)
