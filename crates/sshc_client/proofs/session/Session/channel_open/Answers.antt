use Rattle.sshc_client_table.specs.SessionTable.Opens.{channel_open_row}
use Rattle.sshc_client.proofs.session.Session.channel_open.Goals as goal

-- the name of a known type doesn't matter
pub returns-in-Ok : goal.returns-in-Ok
unfolding channel_open_row
returns-in-Ok g c = record { row = rw (c.in_ok-head.ensures, c.in-Ok.ensures) (c.known_open.ensures.row c.in_ok-head.head.kind.now) }
