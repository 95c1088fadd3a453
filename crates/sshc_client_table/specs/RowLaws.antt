-- Laws about each row of a session's two tables.
use Rattle.std.specs.Prelude.{◌≡◌, true, false}
use Rattle.sshc_key.specs.Asking.{Always}
use Rattle.sshc_auth_event.specs.declared.event.Event.{Event}
use Rattle.sshc_auth_event.specs.declared.event.Event.TheVariants as events
use Rattle.sshc_transport.specs.declared.exchange.ExchangeResult.{ExchangeResult}
use Rattle.sshc_auth.specs.Causes.{IsKeptKey}
use Rattle.sshc_auth.specs.declared.step.Told.{Told}
use Rattle.sshc_auth.specs.OpeningState.{OpeningState}
use Rattle.sshc_auth.specs.OpeningTable.{open_row}
use Rattle.sshc_client_packets.specs.HostKeyProof.{Accepts}
use Rattle.sshc_client_table.specs.SessionRow.{Opinions, goes}
use Rattle.sshc_client_table.specs.SessionState.{SessionState, is_open}
use Rattle.sshc_client_table.specs.SessionTable.{session_row}
use Rattle.sshc_client_table.specs.OpeningStays.{Stays}
use Rattle.sshc_client_table.specs.OpenCauseLaws.{RowHolds, open_why}

-- before the session is open
abbrev pub UnopenedRowsStay : Type 0
UnopenedRowsStay = (s : OpeningState) (event : Event) (told : Told) → is_open s.phase ≡ false → Always (Stays s.closed) (open_row s event told)

-- an open session continues behind an exchange only with the first exchange's host key
abbrev pub OpenRowsKeepTheKey : Type 0
OpenRowsKeepTheKey =
    (accepts : Accepts) (o : Opinions) (s : SessionState) (x : ExchangeResult) → (session_row accepts o s (events.ExchangeDone x)).next ≡ goes → IsKeptKey s.opening x.key

-- in an open session
abbrev pub OpenRowsAreCaused : Type 0
OpenRowsAreCaused =
    (accepts : Accepts) (o : Opinions) (s : SessionState) (event : Event) → is_open s.opening.phase ≡ true → RowHolds (open_why s event) (session_row accepts o s event)
