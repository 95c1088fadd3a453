-- Rows of key exchanges in an open session (RFC 4253, section 7).
use Rattle.std.specs.Prelude.{Bool, true, false, [], ◌∷◌}
use Rattle.sshc_wire.specs.declared.record.Record.TheVariants.{KexDone as KexDoneRecord}
use Rattle.sshc_transport.specs.declared.exchange.ExchangeFlag.{ExchangeFlag}
use Rattle.sshc_transport.specs.declared.exchange.ExchangeFlag.TheVariants.{Idle, Ours, Peer}
use Rattle.sshc_transport.specs.declared.exchange.ExchangeResult.{ExchangeResult}
use Rattle.sshc_auth.specs.declared.error.Error.TheVariants.{OutOfTurn, RekeyKey}
use Rattle.sshc_client_table.specs.Moves.{PeerBegins, Resumes, Tells}
use Rattle.sshc_client_table.specs.SessionRow.{KexDone, SessionRow, asking, plain_row, refused}

-- the peer's KEXINIT; a second is out of turn
abbrev pub peer_kexinit_row : ExchangeFlag → SessionRow
peer_kexinit_row Idle = plain_row (PeerBegins ∷ [])
peer_kexinit_row Ours = plain_row (PeerBegins ∷ [])
peer_kexinit_row Peer = refused OutOfTurn

-- an exchange with the first exchange's host key, which isn't judged again: the handler is called, and what waits on the
-- channels is sent. One with another host key is refused, and no call is made (a rule of this project)
abbrev pub later_exchange_row : Bool → ExchangeResult → SessionRow
later_exchange_row true x = asking [] (KexDone x.secret x.names) (Tells (KexDoneRecord x.names.kex) ∷ Resumes ∷ [])
later_exchange_row false x = refused RekeyKey

-- an exchange is done, with the first exchange's host key or another; it is out of turn unless the peer began it
abbrev pub exchange_done_row : ExchangeFlag → Bool → ExchangeResult → SessionRow
exchange_done_row Idle same x = refused OutOfTurn
exchange_done_row Ours same x = refused OutOfTurn
exchange_done_row Peer same x = later_exchange_row same x
