-- An open session continues behind an exchange only with the first exchange's host key: a law about the table.
use Rattle.std.proofs.Common.{◌≡◌, Bool, true, false, refl}
use Rattle.sshc_auth_event.specs.declared.event.Event.TheVariants as events
use Rattle.sshc_transport.specs.declared.exchange.ExchangeFlag.{ExchangeFlag}
use Rattle.sshc_transport.specs.declared.exchange.ExchangeFlag.TheVariants as flags
use Rattle.sshc_transport.specs.declared.exchange.ExchangeResult.{ExchangeResult}
use Rattle.sshc_auth.specs.Causes.{IsKeptKey}
use Rattle.sshc_auth.specs.OneKeyLaws.{is_kept}
use Rattle.sshc_auth.specs.OpeningTable.Exchange.{has_kept_key}
use Rattle.sshc_client_packets.specs.HostKeyProof.{Accepts}
use Rattle.sshc_client_table.specs.SessionRow.{Opinions, goes}
use Rattle.sshc_client_table.specs.SessionState.{SessionState}
use Rattle.sshc_client_table.specs.SessionTable.{session_row}
use Rattle.sshc_client_table.specs.SessionTable.Exchanges.{exchange_done_row}

exchange_has : (s : SessionState) (x : ExchangeResult) (flag : ExchangeFlag) (same : Bool) → has_kept_key s.opening x ≡ same → (exchange_done_row flag same x).next ≡ goes → IsKeptKey s.opening x.key
exchange_has s x flags.Idle same is on = absurd cc
exchange_has s x flags.Ours same is on = absurd cc
exchange_has s x flags.Peer true is on = is_kept s.opening x is
exchange_has s x flags.Peer false is on = absurd cc

pub session_has : (accepts : Accepts) (o : Opinions) (s : SessionState) (x : ExchangeResult) → (session_row accepts o s (events.ExchangeDone x)).next ≡ goes → IsKeptKey s.opening x.key
unfolding session_row
session_has accepts o s x on = exchange_has s x s.opening.flag (has_kept_key s.opening x) refl on
