-- Rows of key exchanges (RFC 4253, section 7).
use Rattle.std.specs.Prelude.{[], ◌∷◌, Bool, true, false, if◌then◌else◌}
use Rattle.sshc_wire.specs.declared.record.Record.TheVariants as records
use Rattle.sshc_auth.specs.declared.error.Error.TheVariants.{RekeyKey, UnknownKey}
use Rattle.sshc_auth_event.specs.HostKey.{is_same_key}
use Rattle.sshc_transport.specs.declared.exchange.ExchangeFlag.{ExchangeFlag}
use Rattle.sshc_transport.specs.declared.exchange.ExchangeFlag.TheVariants as flags
use Rattle.sshc_transport.specs.declared.exchange.ExchangeResult.{ExchangeResult}
use Rattle.sshc_auth.specs.declared.opening.Phase.{Phase}
use Rattle.sshc_auth.specs.declared.opening.Phase.TheVariants as phases
use Rattle.sshc_auth.specs.declared.step.Told.{Told}
use Rattle.sshc_auth.specs.declared.step.Told.TheVariants as tells
use Rattle.sshc_auth.specs.OpeningState.{OpeningState}
use Rattle.sshc_auth.specs.Row.{Row, goes, refused, opens}

-- the peer's KEXINIT (RFC 4253, section 7.1): it answers ours, or the transport is asked to begin an exchange
abbrev pub peer_kexinit_row_at : ExchangeFlag → OpeningState → Row
peer_kexinit_row_at flags.Idle s = goes (records.BeginExchange ∷ []) (record s { flag = flags.Peer; counted = 0 })
peer_kexinit_row_at flag s = goes [] (record s { flag = flags.Peer })

unfoldable pub peer_kexinit_row : OpeningState → Row
peer_kexinit_row s = peer_kexinit_row_at s.flag s

-- no exchange runs any more
abbrev pub exchanged : OpeningState → OpeningState
exchanged s = record s { flag = flags.Idle; counted = 0 }

-- after the first exchange the session id is its hash, its host key is kept, and the user may be authenticated; an
-- anonymous session is open
abbrev pub accepted_row : Bool → OpeningState → ExchangeResult → Row
accepted_row false s x = goes (records.KexDone x.names.kex ∷ []) (record (exchanged s) { phase = phases.Service; session_id = x.session_hash; host_key = x.key })
accepted_row true s x = record {
  records = records.KexDone x.names.kex ∷ records.Opened ∷ [];
  next = opens (record (exchanged s) { phase = phases.Open; session_id = x.session_hash; host_key = x.key });
}

-- the first exchange: the session continues only with a host key that the gate accepts
abbrev pub first_exchange_row : OpeningState → ExchangeResult → Told → Row
first_exchange_row s x tells.Went = accepted_row s.settings.anonymous s x
first_exchange_row s x told = refused UnknownKey

-- a session has one host key: that of its first exchange (a rule of this project)
abbrev pub has_kept_key : OpeningState → ExchangeResult → Bool
has_kept_key s x = is_same_key s.host_key x.key

-- a later exchange keeps the session id; its host key isn't judged, and is refused where it isn't the first exchange's
abbrev pub later_exchange_row : OpeningState → ExchangeResult → Row
later_exchange_row s x =
    if has_kept_key s x then goes (records.KexDone x.names.kex ∷ []) (exchanged s) else refused RekeyKey

abbrev pub exchange_row_in : Phase → OpeningState → ExchangeResult → Told → Row
exchange_row_in phases.Exchanging s x told = first_exchange_row s x told
exchange_row_in phase s x told = later_exchange_row s x

unfoldable pub exchange_done_row : OpeningState → ExchangeResult → Told → Row
exchange_done_row s x told = exchange_row_in s.phase s x told
