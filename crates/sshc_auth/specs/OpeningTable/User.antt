-- Rows of the user's other events before the session is open.
use Rattle.std.specs.Prelude.{ℕ, Bool, true, false, List, [], ◌∷◌, ◌++◌, Option, Some, None, bytes_eq, if◌then◌else◌}
use Rattle.std.specs.List.{list_any}
use Rattle.sshc_wire.specs.declared.disconnect.Disconnect.{Disconnect}
use Rattle.sshc_wire.specs.declared.record.Record.TheVariants.{BeginExchange, Payload}
use Rattle.sshc_wire.specs.declared.resolution.Resolution.{Resolution}
use Rattle.sshc_wire.specs.declared.resolution.Resolution.TheVariants as answers
use Rattle.sshc_wire.specs.declared.ticket.Ticket.{Ticket}
use Rattle.sshc_key.specs.KeyGrammar.{Key}
use Rattle.sshc_transport.specs.declared.exchange.ExchangeFlag.TheVariants.{Ours}
use Rattle.sshc_auth.specs.declared.ended.Ended.TheVariants as ended
use Rattle.sshc_auth.specs.OpeningState.{OpeningState}
use Rattle.sshc_auth_request.specs.RequestTexts.{disconnect}
use Rattle.sshc_auth.specs.Row.{Row, goes, ends, resolved}

-- the event's ticket is resolved at once
abbrev pub answered_row : OpeningState → Ticket → Resolution → Row
answered_row s ticket resolution = goes (resolved ticket resolution) s

-- the user asks for a key exchange (RFC 4253, section 9)
unfoldable pub rekey_row : OpeningState → Row
rekey_row s = goes (BeginExchange ∷ []) (record s { flag = Ours; counted = 0 })

-- an extension of this name was announced
abbrev pub is_seen : List (List ℕ) → List ℕ → Bool
is_seen seen name = list_any (λ other. bytes_eq other name) seen

-- the user waits for an extension, which may have been announced (RFC 8308)
unfoldable pub await_extension_info_row : OpeningState → Ticket → List ℕ → Row
await_extension_info_row s ticket name =
    if is_seen s.seen name then answered_row s ticket answers.ExtInfoSeen
    else goes [] (record s { waiters = s.waiters ++ (record { ticket = ticket; extension_name = name }) ∷ [] })

abbrev pub sig_algs_answer : Option (List (List ℕ)) → Resolution
sig_algs_answer None = answers.SigAlgs false []
sig_algs_answer (Some names) = answers.SigAlgs true names

-- the server's signature names, if it has sent them (RFC 8308, section 3.1)
unfoldable pub get_server_sig_algs_row : OpeningState → Ticket → Row
get_server_sig_algs_row s ticket = answered_row s ticket (sig_algs_answer s.sig_algs)

-- there are no keys to prove, or they can't be proved yet
abbrev pub host_keys_answer : List (Key × List ℕ) → Resolution
host_keys_answer [] = answers.HostKeysProved
host_keys_answer (key ∷ keys) = answers.Denied

-- the user disconnects (RFC 4253, section 11.1)
unfoldable pub user_disconnect_row : Disconnect → List ℕ → List ℕ → Row
user_disconnect_row reason description language = record { records = Payload (disconnect reason description language) ∷ []; next = ends ended.Disconnected }

-- no user is left
abbrev pub gone_row : Row
gone_row = record { records = []; next = ends ended.Closed }
