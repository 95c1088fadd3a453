-- The first tests of the table: whether an event may come now, by its sort, the phase and the exchange flag (RFC 4253,
-- section 7).
-- A table; the code tests it before anything else.
use Rattle.std.specs.Prelude.{Bool, true, false, ℕ, List, Option, Some, None}
use Rattle.sshc_wire.specs.declared.ticket.Ticket.{Ticket}
use Rattle.sshc_auth_event.specs.declared.event.Event.{Event}
use Rattle.sshc_auth_event.specs.declared.event.Event.TheVariants as events
use Rattle.sshc_transport.specs.declared.exchange.ExchangeFlag.{ExchangeFlag}
use Rattle.sshc_transport.specs.declared.exchange.ExchangeFlag.TheVariants as flags
use Rattle.sshc_auth.specs.declared.order.EventSort.{EventSort}
use Rattle.sshc_auth.specs.declared.order.EventSort.TheVariants as sorts
use Rattle.sshc_auth.specs.OpeningState.{OpeningState, is_awaiting, no_ticket}

-- where an event comes from
abbrev pub sort_of : Event → EventSort
sort_of events.PeerKexinit = sorts.PeerKexinit
sort_of (events.ExchangeDone x) = sorts.ExchangeDone
sort_of (events.Payload packet) = sorts.Transport
sort_of events.TransportFailed = sorts.Transport
sort_of events.RekeyLimit = sorts.Transport
sort_of events.KeepaliveTimer = sorts.Transport
sort_of events.InactivityTimer = sorts.Transport
sort_of event = sorts.User

-- while an answer is awaited only the user's events may come
abbrev pub is_early_awaiting : EventSort → Bool
is_early_awaiting sorts.User = false
is_early_awaiting sort = true

-- else a second KEXINIT of the peer, an exchange that is done without one, and a user's event while an exchange runs
-- are early
abbrev pub is_early_at : ExchangeFlag → EventSort → Bool
is_early_at flags.Peer sorts.PeerKexinit = true
is_early_at flags.Idle sorts.ExchangeDone = true
is_early_at flags.Ours sorts.ExchangeDone = true
is_early_at flags.Ours sorts.User = true
is_early_at flags.Peer sorts.User = true
is_early_at flag sort = false

abbrev pub is_early : Bool → ExchangeFlag → EventSort → Bool
is_early true flag sort = is_early_awaiting sort
is_early false flag sort = is_early_at flag sort

abbrev pub is_out_of_turn : OpeningState → Event → Bool
is_out_of_turn s event = is_early (is_awaiting s.phase) s.flag (sort_of event)

-- the packet of an event that is one
abbrev pub packet_in : Event → Option (List ℕ)
packet_in (events.Payload packet) = Some packet
packet_in event = None

-- the ticket of an event of the user, 0 where it asks for no answer
abbrev pub ticket_of : Event → Ticket
ticket_of (events.Authenticate ticket user method) = ticket
ticket_of (events.ChannelOpenSession ticket) = ticket
ticket_of (events.ChannelOpenX11 ticket address port) = ticket
ticket_of (events.ChannelOpenDirectTcpIp ticket host port address own) = ticket
ticket_of (events.ChannelOpenDirectStreamLocal ticket path) = ticket
ticket_of (events.TcpIpForward ticket address port) = ticket
ticket_of (events.CancelTcpIpForward ticket address port) = ticket
ticket_of (events.StreamLocalForward ticket path) = ticket
ticket_of (events.CancelStreamLocalForward ticket path) = ticket
ticket_of (events.AwaitExtensionInfo ticket name) = ticket
ticket_of (events.GetServerSigAlgs ticket) = ticket
ticket_of (events.Ping ticket) = ticket
ticket_of (events.HostKeysProve ticket keys) = ticket
ticket_of (events.SendGlobalRequest ticket name body) = ticket
ticket_of event = no_ticket
