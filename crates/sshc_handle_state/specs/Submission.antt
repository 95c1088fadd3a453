-- The event of a message that a user submits. A message with a ticket gets a fresh one; one without asks for no answer,
-- which is ticket 0. A message that only reports what happened has no event.
use Rattle.std.specs.Prelude.{Bool, true, false, if◌then◌else◌, is_some, Option, Some, None}
use Rattle.sshc_wire.specs.declared.channel_id.ChannelId.{ChannelId}
use Rattle.sshc_wire.specs.declared.ticket.Ticket.{Ticket}
use Rattle.sshc_auth_event.specs.declared.channel_msg.ChannelMsg.{ChannelMsg}
use Rattle.sshc_auth_event.specs.declared.channel_msg.ChannelMsg.TheVariants.{ExitSignal, ExitStatus, Failure, Open, OpenFailure}
use Rattle.sshc_auth_event.specs.declared.channel_msg.ChannelMsg.TheVariants.{Success, WindowAdjusted, XonXoff}
use Rattle.sshc_auth_event.specs.declared.event.Event.{Event}
use Rattle.sshc_auth_event.specs.declared.event.Event.TheVariants as events
use Rattle.sshc_client.specs.declared.message.Msg.{Msg}
use Rattle.sshc_client.specs.declared.message.Msg.TheVariants as msgs

-- ---- tickets

-- the ticket that a message names, if it has one
abbrev pub ticket_in : Msg → Option Ticket
ticket_in (msgs.Authenticate user method ticket) = ticket
ticket_in (msgs.ChannelOpenSession ticket) = ticket
ticket_in (msgs.ChannelOpenX11 address port ticket) = ticket
ticket_in (msgs.ChannelOpenDirectTcpIp host port address own_port ticket) = ticket
ticket_in (msgs.ChannelOpenDirectStreamLocal path ticket) = ticket
ticket_in (msgs.TcpIpForward ticket address port) = ticket
ticket_in (msgs.CancelTcpIpForward ticket address port) = ticket
ticket_in (msgs.StreamLocalForward ticket path) = ticket
ticket_in (msgs.CancelStreamLocalForward ticket path) = ticket
ticket_in (msgs.AwaitExtensionInfo name ticket) = ticket
ticket_in (msgs.GetServerSigAlgs ticket) = ticket
ticket_in (msgs.Ping ticket) = ticket
ticket_in (msgs.HostKeysProve ticket keys) = ticket
ticket_in (msgs.SendGlobalRequest name body ticket) = ticket
ticket_in msg = None

-- an answer is asked for
abbrev pub asks_answer : Msg → Bool
asks_answer msg = is_some (ticket_in msg)

-- the ticket of the event
abbrev pub stamped : Ticket → Option Ticket → Ticket
stamped fresh None = record { 0 = 0 }
stamped fresh (Some asked) = fresh

-- ---- events

-- what only reports what happened on a channel, and can't be submitted as a request
abbrev pub is_reported : ChannelMsg → Bool
is_reported (Open id max_packet_size window_size) = true
is_reported (OpenFailure reason) = true
is_reported Success = true
is_reported Failure = true
is_reported (XonXoff client_can_do) = true
is_reported (ExitStatus exit_status) = true
is_reported (ExitSignal signal_name core_dumped error_message lang_tag) = true
is_reported (WindowAdjusted new_size) = true
is_reported msg = false

abbrev pub channel_event : ChannelId → ChannelMsg → Option Event
channel_event id msg = if is_reported msg then None else Some (events.Channel id msg)

-- The event of a message is in four tables: what one doesn't name, the one before it has.

-- a question about the server's extensions, or a global request that asks for an answer and forwards nothing
unfoldable pub request_event : Ticket → Msg → Option Event
request_event fresh (msgs.AwaitExtensionInfo name ticket) = Some (events.AwaitExtensionInfo (stamped fresh ticket) name)
request_event fresh (msgs.GetServerSigAlgs ticket) = Some (events.GetServerSigAlgs (stamped fresh ticket))
request_event fresh (msgs.Ping ticket) = Some (events.Ping (stamped fresh ticket))
request_event fresh (msgs.HostKeysProve ticket keys) = Some (events.HostKeysProve (stamped fresh ticket) keys)
request_event fresh (msgs.SendGlobalRequest name body ticket) =
    Some (events.SendGlobalRequest (stamped fresh ticket) name body)
request_event fresh msg = None

-- a global request that begins or ends forwarding
unfoldable pub forward_event : Ticket → Msg → Option Event
forward_event fresh (msgs.TcpIpForward ticket address port) =
    Some (events.TcpIpForward (stamped fresh ticket) address port)
forward_event fresh (msgs.CancelTcpIpForward ticket address port) =
    Some (events.CancelTcpIpForward (stamped fresh ticket) address port)
forward_event fresh (msgs.StreamLocalForward ticket path) = Some (events.StreamLocalForward (stamped fresh ticket) path)
forward_event fresh (msgs.CancelStreamLocalForward ticket path) =
    Some (events.CancelStreamLocalForward (stamped fresh ticket) path)
forward_event fresh msg = request_event fresh msg

-- an open of a channel
unfoldable pub open_event : Ticket → Msg → Option Event
open_event fresh (msgs.ChannelOpenSession ticket) = Some (events.ChannelOpenSession (stamped fresh ticket))
open_event fresh (msgs.ChannelOpenX11 address port ticket) =
    Some (events.ChannelOpenX11 (stamped fresh ticket) address port)
open_event fresh (msgs.ChannelOpenDirectTcpIp host port address own_port ticket) =
    Some (events.ChannelOpenDirectTcpIp (stamped fresh ticket) host port address own_port)
open_event fresh (msgs.ChannelOpenDirectStreamLocal path ticket) =
    Some (events.ChannelOpenDirectStreamLocal (stamped fresh ticket) path)
open_event fresh msg = forward_event fresh msg

-- the event of any message: here a login, and what asks for no answer
unfoldable pub event_of : Ticket → Msg → Option Event
event_of fresh (msgs.Authenticate user method ticket) = Some (events.Authenticate (stamped fresh ticket) user method)
event_of fresh (msgs.AuthInfoResponse responses) = Some (events.AuthInfoResponse responses)
event_of fresh (msgs.AuthGssapiToken token) = Some (events.AuthGssapiToken token)
event_of fresh (msgs.AuthGssapiMic token mic) = Some (events.AuthGssapiMic token mic)
event_of fresh (msgs.AuthGssapiExchangeComplete token) = Some (events.AuthGssapiExchangeComplete token)
event_of fresh (msgs.Signed body) = Some (events.Signed body)
event_of fresh msgs.SignFailed = Some events.SignFailed
event_of fresh (msgs.Close id) = Some (events.Close id)
event_of fresh (msgs.Disconnect reason description language_tag) =
    Some (events.Disconnect reason description language_tag)
event_of fresh (msgs.Channel id msg) = channel_event id msg
event_of fresh (msgs.ServerChannelOpenReply id result) = Some (events.ServerChannelOpenReply id result)
event_of fresh msgs.Rekey = Some events.Rekey
event_of fresh (msgs.Keepalive want_reply) = Some (events.Keepalive want_reply)
event_of fresh (msgs.NoMoreSessions want_reply) = Some (events.NoMoreSessions want_reply)
event_of fresh msg = open_event fresh msg
