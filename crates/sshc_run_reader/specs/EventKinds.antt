-- The kinds of events and their numbers (docs/FORMATS.md, "Events").
-- A number for each kind, and the kind of a number as its inverse, which a law says (`numbered_is`, `number_again`).
use Rattle.std.proofs.Common.{ℕ, Bool, true, false, Option, Some, None, nat_lt, ◌==◌, if◌then◌else◌}
use Rattle.sshc_run_reader.specs.declared.event_kind.EventKind.{EventKind}
use Rattle.sshc_run_reader.specs.declared.event_kind.EventKind.TheVariants.{PeerKexinit, ExchangeDone, Payload, TransportFailed, RekeyLimit, KeepaliveTimer, InactivityTimer, Authenticate, AuthInfoResponse, AuthGssapiToken, AuthGssapiMic, AuthGssapiExchangeComplete, Signed, SignFailed, ChannelOpenSession, ChannelOpenX11, ChannelOpenDirectTcpIp, ChannelOpenDirectStreamLocal, TcpIpForward, CancelTcpIpForward, StreamLocalForward, CancelStreamLocalForward, Close, Disconnect, Channel, ServerChannelOpenReply, Rekey, AwaitExtensionInfo, GetServerSigAlgs, Keepalive, Ping, NoMoreSessions, HostKeysProve, SendGlobalRequest, Gone, AgentBytes, AgentRequestAnswer, AgentKeyAnswer, AgentClose}

abbrev pub kind_number : EventKind → ℕ
kind_number PeerKexinit = 0x01
kind_number ExchangeDone = 0x02
kind_number Payload = 0x03
kind_number TransportFailed = 0x04
kind_number RekeyLimit = 0x05
kind_number KeepaliveTimer = 0x08
kind_number InactivityTimer = 0x09
kind_number Authenticate = 0x10
kind_number AuthInfoResponse = 0x11
kind_number AuthGssapiToken = 0x12
kind_number AuthGssapiMic = 0x13
kind_number AuthGssapiExchangeComplete = 0x14
kind_number Signed = 0x15
kind_number SignFailed = 0x16
kind_number ChannelOpenSession = 0x17
kind_number ChannelOpenX11 = 0x18
kind_number ChannelOpenDirectTcpIp = 0x19
kind_number ChannelOpenDirectStreamLocal = 0x1a
kind_number TcpIpForward = 0x1b
kind_number CancelTcpIpForward = 0x1c
kind_number StreamLocalForward = 0x1d
kind_number CancelStreamLocalForward = 0x1e
kind_number Close = 0x1f
kind_number Disconnect = 0x20
kind_number Channel = 0x21
kind_number ServerChannelOpenReply = 0x22
kind_number Rekey = 0x24
kind_number AwaitExtensionInfo = 0x25
kind_number GetServerSigAlgs = 0x26
kind_number Keepalive = 0x27
kind_number Ping = 0x28
kind_number NoMoreSessions = 0x29
kind_number HostKeysProve = 0x2a
kind_number SendGlobalRequest = 0x2b
kind_number Gone = 0x2f
kind_number AgentBytes = 0x40
kind_number AgentRequestAnswer = 0x41
kind_number AgentKeyAnswer = 0x42
kind_number AgentClose = 0x43

-- the transport's results
abbrev pub transport_kind : ℕ → Option EventKind
transport_kind n =
    if n == 0x01 then Some PeerKexinit
    else (if n == 0x02 then Some ExchangeDone
    else (if n == 0x03 then Some Payload
    else (if n == 0x04 then Some TransportFailed
    else (if n == 0x05 then Some RekeyLimit else None))))

-- timers
abbrev pub timer_kind : ℕ → Option EventKind
timer_kind n =
    if n == 0x08 then Some KeepaliveTimer
    else (if n == 0x09 then Some InactivityTimer else None)

-- what the user asks while it is authenticated
abbrev pub authentication_kind : ℕ → Option EventKind
authentication_kind n =
    if n == 0x10 then Some Authenticate
    else (if n == 0x11 then Some AuthInfoResponse
    else (if n == 0x12 then Some AuthGssapiToken
    else (if n == 0x13 then Some AuthGssapiMic
    else (if n == 0x14 then Some AuthGssapiExchangeComplete
    else (if n == 0x15 then Some Signed
    else (if n == 0x16 then Some SignFailed else None))))))

-- channels that the user opens
abbrev pub open_kind : ℕ → Option EventKind
open_kind n =
    if n == 0x17 then Some ChannelOpenSession
    else (if n == 0x18 then Some ChannelOpenX11
    else (if n == 0x19 then Some ChannelOpenDirectTcpIp
    else (if n == 0x1a then Some ChannelOpenDirectStreamLocal else None)))

-- forwards
abbrev pub forward_kind : ℕ → Option EventKind
forward_kind n =
    if n == 0x1b then Some TcpIpForward
    else (if n == 0x1c then Some CancelTcpIpForward
    else (if n == 0x1d then Some StreamLocalForward
    else (if n == 0x1e then Some CancelStreamLocalForward else None)))

-- channels and the end
abbrev pub channel_kind : ℕ → Option EventKind
channel_kind n =
    if n == 0x1f then Some Close
    else (if n == 0x20 then Some Disconnect
    else (if n == 0x21 then Some Channel
    else (if n == 0x22 then Some ServerChannelOpenReply else None)))

-- requests without a channel
abbrev pub request_kind : ℕ → Option EventKind
request_kind n =
    if n == 0x24 then Some Rekey
    else (if n == 0x25 then Some AwaitExtensionInfo
    else (if n == 0x26 then Some GetServerSigAlgs
    else (if n == 0x27 then Some Keepalive
    else (if n == 0x28 then Some Ping
    else (if n == 0x29 then Some NoMoreSessions
    else (if n == 0x2a then Some HostKeysProve
    else (if n == 0x2b then Some SendGlobalRequest
    else (if n == 0x2f then Some Gone else None))))))))

-- an agent's events
abbrev pub agent_kind : ℕ → Option EventKind
agent_kind n =
    if n == 0x40 then Some AgentBytes
    else (if n == 0x41 then Some AgentRequestAnswer
    else (if n == 0x42 then Some AgentKeyAnswer
    else (if n == 0x43 then Some AgentClose else None)))

-- the kind of this number, if there is one
abbrev pub kind_numbered : ℕ → Option EventKind
kind_numbered n =
    if nat_lt n 0x08 then transport_kind n
    else (if nat_lt n 0x10 then timer_kind n
    else (if nat_lt n 0x17 then authentication_kind n
    else (if nat_lt n 0x1b then open_kind n
    else (if nat_lt n 0x1f then forward_kind n
    else (if nat_lt n 0x24 then channel_kind n
    else (if nat_lt n 0x40 then request_kind n
    else (agent_kind n)))))))

-- ---- classes of kinds

-- an event of the agent's connections; every other is the session's
abbrev pub is_agent_kind : EventKind → Bool
is_agent_kind AgentBytes = true
is_agent_kind AgentRequestAnswer = true
is_agent_kind AgentKeyAnswer = true
is_agent_kind AgentClose = true
is_agent_kind kind = false

-- an event of the transport or a timer
abbrev pub is_transport_kind : EventKind → Bool
is_transport_kind PeerKexinit = true
is_transport_kind ExchangeDone = true
is_transport_kind Payload = true
is_transport_kind TransportFailed = true
is_transport_kind RekeyLimit = true
is_transport_kind KeepaliveTimer = true
is_transport_kind InactivityTimer = true
is_transport_kind kind = false

-- what the user asks: neither the transport's nor an agent's
abbrev pub is_user_kind : EventKind → Bool
is_user_kind kind = if is_transport_kind kind then false else (if is_agent_kind kind then false else true)
