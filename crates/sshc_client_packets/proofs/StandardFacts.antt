-- Worked packets of a session (RFC 4254, sections 4 to 7), byte by byte, computed from the definitions.
use Rattle.std.proofs.Common.{◌≡◌, true, false, [], ◌∷◌, ◌++◌, Ok, Err, Some, None, refl}
use Rattle.std.specs.Prelude.{codes}
use Rattle.sshc_wire.specs.Reads.{boolean_at, byte_at, number_at}
use Rattle.sshc_wire.specs.Wire.{bool_text, string_text, u32_text}
use Rattle.sshc_wire.specs.declared.channel_open_failure.ChannelOpenFailure.TheVariants.{UnknownChannelType, AdministrativelyProhibited}
use Rattle.sshc_wire.specs.declared.channel_record.ServerOpen.TheVariants.{AgentForward, Unknown}
use Rattle.sshc_client_packets.specs.declared.error.PacketError.TheVariants.{SshEncoding}
use Rattle.sshc_client_packets.specs.declared.peer_global.PeerGlobal.TheVariants as globals
use Rattle.sshc_client_packets.specs.declared.peer_request.PeerRequest.TheVariants.{ExitStatus}
use Rattle.sshc_client_packets.specs.GlobalRequests.{Keepalive, TcpIpForward, global_request_text}
use Rattle.sshc_client_packets.specs.ChannelOpens.{Session, channel_open_text, open_failure_text}
use Rattle.sshc_client_packets.specs.ChannelPackets.{confirmation_of, reason_of, sender_at}
use Rattle.sshc_client_packets.specs.ChannelRequests.{Exec, channel_request_text, modes_text}
use Rattle.sshc_client_packets.specs.Parts.{flag_at, u32_at, u8_at}
use Rattle.sshc_client_packets.specs.PeerGlobals.{named_global_of}
use Rattle.sshc_client_packets.specs.PeerOpens.{server_open_at, server_open_of}
use Rattle.sshc_client_packets.specs.PeerRequests.{exit_status_of, peer_request_of, xon_xoff_of}
use Rattle.sshc_client_packets.specs.Replies.{forward_port}

-- a keepalive that wants a reply: 50 00000015 "keepalive@openssh.com" 01
keepalive_written : global_request_text true Keepalive ≡ (0x50 ∷ 0 ∷ 0 ∷ 0 ∷ 0x15 ∷ []) ++ codes "keepalive@openssh.com" ++ (1 ∷ [])
unfolding global_request_text string_text u32_text bool_text
keepalive_written = refl

-- a forward of port 22 that wants no reply
forward_written : global_request_text false (TcpIpForward (codes "h") 22) ≡
    (0x50 ∷ 0 ∷ 0 ∷ 0 ∷ 13 ∷ []) ++ codes "tcpip-forward" ++ (0 ∷ 0 ∷ 0 ∷ 0 ∷ 1 ∷ []) ++ codes "h" ++ (0 ∷ 0 ∷ 0 ∷ 22 ∷ [])
unfolding global_request_text string_text u32_text bool_text
forward_written = refl

-- channel 1, window 2097152, packet size 32768: 5a 00000007 "session" 00000001 00200000 00008000
session_written : channel_open_text Session (record { channel = 1; window_size = 2097152; max_packet_size = 32768 }) ≡
    (0x5a ∷ 0 ∷ 0 ∷ 0 ∷ 7 ∷ []) ++ codes "session" ++ (0 ∷ 0 ∷ 0 ∷ 1 ∷ 0 ∷ 0x20 ∷ 0 ∷ 0 ∷ 0 ∷ 0 ∷ 0x80 ∷ 0 ∷ [])
unfolding channel_open_text string_text u32_text
session_written = refl

-- an open of a type that isn't known, refused: 5c 00000007 00000003 00000014 "unknown channel type" 00000002 "en"
refusal_written : open_failure_text 7 UnknownChannelType ≡
    (0x5c ∷ 0 ∷ 0 ∷ 0 ∷ 7 ∷ 0 ∷ 0 ∷ 0 ∷ 3 ∷ 0 ∷ 0 ∷ 0 ∷ 0x14 ∷ []) ++ codes "unknown channel type" ++ (0 ∷ 0 ∷ 0 ∷ 2 ∷ []) ++ codes "en"
unfolding open_failure_text string_text u32_text
refusal_written = refl

-- the command `ls` on the peer's channel 5, with a reply wanted: 62 00000005 00000004 "exec" 01 00000002 "ls"
exec_written : channel_request_text 5 (Exec true (codes "ls")) ≡
    (0x62 ∷ 0 ∷ 0 ∷ 0 ∷ 5 ∷ 0 ∷ 0 ∷ 0 ∷ 4 ∷ []) ++ codes "exec" ++ (1 ∷ 0 ∷ 0 ∷ 0 ∷ 2 ∷ []) ++ codes "ls"
unfolding channel_request_text string_text u32_text bool_text
exec_written = refl

-- the modes end with one 0, also if an entry of number 0 is among them
modes_written : modes_text ((record { 0 = 53 }, 1) ∷ (record { 0 = 0 }, 9) ∷ []) ≡ 53 ∷ 0 ∷ 0 ∷ 0 ∷ 1 ∷ 0 ∷ []
unfolding u32_text
modes_written = refl

-- 91 after its number: 00000001 00000005 00000064 00008000
confirmation_read : confirmation_of (0 ∷ 0 ∷ 0 ∷ 1 ∷ 0 ∷ 0 ∷ 0 ∷ 5 ∷ 0 ∷ 0 ∷ 0 ∷ 100 ∷ 0 ∷ 0 ∷ 0x80 ∷ 0 ∷ []) ≡
    Ok (record { recipient = 1; sender = record { channel = 5; window_size = 100; max_packet_size = 32768 } })
unfolding confirmation_of sender_at number_at
confirmation_read = refl

-- 98 `exit-status` after its name: 00 00000000
exit_status_read : peer_request_of (codes "exit-status") (0 ∷ 0 ∷ 0 ∷ 0 ∷ 0 ∷ []) ≡ Ok (ExitStatus 0)
unfolding peer_request_of exit_status_of u8_at u32_at byte_at number_at
exit_status_read = refl

-- a byte after the last field is refused
xon_xoff_too_long : peer_request_of (codes "xon-xoff") (0 ∷ 1 ∷ 7 ∷ []) ≡ Err SshEncoding
unfolding peer_request_of xon_xoff_of u8_at flag_at byte_at boolean_at
xon_xoff_too_long = refl

-- 90: types by their names; the bytes after their fields are ignored
type_unknown : server_open_of (codes "foo") (1 ∷ 2 ∷ []) ≡ Ok Unknown
unfolding server_open_of server_open_at
type_unknown = refl

type_agent : server_open_of (codes "auth-agent@openssh.com") [] ≡ Ok AgentForward
unfolding server_open_of server_open_at
type_agent = refl

-- 80: any name that begins with `keepalive`, with no bytes after it; another name with any bytes after it
any_keepalive : named_global_of (codes "keepalive@example.org") true [] ≡ Ok (globals.Keepalive true)
unfolding named_global_of
any_keepalive = refl

keepalive_too_long : named_global_of (codes "keepalive@openssh.com") true (0 ∷ []) ≡ Err SshEncoding
unfolding named_global_of
keepalive_too_long = refl

name_unknown : named_global_of (codes "foo") false (1 ∷ 2 ∷ []) ≡ Ok (globals.Unknown false)
unfolding named_global_of
name_unknown = refl

-- 81 after a forward: no bytes, a port, and bytes that aren't a port
port_asked : forward_port [] ≡ Some 0
port_asked = refl

port_given : forward_port (0 ∷ 0 ∷ 0x1f ∷ 0x90 ∷ []) ≡ Some 8080
port_given = refl

port_broken : forward_port (0 ∷ 22 ∷ []) ≡ None
port_broken = refl

-- 92: an unknown reason counts as the first
reason_unknown : reason_of 9 ≡ AdministrativelyProhibited
reason_unknown = refl
