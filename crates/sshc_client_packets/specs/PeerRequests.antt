-- 98: a request of the peer's on a channel, after its number and name (RFC 4254, sections 6.8 and 6.10).
-- By the name; for an unknown name the bytes after the flag are ignored. The code moves a cursor.
use Rattle.std.specs.Prelude.{ℕ, List, codes, bytes_eq, if◌then◌else◌}
use Rattle.sshc_wire.specs.Format.{both_at, made_at}
use Rattle.sshc_wire.specs.Grammar.{finished_at}
use Rattle.sshc_wire.specs.Signals.{signal_of}
use Rattle.sshc_wire.specs.Whole.{WholeReader}
use Rattle.sshc_client_packets.specs.declared.error.PacketError.{PacketError}
use Rattle.sshc_client_packets.specs.declared.error.PacketError.TheVariants.{SshEncoding}
use Rattle.sshc_client_packets.specs.declared.peer_request.PeerRequest.{PeerRequest}
use Rattle.sshc_client_packets.specs.declared.peer_request.PeerRequest.TheVariants as requests
use Rattle.sshc_client_packets.specs.Parts.{flag_at, leading_at, u32_at, u8_at, words_at}

-- the first byte says whether a reply is wanted, and is ignored
unfoldable pub xon_xoff_of : WholeReader PacketError PeerRequest
xon_xoff_of bytes = finished_at SshEncoding (made_at (λ x. requests.XonXoff x.1) (both_at u8_at flag_at)) bytes

unfoldable pub exit_status_of : WholeReader PacketError PeerRequest
exit_status_of bytes = finished_at SshEncoding (made_at (λ x. requests.ExitStatus x.1) (both_at u8_at u32_at)) bytes

unfoldable pub exit_signal_of : WholeReader PacketError PeerRequest
exit_signal_of bytes =
    finished_at SshEncoding
    (made_at (λ x. requests.ExitSignal (signal_of x.1.0) x.1.1.0 x.1.1.1.0 x.1.1.1.1)
    (both_at u8_at (both_at words_at (both_at flag_at (both_at words_at words_at))))) bytes

unfoldable pub keepalive_of : WholeReader PacketError PeerRequest
keepalive_of bytes = finished_at SshEncoding (made_at (λ x. requests.Keepalive x) flag_at) bytes

unfoldable pub unknown_of : WholeReader PacketError PeerRequest
unknown_of bytes = leading_at (made_at (λ x. requests.Unknown x) flag_at) bytes

unfoldable pub peer_request_of : List ℕ → WholeReader PacketError PeerRequest
peer_request_of name bytes =
    if bytes_eq name (codes "xon-xoff") then xon_xoff_of bytes
    else (if bytes_eq name (codes "exit-status") then exit_status_of bytes
    else (if bytes_eq name (codes "exit-signal") then exit_signal_of bytes
    else (if bytes_eq name (codes "keepalive@openssh.com") then keepalive_of bytes
    else unknown_of bytes)))
