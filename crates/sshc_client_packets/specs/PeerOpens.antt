-- 90: a channel that the peer opens (RFC 4254, sections 5.1, 6.1, 6.3.2, 7.1 and 7.2; OpenSSH's PROTOCOL, section 2.4,
-- and PROTOCOL.agent). The head first, and then by the type's name; the bytes after the fields are ignored. The code
-- moves a cursor.
use Rattle.std.specs.Prelude.{ℕ, List, Ok, codes, bytes_eq, if◌then◌else◌}
use Rattle.sshc_wire.specs.Format.{both_at, made_at, no_bytes_at}
use Rattle.sshc_wire.specs.Reads.{Reader, ◌>>=◌, text_at}
use Rattle.sshc_wire.specs.Whole.{WholeReader}
use Rattle.sshc_wire.specs.declared.channel_record.ServerOpen.{ServerOpen}
use Rattle.sshc_wire.specs.declared.channel_record.ServerOpen.TheVariants as opens
use Rattle.sshc_wire.specs.declared.error.WireError.{WireError}
use Rattle.sshc_client_packets.specs.declared.channel_open.Sender.{Sender}
use Rattle.sshc_client_packets.specs.declared.error.PacketError.{PacketError}
use Rattle.sshc_client_packets.specs.declared.peer_open.PeerOpen.{PeerOpen as LentOpen}
use Rattle.sshc_client_packets.specs.ChannelPackets.{sender_at}
use Rattle.sshc_client_packets.specs.Parts.{leading_at, u32_at, words_at}

-- the type's name, the peer's side, and what is read by the name
pub record PeerOpen : Type 0 where
  pub kind : List ℕ
  pub sender : Sender
  pub rest : List ℕ

abbrev pub lent_open : LentOpen → PeerOpen
lent_open o = record { kind = o.kind.now; sender = o.sender; rest = o.rest.now }

abbrev pub as_open : (List ℕ × Sender) × List ℕ → PeerOpen
as_open read = record { kind = read.0.0; sender = read.0.1; rest = read.1 }

unfoldable pub peer_open_of : WholeReader WireError PeerOpen
peer_open_of bytes = both_at text_at sender_at bytes >>= λ read. Ok (as_open read)

-- an address and a port
unfoldable pub address_at : Reader PacketError (List ℕ × ℕ)
address_at bytes = both_at words_at u32_at bytes

unfoldable pub direct_tcpip_at : Reader PacketError ServerOpen
direct_tcpip_at bytes = made_at (λ x. opens.DirectTcpIp x.0.0 x.0.1 x.1.0 x.1.1) (both_at address_at address_at) bytes

unfoldable pub forwarded_tcpip_at : Reader PacketError ServerOpen
forwarded_tcpip_at bytes =
    made_at (λ x. opens.ForwardedTcpIp x.0.0 x.0.1 x.1.0 x.1.1) (both_at address_at address_at) bytes

unfoldable pub direct_streamlocal_at : Reader PacketError ServerOpen
direct_streamlocal_at bytes = made_at (λ x. opens.DirectStreamLocal x) words_at bytes

unfoldable pub forwarded_streamlocal_at : Reader PacketError ServerOpen
forwarded_streamlocal_at bytes = made_at (λ x. opens.ForwardedStreamLocal x) words_at bytes

unfoldable pub x11_at : Reader PacketError ServerOpen
x11_at bytes = made_at (λ x. opens.X11 x.0 x.1) address_at bytes

-- the fields of a type; of an unknown type nothing is read
unfoldable pub server_open_at : List ℕ → Reader PacketError ServerOpen
server_open_at kind bytes =
    if bytes_eq kind (codes "session") then no_bytes_at opens.Session bytes
    else (if bytes_eq kind (codes "direct-tcpip") then direct_tcpip_at bytes
    else (if bytes_eq kind (codes "direct-streamlocal@openssh.com") then direct_streamlocal_at bytes
    else (if bytes_eq kind (codes "x11") then x11_at bytes
    else (if bytes_eq kind (codes "forwarded-tcpip") then forwarded_tcpip_at bytes
    else (if bytes_eq kind (codes "forwarded-streamlocal@openssh.com") then forwarded_streamlocal_at bytes
    else (if bytes_eq kind (codes "auth-agent@openssh.com") then no_bytes_at opens.AgentForward bytes
    else no_bytes_at opens.Unknown bytes))))))

unfoldable pub server_open_of : List ℕ → WholeReader PacketError ServerOpen
server_open_of kind bytes = leading_at (server_open_at kind) bytes
