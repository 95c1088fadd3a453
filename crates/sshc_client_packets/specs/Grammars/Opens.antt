-- The peer's opens by their types, after the head; the bytes after the fields are ignored (RFC 4254, sections 6.3.2,
-- 7.1 and 7.2; OpenSSH's PROTOCOL, section 2.4). And for what we write: what the peer would read of it.
use Rattle.std.specs.Prelude.{◌≡◌, ℕ, ◌<◌, ◌^◌, true, List, Ok, Some, codes}
use Rattle.std.specs.Str.{is_utf8}
use Rattle.sshc_wire.specs.Grammar.{InRow, IsWholeGrammar}
use Rattle.sshc_wire.specs.Wire.{IsShort, u32_text}
use Rattle.sshc_wire.specs.declared.channel_record.ServerOpen.{ServerOpen}
use Rattle.sshc_wire.specs.declared.channel_record.ServerOpen.TheVariants as opens
use Rattle.sshc_client_packets.specs.ChannelOpens.{ChannelOpen, Session, X11, DirectTcpIp, DirectStreamLocal, open_fields, open_type}
use Rattle.sshc_client_packets.specs.Parts.{IsNumber, IsText, Leads}
use Rattle.sshc_client_packets.specs.PeerOpens.{server_open_of}
use Rattle.sshc_client_packets.specs.Replies.{forward_port}

abbrev pub IsAddress : List ℕ × ℕ → List ℕ → Type 0
IsAddress a bytes = InRow IsText IsNumber a bytes

abbrev pub IsX11 : ServerOpen → List ℕ → Type 0
IsX11 o bytes = (address : List ℕ) × (port : ℕ) × (opens.X11 address port ≡ o) × IsAddress (address, port) bytes

abbrev pub IsDirectTcpIp : ServerOpen → List ℕ → Type 0
IsDirectTcpIp o bytes =
    (to from : List ℕ × ℕ) × (opens.DirectTcpIp to.0 to.1 from.0 from.1 ≡ o) × InRow IsAddress IsAddress (to, from) bytes

abbrev pub IsForwardedTcpIp : ServerOpen → List ℕ → Type 0
IsForwardedTcpIp o bytes =
    (to from : List ℕ × ℕ) × (opens.ForwardedTcpIp to.0 to.1 from.0 from.1 ≡ o) × InRow IsAddress IsAddress (to, from) bytes

abbrev pub IsDirectStreamLocal : ServerOpen → List ℕ → Type 0
IsDirectStreamLocal o bytes = (path : List ℕ) × (opens.DirectStreamLocal path ≡ o) × IsText path bytes

abbrev pub IsForwardedStreamLocal : ServerOpen → List ℕ → Type 0
IsForwardedStreamLocal o bytes = (path : List ℕ) × (opens.ForwardedStreamLocal path ≡ o) × IsText path bytes

pub record OpensAreRead : Type 0 where
  pub x11 : IsWholeGrammar (Leads IsX11) (server_open_of (codes "x11"))
  pub direct_tcpip : IsWholeGrammar (Leads IsDirectTcpIp) (server_open_of (codes "direct-tcpip"))
  pub forwarded_tcpip : IsWholeGrammar (Leads IsForwardedTcpIp) (server_open_of (codes "forwarded-tcpip"))
  pub direct_streamlocal : IsWholeGrammar (Leads IsDirectStreamLocal) (server_open_of (codes "direct-streamlocal@openssh.com"))
  pub forwarded_streamlocal :
      IsWholeGrammar (Leads IsForwardedStreamLocal) (server_open_of (codes "forwarded-streamlocal@openssh.com"))
  pub session : (bytes : List ℕ) → server_open_of (codes "session") bytes ≡ Ok opens.Session
  pub agent : (bytes : List ℕ) → server_open_of (codes "auth-agent@openssh.com") bytes ≡ Ok opens.AgentForward

-- what a peer is asked to open, as it reads it
abbrev pub opened : ChannelOpen → ServerOpen
opened Session = opens.Session
opened (X11 originator port) = opens.X11 originator port
opened (DirectTcpIp host port originator originator_port) = opens.DirectTcpIp host port originator originator_port
opened (DirectStreamLocal path) = opens.DirectStreamLocal path

abbrev pub IsWords : List ℕ → Type 0
IsWords text = IsShort text × (is_utf8 text ≡ true)

abbrev pub IsU32 : ℕ → Type 0
IsU32 n = n < 2 ^ 32

-- texts and numbers that a packet can hold
abbrev pub OpenFits : ChannelOpen → Type 0
OpenFits Session = Unit {0}
OpenFits (X11 originator port) = IsWords originator × IsU32 port
OpenFits (DirectTcpIp host port originator originator_port) =
    (IsWords host × IsU32 port) × (IsWords originator × IsU32 originator_port)
OpenFits (DirectStreamLocal path) = IsWords path

-- an open that we write is read as the open that was asked for
abbrev pub WrittenOpensAreRead : Type 0
WrittenOpensAreRead =
    (asked : ChannelOpen) → OpenFits asked → server_open_of (open_type asked) (open_fields asked) ≡ Ok (opened asked)

-- a port that the server writes is read
abbrev pub WrittenPortsAreRead : Type 0
WrittenPortsAreRead = (port : ℕ) → port < 2 ^ 32 → forward_port (u32_text port) ≡ Some port
