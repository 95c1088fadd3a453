-- Opens of channels and their answers (RFC 4254, sections 5.1, 6.1, 6.3.2 and 7.2; OpenSSH's PROTOCOL, section 2.4).
-- Plain concatenations by cases; the code writes them part by part.
use Rattle.std.specs.Prelude.{ℕ, List, [], ◌∷◌, ◌++◌, codes}
use Rattle.sshc_wire.specs.Wire.{string_text, u32_text}
use Rattle.sshc_wire.specs.Reasons.{open_failure_code, open_failure_description}
use Rattle.sshc_wire.specs.declared.channel_open_failure.ChannelOpenFailure.{ChannelOpenFailure}
use Rattle.sshc_wire.specs.MessageNumbers.{CHANNEL_OPEN, CHANNEL_OPEN_CONFIRMATION, CHANNEL_OPEN_FAILURE}
use Rattle.sshc_client_packets.specs.declared.channel_open.ChannelOpen.{ChannelOpen as Lent}
use Rattle.sshc_client_packets.specs.declared.channel_open.ChannelOpen.TheVariants as lent
use Rattle.sshc_client_packets.specs.declared.channel_open.Sender.{Sender}
use Rattle.sshc_client_packets.specs.declared.channel_open.Confirmation.{Confirmation}

-- an open of ours, by its type
pub data ChannelOpen : Type 0 where
  Session : ChannelOpen
  X11 : (originator : List ℕ) → (originator_port : ℕ) → ChannelOpen
  DirectTcpIp : (host : List ℕ) → (port : ℕ) → (originator : List ℕ) → (originator_port : ℕ) → ChannelOpen
  DirectStreamLocal : (path : List ℕ) → ChannelOpen

-- the open that a call borrows
abbrev pub channel_open : Lent → ChannelOpen
channel_open lent.Session = Session
channel_open (lent.X11 originator port) = X11 originator.now port
channel_open (lent.DirectTcpIp host port originator originator_port) =
    DirectTcpIp host.now port originator.now originator_port
channel_open (lent.DirectStreamLocal path) = DirectStreamLocal path.now

abbrev pub open_type : ChannelOpen → List ℕ
open_type Session = codes "session"
open_type (X11 originator port) = codes "x11"
open_type (DirectTcpIp host port originator originator_port) = codes "direct-tcpip"
open_type (DirectStreamLocal path) = codes "direct-streamlocal@openssh.com"

-- a path is followed by an empty string and a number, which are reserved
abbrev pub open_fields : ChannelOpen → List ℕ
open_fields Session = []
open_fields (X11 originator port) = string_text originator ++ u32_text port
open_fields (DirectTcpIp host port originator originator_port) =
    string_text host ++ u32_text port ++ string_text originator ++ u32_text originator_port
open_fields (DirectStreamLocal path) = string_text path ++ string_text [] ++ u32_text 0

-- the sender's number of the channel, its initial window and its maximum packet size
abbrev pub sender_text : Sender → List ℕ
sender_text sender = u32_text sender.channel ++ u32_text sender.window_size ++ u32_text sender.max_packet_size

-- 90, CHANNEL_OPEN: the type, the sender's numbers, the type's fields
unfoldable pub channel_open_text : ChannelOpen → Sender → List ℕ
channel_open_text asked sender = CHANNEL_OPEN ∷ string_text (open_type asked) ++ sender_text sender ++ open_fields asked

abbrev pub confirmation_fields : Confirmation → List ℕ
confirmation_fields c = u32_text c.recipient ++ sender_text c.sender

-- 91, CHANNEL_OPEN_CONFIRMATION: the recipient's number, the sender's numbers
unfoldable pub confirmation_text : Confirmation → List ℕ
confirmation_text c = CHANNEL_OPEN_CONFIRMATION ∷ confirmation_fields c

-- 92, CHANNEL_OPEN_FAILURE: the recipient's number, the reason with its text, the language
unfoldable pub open_failure_text : ℕ → ChannelOpenFailure → List ℕ
open_failure_text recipient reason =
    CHANNEL_OPEN_FAILURE ∷ u32_text recipient ++ u32_text (open_failure_code reason)
    ++ string_text (open_failure_description reason) ++ string_text (codes "en")
