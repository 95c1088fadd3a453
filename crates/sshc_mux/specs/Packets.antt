-- The packets that a channel writes, and their bytes (RFC 4254, sections 5.2 and 5.3).
-- A packet is described by what it carries; its channel adds the recipient.
use Rattle.std.specs.Prelude.{ℕ, List, [], ◌∷◌, ◌++◌}
use Rattle.sshc_wire.specs.Outgoing.{Outgoing, shown}
use Rattle.sshc_wire.specs.Wire.{u32_text, string_text}
use Rattle.sshc_wire.specs.declared.record.Record.{Record}
use Rattle.sshc_wire.specs.declared.record.Record.TheVariants.{Payload}
use Rattle.sshc_mux.specs.declared.chunk.Stream.{Stream}
use Rattle.sshc_mux.specs.declared.chunk.Stream.TheVariants as Streams
use Rattle.sshc_wire.specs.MessageNumbers.{CHANNEL_WINDOW_ADJUST, CHANNEL_DATA, CHANNEL_EXTENDED_DATA, CHANNEL_EOF, CHANNEL_CLOSE}

pub data Packet : Type 0 where
  Piece : (stream : Stream) → (bytes : List ℕ) → Packet
  Eof : Packet
  Close : Packet
  Adjust : (amount : ℕ) → Packet

-- the number and the recipient of data, with the code of extended data
abbrev pub piece_text : ℕ → Stream → List ℕ → List ℕ
piece_text recipient Streams.Data bytes = CHANNEL_DATA ∷ u32_text recipient ++ string_text bytes
piece_text recipient (Streams.Extended code) bytes =
    CHANNEL_EXTENDED_DATA ∷ u32_text recipient ++ u32_text code ++ string_text bytes

abbrev pub packet_text : ℕ → Packet → List ℕ
packet_text recipient (Piece stream bytes) = piece_text recipient stream bytes
packet_text recipient Eof = CHANNEL_EOF ∷ u32_text recipient
packet_text recipient Close = CHANNEL_CLOSE ∷ u32_text recipient
packet_text recipient (Adjust amount) = CHANNEL_WINDOW_ADJUST ∷ u32_text recipient ++ u32_text amount

-- the records for the transport
abbrev pub payloads : ℕ → List Packet → List Record
payloads recipient [] = []
payloads recipient (p ∷ ps) = Payload (packet_text recipient p) ∷ payloads recipient ps

-- an outbox after these records were added
unfoldable pub adding : Outgoing → List Record → Outgoing
adding o records = record { records = o.records ++ shown o.muted records; muted = o.muted }
