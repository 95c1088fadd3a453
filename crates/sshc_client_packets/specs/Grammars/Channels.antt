-- The peer's packets on a channel after their numbers: 91 to 97, 99 and 100 (RFC 4254, sections 5.1 to 5.4).
use Rattle.std.specs.Prelude.{◌≡◌, ℕ, List}
use Rattle.sshc_wire.specs.Grammar.{InRow, IsWholeGrammar}
use Rattle.sshc_wire.specs.declared.channel_id.ChannelId.{ChannelId}
use Rattle.sshc_client_packets.specs.declared.channel_open.Confirmation.{Confirmation}
use Rattle.sshc_client_packets.specs.declared.channel_open.Sender.{Sender}
use Rattle.sshc_client_packets.specs.declared.channel_packets.WindowAdjust.{WindowAdjust}
use Rattle.sshc_client_packets.specs.ChannelPackets.{Data, ExtendedData, Refusal, channel_of, confirmation_of, data_of, extended_data_of, reason_of, refusal_of, window_adjust_of}
use Rattle.sshc_client_packets.specs.Parts.{IsNumber, IsString, IsText}

-- a channel's number
abbrev pub IsChannel : ChannelId → List ℕ → Type 0
IsChannel id bytes = IsNumber id.0 bytes

-- number, window, packet size
abbrev pub IsSender : Sender → List ℕ → Type 0
IsSender s bytes = InRow IsNumber (InRow IsNumber IsNumber) (s.channel, (s.window_size, s.max_packet_size)) bytes

abbrev pub IsConfirmation : Confirmation → List ℕ → Type 0
IsConfirmation c bytes = InRow IsNumber IsSender (c.recipient, c.sender) bytes

-- the code is any that counts as the reason
abbrev pub IsRefusal : Refusal → List ℕ → Type 0
IsRefusal r bytes =
    (code : ℕ) × (reason_of code ≡ r.reason)
    × InRow IsChannel (InRow IsNumber (InRow IsText IsText)) (r.id, (code, (r.description, r.language))) bytes

abbrev pub IsWindowAdjust : WindowAdjust → List ℕ → Type 0
IsWindowAdjust a bytes = InRow IsChannel IsNumber (a.id, a.bytes_to_add) bytes

abbrev pub IsData : Data → List ℕ → Type 0
IsData d bytes = InRow IsChannel IsString (d.id, d.body) bytes

abbrev pub IsExtendedData : ExtendedData → List ℕ → Type 0
IsExtendedData d bytes = InRow IsChannel (InRow IsNumber IsString) (d.id, (d.ext, d.body)) bytes

pub record ChannelPacketsAreRead : Type 0 where
  pub channel : IsWholeGrammar IsChannel channel_of
  pub confirmation : IsWholeGrammar IsConfirmation confirmation_of
  pub refusal : IsWholeGrammar IsRefusal refusal_of
  pub window_adjust : IsWholeGrammar IsWindowAdjust window_adjust_of
  pub data_bytes : IsWholeGrammar IsData data_of
  pub extended_data : IsWholeGrammar IsExtendedData extended_data_of
