-- The peer's packets on a channel, read from left to right (RFC 4254, sections 5.1 to 5.4): 91 to 97, 99 and 100, and
-- the head of 98. Functions of the whole bytes after the packet's number; the code moves a cursor.
use Rattle.std.specs.Prelude.{ℕ, List, Option, Some, None, Ok}
use Rattle.std.specs.Int.{w32}
use Rattle.sshc_wire.specs.Format.{both_at, made_at}
use Rattle.sshc_wire.specs.Grammar.{finished_at}
use Rattle.sshc_wire.specs.Reads.{Reader, ◌>>=◌, number_at, string_at, text_at}
use Rattle.sshc_wire.specs.Reasons.{open_failure_of}
use Rattle.sshc_wire.specs.Whole.{WholeReader}
use Rattle.sshc_wire.specs.declared.channel_id.ChannelId.{ChannelId}
use Rattle.sshc_wire.specs.declared.channel_open_failure.ChannelOpenFailure.{ChannelOpenFailure}
use Rattle.sshc_wire.specs.declared.channel_open_failure.ChannelOpenFailure.TheVariants.{AdministrativelyProhibited}
use Rattle.sshc_wire.specs.declared.error.WireError.{WireError}
use Rattle.sshc_wire.specs.declared.error.WireError.TheVariants.{Trailing}
use Rattle.sshc_client_packets.specs.declared.channel_open.Confirmation.{Confirmation}
use Rattle.sshc_client_packets.specs.declared.channel_open.Sender.{Sender}
use Rattle.sshc_client_packets.specs.declared.channel_packets.ExtendedData.{ExtendedData as LentExtendedData}
use Rattle.sshc_client_packets.specs.declared.channel_packets.Data.{Data as LentData}
use Rattle.sshc_client_packets.specs.declared.channel_packets.OpenRefusal.{OpenRefusal as LentRefusal}
use Rattle.sshc_client_packets.specs.declared.channel_packets.RequestHead.{RequestHead as LentHead}
use Rattle.sshc_client_packets.specs.declared.channel_packets.WindowAdjust.{WindowAdjust}

unfoldable pub channel_at : Reader WireError ChannelId
channel_at bytes = made_at (λ n. record { 0 = n }) (number_at w32) bytes

-- 96, 97, 99 and 100: the channel's number, end
unfoldable pub channel_of : WholeReader WireError ChannelId
channel_of bytes = finished_at Trailing channel_at bytes

unfoldable pub sender_at : Reader WireError Sender
sender_at bytes =
    made_at (λ x. record { channel = x.0; window_size = x.1.0; max_packet_size = x.1.1 })
    (both_at (number_at w32) (both_at (number_at w32) (number_at w32))) bytes

-- 91: our number, the peer's side, end
unfoldable pub confirmation_of : WholeReader WireError Confirmation
confirmation_of bytes =
    finished_at Trailing (made_at (λ x. record { recipient = x.0; sender = x.1 }) (both_at (number_at w32) sender_at)) bytes

-- 92: an open of ours is refused
pub record Refusal : Type 0 where
  pub id : ChannelId
  pub reason : ChannelOpenFailure
  pub description : List ℕ
  pub language : List ℕ

abbrev pub lent_refusal : LentRefusal → Refusal
lent_refusal r = record { id = r.id; reason = r.reason; description = r.description.now; language = r.language.now }

-- an unknown reason counts as 1
abbrev pub known_reason : Option ChannelOpenFailure → ChannelOpenFailure
known_reason None = AdministrativelyProhibited
known_reason (Some reason) = reason

abbrev pub reason_of : ℕ → ChannelOpenFailure
reason_of code = known_reason (open_failure_of code)

-- our number, the reason, a text, its language, end
unfoldable pub refusal_of : WholeReader WireError Refusal
refusal_of bytes =
    finished_at Trailing
    (made_at (λ x. record { id = x.0; reason = reason_of x.1.0; description = x.1.1.0; language = x.1.1.1 })
    (both_at channel_at (both_at (number_at w32) (both_at text_at text_at)))) bytes

-- 93: our number, how many more bytes the peer takes, end
unfoldable pub window_adjust_of : WholeReader WireError WindowAdjust
window_adjust_of bytes =
    finished_at Trailing (made_at (λ x. record { id = x.0; bytes_to_add = x.1 }) (both_at channel_at (number_at w32))) bytes

-- 94: our number, the bytes, end
pub record Data : Type 0 where
  pub id : ChannelId
  pub body : List ℕ

abbrev pub lent_data : LentData → Data
lent_data d = record { id = d.id; body = d.body.now }

unfoldable pub data_of : WholeReader WireError Data
data_of bytes =
    finished_at Trailing (made_at (λ x. record { id = x.0; body = x.1 }) (both_at channel_at string_at)) bytes

-- 95: our number, the bytes' type, the bytes, end
pub record ExtendedData : Type 0 where
  pub id : ChannelId
  pub ext : ℕ
  pub body : List ℕ

abbrev pub lent_extended_data : LentExtendedData → ExtendedData
lent_extended_data d = record { id = d.id; ext = d.ext; body = d.body.now }

unfoldable pub extended_data_of : WholeReader WireError ExtendedData
extended_data_of bytes =
    finished_at Trailing
    (made_at (λ x. record { id = x.0; ext = x.1.0; body = x.1.1 }) (both_at channel_at (both_at (number_at w32) string_at))) bytes

-- 98: our number and the request's name; the rest is read by the name
pub record RequestHead : Type 0 where
  pub id : ChannelId
  pub name : List ℕ
  pub rest : List ℕ

abbrev pub lent_head : LentHead → RequestHead
lent_head h = record { id = h.id; name = h.name.now; rest = h.rest.now }

abbrev pub as_head : (ChannelId × List ℕ) × List ℕ → RequestHead
as_head read = record { id = read.0.0; name = read.0.1; rest = read.1 }

unfoldable pub request_head_of : WholeReader WireError RequestHead
request_head_of bytes = both_at channel_at text_at bytes >>= λ read. Ok (as_head read)
