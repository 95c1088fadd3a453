-- What happens on a channel is told by its record's text.
use Rattle.std.proofs.Common.{◌≡◌, ℕ, ◌<◌, ◌^◌, Bool, List, [], ◌++◌, Ok, refl, ap, ◌∙◌, append_assoc}
use Rattle.sshc_wire.specs.CountedLaws.{boolean-again}
use Rattle.sshc_wire.specs.PartsLaws.{number32, strings}
use Rattle.sshc_wire.specs.Reasons.{open_failure_code}
use Rattle.sshc_wire.specs.Records.{channel_text}
use Rattle.sshc_wire.specs.Signals.{signal_name, signal_of}
use Rattle.sshc_wire.specs.Wire.{IsShort, bool_text, string_text, u32_text}
use Rattle.sshc_wire.specs.declared.channel_id.ChannelId.{ChannelId}
use Rattle.sshc_wire.specs.declared.channel_open_failure.ChannelOpenFailure.{ChannelOpenFailure}
use Rattle.sshc_wire.specs.declared.signal.Sig.{Sig}
use Rattle.sshc_wire.specs.declared.channel_record.ChannelRecord.{ChannelRecord}
use Rattle.sshc_wire.specs.declared.channel_record.ChannelRecord.TheVariants as channels
use Rattle.sshc_wire.specs.declared.record.Record.{Record}
use Rattle.sshc_wire.specs.declared.record.Record.TheVariants.{Channel}
use Rattle.sshc_wire.specs.Fitting.{FitsChannel}
use Rattle.sshc_wire.specs.RecordReads.{confirmed_at, exit_signal_at, extended_data_at, happened_at, happened_by, open_failure_at, signal_at}
use Rattle.sshc_wire.specs.Telling.{IsTold, made_of, record_of}
use Rattle.sshc_wire.proofs.TellingParts.{again_reason, last_flag, last_number, last_string}

-- the record's number
number_of : ChannelRecord → ℕ
number_of (channels.Open packet window) = 0x22
number_of channels.Success = 0x23
number_of channels.Failure = 0x24
number_of channels.Close = 0x25
number_of channels.Eof = 0x26
number_of (channels.OpenFailure reason description language) = 0x27
number_of (channels.Data body) = 0x29
number_of (channels.ExtendedData ext body) = 0x2a
number_of (channels.XonXoff can_do) = 0x2b
number_of (channels.ExitStatus status) = 0x2c
number_of (channels.ExitSignal signal dumped message language) = 0x2d
number_of (channels.WindowAdjusted size) = 0x2e

-- the fields after the channel's number
fields_of : ChannelRecord → List ℕ
fields_of (channels.Open packet window) = u32_text packet ++ u32_text window
fields_of (channels.OpenFailure reason description language) = u32_text (open_failure_code reason) ++ (string_text description ++ string_text language)
fields_of (channels.Data body) = string_text body
fields_of (channels.ExtendedData ext body) = u32_text ext ++ string_text body
fields_of (channels.XonXoff can_do) = bool_text can_do
fields_of (channels.ExitStatus status) = u32_text status
fields_of (channels.ExitSignal signal dumped message language) = string_text (signal_name signal) ++ (bool_text dumped ++ (string_text message ++ string_text language))
fields_of (channels.WindowAdjusted size) = u32_text size
fields_of happened = []

made : ℕ → List ℕ → Record
made number body = made_of (λ h. Channel h.0 h.1) (happened_at number body)

split : (n : ℕ) (x : ChannelRecord) → record_of (channel_text n x) ≡ made (number_of x) (u32_text n ++ fields_of x)
unfolding record_of channel_text u32_text number_of fields_of made bool_text
split n (channels.Open packet window) = refl
split n channels.Success = refl
split n channels.Failure = refl
split n channels.Close = refl
split n channels.Eof = refl
split n (channels.OpenFailure reason description language) = refl
split n (channels.Data body) = refl
split n (channels.ExtendedData ext body) = refl
split n (channels.XonXoff can_do) = refl
split n (channels.ExitStatus status) = refl
split n (channels.ExitSignal signal dumped message language) =
    ap (λ (b : List ℕ). made 0x2d (u32_text n ++ b)) (append_assoc (string_text (signal_name signal) ++ bool_text dumped) (string_text message) (string_text language) ∙ append_assoc (string_text (signal_name signal)) (bool_text dumped) (string_text message ++ string_text language))
split n (channels.WindowAdjusted size) = refl

again_signal : (s : Sig) (rest : List ℕ) → signal_of (signal_name s) ≡ s → IsShort (signal_name s) → signal_at (string_text (signal_name s) ++ rest) ≡ Ok (s, rest)
unfolding signal_at
again_signal s rest itself short = rw (strings.again (signal_name s) rest short) (ap (λ (g : Sig). Ok (g, rest)) itself)

exit_signal : (s : Sig) (d : Bool) (m l : List ℕ) → signal_of (signal_name s) ≡ s → IsShort (signal_name s) → IsShort m → IsShort l
    → happened_by 0x2d (string_text (signal_name s) ++ (bool_text d ++ (string_text m ++ string_text l))) ≡ Ok (channels.ExitSignal s d m l, [])
unfolding exit_signal_at
exit_signal s d m l itself short_s short_m short_l =
    rw (again_signal s (bool_text d ++ (string_text m ++ string_text l)) itself short_s, boolean-again d (string_text m ++ string_text l), strings.again m (string_text l) short_m, last_string l short_l) refl

open_failure : (r : ChannelOpenFailure) (d l : List ℕ) → IsShort d → IsShort l
    → happened_by 0x27 (u32_text (open_failure_code r) ++ (string_text d ++ string_text l)) ≡ Ok (channels.OpenFailure r d l, [])
unfolding open_failure_at
open_failure r d l short_d short_l = rw (again_reason r (string_text d ++ string_text l), strings.again d (string_text l) short_d, last_string l short_l) refl

fields_told : (x : ChannelRecord) → FitsChannel x → happened_by (number_of x) (fields_of x) ≡ Ok (x, [])
unfolding number_of fields_of confirmed_at extended_data_at
fields_told (channels.Open packet window) fits = rw (number32.again packet (u32_text window) fits.0, last_number window fits.1) refl
fields_told channels.Success fits = refl
fields_told channels.Failure fits = refl
fields_told channels.Close fits = refl
fields_told channels.Eof fits = refl
fields_told (channels.OpenFailure reason description language) fits = open_failure reason description language fits.0 fits.1
fields_told (channels.Data body) fits = rw (last_string body fits) refl
fields_told (channels.ExtendedData ext body) fits = rw (number32.again ext (string_text body) fits.0, last_string body fits.1) refl
fields_told (channels.XonXoff can_do) fits = rw (last_flag can_do) refl
fields_told (channels.ExitStatus status) fits = rw (last_number status fits) refl
fields_told (channels.ExitSignal signal dumped message language) fits = exit_signal signal dumped message language fits.0 fits.1 fits.2 fits.3
fields_told (channels.WindowAdjusted size) fits = rw (last_number size fits) refl

after_number : (id : ChannelId) (number : ℕ) (fields : List ℕ) (x : ChannelRecord) → id.0 < 2 ^ 32 → happened_by number fields ≡ Ok (x, []) → made number (u32_text id.0 ++ fields) ≡ Channel id x
unfolding happened_at made
after_number id number fields x small is = rw (number32.again id.0 fields small, is) refl

pub channel_told : (id : ChannelId) (x : ChannelRecord) → id.0 < 2 ^ 32 → FitsChannel x → IsTold (Channel id x)
channel_told id x small fits = split id.0 x ∙ after_number id (number_of x) (fields_of x) x small (fields_told x fits)
