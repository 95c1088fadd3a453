-- Parts of events: which bytes spell each, and how it is read from the front (docs/FORMATS.md, "Events"; RFC 4251,
-- section 5).
-- The spellings are relations on whole lists; the code moves a cursor.
use Rattle.std.specs.Prelude.{◌≡◌, ℕ, ◌<◌, ◌^◌, Bool, true, List, [], ◌∷◌, Option, Some, None, Result, Ok, Err, ◌==◌, if◌then◌else◌}
use Rattle.std.specs.Int.{w32}
use Rattle.std.specs.Str.{is_utf8}
use Rattle.sshc_wire.specs.declared.channel_id.ChannelId.{ChannelId}
use Rattle.sshc_wire.specs.declared.channel_open_failure.ChannelOpenFailure.{ChannelOpenFailure}
use Rattle.sshc_wire.specs.declared.disconnect.Disconnect.{Disconnect}
use Rattle.sshc_wire.specs.declared.error.WireError.{WireError}
use Rattle.sshc_wire.specs.declared.pty.Pty.{Pty}
use Rattle.sshc_wire.specs.declared.ticket.Ticket.{Ticket}
use Rattle.sshc_wire.specs.Format.{part_at, both_at, made_at}
use Rattle.sshc_wire.specs.Grammar.{SpelledAs, InRow, converted_at}
use Rattle.sshc_wire.specs.Counted.{counted_at}
use Rattle.sshc_wire.specs.Reads.{Reader, byte_at, number_at, boolean_at, string_at, text_at}
use Rattle.sshc_wire.specs.Reasons.{disconnect_of, open_failure_of}
use Rattle.sshc_wire.specs.Wire.{IsShort, u32_text, string_text}
use Rattle.sshc_wire.specs.declared.hash_alg.HashAlg.{HashAlg}
use Rattle.sshc_wire.specs.declared.hash_alg.HashAlg.TheVariants.{Sha256, Sha512}
use Rattle.sshc_key.specs.KeyGrammar.{Key}
use Rattle.sshc_key.specs.Nesting.{whole_blob_key}
use Rattle.sshc_key.specs.PairCode.{KeyPair}
use Rattle.sshc_key.specs.PairGrammar.{key_pair, pair_at}
use Rattle.sshc_key.specs.declared.error.Error.{Error as KeyError}
use Rattle.sshc_auth_event.specs.HostKey.{is_plain}
use Rattle.sshc_run_reader.specs.declared.channel_sort.ChannelSort.{ChannelSort}
use Rattle.sshc_run_reader.specs.declared.error.EventError.{EventError}
use Rattle.sshc_run_reader.specs.declared.error.EventError.TheVariants.{Bad}
use Rattle.sshc_run_reader.specs.declared.method_sort.MethodSort.{MethodSort}
use Rattle.sshc_run_reader.specs.ChannelSorts.{channel_sort_numbered}
use Rattle.sshc_run_reader.specs.MethodSorts.{method_sort_numbered}

abbrev pub as_bad : WireError → EventError
as_bad e = Bad

-- the value, or `Bad` if there isn't one
abbrev pub or_bad : {A : Type 0} → Option A → Result A EventError
or_bad None = Err Bad
or_bad (Some x) = Ok x

-- ---- numbers, strings and texts

unfoldable pub u8_at : Reader EventError ℕ
u8_at bytes = part_at as_bad byte_at bytes

unfoldable pub u32_at : Reader EventError ℕ
u32_at bytes = part_at as_bad (number_at w32) bytes

unfoldable pub flag_at : Reader EventError Bool
flag_at bytes = part_at as_bad boolean_at bytes

unfoldable pub octets_at : Reader EventError (List ℕ)
octets_at bytes = part_at as_bad string_at bytes

unfoldable pub words_at : Reader EventError (List ℕ)
words_at bytes = part_at as_bad text_at bytes

abbrev pub IsU8 : ℕ → List ℕ → Type 0
IsU8 n bytes = SpelledAs (λ b. b ∷ []) (λ b. b < 256) n bytes

abbrev pub IsU32 : ℕ → List ℕ → Type 0
IsU32 n bytes = SpelledAs u32_text (λ m. m < 2 ^ 32) n bytes

abbrev pub IsString : List ℕ → List ℕ → Type 0
IsString s bytes = SpelledAs string_text IsShort s bytes

abbrev pub IsText : List ℕ → List ℕ → Type 0
IsText t bytes = SpelledAs string_text (λ s. IsShort s × (is_utf8 s ≡ true)) t bytes

unfoldable pub ticket_at : Reader EventError Ticket
ticket_at bytes = made_at (λ n. record { 0 = n }) u32_at bytes

abbrev pub IsTicket : Ticket → List ℕ → Type 0
IsTicket t bytes = IsU32 t.0 bytes

unfoldable pub channel_at : Reader EventError ChannelId
channel_at bytes = made_at (λ n. record { 0 = n }) u32_at bytes

abbrev pub IsChannel : ChannelId → List ℕ → Type 0
IsChannel id bytes = IsU32 id.0 bytes

-- ---- lists: a count, and so many of them

unfoldable pub strings_at : Reader EventError (List (List ℕ))
strings_at bytes = counted_at 4 Bad u32_at octets_at bytes

unfoldable pub texts_at : Reader EventError (List (List ℕ))
texts_at bytes = counted_at 4 Bad u32_at words_at bytes

unfoldable pub mode_at : Reader EventError (Pty × ℕ)
mode_at bytes = made_at (λ x. (record { 0 = x.0 }, x.1)) (both_at u8_at u32_at) bytes

unfoldable pub modes_at : Reader EventError (List (Pty × ℕ))
modes_at bytes = counted_at 5 Bad u32_at mode_at bytes

abbrev pub IsMode : Pty × ℕ → List ℕ → Type 0
IsMode m bytes = InRow IsU8 IsU32 (m.0.0, m.1) bytes

-- ---- what a number or a string represents

-- 0 for no hash, 1 for SHA-256, 2 for SHA-512
abbrev pub hash_numbered : ℕ → Result (Option HashAlg) EventError
hash_numbered n = if n == 0 then Ok None else (if n == 1 then Ok (Some Sha256) else (if n == 2 then Ok (Some Sha512) else Err Bad))

unfoldable pub hash_at : Reader EventError (Option HashAlg)
hash_at bytes = converted_at hash_numbered u8_at bytes

abbrev pub reason_numbered : ℕ → Result Disconnect EventError
reason_numbered n = or_bad (disconnect_of n)

unfoldable pub reason_at : Reader EventError Disconnect
reason_at bytes = converted_at reason_numbered u32_at bytes

abbrev pub failure_numbered : ℕ → Result ChannelOpenFailure EventError
failure_numbered n = or_bad (open_failure_of n)

unfoldable pub failure_at : Reader EventError ChannelOpenFailure
failure_at bytes = converted_at failure_numbered u32_at bytes

abbrev pub method_sorted : ℕ → Result MethodSort EventError
method_sorted n = or_bad (method_sort_numbered n)

unfoldable pub method_sort_at : Reader EventError MethodSort
method_sort_at bytes = converted_at method_sorted u8_at bytes

abbrev pub channel_sorted : ℕ → Result ChannelSort EventError
channel_sorted n = or_bad (channel_sort_numbered n)

unfoldable pub channel_sort_at : Reader EventError ChannelSort
channel_sort_at bytes = converted_at channel_sorted u8_at bytes

-- an empty string means that there is no token
abbrev pub token_of : List ℕ → Result (Option (List ℕ)) EventError
token_of [] = Ok None
token_of (b ∷ bytes) = Ok (Some (b ∷ bytes))

unfoldable pub token_at : Reader EventError (Option (List ℕ))
token_at bytes = converted_at token_of octets_at bytes

-- ---- keys: a string that holds one blob and nothing after it

abbrev pub plain_of : Option Key → Result (Key × List ℕ) EventError
plain_of None = Err Bad
plain_of (Some k) = if is_plain k then Ok (k, []) else Err Bad

abbrev pub plain_key : List ℕ → Result (Key × List ℕ) EventError
plain_key blob = plain_of (whole_blob_key blob)

unfoldable pub key_at : Reader EventError (Key × List ℕ)
key_at bytes = converted_at plain_key octets_at bytes

abbrev pub certificate_of : Option Key → Result Key EventError
certificate_of None = Err Bad
certificate_of (Some k) = if is_plain k then Err Bad else Ok k

abbrev pub whole_certificate : List ℕ → Result Key EventError
whole_certificate blob = certificate_of (whole_blob_key blob)

unfoldable pub certificate_at : Reader EventError Key
certificate_at bytes = converted_at whole_certificate octets_at bytes

abbrev pub only_pair : Result (KeyPair × List ℕ) KeyError → Result KeyPair EventError
only_pair (Ok (pair, [])) = Ok pair
only_pair (Ok (pair, (b ∷ rest))) = Err Bad
only_pair (Err e) = Err Bad

abbrev pub whole_pair : List ℕ → Result KeyPair EventError
whole_pair blob = only_pair (made_at key_pair pair_at blob)

unfoldable pub pair_field_at : Reader EventError KeyPair
pair_field_at bytes = converted_at whole_pair octets_at bytes

unfoldable pub keys_at : Reader EventError (List (Key × List ℕ))
keys_at bytes = counted_at 4 Bad u32_at key_at bytes
