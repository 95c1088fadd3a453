-- Events as bytes: four bytes of length from 5 to 262144, a byte of kind, and fields to the exact end. Numbers have four
-- bytes; strings and texts have their length in front of them (RFC 4251, section 5).
-- Readings of the whole bytes; the code takes one event at a time from a source.
use Rattle.std.specs.Prelude.{ℕ, ◌||◌, List, [], ◌∷◌, length, take, drop, Result, Ok, Err, nat_lt, ◌==◌, if◌then◌else◌}
use Rattle.std.specs.Int.{w32, from_be_bytes}
use Rattle.sshc_wire.specs.declared.error.WireError.{WireError}
use Rattle.sshc_wire.specs.Format.{part_at}
use Rattle.sshc_wire.specs.Reads.{Reader, ◌>>=◌, number_at, string_at, text_at}
use Rattle.sshc_forward_core.specs.declared.event.FwdEvent.{FwdEvent}
use Rattle.sshc_forward_core.specs.declared.event.FwdEvent.TheVariants.{Accepted, Opened, OpenFailed, Incoming, Bytes, StreamEnd, Data, ChannelEof, ChannelClose, StreamFailed}
use Rattle.sshc_forward_core.specs.declared.error.EventFault.{EventFault}
use Rattle.sshc_forward_core.specs.declared.error.EventFault.TheVariants.{Bad}

abbrev pub as_bad : WireError → EventFault
as_bad e = Bad

-- ---- parts

unfoldable pub u32_at : Reader EventFault ℕ
u32_at bytes = part_at as_bad (number_at w32) bytes

unfoldable pub octets_at : Reader EventFault (List ℕ)
octets_at bytes = part_at as_bad string_at bytes

unfoldable pub words_at : Reader EventFault (List ℕ)
words_at bytes = part_at as_bad text_at bytes

-- nothing is left over
abbrev pub whole : {A : Type 0} → A → List ℕ → Result A EventFault
whole x [] = Ok x
whole x (b ∷ rest) = Err Bad

-- ---- the fields of each kind of event

unfoldable pub one_number : List ℕ → Result ℕ EventFault
one_number bytes = do
  n ← u32_at bytes
  whole n.0 n.1

unfoldable pub two_numbers : List ℕ → Result (ℕ × ℕ) EventFault
two_numbers bytes = do
  n ← u32_at bytes
  m ← u32_at n.1
  whole (n.0, m.0) m.1

unfoldable pub number_and_bytes : List ℕ → Result (ℕ × List ℕ) EventFault
number_and_bytes bytes = do
  n ← u32_at bytes
  string ← octets_at n.1
  whole (n.0, string.0) string.1

unfoldable pub accepted_at : List ℕ → Result FwdEvent EventFault
accepted_at bytes = do
  stream ← u32_at bytes
  host ← words_at stream.1
  port ← u32_at host.1
  originator ← words_at port.1
  originator_port ← u32_at originator.1
  whole (Accepted stream.0 host.0 port.0 originator.0 originator_port.0) originator_port.1

-- an event of one number
abbrev pub of_one : (ℕ → FwdEvent) → List ℕ → Result FwdEvent EventFault
of_one event bytes = do
  n ← one_number bytes
  Ok (event n)

abbrev pub of_two : (ℕ → ℕ → FwdEvent) → List ℕ → Result FwdEvent EventFault
of_two event bytes = do
  n ← two_numbers bytes
  Ok (event n.0 n.1)

abbrev pub of_bytes : (ℕ → List ℕ → FwdEvent) → List ℕ → Result FwdEvent EventFault
of_bytes event bytes = do
  n ← number_and_bytes bytes
  Ok (event n.0 n.1)

-- the event of this kind with these fields
unfoldable pub event_at : ℕ → List ℕ → Result FwdEvent EventFault
event_at kind bytes =
    if kind == 1 then accepted_at bytes
    else (if kind == 2 then of_two Opened bytes
    else (if kind == 3 then of_one OpenFailed bytes
    else (if kind == 4 then of_two Incoming bytes
    else (if kind == 5 then of_bytes Bytes bytes
    else (if kind == 6 then of_one StreamEnd bytes
    else (if kind == 7 then of_bytes Data bytes
    else (if kind == 8 then of_one ChannelEof bytes
    else (if kind == 9 then of_one ChannelClose bytes
    else (if kind == 10 then of_one StreamFailed bytes
    else Err Bad)))))))))

-- the bytes of an event after its length
unfoldable pub body_at : List ℕ → Result FwdEvent EventFault
body_at [] = Err Bad
body_at (kind ∷ fields) = event_at kind fields

-- ---- the front of the bytes

-- the end, no event, or a whole event and the bytes after it
pub data Front : Type 0 where
  Finished : Front
  NoEvent : Front
  Whole : FwdEvent → List ℕ → Front

abbrev pub whole_front : Result FwdEvent EventFault → List ℕ → Front
whole_front (Ok event) rest = Whole event rest
whole_front (Err e) rest = NoEvent

-- the event of this length, which follows the length
unfoldable pub sized_front : ℕ → List ℕ → Front
sized_front n rest =
    if nat_lt n 5 || nat_lt 262144 n || nat_lt (length rest) n then NoEvent
    else whole_front (body_at (take n rest)) (drop n rest)

unfoldable pub front : List ℕ → Front
front [] = Finished
front (a ∷ []) = NoEvent
front (a ∷ b ∷ []) = NoEvent
front (a ∷ b ∷ c ∷ []) = NoEvent
front (a ∷ b ∷ c ∷ d ∷ rest) = sized_front (from_be_bytes w32 (a ∷ b ∷ c ∷ d ∷ [])) rest
