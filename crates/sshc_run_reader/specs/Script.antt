-- The script grammar: events one after another, each a length, a moment, a kind and fields.
-- Readings of the whole text; the code takes one event at a time.
use Rattle.std.specs.Prelude.{ℕ, zero, suc, ◌+◌, ◌||◌, List, [], ◌∷◌, length, take, drop, Option, Some, None, Result, Ok, Err, nat_lt, if◌then◌else◌}
use Rattle.std.specs.Int.{w32, w64, from_be_bytes}
use Rattle.sshc_wire.specs.Reads.{◌>>=◌, byte_at, number_at}
use Rattle.sshc_wire.specs.Format.{part_at}
use Rattle.sshc_run_reader.specs.declared.error.EventError.{EventError}
use Rattle.sshc_run_reader.specs.declared.error.EventError.TheVariants as reads
use Rattle.sshc_run_reader.specs.declared.event_kind.EventKind.{EventKind}
use Rattle.sshc_run_reader.specs.EventKinds.{kind_numbered}
use Rattle.sshc_run_reader.specs.EventParts.{as_bad}

-- an event before its fields are read: the place of its length, its moment in milliseconds, its kind and the fields'
-- bytes
pub record Frame : Type 0 where
  pub place : ℕ
  pub moment : ℕ
  pub kind : EventKind
  pub fields : List ℕ

-- ---- one event

-- a moment, a kind and the fields' bytes
abbrev pub Head : Type 0
Head = ℕ × (EventKind × List ℕ)

-- a moment that isn't below the last, and a kind of the table
abbrev pub head_of : ℕ → ℕ → Option EventKind → List ℕ → Result Head EventError
head_of last moment None fields = Err reads.Bad
head_of last moment (Some kind) fields = if nat_lt moment last then Err reads.Bad else Ok (moment, (kind, fields))

-- the bytes of an event after its length
unfoldable pub head_at : ℕ → List ℕ → Result Head EventError
head_at last body = do
  moment ← part_at as_bad (number_at w64) body
  number ← part_at as_bad byte_at moment.1
  head_of last moment.0 (kind_numbered number.0) number.1

-- the end, no event, or a whole event and the bytes after it
pub data Front : Type 0 where
  End : Front
  Bad : Front
  Whole : Head → List ℕ → Front

abbrev pub whole_front : Result Head EventError → List ℕ → Front
whole_front (Ok head) rest = Whole head rest
whole_front (Err e) rest = Bad

-- the event of this length, 9 to 262144 bytes, which follows the length
unfoldable pub sized_front : ℕ → ℕ → List ℕ → Front
sized_front last n rest =
    if nat_lt n 9 || nat_lt 262144 n || nat_lt (length rest) n then Bad
    else whole_front (head_at last (take n rest)) (drop n rest)

-- the front of a script, if the event before had the moment `last`
unfoldable pub front : ℕ → List ℕ → Front
front last [] = End
front last (a ∷ []) = Bad
front last (a ∷ b ∷ []) = Bad
front last (a ∷ b ∷ c ∷ []) = Bad
front last (a ∷ b ∷ c ∷ d ∷ rest) = sized_front last (from_be_bytes w32 (a ∷ b ∷ c ∷ d ∷ [])) rest

-- ---- the whole script

-- how many bytes an event takes: 4 of length, 8 of moment, 1 of kind, and its fields
abbrev pub size_of : Head → ℕ
size_of head = 13 + length head.1.1

abbrev pub frame_at : ℕ → Head → Frame
frame_at place head = record { place = place; moment = head.0; kind = head.1.0; fields = head.1.1 }

-- at most so many events of the longest front that is made of whole events, from a place and a moment
unfoldable pub events : ℕ → ℕ → ℕ → List ℕ → List Frame
events zero place last bytes = []
events (suc n) place last bytes = elim (front last bytes) [
  | End ↦ []
  | Bad ↦ []
  | Whole head rest ↦ frame_at place head ∷ events n (place + size_of head) head.0 rest
]

-- what follows these events: the end of the script, bytes at a place that are no event, or more bytes although as many
-- events were taken as allowed
pub data ScriptStop : Type 0 where
  whole : ScriptStop
  bad : ℕ → ScriptStop
  more : ScriptStop

abbrev pub stop_at_most : List ℕ → ScriptStop
stop_at_most [] = whole
stop_at_most (b ∷ rest) = more

unfoldable pub stop : ℕ → ℕ → ℕ → List ℕ → ScriptStop
stop zero place last bytes = stop_at_most bytes
stop (suc n) place last bytes = elim (front last bytes) [
  | End ↦ whole
  | Bad ↦ bad place
  | Whole head rest ↦ stop n (place + size_of head) head.0 rest
]

-- the first events of a script, and what follows them
abbrev pub taken : ℕ → List ℕ → List Frame
taken max script = events max 0 0 script

abbrev pub stop_of : ℕ → List ℕ → ScriptStop
stop_of max script = stop max 0 0 script
