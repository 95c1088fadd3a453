-- A script as it is made, one event after the other.
use Rattle.std.specs.Prelude.{ℕ, ◌+◌, List, [], ◌∷◌, ◌++◌, length}
use Rattle.sshc_wire.specs.Wire.{u32_text, u64_text}

-- an event: its moment in milliseconds, the number of its kind, and its fields
pub record Timed : Type 0 where
  pub moment : ℕ
  pub kind : ℕ
  pub fields : List ℕ

abbrev pub timed : ℕ → ℕ → List ℕ → Timed
timed moment kind fields = record { moment = moment; kind = kind; fields = fields }

-- the length of what follows, the moment, the kind, the fields
unfoldable pub event_text : Timed → List ℕ
event_text e = u32_text (9 + length e.fields) ++ u64_text e.moment ++ e.kind ∷ e.fields

-- a script, and how many events it has
pub record Script : Type 0 where
  pub text : List ℕ
  pub events : ℕ

abbrev pub no_events : Script
no_events = record { text = []; events = 0 }

abbrev pub with_event : Timed → Script → Script
with_event e s = record { text = s.text ++ event_text e; events = s.events + 1 }

-- with these events after it, in their order
abbrev pub with_events : List Timed → Script → Script
with_events [] s = s
with_events (e ∷ events) s = with_events events (with_event e s)
