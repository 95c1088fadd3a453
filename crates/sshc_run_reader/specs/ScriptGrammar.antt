-- The script grammar on the whole text: a script's text is its events' texts, one after another (docs/FORMATS.md,
-- "Events").
-- No definition here reads. How a script is read from its front (sshc_run_reader, specs/Script) is defined apart from it; a
-- law joins the two.
use Rattle.std.specs.Prelude.{◌≡◌, ℕ, ◌+◌, ◌<◌, ◌≤◌, ◌^◌, List, [], ◌∷◌, ◌++◌, length, Ok}
use Rattle.sshc_wire.specs.Wire.{u32_text, u64_text}
use Rattle.sshc_auth_event.specs.declared.event.Event.{Event}
use Rattle.sshc_run_reader.specs.declared.event_kind.EventKind.{EventKind}
use Rattle.sshc_run_reader.specs.EventFields.{IsFields, kind_of}
use Rattle.sshc_run_reader.specs.EventKinds.{kind_number}
use Rattle.sshc_run_reader.specs.EventReading.{event_of}
use Rattle.sshc_run_reader.specs.Script.{Frame, ScriptStop, whole, bad, more, Whole, front}

-- ---- texts

-- an event: the length of what follows it, the moment, the kind's number and the fields
unfoldable pub event_text : ℕ → EventKind → List ℕ → List ℕ
event_text moment kind fields = u32_text (9 + length fields) ++ (u64_text moment ++ (kind_number kind ∷ fields))

abbrev pub frame_text : Frame → List ℕ
frame_text f = event_text f.moment f.kind f.fields

-- the events' texts, one after another
abbrev pub script_text : List Frame → List ℕ
script_text [] = []
script_text (f ∷ frames) = frame_text f ++ script_text frames

-- the text of a session's event at a moment: its kind, and its fields as the grammar spells them
abbrev pub IsEventText : ℕ → Event → List ℕ → Type 0
IsEventText moment e bytes = (fields : List ℕ) × IsFields e fields × (bytes ≡ event_text moment (kind_of e) fields)

-- ---- events one after another

-- an event of 9 to 262144 bytes after its length, at a place, whose moment is a u64 and not below the last
pub record IsNext (place last : ℕ) (f : Frame) : Type 0 where
  pub at : f.place ≡ place
  pub later : last ≤ f.moment
  pub moment : f.moment < 2 ^ 64
  pub size : 9 + length f.fields ≤ 262144

-- events one after another, from a place and a moment on
abbrev pub AreInRow : ℕ → ℕ → List Frame → Type 0
AreInRow place last [] = Unit {0}
AreInRow place last (f ∷ frames) = IsNext place last f × AreInRow (place + length (frame_text f)) f.moment frames

-- ---- the longest front

-- the text begins with these events, from a place and a moment on, and continues with the rest
pub record Begins (place last : ℕ) (text : List ℕ) (frames : List Frame) (rest : List ℕ) : Type 0 where
  pub row : AreInRow place last frames
  pub text_is : text ≡ script_text frames ++ rest

-- how reading stops after these events: no bytes remain; fewer events than `most` were taken, and the bytes that remain
-- are at this place; or `most` events were taken, and bytes remain
abbrev pub StopsWith : ℕ → List Frame → List ℕ → ScriptStop → Type 0
StopsWith most frames rest whole = rest ≡ []
StopsWith most frames rest (bad place) = (place ≡ length (script_text frames)) × (length frames < most) × (0 < length rest)
StopsWith most frames rest more = (length frames ≡ most) × (0 < length rest)

-- of the fronts of a script that are made of at most so many events, the longest: each other one is a front of it
pub record IsLongestFront (most : ℕ) (script : List ℕ) (frames : List Frame) (stop : ScriptStop) : Type 0 where
  pub rest : List ℕ
  pub begins : Begins 0 0 script frames rest
  pub few : length frames ≤ most
  pub longest : (others : List Frame) (behind : List ℕ) → Begins 0 0 script others behind → length others ≤ most → (beyond : List Frame) × (frames ≡ others ++ beyond)
  pub stops : StopsWith most frames rest stop

-- ---- a session's event at the front

-- the event is found with these fields, and read
pub record IsReadFrom (last : ℕ) (text : List ℕ) (moment : ℕ) (e : Event) (rest : List ℕ) : Type 0 where
  pub fields : List ℕ
  pub found : front last text ≡ Whole (moment, (kind_of e, fields)) rest
  pub is_read : event_of (kind_of e) fields ≡ Ok e

-- a session's event that the grammar has at the front is read, whatever follows
abbrev pub SpelledAreRead : Type 0
SpelledAreRead =
    (e : Event) (last moment : ℕ) (spelled rest : List ℕ) → IsEventText moment e spelled → last ≤ moment → moment < 2 ^ 64 → length spelled ≤ 262148
    → IsReadFrom last (spelled ++ rest) moment e rest
