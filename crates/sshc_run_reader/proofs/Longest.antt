-- The events that are taken of a script are its longest front, and a session's event that the grammar has at the front
-- is read.
use Rattle.std.proofs.Common.{◌≡◌, Bool, true, false, cond, ℕ, zero, suc, ◌+◌, ◌<◌, ◌≤◌, List, [], ◌∷◌, ◌++◌, length, Result, Ok, Err, refl, sym, ap, subst, ◌∙◌, arith, append_assoc, length-append}
use Rattle.sshc_wire.specs.Wire.{IsBytes}
use Rattle.sshc_wire.specs.FormatLaws.{behind_are_bytes}
use Rattle.sshc_run_reader.specs.declared.error.EventError.{EventError}
use Rattle.sshc_run_reader.specs.EventFields.{kind_of}
use Rattle.sshc_run_reader.specs.Script.{Frame, Front, Head, ScriptStop, whole, bad, more, End, Bad, Whole, events, frame_at, front, size_of, sized_front, stop, stop_of, taken, whole_front}
use Rattle.sshc_run_reader.specs.ScriptGrammar.{AreInRow, Begins, IsLongestFront, SpelledAreRead, StopsWith, event_text, frame_text, script_text}
use Rattle.sshc_run_reader.proofs.KindGrammar.{event_read}
use Rattle.sshc_run_reader.proofs.EventTexts.{IsFound, event_again, event_there, length_of_event}

abbrev next_events : ℕ → ℕ → Front → List Frame
next_events n place End = []
next_events n place Bad = []
next_events n place (Whole head rest) = frame_at place head ∷ events n (place + size_of head) head.0 rest

abbrev next_stop : ℕ → ℕ → Front → ScriptStop
next_stop n place End = whole
next_stop n place Bad = bad place
next_stop n place (Whole head rest) = stop n (place + size_of head) head.0 rest

-- ---- each other front of the script is a front of what is taken

longest : (most place last : ℕ) (text : List ℕ) (others : List Frame) (behind : List ℕ) →
    Begins place last text others behind → length others ≤ most →
    (beyond : List Frame) × (events most place last text ≡ others ++ beyond)
unfolding events
longest most place last text [] behind begins few = (events most place last text, refl)
longest zero place last text (g ∷ others) behind begins few = absurd (omega (arith, few))
longest (suc most) place last text (g ∷ others) behind begins few =
    let next = begins.row.0 in
    let head : Head = (g.moment, (g.kind, g.fields)) in
    let rest : List ℕ = script_text others ++ behind in
    let found : front last text ≡ Whole head rest =
    ap (front last) (begins.text_is ∙ append_assoc (frame_text g) (script_text others) behind)
    ∙ event_again last g.moment g.kind g.fields rest next.later next.moment next.size in
    let row : AreInRow (place + size_of head) g.moment others =
    subst (λ (n : ℕ). AreInRow (place + n) g.moment others) (length_of_event g.moment g.kind g.fields) begins.row.1 in
    let begun : Begins (place + size_of head) g.moment rest others behind = record { row = row; text_is = refl } in
    let beyond = longest most (place + size_of head) g.moment rest others behind begun (omega (arith, few)) in
    let frame : frame_at place head ≡ g = ap (λ (p : ℕ). frame_at p head) (sym next.at) in
    (beyond.0, ap (next_events most place) found ∙ cc (frame, beyond.1))

-- ---- what is taken is a front of the script, and how reading stops there

-- from a place on
abbrev StopsFrom : ℕ → ℕ → List Frame → List ℕ → ScriptStop → Type 0
StopsFrom most place frames rest whole = rest ≡ []
StopsFrom most place frames rest (bad at) = (at ≡ place + length (script_text frames)) × (length frames < most) × (0 < length rest)
StopsFrom most place frames rest more = (length frames ≡ most) × (0 < length rest)

-- from a place and a moment on
record Shown (most place last : ℕ) (text : List ℕ) (frames : List Frame) (end : ScriptStop) : Type 0 where
  rest : List ℕ
  begins : Begins place last text frames rest
  few : length frames ≤ most
  stops : StopsFrom most place frames rest end

none_taken : (most place last : ℕ) (text : List ℕ) (end : ScriptStop) → StopsFrom most place [] text end →
    Shown most place last text [] end
none_taken most place last text end stops =
    record { rest = text; begins = record { row = tt; text_is = refl }; few = omega arith; stops = stops }

end_is_none : (last : ℕ) (text : List ℕ) → front last text ≡ End → text ≡ []
unfolding front sized_front
end_is_none last [] e = refl
end_is_none last (a ∷ []) e = absurd cc
end_is_none last (a ∷ b ∷ []) e = absurd cc
end_is_none last (a ∷ b ∷ c ∷ []) e = absurd cc
end_is_none last (a ∷ b ∷ c ∷ d ∷ rest) e = absurd (no_end _ _ _ e)
  where
    no_end : (b : Bool) (r : Result Head EventError) (left : List ℕ) → cond b Bad (whole_front r left) ≡ End → ⊥
    no_end true r left e = cc
    no_end false (Ok head) left e = cc
    no_end false (Err d) left e = cc

bad_is_some : (last : ℕ) (text : List ℕ) → front last text ≡ Bad → 0 < length text
unfolding front
bad_is_some last [] e = absurd cc
bad_is_some last (b ∷ text) e = omega arith

stops_later : (most place : ℕ) (f : Frame) (frames : List Frame) (rest : List ℕ) (end : ScriptStop) →
    StopsFrom most (place + length (frame_text f)) frames rest end → StopsFrom (suc most) place (f ∷ frames) rest end
stops_later most place f frames rest whole h = h
stops_later most place f frames rest (bad at) h = (omega (arith, h.0, length-append (frame_text f) (script_text frames)), omega (arith, h.1), h.2)
stops_later most place f frames rest more h = (omega (arith, h.0), h.1)

one_taken : (most place last : ℕ) (text : List ℕ) (head : Head) (rest : List ℕ) → IsFound last text head rest →
    (frames : List Frame) (end : ScriptStop) →
    Shown most (place + length (frame_text (frame_at place head))) head.0 rest frames end →
    Shown (suc most) place last text (frame_at place head ∷ frames) end
one_taken most place last text head rest found frames end h =
    let first : List ℕ = event_text head.0 head.1.0 head.1.1 in
    record {
      rest = h.rest;
      begins = record {
        row = (record { at = refl; later = found.later; moment = found.small; size = found.short }, h.begins.row);
        text_is = found.text ∙ ap (λ (t : List ℕ). first ++ t) h.begins.text_is
            ∙ sym (append_assoc first (script_text frames) h.rest);
      };
      few = omega (arith, h.few);
      stops = stops_later most place (frame_at place head) frames h.rest end h.stops;
    }

-- of all that is taken
abbrev Shows : ℕ → ℕ → ℕ → List ℕ → Type 0
Shows most place last text = Shown most place last text (events most place last text) (stop most place last text)

by_front : (most place last : ℕ) (text : List ℕ) → IsBytes text →
    ((place last : ℕ) (text : List ℕ) → IsBytes text → Shows most place last text) → (f : Front) → front last text ≡ f →
    Shown (suc most) place last text (next_events most place f) (next_stop most place f)
by_front most place last text fits later End is = none_taken _ _ _ _ whole (end_is_none last text is)
by_front most place last text fits later Bad is =
    none_taken _ _ _ _ (bad place) (omega arith, omega arith, bad_is_some last text is)
by_front most place last text fits later (Whole head rest) is =
    let found = event_there last text head rest fits is in
    let behind : IsBytes rest = behind_are_bytes (event_text head.0 head.1.0 head.1.1) rest (subst IsBytes found.text fits) in
    let frames : List Frame = events most (place + size_of head) head.0 rest in
    let end : ScriptStop = stop most (place + size_of head) head.0 rest in
    one_taken most place last text head rest found frames end
    (subst (λ (n : ℕ). Shown most (place + n) head.0 rest frames end) (sym (length_of_event head.0 head.1.0 head.1.1))
    (later (place + size_of head) head.0 rest behind))

shown : (most place last : ℕ) (text : List ℕ) → IsBytes text → Shows most place last text
unfolding events stop
shown zero place last [] fits = none_taken _ _ _ _ whole refl
shown zero place last (b ∷ text) fits = none_taken _ _ _ _ more (refl, omega arith)
shown (suc most) place last text fits = by_front most place last text fits (shown most) (front last text) refl

from_start : (most : ℕ) (frames : List Frame) (rest : List ℕ) (end : ScriptStop) → StopsFrom most 0 frames rest end → StopsWith most frames rest end
from_start most frames rest whole h = h
from_start most frames rest (bad at) h = (omega (arith, h.0), h.1, h.2)
from_start most frames rest more h = h

-- the events that are taken are the longest front
pub taken_are_longest : (most : ℕ) (script : List ℕ) → IsBytes script → IsLongestFront most script (taken most script) (stop_of most script)
taken_are_longest most script fits =
    let h = shown most 0 0 script fits in
    record {
      rest = h.rest;
      begins = h.begins;
      few = h.few;
      longest = longest most 0 0 script;
      stops = from_start most (taken most script) h.rest (stop_of most script) h.stops;
    }

-- a session's event that the grammar has at the front is read there
pub spelled_are_read : SpelledAreRead
spelled_are_read e last moment spelled rest (fields, spells, is) later small short =
    let size : 13 + length fields ≤ 262148 = omega (arith, short, ap length is, length_of_event moment (kind_of e) fields) in
    record {
      fields = fields;
      found = ap (λ (t : List ℕ). front last (t ++ rest)) is ∙ event_again last moment (kind_of e) fields rest later small (omega (arith, size));
      is_read = (event_read e fields).1 spells;
    }
