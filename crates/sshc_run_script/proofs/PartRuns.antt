-- A run of two machines side by side, as the first of them sees it.
use Rattle.std.proofs.Common.{◌≡◌, inl, inr, Bool, true, false, List, [], ◌∷◌, ◌++◌, filter, refl, ap, sym, ◌∙◌, subst}
use Rattle.std.proofs.lemmas.List.Elements.{filter-append}
use Rattle.sshc_run_script.specs.ReachedStates.{StopsFor}
use Rattle.sshc_run_script.specs.Product.{Both, in_one, in_other, both_turn, Apart}
use Rattle.sshc_run_script.proofs.RunNames.{append-nil, Record, SignRequest, Answer, Asking, done, asks, call_of, Always, always_also, RunStop, unanswered_stop, Onward, stopped, TurnOf, Turns, Own, own_events, own_records, own_calls, own_answers, SaysBy, AsksBy, StopsElse, PartOf, Frame, ScriptStop, Run, events_run, run_on, asked_run, after, stopped_with}
use Rattle.sshc_run_script.proofs.AnsweredQuestions.{asked_mapped, front_before}
use Rattle.sshc_run_script.proofs.Products.{one_takes, other_takes}

-- ---- records of its own

said_own : (test : Record → Bool) (records : List Record) → SaysBy test true records → filter test records ≡ records
said_own test [] all = refl
said_own test (output ∷ records) (is, all) = rw is (ap (λ (rs : List Record). output ∷ rs) (said_own test records all))

said_other : (test : Record → Bool) (records : List Record) → SaysBy test false records → filter test records ≡ []
said_other test [] all = refl
said_other test (output ∷ records) (is, all) = rw is (said_other test records all)

module _ (own : Own) (Else : RunStop → Type 0) where
  said_behind : (records behind : List Record) → SaysBy own.output true records → own_records own (records ++ behind) ≡ records ++ own_records own behind
  said_behind records behind says = filter-append own.output records behind ∙ ap (λ (rs : List Record). rs ++ own_records own behind) (said_own own.output records says)

  other_behind : (records behind : List Record) → SaysBy own.output false records → own_records own (records ++ behind) ≡ own_records own behind
  other_behind records behind says = filter-append own.output records behind ∙ ap (λ (rs : List Record). rs ++ own_records own behind) (said_other own.output records says)

  -- ---- what comes before a run

  -- records of its own before both
  own_before : (records : List Record) (r : Run) (part : List Answer → Run) → SaysBy own.output true records → PartOf own Else r part → PartOf own Else (after records [] r) (λ (answers : List Answer). after records [] (part answers))
  own_before records r part says so = record {
    first = λ later.
        (rw (said_behind records r.records says) (front_before records (own_records own r.records) (part (own_answers own r.calls ++ later)).records (so.first later).0), (so.first later).1);
    whole = elim so.whole [
      | inl is ↦ inl (ap (λ (x : Run). after records [] x) is
          ∙ ap (λ (rs : List Record). record { records = rs; calls = own_calls own r.calls; stop = r.stop })
          (sym (said_behind records r.records says)))
      | inr other ↦ inr other
    ];
  }

  -- a call of its own before both
  own_call : {T : Type 0} (asked : SignRequest) (on : Answer → Asking T) (answer : Answer) (r : Run) (part : T → List Answer → Run) → own.asker asked.by ≡ true →
      PartOf own Else r (λ (answers : List Answer). asked_run unanswered_stop (on answer) answers part) →
      PartOf own Else (after [] (call_of asked answer ∷ []) r) (λ (answers : List Answer). asked_run unanswered_stop (asks asked on) answers part)
  own_call asked on answer r part is so = record {
    first = λ later.
        rw is
        ((so.first later).0, front_before (call_of asked answer ∷ []) (own_calls own r.calls) (asked_run unanswered_stop (on answer) (own_answers own r.calls ++ later) part).calls (so.first later).1);
    whole = rw is (elim so.whole
        [ inl whole ↦ inl (ap (λ (x : Run). after [] (call_of asked answer ∷ []) x) whole) | inr other ↦ inr other ]);
  }

  -- records and a call of another before the run
  other_before : (records : List Record) (r : Run) (part : List Answer → Run) → SaysBy own.output false records → PartOf own Else r part → PartOf own Else (after records [] r) part
  other_before records r part says so = record {
    first = λ later. rw (other_behind records r.records says) (so.first later);
    whole = rw (other_behind records r.records says) so.whole;
  }

  -- ---- turns

  own_turn : {A : Type 0} {B : Type 0} (s : Both A B) (t : TurnOf A) (next : Onward) (r : Run) (part : List Answer → Run) → SaysBy own.output true t.records → PartOf own Else r part →
      PartOf own Else (run_on (in_one s t) next r) (λ (answers : List Answer). run_on t next (part answers))
  own_turn s t (stopped stop) r part says so = record {
    first = λ later. (([], sym (append-nil (own_records own t.records) ∙ said_own own.output t.records says)), ([], refl));
    whole = inl (ap (λ (rs : List Record). stopped_with rs stop) (sym (said_own own.output t.records says)));
  }
  own_turn s t next r part says so = own_before t.records r part says so

  other_turn : {T : Type 0} (t : TurnOf T) (next : Onward) (r : Run) (part : List Answer → Run) → SaysBy own.output false t.records → StopsFor Else next → PartOf own Else r part → PartOf own Else (run_on t next r) part
  other_turn t (stopped stop) r part says stops so = record {
    first = λ later. rw (said_other own.output t.records says) (((part (later)).records, refl), ((part later).calls, refl));
    whole = inr stops;
  }
  other_turn t next r part says stops so = other_before t.records r part says so

  -- ---- calls of the signer

  own_asked : {T : Type 0} (asking : Asking (TurnOf T)) (answers : List Answer) (whole part : TurnOf T → List Answer → Run) → AsksBy own.asker true asking → Always (λ (t : TurnOf T). SaysBy own.output true t.records) asking →
      ((t : TurnOf T) (left : List Answer) → SaysBy own.output true t.records → PartOf own Else (whole t left) (part t)) →
      PartOf own Else (asked_run unanswered_stop asking answers whole) (λ (replies : List Answer). asked_run unanswered_stop asking replies part)
  own_asked (done t) answers whole part by says each = each t answers says
  own_asked (asks asked on) [] whole part by says each = record {
    first = λ later. (((asked_run unanswered_stop (asks asked on) later part).records, refl), ((asked_run unanswered_stop (asks asked on) later part).calls, refl));
    whole = inl refl;
  }
  own_asked (asks asked on) (answer ∷ answers) whole part (is, by) says each =
      own_call asked on answer (asked_run unanswered_stop (on answer) answers whole) part is (own_asked (on answer) answers whole part (by answer) (says answer) each)

  other_asked : {T : Type 0} (Holds : TurnOf T → Type 0) (asking : Asking (TurnOf T)) (answers : List Answer) (whole : TurnOf T → List Answer → Run) (part : List Answer → Run) → Else unanswered_stop → AsksBy own.asker false asking → Always Holds asking →
      ((t : TurnOf T) (left : List Answer) → Holds t → PartOf own Else (whole t left) part) → PartOf own Else (asked_run unanswered_stop asking answers whole) part
  other_asked Holds (done t) answers whole part none by holds each = each t answers holds
  other_asked Holds (asks asked on) [] whole part none by holds each = record { first = λ later. (((part later).records, refl), ((part later).calls, refl)); whole = inr none }
  other_asked Holds (asks asked on) (answer ∷ answers) whole part none (is, by) holds each =
      let so = other_asked Holds (on answer) answers whole part none (by answer) (holds answer) each in
      record { first = λ later. rw is (so.first later); whole = rw is so.whole }

-- ---- the whole run

pub own_first : (own : Own) (frame : Frame) (frames : List Frame) → own.event frame ≡ true → own_events own (frame ∷ frames) ≡ frame ∷ own_events own frames
own_first own frame frames is = rw is refl

pub other_first : (own : Own) (frame : Frame) (frames : List Frame) → own.event frame ≡ false → own_events own (frame ∷ frames) ≡ own_events own frames
other_first own frame frames is = rw is refl

pub stops_also : (E E' : RunStop → Type 0) (next : Onward) → ((stop : RunStop) → E stop → E' stop) → StopsFor E next → StopsFor E' next
stops_also E E' (stopped stop) also stops = also stop stops
stops_also E E' next also stops = tt

always_both : {T : Type 0} (P Q : T → Type 0) (asking : Asking T) → Always P asking → Always Q asking → Always (λ (x : T). P x × Q x) asking
always_both P Q (done x) p q = (p, q)
always_both P Q (asks asked on) p q = λ answer. always_both P Q (on answer) (p answer) (q answer)

module _ {A : Type 0} {B : Type 0} (own : Own) (one : Turns A) (other : Turns B) (apart : Apart own one other) (Cause : Frame → RunStop → Type 0)
    (stops : (s : B) (frame : Frame) → own.event frame ≡ false → Always (λ (t : TurnOf B). StopsFor (Cause frame) t.next) (other s frame)) (st : ScriptStop) where
  abbrev whole : Turns (Both A B)
  whole = both_turn own one other

  -- the run of the first machine alone
  abbrev alone : A → List Frame → List Answer → Run
  alone a frames answers = events_run one a (own_events own frames) st answers

  -- what is stated of a run, where it may stop at one of these events for another's cause
  abbrev Parted : List Frame → List Frame → Both A B → List Answer → Type 0
  Parted all frames s answers = PartOf own (StopsElse own Cause all) (events_run whole s frames st answers) (alone s.one frames)

  module _ (frame : Frame) (frames : List Frame) (s : Both A B) (answers : List Answer) (later : (s' : Both A B) (left : List Answer) → Parted (frame ∷ frames) frames s' left) where
    abbrev Else : RunStop → Type 0
    Else = StopsElse own Cause (frame ∷ frames)

    frame_own : own.event frame ≡ true → Parted (frame ∷ frames) (frame ∷ frames) s answers
    unfolding events_run
    frame_own is =
        subst (λ (fs : List Frame). PartOf own Else (events_run whole s (frame ∷ frames) st answers) (λ (replies : List Answer). events_run one s.one fs st replies)) (sym (own_first own frame frames is))
        (rw (one_takes own one other apart s frame is, asked_mapped unanswered_stop (in_one s) (one s.one frame) answers (λ t left. run_on t t.next (events_run whole t.state frames st left)))
        (own_asked own Else (one s.one frame) answers (λ t left. run_on (in_one s t) t.next (events_run whole (in_one s t).state frames st left)) (λ t replies. run_on t t.next (alone t.state frames replies))
        (apart.one_asks s.one frame is) (apart.one_says s.one frame is)
        (λ t left says. own_turn own Else s t t.next (events_run whole (in_one s t).state frames st left) (alone t.state frames) says (later (in_one s t).state left))))

    -- what is true of a turn of the other machine
    abbrev Passes : TurnOf B → Type 0
    Passes t = SaysBy own.output false t.records × StopsFor Else t.next

    frame_other : own.event frame ≡ false → Parted (frame ∷ frames) (frame ∷ frames) s answers
    unfolding events_run
    frame_other is =
        subst (λ (fs : List Frame). PartOf own Else (events_run whole s (frame ∷ frames) st answers) (λ (replies : List Answer). events_run one s.one fs st replies)) (sym (other_first own frame frames is))
        (rw (other_takes own one other apart s frame is, asked_mapped unanswered_stop (in_other s) (other s.other frame) answers (λ t left. run_on t t.next (events_run whole t.state frames st left)))
        (other_asked own Else Passes (other s.other frame) answers (λ t left. run_on (in_other s t) t.next (events_run whole (in_other s t).state frames st left)) (alone s.one frames) (inl refl) (apart.other_asks s.other frame is)
        (always_both (λ (t : TurnOf B). SaysBy own.output false t.records) (λ (t : TurnOf B). StopsFor Else t.next) (other s.other frame) (apart.other_says s.other frame is)
        (always_also (λ (t : TurnOf B). StopsFor (Cause frame) t.next) (λ (t : TurnOf B). StopsFor Else t.next) (other s.other frame) (λ t shows. stops_also (Cause frame) Else t.next (λ stop cause. inr (inl (is, cause))) shows) (stops s.other frame is)))
        (λ t left holds. other_turn own Else (in_other s t) t.next (events_run whole (in_other s t).state frames st left) (alone s.one frames) holds.0 holds.1 (later (in_other s t).state left))))

  -- the records and calls of a run that are the first machine's own are those of its run over its own events and
  -- answers, or the first of them if another's event or a call without an answer stopped the run
  pub parted : (frames : List Frame) (s : Both A B) (answers : List Answer) → Parted frames frames s answers
  unfolding events_run
  parted [] s answers = record { first = λ later. (([], refl), ([], refl)); whole = inl refl }
  parted (frame ∷ frames) s answers =
      by (own.event frame) refl
      (λ s' left.
      let so = parted frames s' left in
      record {
        first = so.first;
        whole = elim so.whole
            [ inl is ↦ inl is | inr other ↦ inr (elim other [ inl none ↦ inl none | inr later ↦ inr (inr later) ]) ];
      })
    where
      by : (mine : Bool) → own.event frame ≡ mine → ((s' : Both A B) (left : List Answer) → Parted (frame ∷ frames) frames s' left) → Parted (frame ∷ frames) (frame ∷ frames) s answers
      by true is later = frame_own frame frames s answers later is
      by false is later = frame_other frame frames s answers later is
