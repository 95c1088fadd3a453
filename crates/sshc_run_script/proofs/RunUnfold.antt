-- A run by its first event, of any machine.
use Rattle.std.proofs.Common.{◌≡◌, ℕ, zero, suc, ◌+◌, ◌≤◌, List, [], ◌∷◌, ◌++◌, length, Option, Some, None, Result, Ok, Err, refl, ap, sym, ◌∙◌, inl, inr, append_assoc, arith}
use Rattle.std.specs.Option.{IfNone}
use Rattle.std.proofs.lemmas.List.Concat.{flat_map-append}
use Rattle.sshc_wire.specs.Contents.{IsAtEnd}
use Rattle.sshc_auth.specs.declared.ended.Ended.TheVariants as ends
use Rattle.sshc_run_reader.specs.declared.error.NextError.{NextError}
use Rattle.sshc_run_reader.specs.declared.error.NextError.TheVariants as nexts
use Rattle.sshc_run_reader.specs.Reading.{IsNoEvent, IsOneAtMost, IsBad, IsWhole, Gave, ReadFor, NextGives}
use Rattle.sshc_run_reader.specs.Script.{stop_at_most}
use Rattle.sshc_run_reader.specs.FrontLaws.{none_more, front_short}
use Rattle.sshc_run_script.specs.declared.error.RunError.TheVariants as errors
use Rattle.sshc_run_script.specs.Machine.{refused}
use Rattle.sshc_run_script.specs.TurnContracts.{TurnGives, LimitGives}
use Rattle.sshc_run_script.proofs.RunNames.{append-nil, append, prepend, WroteFront, append-nothing, prepend-nothing, Record, SignCall, Answer, Makes, MakesFirst, Asking, always_makes, none_first, all_first, Ended, Frame, Head, Front, End, Bad, Whole, front, frame_at, size_of, events, stop, RunError, Onward, stopped, RunStop, ended, unanswered_stop, TurnOf, Turns, stop_next, IsNoEnd, NeverAtEnd, Streams, Ending, told, cut, unread, ending_of, stop_as, IsCut, IsExact, EndsAs, HasEarlier, HasWritten, HoldsAtMost, Ends, line, lines, Run, Spot, spot_after, run, run_on, at_end, after, stopped_with, asked_run, answers_of, events_run, StopsBy, CutBy, TakeAs, TakeGives, BringsOn}
use Rattle.sshc_run_script.proofs.AnsweredQuestions.{asked_made, asked_first}
use Rattle.sshc_run_script.proofs.ScriptExtension.{front_more}
use Rattle.sshc_run_script.proofs.Lines.{wrote_nothing}

front_nothing : (last : ℕ) → front last [] ≡ End
unfolding front
front_nothing last = refl

pub not_nothing : (part : List ℕ) (b : ℕ) (more : List ℕ) → [] ≡ part ++ b ∷ more → ⊥
not_nothing [] b more is = cc
not_nothing (c ∷ part) b more is = cc

-- ---- prefixes of an event's bytes

-- a shorter prefix of bytes that are at most one event isn't an event: if it began with one, so would the bytes, and
-- more bytes would follow it
none_shorter : (last : ℕ) (bytes part : List ℕ) (b : ℕ) (more : List ℕ) → IsOneAtMost last bytes → bytes ≡ part ++ b ∷ more → IsNoEvent last part
none_shorter last bytes part b more one is = by (front last part) refl
  where
    never : (head : Head) (rest : List ℕ) → front last bytes ≡ Whole head (rest ++ b ∷ more) → IsOneAtMost last bytes →
        ⊥
    never head rest whole (inl (inl nothing)) = cc
    never head rest whole (inl (inr bad)) = cc
    never head rest whole (inr (other, same)) =
        let longer : Whole other [] ≡ Whole head (rest ++ b ∷ more) = sym same ∙ whole in not_nothing rest b more cc

    by : (f : Front) → front last part ≡ f → IsNoEvent last part
    by End f = inl f
    by Bad f = inr f
    by (Whole head rest) f =
        absurd (never head rest (ap (front last) is ∙ front_more last part (b ∷ more) head rest f) one)

-- a whole event's bytes are one event
front_is : (last : ℕ) (head : Head) (bytes : List ℕ) → IsWhole last head bytes → front last bytes ≡ Whole head []
front_is last head bytes whole = ap (front last) (sym (append-nil bytes)) ∙ whole.is []

one_whole : (last : ℕ) (head : Head) (bytes : List ℕ) → IsWhole last head bytes → IsOneAtMost last bytes
one_whole last head bytes whole = inr (head, front_is last head bytes whole)

-- ---- how many events some bytes hold

none_held : (n place last : ℕ) (bytes : List ℕ) → IsNoEvent last bytes → HoldsAtMost n place last bytes
unfolding events
none_held n place last bytes (inl nothing) = rw (nothing, events) (omega arith)
none_held n place last bytes (inr bad) = rw (bad, events) (omega arith)

events_nothing : (n place last : ℕ) → events n place last [] ≡ []
unfolding events
events_nothing zero place last = refl
events_nothing (suc n) place last = rw (front_nothing last, events) refl

-- the empty list holds no event
pub nothing_held : (n place last : ℕ) → HoldsAtMost n place last []
nothing_held n place last = none_held n place last [] (inl (front_nothing last))

event_counted : (n place last : ℕ) (bytes : List ℕ) (head : Head) (rest : List ℕ) → front last bytes ≡ Whole head rest → length (events (suc n) place last bytes) ≡ suc (length (events n (place + size_of head) head.0 rest))
unfolding events
event_counted n place last bytes head rest is = rw (is, events) refl

one_held : (n place last : ℕ) (bytes : List ℕ) → IsOneAtMost last bytes → HoldsAtMost (suc n) place last bytes
one_held n place last bytes (inl none) = none_held (suc n) place last bytes none
one_held n place last bytes (inr (head, is)) =
    let one = event_counted (suc n) place last bytes head [] is in
    let nothing = ap length (events_nothing (suc n) (place + size_of head) head.0) in
    omega (arith, one, nothing)

-- if there are no records, nothing remains to be written
said_none : (held now : Option (List ℕ)) (records : List Record) (part : List ℕ) → records ≡ [] → now ≡ append held part → HasWritten held now (lines records)
said_none held now records part none wrote = (part, wrote ∙ ap (λ (r : List Record). append held (lines r ++ part)) (sym none))

-- ---- any machine

module _ {S : Type 0} (turn : Turns S) where
  pub run_end : (n : ℕ) (at : Spot S) (answers : List Answer) (bytes : List ℕ) → front at.last bytes ≡ End → run turn (suc n) at answers bytes ≡ stopped_with [] (ended ends.ScriptEnd)
  unfolding run events stop events_run
  run_end n at answers bytes h = rw (h, run, events, stop, events_run) refl

  pub run_bad : (n : ℕ) (at : Spot S) (answers : List Answer) (bytes : List ℕ) → front at.last bytes ≡ Bad → run turn (suc n) at answers bytes ≡ stopped_with [] (refused (errors.BadEvent at.place))
  unfolding run events stop events_run
  run_bad n at answers bytes h = rw (h, run, events, stop, events_run) refl

  -- after a turn
  abbrev behind : ℕ → Spot S → Head → List ℕ → TurnOf S → List Answer → Run
  behind n at head rest t left = run_on t t.next (run turn n (spot_after at head t.state) left rest)

  pub run_whole : (n : ℕ) (at : Spot S) (answers : List Answer) (bytes : List ℕ) (head : Head) (rest : List ℕ) → front at.last bytes ≡ Whole head rest →
      run turn (suc n) at answers bytes ≡ asked_run unanswered_stop (turn at.state (frame_at at.place head)) answers (behind n at head rest)
  unfolding run events stop events_run
  run_whole n at answers bytes head rest h = rw (h, run, events, stop, events_run) refl

  -- a turn after which the run continues, and one that stops it
  going_by : (t : TurnOf S) (next : Onward) (r : Run) → stop_next next ≡ None → run_on t next r ≡ after t.records [] r
  going_by t (stopped stop) r h = absurd cc
  going_by t next r h = refl

  stop_is : (next : Onward) (stop : RunStop) → stop_next next ≡ Some stop → next ≡ stopped stop
  stop_is (stopped x) stop is = let same : x ≡ stop = cc in ap stopped same
  stop_is next stop is = absurd cc

  -- on no bytes the run is at the script's end
  pub run_nothing : (n : ℕ) (at : Spot S) (answers : List Answer) → run turn n at answers [] ≡ stopped_with [] (ended ends.ScriptEnd)
  unfolding run events stop events_run
  run_nothing zero at answers = refl
  run_nothing (suc n) at answers = run_end n at answers [] (front_nothing at.last)

  -- after a turn no call is made on no bytes
  quiet : (n : ℕ) (at : Spot S) (head : Head) (t : TurnOf S) (next : Onward) → (run_on t next (run turn n (spot_after at head t.state) [] [])).calls ≡ []
  quiet n at head t (stopped stop) = refl
  quiet n at head t next = ap (λ (r : Run). r.calls) (run_nothing n (spot_after at head t.state) [])

  -- if the bytes hold no whole event, there are no records and no calls, and the run comes to the end
  none_is : (n : ℕ) (at : Spot S) (answers : List Answer) (bytes : List ℕ) → IsNoEvent at.last bytes → (stop : RunStop) × (run turn (suc n) at answers bytes ≡ stopped_with [] stop) × IsCut stop
  none_is n at answers bytes (inl nothing) = (ended ends.ScriptEnd, run_end n at answers bytes nothing, inl refl)
  none_is n at answers bytes (inr bad) = (refused (errors.BadEvent at.place), run_bad n at answers bytes bad, inr (at.place, refl))

  none_cut : (n : ℕ) (at : Spot S) (answers : List Answer) (bytes : List ℕ) → IsNoEvent at.last bytes → IsCut (run turn (suc n) at answers bytes).stop
  none_cut n at answers bytes none = let is = none_is n at answers bytes none in rw is.1 is.2

  none_said : (n : ℕ) (at : Spot S) (answers : List Answer) (bytes : List ℕ) → IsNoEvent at.last bytes → (run turn (suc n) at answers bytes).records ≡ []
  none_said n at answers bytes none = let is = none_is n at answers bytes none in ap (λ (r : Run). r.records) is.1

  -- before the one event that was read there is none
  early_one : (n : ℕ) (at : Spot S) (gained : List SignCall) (bytes : List ℕ) (held now : Option (List ℕ)) (part : List ℕ) → IsOneAtMost at.last bytes → now ≡ append held part → HasEarlier (run turn (suc n) at) bytes gained held now
  early_one n at gained bytes held now part one wrote = λ later front b more is.
      said_none held now _ part (none_said n at (answers_of gained ++ later) front (none_shorter at.last bytes front b more one is)) wrote

  -- ---- a read that returns no event

  -- these bytes were read, no call was made, and nothing was written
  bare_ends : (n : ℕ) (at : Spot S) (before : Streams) (left : Option (List ℕ)) (reads : ℕ) (bytes : List ℕ) (a : Result Ended RunError) → before.left ≡ prepend bytes left → ReadFor before.reads reads bytes → (run turn n at [] bytes).calls ≡ [] →
      EndsAs (ending_of a) (run turn n at) bytes [] before (record before { left = left; reads = reads }) a → HasEarlier (run turn n at) bytes [] before.held before.held → HoldsAtMost n at.place at.last bytes →
      Ends n at.place at.last (run turn n at) before (record before { left = left; reads = reads }) a
  bare_ends n at before left reads bytes a given count made by early few = (bytes, [], record { read = given; asked = sym (append-nil before.calls); made = made; by = by; early = early; count = count; few = few })

  -- the script ends, also at the limit
  pub ends_at_end : (at : Spot S) (before : Streams) (left : Option (List ℕ)) (reads : ℕ) → before.left ≡ left → IsAtEnd left → reads ≤ before.reads + 1 →
      (n : ℕ) → Ends n at.place at.last (run turn n at) before (record before { left = left; reads = reads }) (Ok ends.ScriptEnd)
  ends_at_end at before left reads same end count n =
      let none = run_nothing n at [] in
      bare_ends n at before left reads [] (Ok ends.ScriptEnd) (same ∙ sym (prepend-nothing left)) (omega (arith, count)) (rw none refl)
      (record {
        all = rw none (sym (append-nothing before.held));
        stop = rw none refl;
        rest = λ later more e. ap (run turn n at later) (none_more left more e end) ∙ run_nothing n at later ∙ sym none;
        just = λ later part b more is. absurd (not_nothing part b more is);
        whole = λ done. end;
      })
      (λ later part b more is. absurd (not_nothing part b more is)) (nothing_held n at.place at.last)

  pub end_ends : (at : Spot S) (before : Streams) (left : Option (List ℕ)) (reads : ℕ) → before.left ≡ left → IsAtEnd left → reads ≤ before.reads + 1 →
      (n : ℕ) → Ends (suc n) at.place at.last (run turn (suc n) at) before (record before { left = left; reads = reads }) (Ok ends.ScriptEnd)
  end_ends at before left reads same end count n = ends_at_end at before left reads same end count (suc n)

  -- an event that can't be read
  bad_ends : (at : Spot S) (before now : Streams) (bytes : List ℕ) → now.held ≡ before.held → IsBad at.last now.left bytes → (n : ℕ) → IsExact (run turn (suc n) at) bytes [] before now (Err (errors.BadEvent at.place))
  bad_ends at before now bytes held bad n =
      let none : (answers : List Answer) → run turn (suc n) at answers bytes ≡ stopped_with [] (refused (errors.BadEvent at.place)) = λ answers. run_bad n at answers bytes bad.given in
      record {
        all = rw (none []) (held ∙ sym (append-nothing before.held));
        stop = rw (none []) refl;
        rest = λ later more e. run_bad n at later (bytes ++ more) (bad.all more e) ∙ sym (none []);
        just = λ later part b more is. none_cut n at later part (none_shorter at.last bytes part b more (inl (inr bad.given)) is);
        whole = λ done. absurd cc;
      }

  -- whose bytes aren't an event, or are one that no turn took
  unread_ends : (at : Spot S) (before : Streams) (left : Option (List ℕ)) (reads : ℕ) (bytes : List ℕ) → before.left ≡ prepend bytes left → IsNoEvent at.last bytes → ReadFor before.reads reads bytes →
      (a : Result Ended RunError) (n : ℕ) → EndsAs (ending_of a) (run turn (suc n) at) bytes [] before (record before { left = left; reads = reads }) a →
      Ends (suc n) at.place at.last (run turn (suc n) at) before (record before { left = left; reads = reads }) a
  unread_ends at before left reads bytes given none count a n by =
      let is = none_is n at [] bytes none in
      bare_ends (suc n) at before left reads bytes a given count (rw is.1 refl) by (early_one n at [] bytes before.held before.held [] (inl none) (sym (append-nothing before.held))) (none_held (suc n) at.place at.last bytes none)

  -- what an error of the read means for the run
  pub next_ends : (at : Spot S) (before : Streams) (left : Option (List ℕ)) (reads : ℕ) (x : NextError) (e : RunError) → NextGives at.last before.left left before.reads reads (Err x) →
      e ≡ (elim x [ nexts.NoMemory ↦ errors.NoMemory | nexts.ReadFault ↦ errors.ReadFault | nexts.Bad ↦ errors.BadEvent at.place ]) →
      (n : ℕ) → Ends (suc n) at.place at.last (run turn (suc n) at) before (record before { left = left; reads = reads }) (Err e)
  next_ends at before left reads nexts.NoMemory e (bytes, given, (inl none, count)) is n = rw is (unread_ends at before left reads bytes given none count (Err errors.NoMemory) n (wrote_nothing before.held _))
  next_ends at before left reads nexts.NoMemory e (bytes, given, (inr (head, one), count)) is n =
      rw is
      (bare_ends (suc n) at before left reads bytes (Err errors.NoMemory) given count
      (rw (run_whole n at [] bytes head [] one) (asked_first unanswered_stop (turn at.state (frame_at at.place head)) [] (behind n at head []) (λ t. quiet n at head t t.next) (none_first _))) (wrote_nothing before.held _)
      (early_one n at [] bytes before.held before.held [] (inr (head, one)) (sym (append-nothing before.held))) (one_held n at.place at.last bytes (inr (head, one))))
  next_ends at before left reads nexts.ReadFault e (bytes, given, (none, count)) is n =
      let nothing = none_is n at [] bytes none in
      rw is (unread_ends at before left reads bytes given none count (Err errors.ReadFault) n (rw nothing.1 (sym (append-nothing before.held))))
  next_ends at before left reads nexts.Bad e (bytes, given, (bad, count)) is n =
      rw is (unread_ends at before left reads bytes given (inr bad.given) count (Err (errors.BadEvent at.place)) n (bad_ends at before (record before { left = left; reads = reads }) bytes refl bad n))

  -- ---- an event that is taken

  -- no event that was taken ends the script
  pub not_taken : NeverAtEnd turn → (s s' : S) (frame : Frame) (gained : List SignCall) (held now : Option (List ℕ)) (a : Result Ended RunError) → a ≡ Ok ends.ScriptEnd → TakeGives (turn s frame) gained s' held now (Some a) → ⊥
  not_taken never s s' frame gained held now a is gives =
      let there : TakeGives (turn s frame) gained s' held now (Some (Ok ends.ScriptEnd)) = rw is at gives in
      always_makes IsNoEnd (turn s frame) gained there.0 (never s frame) there.1 (stop_is there.0.next (ended ends.ScriptEnd) there.2)

  -- the spot after an event
  spot_is : (at at' : Spot S) (head : Head) (s : S) → at'.place ≡ at.place + size_of head → at'.last ≡ head.0 → at'.state ≡ s → at' ≡ spot_after at head s
  spot_is at at' head s place last state =
      ap (λ (p : ℕ). record at' { place = p }) place ∙ ap (λ (l : ℕ). record at' { place = at.place + size_of head; last = l }) last
      ∙ ap (λ (x : S). record { place = at.place + size_of head; last = head.0; state = x }) state

  -- the bytes of an event whose turn continues bring the run on
  brings : (at at' : Spot S) (head : Head) (t : TurnOf S) (gained : List SignCall) (bytes : List ℕ) → Makes (turn at.state (frame_at at.place head)) gained t → stop_next t.next ≡ None → at' ≡ spot_after at head t.state →
      IsWhole at.last head bytes → BringsOn (run turn) at at' bytes gained t.records
  brings at at' head t gained bytes makes on same whole =
      let place : at'.place ≡ at.place + size_of head = ap (λ (x : Spot S). x.place) same in
      record {
        within = omega (arith, place, whole.within);
        on = λ n later more.
            rw (run_whole n at (answers_of gained ++ later) (bytes ++ more) head more (whole.is more), same)
            (asked_made unanswered_stop (turn at.state (frame_at at.place head)) gained t later
            (behind n at head more) makes ∙ ap (λ (r : Run). after [] gained r) (going_by t t.next _ on));
        counts = λ n more. rw same (event_counted n at.place at.last (bytes ++ more) head more (whole.is more));
        quiet = λ n answers part b more parts. none_said n at answers part (none_shorter at.last bytes part b more (one_whole at.last head bytes whole) parts);
        just = λ n answers part b more parts. none_cut n at answers part (none_shorter at.last bytes part b more (one_whole at.last head bytes whole) parts);
      }

  -- the event alone, with its own calls alone
  alone : (n : ℕ) (at : Spot S) (head : Head) (gained : List SignCall) (bytes : List ℕ) → IsWhole at.last head bytes →
      run turn (suc n) at (answers_of gained) bytes ≡ asked_run unanswered_stop (turn at.state (frame_at at.place head)) (answers_of gained) (behind n at head [])
  alone n at head gained bytes whole = run_whole n at (answers_of gained) bytes head [] (front_is at.last head bytes whole)

  -- the same if all its calls were made
  made_alone : (n : ℕ) (at : Spot S) (head : Head) (t : TurnOf S) (gained : List SignCall) (bytes : List ℕ) → Makes (turn at.state (frame_at at.place head)) gained t → IsWhole at.last head bytes →
      run turn (suc n) at (answers_of gained) bytes ≡ after [] gained (behind n at head [] t [])
  made_alone n at head t gained bytes makes whole =
      alone n at head gained bytes whole
      ∙ rw (append-nil (answers_of gained)) at
      (asked_made unanswered_stop (turn at.state (frame_at at.place head)) gained t [] (behind n at head []) makes)

  -- whichever of its calls were made, the run has them
  taken_made : (n : ℕ) (at : Spot S) (head : Head) (gained : List SignCall) (bytes : List ℕ) → MakesFirst (turn at.state (frame_at at.place head)) gained → IsWhole at.last head bytes → (run turn (suc n) at (answers_of gained) bytes).calls ≡ gained
  taken_made n at head gained bytes first whole =
      ap (λ (r : Run). r.calls) (alone n at head gained bytes whole)
      ∙ asked_first unanswered_stop (turn at.state (frame_at at.place head)) gained (behind n at head []) (λ t. quiet n at head t t.next) first

  -- if the run stops with an event
  stops_exact : NeverAtEnd turn → (at : Spot S) (head : Head) (before now : Streams) (gained : List SignCall) (bytes : List ℕ) (a : Result Ended RunError) → IsWhole at.last head bytes →
      StopsBy (turn at.state (frame_at at.place head)) gained before.held now.held a → (n : ℕ) → IsExact (run turn (suc n) at) bytes gained before now a
  stops_exact never at head before now gained bytes a whole (t, makes, stops, wrote) n =
      let stopped_on : (r : Run) → run_on t t.next r ≡ stopped_with t.records (stop_as a) =
      λ r. ap (λ (next : Onward). run_on t next r) (stop_is t.next (stop_as a) stops) in
      let stopped_so : (later : List Answer) (more : List ℕ) → run turn (suc n) at (answers_of gained ++ later) (bytes ++ more) ≡ after [] gained (stopped_with t.records (stop_as a)) = λ later more.
      run_whole n at (answers_of gained ++ later) (bytes ++ more) head more (whole.is more)
      ∙ asked_made unanswered_stop (turn at.state (frame_at at.place head)) gained t later (behind n at head more) makes
      ∙ ap (λ (r : Run). after [] gained r) (stopped_on _)
      in
      let here : run turn (suc n) at (answers_of gained) bytes ≡ after [] gained (stopped_with t.records (stop_as a)) =
      rw (append-nil (answers_of gained), append-nil bytes) at (stopped_so [] [])
      in
      record {
        all = rw here wrote;
        stop = rw here refl;
        rest = λ later more e. stopped_so later more ∙ sym here;
        just = λ later part b more parts. none_cut n at (answers_of gained ++ later) part (none_shorter at.last bytes part b more (one_whole at.last head bytes whole) parts);
        whole = λ done.
            absurd (always_makes IsNoEnd (turn at.state (frame_at at.place head)) gained t (never at.state (frame_at at.place head)) makes
            (stop_is t.next (stop_as a) stops ∙ ap (λ (x : Result Ended RunError). stopped (stop_as x)) done));
      }

  -- the records of a turn are the first of its run's
  first_by : (t : TurnOf S) (next : Onward) (r : Run) → (rest : List Record) × ((run_on t next r).records ≡ t.records ++ rest)
  first_by t (stopped stop) r = ([], sym (append-nil t.records))
  first_by t next r = (r.records, refl)

  -- if a prefix of its records was written
  stops_cut : (at : Spot S) (head : Head) (held now : Option (List ℕ)) (gained : List SignCall) (bytes : List ℕ) → IsWhole at.last head bytes → CutBy (turn at.state (frame_at at.place head)) gained held now →
      (n : ℕ) → WroteFront held now (lines (run turn (suc n) at (answers_of gained) bytes).records)
  stops_cut at head held now gained bytes whole (inl (first, same)) n = rw same (wrote_nothing held _)
  stops_cut at head held now gained bytes whole (inr (t, makes, (part, others, due, wrote))) n =
      let first = first_by t t.next (run turn n (spot_after at head t.state) [] []) in (
        part,
        others ++ lines first.0,
        ap (λ (r : Run). lines r.records) (made_alone n at head t gained bytes makes whole)
            ∙ ap lines first.1 ∙ flat_map-append line t.records first.0 ∙ ap (λ (x : List ℕ). x ++ lines first.0) due ∙ append_assoc part others (lines first.0),
        wrote,
      )

  -- the calls are the first of the turn's, and what was written
  first_so : (ending : Ending) (asking : Asking (TurnOf S)) (held now : Option (List ℕ)) (gained : List SignCall)
      (a : Result Ended RunError) → TakeAs ending asking gained held now a →
      MakesFirst asking gained × ((part : List ℕ) × (now ≡ append held part))
  first_so told asking held now gained a (t, makes, stops, wrote) =
      (all_first asking gained t makes, (lines t.records, wrote))
  first_so cut asking held now gained a (inl (first, same)) = (first, ([], same ∙ sym (append-nothing held)))
  first_so cut asking held now gained a (inr (t, makes, (part, others, due, wrote))) = (all_first asking gained t makes, (part, wrote))
  first_so unread asking held now gained a (t, makes, stops, wrote) =
      (all_first asking gained t makes, (lines t.records, wrote))

  taken_ends : NeverAtEnd turn → (ending : Ending) (at : Spot S) (head : Head) (before now : Streams) (gained : List SignCall) (bytes : List ℕ) (a : Result Ended RunError) → IsWhole at.last head bytes →
      TakeAs ending (turn at.state (frame_at at.place head)) gained before.held now.held a → (n : ℕ) → EndsAs ending (run turn (suc n) at) bytes gained before now a
  taken_ends never told at head before now gained bytes a whole gives n = stops_exact never at head before now gained bytes a whole gives n
  taken_ends never cut at head before now gained bytes a whole gives n = stops_cut at head before.held now.held gained bytes whole gives n
  taken_ends never unread at head before now gained bytes a whole gives n = (stops_exact never at head before now gained bytes a whole gives n).all

  -- one event, in each case
  pub taken_gives : NeverAtEnd turn → (at at' : Spot S) (head : Head) (before now : Streams) (gained : List SignCall) (o : Option (Result Ended RunError)) → now.calls ≡ before.calls ++ gained →
      Gave before.left now.left (λ bytes. IsWhole at.last head bytes × (now.reads ≤ before.reads + length bytes)) → TakeGives (turn at.state (frame_at at.place head)) gained at'.state before.held now.held o →
      IfNone o ((at'.place ≡ at.place + size_of head) × (at'.last ≡ head.0)) → TurnGives (run turn) at at' before now o
  taken_gives never at at' head before now gained None asked (bytes, given, (whole, count)) (t, makes, on, all, state) moved = (
    bytes,
    gained,
    t.records,
    record { read = given; asked = asked; wrote = all; count = count },
    brings at at' head t gained bytes makes on (spot_is at at' head t.state moved.0 moved.1 state) whole,
  )
  taken_gives never at at' head before now gained (Some a) asked (bytes, given, (whole, count)) gives moved = λ n.
      let asking : Asking (TurnOf S) = turn at.state (frame_at at.place head) in
      let so = first_so (ending_of a) asking before.held now.held gained a gives in (
        bytes,
        gained,
        record {
          read = given;
          asked = asked;
          made = taken_made n at head gained bytes so.0 whole;
          by = taken_ends never (ending_of a) at head before now gained bytes a whole gives n;
          early = early_one n at gained bytes before.held now.held so.1.0 (one_whole at.last head bytes whole) so.1.1;
          count = omega (arith, count);
          few = one_held n at.place at.last bytes (one_whole at.last head bytes whole);
        },
      )

  -- ---- the limit

  pub run_limit : (at : Spot S) (answers : List Answer) (bytes : List ℕ) → run turn 0 at answers bytes ≡ stopped_with [] (at_end (stop_at_most bytes))
  unfolding run events stop events_run
  run_limit at answers bytes = refl

  -- a shorter prefix of one byte is empty
  limit_front : (at : Spot S) (answers : List Answer) (b : ℕ) (part : List ℕ) (c : ℕ) (more : List ℕ) → b ∷ [] ≡ part ++ c ∷ more → IsCut (run turn 0 at answers part).stop
  limit_front at answers b [] c more is = inl (ap (λ (r : Run). r.stop) (run_limit at answers []))
  limit_front at answers b (x ∷ part) c more is = let nothing : [] ≡ part ++ c ∷ more = cc in absurd (not_nothing part c more nothing)

  -- there are no records there
  early_limit : (at : Spot S) (gained : List SignCall) (given : List ℕ) (held : Option (List ℕ)) → HasEarlier (run turn 0 at) given gained held held
  early_limit at gained given held = λ later front b more is.
      said_none held held _ [] (ap (λ (r : Run). r.records) (run_limit at (answers_of gained ++ later) front)) (sym (append-nothing held))

  -- at the limit
  limit_none : (at : Spot S) (before : Streams) (left : Option (List ℕ)) (reads : ℕ) (a : Result Ended RunError) → before.left ≡ left → reads ≤ before.reads + 1 → EndsAs (ending_of a) (run turn 0 at) [] [] before (record before { left = left; reads = reads }) a →
      Ends 0 at.place at.last (run turn 0 at) before (record before { left = left; reads = reads }) a
  unfolding run events stop events_run
  limit_none at before left reads a same count by =
      bare_ends 0 at before left reads [] a (same ∙ sym (prepend-nothing left)) (omega (arith, count)) refl by (early_limit at [] [] before.held) (nothing_held 0 at.place at.last)

  pub limit_ends : (at : Spot S) (before : Streams) (left : Option (List ℕ)) (reads : ℕ) (a : Result Ended RunError) → LimitGives before.left left a → reads ≤ before.reads + 1 →
      Ends 0 at.place at.last (run turn 0 at) before (record before { left = left; reads = reads }) a
  unfolding run events stop events_run
  limit_ends at before left reads (Ok ends.ScriptEnd) (same, end) count = ends_at_end at before left reads same end count 0
  limit_ends at before left reads (Err errors.ScriptTooLong) (b, given) count =
      bare_ends 0 at before left reads (b ∷ []) (Err errors.ScriptTooLong) given (omega (arith, count)) refl
      (record {
        all = sym (append-nothing before.held);
        stop = refl;
        rest = λ later more e. refl;
        just = λ later part c more is. limit_front at later b part c more is;
        whole = λ done. absurd cc;
      })
      (early_limit at [] (b ∷ []) before.held) (none_held 0 at.place at.last (b ∷ []) (front_short at.last (b ∷ []) (omega arith)))
  limit_ends at before left reads (Err errors.ReadFault) same count = limit_none at before left reads (Err errors.ReadFault) same count (sym (append-nothing before.held))
  limit_ends at before left reads (Err errors.NoMemory) same count = limit_none at before left reads (Err errors.NoMemory) same count (wrote_nothing before.held [])
  limit_ends at before left reads a h count = absurd h

-- where the script ends at the limit, nothing was read
pub limit_still : (old new : Option (List ℕ)) (a : Result Ended RunError) → a ≡ Ok ends.ScriptEnd → LimitGives old new a → new ≡ old
limit_still old new a is gives = let here = rw is at gives in sym here.0
