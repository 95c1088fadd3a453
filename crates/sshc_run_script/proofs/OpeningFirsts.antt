-- The relation between the opening and a run that takes events of others in between.
use Rattle.std.proofs.Common.{◌≡◌, ◌⊎◌, inl, inr, ℕ, List, [], ◌∷◌, ◌++◌, Option, Some, None, Result, Ok, Err, refl, ap, sym, ◌∙◌, subst}
use Rattle.sshc_wire.specs.Faults.{Rose}
use Rattle.sshc_auth.specs.declared.ended.Ended.TheVariants.{ScriptEnd}
use Rattle.sshc_run_script.specs.declared.error.RunError.TheVariants as errors
use Rattle.sshc_run_script.specs.Prefixes.{IsFront}
use Rattle.sshc_run_script.specs.OpeningFirst.{opening_of, BeginsAs, ConcludesAs, IsOpeningFirst, IsOpeningDone, IsValidBy, IsOpeningComplete}
use Rattle.sshc_run_script.specs.OpeningRun.{OpeningRun, OpeningStop, opens_before, stops_with, through, Prefixed}
use Rattle.sshc_run_script.specs.Part.{StoppedByOther}
use Rattle.sshc_run_script.specs.RunFaults.{fault_counts}
use Rattle.sshc_run_script.specs.Turn.{opening_machine}
use Rattle.sshc_run_script.proofs.RunNames.{append-nil, prepend, Record, SignCall, Ended, Answer, since, Frame, ScriptStop, whole, taken, stop_of, RunError, RunStop, ended, unanswered_stop, Turns, Machine, Streams, stop_as, Ends, own_events, own_records, own_calls, own_answers, StopsElse, IsWholePart, PartOf, Run, at_end, events_run, script_run, answers_of, answers_since, Hosts, Accepts, RunSettings, run_machine, RunState, session_turn, OpeningState, session_own, IsAgentCause, agents_turn}
use Rattle.sshc_run_script.proofs.AnsweredQuestions.{answers_two, front_before}
use Rattle.sshc_run_script.proofs.OpeningContinues.{prefixed}
use Rattle.sshc_run_script.proofs.PartRuns.{parted}
use Rattle.sshc_run_script.proofs.Promises.{since_is, prefix_of, done_of, told_of, answered, answer_is, begins_so}
use Rattle.sshc_run_script.proofs.RunLaws.{run_law}
use Rattle.sshc_run_script.proofs.SessionPart.{kept_in, session_apart}
use Rattle.sshc_run_script.proofs.AgentsTurns.{agents_stop}

-- ---- two prefixes of one list

two_fronts : {X : Type 0} (a b c rest : List X) → b ++ c ≡ a ++ rest → IsFront a b ⊎ IsFront b a
two_fronts [] b c rest is = inl (b, refl)
two_fronts (x ∷ a) [] c rest is = inr (x ∷ a, refl)
two_fronts (x ∷ a) (y ∷ b) c rest is =
    let same : y ≡ x = cc in
    let tails : b ++ c ≡ a ++ rest = cc in
    elim (two_fronts a b c rest tails) [
      | inl (more, front) ↦ inl (more, rw same (ap (λ list. x ∷ list) front))
      | inr (more, front) ↦ inr (more, rw same (ap (λ list. x ∷ list) front))
    ]

-- ---- by how the opening stops

begins_by : {A : Type 0} (st : ScriptStop) (o : OpeningRun A) (x : OpeningStop A) (r : Run) (output : List Record)
    (calls : List SignCall) → Prefixed st o x r →
    IsFront output r.records × IsFront calls r.calls → BeginsAs o.records x output × BeginsAs o.calls x calls
begins_by st o (opens_before s frames left) r output calls ((more, is), (rest, same), end) (one, other) =
    (two_fronts output o.records more one.0 (sym is ∙ one.1), two_fronts calls o.calls rest other.0 (sym same ∙ other.1))
begins_by st o x r output calls is fronts = rw is at fronts

at_whole : (st : ScriptStop) (e : Ended) → at_end st ≡ ended e → e ≡ ScriptEnd
at_whole whole e is = cc
at_whole st e is = absurd cc

ends_by : {A : Type 0} (st : ScriptStop) (o : OpeningRun A) (x : OpeningStop A) (r : Run) (output : List Record) (e : Ended) → Prefixed st o x r → r.records ≡ output → r.stop ≡ ended e → ConcludesAs o.records x output e
ends_by st o (opens_before s frames left) r output e ((more, is), calls, end) records stop = (more, sym records ∙ is)
ends_by st o (stops_with x) r output e is records stop = (sym records ∙ ap (λ (y : Run). y.records) is, ap (λ (y : Run). y.stop) (sym is) ∙ stop)
ends_by st o through r output e is records stop = (sym records ∙ ap (λ (y : Run). y.records) is, at_whole st e (ap (λ (y : Run). y.stop) (sym is) ∙ stop))

end_is : (st : ScriptStop) (e : Ended) → st ≡ whole → e ≡ ScriptEnd → at_end st ≡ ended e
end_is st e is last = ap at_end is ∙ ap ended (sym last)

valid_ends : {A : Type 0} (st : ScriptStop) (o : OpeningRun A) (x : OpeningStop A) (r : Run) (e : Ended) → Prefixed st o x r → IsValidBy st x e → r.stop ≡ ended e
valid_ends st o (opens_before s frames left) r e (output, calls, end) (none, is, last) = end none ∙ end_is st e is last
valid_ends st o (stops_with stop) r e is valid = ap (λ (y : Run). y.stop) is ∙ valid
valid_ends st o through r e is (stops, last) = ap (λ (y : Run). y.stop) is ∙ end_is st e stops last

-- ---- the calls of a run are answered by the first of its answers

-- these calls took the first of the answers
abbrev Took : Run → List Answer → Type 0
Took r answers = IsFront (answers_of r.calls) answers

run_took : {S : Type 0} (turn : Turns S) (st : ScriptStop) (frames : List Frame) (s : S) (answers : List Answer) → Took (events_run turn s frames st answers) answers
run_took turn st =
    run_law turn st (λ s frames answers r. Took r answers) (λ s answers. (answers, refl)) (λ s frame frames gained first. ([], sym (append-nil (answers_of gained))))
    (λ s frame frames gained left t stop makes is. rw (append-nil gained) (left, refl))
    (λ s frame frames gained left t r makes on later. rw (answers_two gained r.calls) (front_before (answers_of gained) (answers_of r.calls) left later))

-- no call is answered twice
no_more_calls : (a : List Answer) (rest : List SignCall) (left : List Answer) → a ≡ (a ++ answers_of rest) ++ left → rest ≡ []
no_more_calls [] [] left is = refl
no_more_calls [] (call ∷ rest) left is = absurd cc
no_more_calls (x ∷ a) rest left is = let tails : a ≡ (a ++ answers_of rest) ++ left = cc in no_more_calls a rest left tails

same_calls : (calls gained : List SignCall) → IsFront gained calls → IsFront (answers_of calls) (answers_of gained) → calls ≡ gained
same_calls calls gained (rest, is) (left, took) =
    let none : rest ≡ [] = no_more_calls (answers_of gained) rest left (took ∙ ap (λ (replies : List Answer). replies ++ left) (ap answers_of is ∙ answers_two gained rest)) in
    is ∙ ap (λ (cs : List SignCall). gained ++ cs) none ∙ append-nil gained

module _ {P : Type 0} (m : Machine P) (max : ℕ) where
  calls_by : (given bytes : List ℕ) (gained : List SignCall) (left : Option (List ℕ)) → prepend given left ≡ Some bytes → (script_run m max (answers_of gained) given).calls ≡ gained → (script_run m max (answers_of gained) bytes).calls ≡ gained
  calls_by given bytes gained None read made = absurd cc
  calls_by given bytes gained (Some more) read made =
      let same : given ++ more ≡ bytes = cc in
      let longer = (begins_so m max (answers_of gained) given more).1 in
      let first : IsFront gained (script_run m max (answers_of gained) bytes).calls = (
        longer.0,
        ap (λ (text : List ℕ). (script_run m max (answers_of gained) text).calls) (sym same) ∙ longer.1
            ∙ ap (λ (cs : List SignCall). cs ++ longer.0) made,
      )
      in
      same_calls (script_run m max (answers_of gained) bytes).calls gained first (run_took m.turn (stop_of max bytes) (taken max bytes) m.first (answers_of gained))

  -- over the whole script the table calls the signer as the run did
  pub made_of : (before now : Streams) (a : Result Ended RunError) → Ends max 0 0 (script_run m max) before now a → (bytes : List ℕ) → before.left ≡ Some bytes →
      (script_run m max (answers_since before.calls now.calls) bytes).calls ≡ since before.calls now.calls
  made_of before now a (given, gained, end) bytes output =
      subst (λ (calls : List SignCall). (script_run m max (answers_of calls) bytes).calls ≡ calls) (sym (since_is before.calls now.calls gained end.asked))
      (calls_by given bytes gained now.left (sym end.read ∙ output) end.made)

-- ---- the guarantees

-- no event of an agent ends the run
none_by_agent : (frames : List Frame) (e : Ended) → StoppedByOther session_own IsAgentCause frames (ended e) → ⊥
none_by_agent [] e never = never
none_by_agent (frame ∷ frames) e (inl (is, (x, read, stop))) = cc
none_by_agent (frame ∷ frames) e (inr by) = none_by_agent frames e by

module _ (hosts : Hosts) (accepts : Accepts) (settings : RunSettings) (max : ℕ) where
  abbrev m : Machine RunState
  m = run_machine hosts accepts settings

  abbrev short : Machine OpeningState
  short = opening_machine hosts settings.opening

  module _ (before now : Streams) (a : Result Ended RunError) (ends : Ends max 0 0 (script_run m max) before now a)
      (bytes : List ℕ) (output : before.left ≡ Some bytes) where
    abbrev calls : List SignCall
    calls = since before.calls now.calls

    -- over the whole script: the run, the opening, and the run of the session over the session's events
    abbrev r : Run
    r = script_run m max (answers_of calls) bytes

    abbrev o : OpeningRun OpeningState
    o = opening_of short session_own max calls bytes

    abbrev part_run : List Answer → Run
    part_run answers = events_run (session_turn hosts accepts) (kept_in settings short.first) (own_events session_own (taken max bytes)) (stop_of max bytes) answers

    made : r.calls ≡ calls
    made = made_of m max before now a ends bytes output

    seen : PartOf session_own (StopsElse session_own IsAgentCause (taken max bytes)) r part_run
    seen = parted session_own (session_turn hosts accepts) agents_turn (session_apart hosts accepts) IsAgentCause (λ s frame is. agents_stop s frame) (stop_of max bytes) (taken max bytes) m.first (answers_of calls)

    opens_so : Prefixed (stop_of max bytes) o o.stop (part_run (own_answers session_own calls))
    opens_so = prefixed hosts accepts settings (stop_of max bytes) (own_events session_own (taken max bytes)) short.first (own_answers session_own calls) (refl, refl)

    -- the session's records and calls begin as the opening's
    begins_both : BeginsAs o.records o.stop (own_records session_own r.records)
        × BeginsAs o.calls o.stop (own_calls session_own calls)
    begins_both =
        begins_by (stop_of max bytes) o o.stop (part_run (own_answers session_own calls))
        (own_records session_own r.records) (own_calls session_own calls) opens_so
        (rw (made, append-nil (own_answers session_own calls)) at (seen.first []))

    -- they are all of its run's, if the run ends, or stops as the session's run does
    whole_says : IsWholePart session_own r part_run →
        part_run (own_answers session_own calls)
        ≡ record { records = own_records session_own r.records; calls = own_calls session_own r.calls; stop = r.stop }
    whole_says is = ap (λ (cs : List SignCall). part_run (own_answers session_own cs)) (sym made) ∙ is

    done_says : (e : Ended) → r.stop ≡ ended e → ConcludesAs o.records o.stop (own_records session_own r.records) e
    done_says e stop =
        let is = whole_says (elim seen.whole [
          | inl is ↦ is
          | inr other ↦ absurd (elim other [
            | inl wanting ↦ let clash : ended e ≡ unanswered_stop = sym stop ∙ wanting in cc
            | inr by ↦ none_by_agent (taken max bytes) e
                (subst (StoppedByOther session_own IsAgentCause (taken max bytes)) stop by)
          ])
        ]) in
        ends_by (stop_of max bytes) o o.stop (part_run (own_answers session_own calls)) (own_records session_own r.records) e opens_so (ap (λ (x : Run). x.records) is) (ap (λ (x : Run). x.stop) is ∙ stop)

    complete_says : (e : Ended) → IsValidBy (stop_of max bytes) o.stop e →
        ((stop : RunStop) → StoppedByOther session_own IsAgentCause (taken max bytes) stop → ⊥) → r.stop ≡ stop_as a →
        a ≡ Ok e
    complete_says e valid others told = elim seen.whole [
      | inl is ↦
          answer_is a e
          (sym told ∙ ap (λ (x : Run). x.stop) (sym (whole_says is))
          ∙ valid_ends (stop_of max bytes) o o.stop (part_run (own_answers session_own calls)) e opens_so valid)
      | inr other ↦ elim other
          [ inl wanting ↦ absurd (answered a (sym told ∙ wanting)) | inr by ↦ absurd (others r.stop by) ]
    ]

  module _ (before now : Streams) where
    pub opening_first_of : (a : Result Ended RunError) → Ends max 0 0 (script_run m max) before now a → IsOpeningFirst short session_own max before now
    opening_first_of a ends = λ bytes output.
        let begin = begins_both before now a ends bytes output in
        (_, prefix_of m max before now a ends bytes output, begin.0, begin.1)

    pub opening_done_of : (a : Result Ended RunError) → Ends max 0 0 (script_run m max) before now a → IsOpeningDone short session_own max before now a
    opening_done_of (Err e) ends = tt
    opening_done_of (Ok e) ends = λ bytes output.
        let done = (done_of max (script_run m max) before now (Ok e) ends).1 bytes output in
        (_, done.1, done_says before now (Ok e) ends bytes output e done.0)

    pub opening_complete_of : (a : Result Ended RunError) (reads reads' writes writes' : ℕ) → Ends max 0 0 (script_run m max) before now a → (a ≡ Err errors.ReadFault → Rose reads reads') → (a ≡ Err errors.WriteFault → Rose writes writes') →
        IsOpeningComplete short session_own IsAgentCause max before now (fault_counts reads writes)
        (fault_counts reads' writes') a
    opening_complete_of a reads reads' writes writes' ends r w = λ bytes e output valid others quiet still.
        elim (told_of max (script_run m max) before now reads reads' writes writes' a ends bytes output r w quiet still) [
          | inl memory ↦ inr memory
          | inr told ↦ inl (complete_says before now a ends bytes output e valid others told)
        ]
