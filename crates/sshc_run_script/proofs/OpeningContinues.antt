-- The session begins as the opening: its run writes the opening's records first.
use Rattle.std.proofs.Common.{◌≡◌, List, [], ◌∷◌, refl, ap}
use Rattle.sshc_run_script.specs.OpeningRun.{OpeningRun, OpeningStop, opens_before, stops_with, opening, by_turn, Prefixed}
use Rattle.sshc_run_script.proofs.RunNames.{Record, SignCall, Always, Answer, Asking, done, asks, call_of, unanswered_stop, Onward, goes_on, opened, stopped, Frame, ScriptStop, Run, events_run, run_on, asked_run, after, Hosts, Accepts, RunSettings, session_turn, opening_turn, in_session, Turn, OpeningState}
use Rattle.sshc_run_script.proofs.SessionPart.{kept_in, IsUnopened, same_turn, stays_unopened}
use Rattle.sshc_run_script.proofs.AnsweredQuestions.{asked_mapped, front_before}

-- records and calls before both
prefixed_after : {A : Type 0} (st : ScriptStop) (records : List Record) (calls : List SignCall) (o : OpeningRun A) (x : OpeningStop A) (r : Run) → Prefixed st o x r → Prefixed st (after records calls o) x (after records calls r)
prefixed_after st records calls o (opens_before s frames left) r (output, asked, end) = (front_before records o.records r.records output, front_before calls o.calls r.calls asked, end)
prefixed_after st records calls o x r is = ap (λ (y : Run). after records calls y) is

module _ (hosts : Hosts) (accepts : Accepts) (settings : RunSettings) (st : ScriptStop) where
  -- the session's run, once its opening is in this state
  abbrev long : OpeningState → List Frame → List Answer → Run
  long o frames answers = events_run (session_turn hosts accepts) (kept_in settings o) frames st answers

  turn_prefixed : (o : OpeningState) (t : Turn) (next : Onward) (frames : List Frame) (left : List Answer) (later : OpeningRun OpeningState) → t.next ≡ next → (t.next ≡ goes_on → IsUnopened t.state) →
      (IsUnopened t.state → Prefixed st later later.stop (long t.state frames left)) → Prefixed st (by_turn t next frames left later) (by_turn t next frames left later).stop (run_on (in_session (kept_in settings o) t) next (long t.state frames left))
  unfolding events_run
  turn_prefixed o t goes_on frames left later is stays so = prefixed_after st t.records [] later later.stop (long t.state frames left) (so (stays is))
  turn_prefixed o t opened frames left later is stays so =
      (((long t.state frames left).records, refl), ((long t.state frames left).calls, refl), λ none. ap (λ (fs : List Frame). (long t.state fs left).stop) none)
  turn_prefixed o t (stopped stop) frames left later is stays so = refl

  asked_prefixed : (asking : Asking Turn) (answers : List Answer) (first : Turn → List Answer → OpeningRun OpeningState) (whole : Turn → List Answer → Run) →
      Always (λ (t : Turn). t.next ≡ goes_on → IsUnopened t.state) asking → ((t : Turn) (left : List Answer) → (t.next ≡ goes_on → IsUnopened t.state) → Prefixed st (first t left) (first t left).stop (whole t left)) →
      Prefixed st (asked_run (stops_with unanswered_stop) asking answers first) (asked_run (stops_with unanswered_stop) asking answers first).stop (asked_run unanswered_stop asking answers whole)
  asked_prefixed (done t) answers first whole stays each = each t answers stays
  asked_prefixed (asks asked on) [] first whole stays each = refl
  asked_prefixed (asks asked on) (answer ∷ answers) first whole stays each =
      prefixed_after st [] (call_of asked answer ∷ []) (asked_run (stops_with unanswered_stop) (on answer) answers first) (asked_run (stops_with unanswered_stop) (on answer) answers first).stop
      (asked_run unanswered_stop (on answer) answers whole) (asked_prefixed (on answer) answers first whole (stays answer) each)

  -- the records and calls are the opening run's or, once it opens the session, all of them followed by more
  pub prefixed : (frames : List Frame) (o : OpeningState) (answers : List Answer) → IsUnopened o → Prefixed st (opening (opening_turn hosts) o frames answers) (opening (opening_turn hosts) o frames answers).stop (long o frames answers)
  unfolding opening events_run
  prefixed [] o answers un = refl
  prefixed (frame ∷ frames) o answers un =
      rw (same_turn hosts accepts settings o frame un.1, asked_mapped unanswered_stop (in_session (kept_in settings o)) (opening_turn hosts o frame) answers (λ t left. run_on t t.next (events_run (session_turn hosts accepts) t.state frames st left)))
      (asked_prefixed (opening_turn hosts o frame) answers (λ t left. by_turn t t.next frames left (opening (opening_turn hosts) t.state frames left)) (λ t left. run_on (in_session (kept_in settings o) t) t.next (long t.state frames left))
      (stays_unopened hosts o frame un) (λ t left stays. turn_prefixed o t t.next frames left (opening (opening_turn hosts) t.state frames left) refl stays (λ before. prefixed frames t.state left before)))
