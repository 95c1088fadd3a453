-- A step of an open session, with any handler, keeps the laws of a step.
use Rattle.std.proofs.Common.{◌≡◌, inl, inr, Bool, true, false, List, [], ◌∷◌, Option, Some, None, IsSome, Result, Ok, Err, refl, ap, sym, subst}
use Rattle.sshc_auth_event.specs.declared.event.Event.{Event}
use Rattle.sshc_auth.specs.declared.error.Error.{Error}
use Rattle.sshc_auth.specs.declared.step.Step.{Step}
use Rattle.sshc_auth.specs.declared.step.Step.TheVariants as steps
use Rattle.sshc_client_packets.specs.HostKeyProof.{Accepts}
use Rattle.sshc_client_table.specs.declared.open_answer.OpenAnswer.{OpenAnswer}
use Rattle.sshc_client_table.specs.declared.open_answer.OpenAnswer.TheVariants.{Accept}
use Rattle.sshc_client_table.specs.Grown.{Grown}
use Rattle.sshc_client_table.specs.Moves.{Fronts, Move, Stops, after, done}
use Rattle.sshc_client_table.specs.SessionRow.{Callback, SessionRow, goes}
use Rattle.sshc_client_table.specs.SessionState.{SessionState, is_live}
use Rattle.sshc_client_table.specs.SessionTable.{session_row}
use Rattle.sshc_client_table.specs.StepLaws.{Borrowed, Followed, OpenStepLaws, behind, front, whole}
use Rattle.sshc_client_table.proofs.StepLawLemmas.{rows_keep}
use Rattle.sshc_client_rows.specs.declared.flow.RowFlow.{RowFlow}
use Rattle.sshc_client_rows.specs.declared.flow.RowFlow.TheVariants as flows
use Rattle.sshc_client.specs.declared.stop.Stop.{Stop}
use Rattle.sshc_client.specs.declared.stop.Stop.TheVariants.{Own, Handler}
use Rattle.sshc_client.specs.Handling.{HandlerAt}
use Rattle.sshc_client.specs.HandledRow.{Cut, FollowsRow, Handled, HandlerRefused, LetGo}
use Rattle.sshc_client.specs.HandledStep.{EndsBy, EndsRow, StepsOpen, goes_on_open, has_left}

-- ---- how far the row was followed

lent_to : (defaults : Type 0) (asks : Option Callback) (lent mid : SessionState) (answer : OpenAnswer) → LetGo defaults asks lent mid answer → Borrowed asks lent mid
lent_to defaults None lent mid answer l = l.0
lent_to defaults (Some callback) lent mid answer l = l.0

refused_to : (asks : Option Callback) (lent new : SessionState) → IsSome asks → Grown lent new → Borrowed asks lent new
refused_to None lent new never grown = let clash : true ≡ false = sym never in absurd cc
refused_to (Some callback) lent new is grown = grown

all_fronts : (moves : List Move) (s : SessionState) → Fronts moves s (done moves s)
all_fronts [] s = refl
all_fronts (move ∷ moves) s = inr (all_fronts moves (after move s))

no_fronts : (moves : List Move) (s : SessionState) → Fronts moves s s
no_fronts [] s = refl
no_fronts (move ∷ moves) s = inl refl

handled_whole : (defaults : Type 0) (row : SessionRow) (old last : SessionState) → row.next ≡ goes → Handled defaults row old last → Followed row old last true
handled_whole defaults row old last next h = whole h.mid h.answer next (lent_to defaults row.asks (done row.front old) h.mid h.answer h.let_go) h.is

handled_behind : (defaults : Type 0) (row : SessionRow) (old last : SessionState) → Handled defaults row old last → Followed row old last false
handled_behind defaults row old last h =
    behind h.mid h.answer (lent_to defaults row.asks (done row.front old) h.mid h.answer h.let_go)
    (subst (λ (t : SessionState). Fronts (row.back h.answer) h.mid t) (sym h.is) (all_fronts (row.back h.answer) h.mid))

cut_followed : (defaults : Type 0) (row : SessionRow) (old last : SessionState) → Cut defaults row old last → Followed row old last false
cut_followed defaults row old last (inl cut) = front cut
cut_followed defaults row old last (inr cut) = behind cut.mid cut.answer (lent_to defaults row.asks (done row.front old) cut.mid cut.answer cut.let_go) cut.is

refused_followed : (defaults : Type 0) (was is : HandlerAt) (row : SessionRow) (old last : SessionState) → HandlerRefused defaults was is row old last → Followed row old last false
refused_followed defaults was is row old last h = behind last Accept (refused_to row.asks (done row.front old) last h.asked h.grown) (no_fronts (row.back Accept) last)

-- ---- the step

-- the end of a session changes only its life
stopped_laws : (accepts : Accepts) (event : Event) (s last : SessionState) → OpenStepLaws accepts event s last false → OpenStepLaws accepts event s (after Stops last) false
unfolding after
stopped_laws accepts event s last laws = record {
  added = laws.added;
  records = laws.records;
  request = laws.request;
  authenticates = laws.authenticates;
  replied = λ on. absurd cc;
  waits = laws.waits;
  resolves = laws.resolves;
  opened = laws.opened;
  quiet = laws.quiet;
  says = laws.says;
  calls = record { calls = laws.calls.calls; table = laws.calls.table; by = laws.calls.by };
  waiting = laws.waiting;
  given = λ on. absurd cc;
  key = λ on. absurd cc;
}

module _ {E : Type 0} (accepts : Accepts) (event : Event) (old : SessionState) where
  abbrev Keeps : SessionState → Step E → Type 0
  Keeps new result = OpenStepLaws accepts event old new (goes_on_open result)

  keeps_as : (new last : SessionState) (result step : Step E) → result ≡ step → new ≡ last → Keeps last step → Keeps new result
  keeps_as new last result step is same laws = rw (is, same) laws

  went_keeps : (left : Bool) (last new : SessionState) (result : Step E) → EndsBy left last new steps.Went result → OpenStepLaws accepts event old last true → OpenStepLaws accepts event old last false → Keeps new result
  went_keeps false last new result ends_so whole_laws cut_laws = keeps_as new last result steps.Went ends_so.0 ends_so.1 whole_laws
  went_keeps true last new result ends_so whole_laws cut_laws = keeps_as new (after Stops last) result (steps.Ended _) ends_so.0 ends_so.1 (stopped_laws accepts event old last cut_laws)

  row_keeps : (defaults : Type 0) (told_as : Error → E) (was is : HandlerAt) (row : SessionRow) (last new : SessionState) (answer : Result RowFlow (Stop E)) (result : Step E) →
      ((t : SessionState) (went : Bool) → Followed row old t went → OpenStepLaws accepts event old t went) →
      FollowsRow defaults was is row old last answer → EndsRow told_as last new answer result → Keeps new result
  row_keeps defaults told_as was is row last new (Ok flows.Went) result each f ends_so =
      went_keeps (has_left last.life) last new result ends_so (each last true (handled_whole defaults row old last f.0 f.1)) (each last false (handled_behind defaults row old last f.1))
  row_keeps defaults told_as was is row last new (Ok (flows.Ended e)) result each f ends_so =
      keeps_as new (after Stops last) result (steps.Ended e) ends_so.0 ends_so.1 (stopped_laws accepts event old last (each last false (handled_behind defaults row old last f.1)))
  row_keeps defaults told_as was is row last new (Err (Own e)) result each (inl f) ends_so =
      keeps_as new (after Stops last) result (steps.Refused (told_as e)) ends_so.0 ends_so.1 (stopped_laws accepts event old last (each last false (cut_followed defaults row old last f.1)))
  row_keeps defaults told_as was is row last new (Err (Own e)) result each (inr f) ends_so =
      keeps_as new (after Stops last) result (steps.Refused (told_as e)) ends_so.0 ends_so.1 (stopped_laws accepts event old last (each last false (handled_behind defaults row old last f.1)))
  row_keeps defaults told_as was is row last new (Err (Handler e)) result each f ends_so =
      keeps_as new (after Stops last) result (steps.Refused e) ends_so.0 ends_so.1 (stopped_laws accepts event old last (each last false (refused_followed defaults was is row old last f)))

pub open_keeps : {E : Type 0} (defaults : Type 0) (told_as : Error → E) (accepts : Accepts) (event : Event) (was is : HandlerAt) (old new : SessionState) (result : Step E) → is_live old ≡ true →
    StepsOpen defaults told_as accepts event was is old new result → OpenStepLaws accepts event old new (goes_on_open result)
open_keeps defaults told_as accepts event was is old new result live s =
    row_keeps accepts event old defaults told_as was is (session_row accepts s.follows.opinions old event) s.last new s.answer result
    (λ t went followed. rows_keep accepts s.follows.opinions event old t went live followed) s.follows.follows s.ends
