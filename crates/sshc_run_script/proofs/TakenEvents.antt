-- What taking an event does, for any machine, by the result of a step and what was written.
use Rattle.std.proofs.Common.{◌≡◌, inl, inr, List, [], ◌∷◌, ◌++◌, Option, Some, None, Result, Err, ℕ, refl, ap, sym, ◌∙◌, subst}
use Rattle.std.specs.Option.{option_map}
use Rattle.std.proofs.Math.Seq.{drop-length}
use Rattle.sshc_wire.specs.declared.source.Failed.{Failed}
use Rattle.sshc_wire.specs.declared.source.Failed.TheVariants as failures
use Rattle.sshc_auth.specs.declared.step.Step.{Step}
use Rattle.sshc_run_script.specs.declared.error.RunError.TheVariants as errors
use Rattle.sshc_run_script.proofs.RunNames.{append-nil, append, WroteFront, append-nothing, Record, SignCall, since, Asking, done, Makes, Ended, RunError, HandlerError, TurnOf, stop_next, Ending, cut, ending_of, stop_as, lines, step_answer, Came, CutBy, TakeAs, TakeGives}
use Rattle.sshc_run_script.proofs.Lines.{wrote_all}
use Rattle.sshc_run_script.proofs.ScriptExtension.{wrote_longer}

front_none : (part rest : List ℕ) → [] ≡ part ++ rest → part ≡ []
front_none [] rest h = refl
front_none (b ∷ part) rest h = absurd cc

module _ {S : Type 0} (asking : Asking (TurnOf S)) (gained : List SignCall) where
  take_as : (ending : Ending) (t : TurnOf S) (held now : Option (List ℕ)) (answer : Result Ended RunError) → Makes asking gained t → stop_next t.next ≡ Some (stop_as answer) → now ≡ append held (lines t.records) → TakeAs ending asking gained held now answer
  take_as cut t held now answer makes stop all = inr (t, makes, wrote_all held now (lines t.records) all)
  take_as ending t held now answer makes stop all = (t, makes, stop, all)

  done_by : (t : TurnOf S) (s : S) (held now : Option (List ℕ)) (o : Option (Result Ended RunError)) → Makes asking gained t → stop_next t.next ≡ option_map stop_as o → now ≡ append held (lines t.records) → (stop_next t.next ≡ None → s ≡ t.state) → TakeGives asking gained s held now o
  done_by t s held now None makes stop all state = (t, makes, stop, all, state stop)
  done_by t s held now (Some answer) makes stop all state = take_as (ending_of answer) t held now answer makes stop all

  -- all records are written, and the run continues or stops as the table does
  pub written_turn : (place : ℕ) (step : Step HandlerError) (s : S) (records : List Record) (held now : Option (List ℕ)) →
      Came asking gained place step s records → now ≡ append held (lines records) → TakeGives asking gained s held now (step_answer place step)
  written_turn place step s records held now (inl (want, inl (first, none))) all =
      rw want (inl (first, all ∙ ap (λ rs. append held (lines rs)) none ∙ append-nothing held))
  written_turn place step s records held now (inl (want, inr (t, makes, front))) all =
      rw want (inr (t, makes, wrote_longer held now records t.records front (wrote_all held now (lines records) all)))
  written_turn place step s records held now (inr (t, makes, same, stop, state)) all =
      done_by t s held now (step_answer place step) makes stop (all ∙ ap (λ rs. append held (lines rs)) same) state

  front_of : (place : ℕ) (step : Step HandlerError) (s : S) (records : List Record) (held now : Option (List ℕ)) →
      Came asking gained place step s records → WroteFront held now (lines records) → CutBy asking gained held now
  front_of place step s records held now (inl (want, inl (first, none))) (part, rest, whole, wrote) =
      let empty : [] ≡ part ++ rest = ap lines (sym none) ∙ whole in
      inl (first, wrote ∙ ap (append held) (front_none part rest empty) ∙ append-nothing held)
  front_of place step s records held now (inl (want, inr (t, makes, front))) part = inr (t, makes, wrote_longer held now records t.records front part)
  front_of place step s records held now (inr (t, makes, same, stop, state)) part = inr (t, makes, subst (λ (rs : List Record). WroteFront held now (lines rs)) same part)

  -- a prefix of the records' lines is written
  pub cut_turn : (place : ℕ) (step : Step HandlerError) (s : S) (records : List Record) (held now : Option (List ℕ)) (failed : Failed) (e : RunError) →
      Came asking gained place step s records → WroteFront held now (lines records) → e ≡ (elim failed [ failures.Fault ↦ errors.WriteFault | failures.NoMemory ↦ errors.NoMemory ]) → TakeGives asking gained s held now (Some (Err e))
  cut_turn place step s records held now failures.Fault e came part is = rw is (front_of place step s records held now came part)
  cut_turn place step s records held now failures.NoMemory e came part is = rw is (front_of place step s records held now came part)

-- if the signer's list gained nothing
pub unasked : {S : Type 0} (asking : Asking (TurnOf S)) (calls : List SignCall) (s : S) (held now : Option (List ℕ)) (o : Option (Result Ended RunError)) → TakeGives asking [] s held now o → TakeGives asking (since calls calls) s held now o
unasked asking calls s held now o gives = subst (λ (gained : List SignCall). TakeGives asking gained s held now o) (sym (drop-length calls)) gives

-- the run stops without records and calls
pub stops_turn : {S : Type 0} (t : TurnOf S) (s : S) (calls : List SignCall) (held : Option (List ℕ)) (e : RunError) → t.records ≡ [] → stop_next t.next ≡ Some (stop_as (Err e)) → TakeGives (done t) (since calls calls) s held held (Some (Err e))
stops_turn t s calls held e none stop =
    unasked (done t) calls s held held (Some (Err e)) (take_as (done t) [] (ending_of (Err e)) t held held (Err e) refl stop (sym (append-nothing held) ∙ ap (λ rs. append held (lines rs)) (sym none)))

-- nothing was gained
pub since_none : (old new : List SignCall) → new ≡ old → since old new ≡ []
since_none old new same = ap (since old) same ∙ drop-length old

pub unchanged : (old new : List SignCall) → new ≡ old → new ≡ old ++ since old new
unchanged old new same = same ∙ sym (append-nil old) ∙ ap (λ (gained : List SignCall). old ++ gained) (sym (since_none old new same))
