-- `SignerFault` is the result of a step only if the signer's count of refusals rose: neither the known hosts gate nor a
-- row of an open session has this error, and the opening has it from the signer alone.
use Rattle.std.proofs.Common.{◌≡◌, inl, inr, ℕ, Bool, true, false, Some, Err, refl, subst}
use Rattle.sshc_wire.specs.Faults.{Rose}
use Rattle.sshc_key.specs.declared.error.Error.TheVariants as key_errors
use Rattle.sshc_auth.specs.declared.error.Error.{Error}
use Rattle.sshc_auth.specs.declared.error.Error.TheVariants as auths
use Rattle.sshc_auth.specs.declared.step.Step.{Step}
use Rattle.sshc_auth.specs.declared.step.Step.TheVariants as steps
use Rattle.sshc_auth.specs.Causes.{CountRose, HasGateCause}
use Rattle.sshc_auth.specs.Stepping.{LentGate, lent, with_gate}
use Rattle.sshc_client_table.specs.OpenCauseLaws.{NextCaused, open_why, session_holds}
use Rattle.sshc_client_table.specs.SessionRow.{Next, refuses}
use Rattle.sshc_client_state.specs.OpeningStep.{Lent, outgoing}
use Rattle.sshc_client.specs.Stepping.{SessionStepped, StepsRow}
use Rattle.sshc_run_script.specs.declared.error.RunError.TheVariants as errors
use Rattle.sshc_run_script.specs.declared.known_hosts_handler.HandlerError.TheVariants.{Client, Key}
use Rattle.sshc_run_script.specs.RunFaults.{SignerTaken}
use Rattle.sshc_run_script.proofs.RunNames.{Event, Accepts, SessionRow, SessionState, is_live, is_open, session_row, default_opinions, HandlerError, Hosts, IsReady, step_answer}
use Rattle.sshc_run_script.proofs.OpeningSteps.{gated, hosts_gate}
use Rattle.sshc_run_script.proofs.SessionSteps.{later_opens}

-- ---- which error it is

refused_so : (place : ℕ) (step : Step HandlerError) → step_answer place step ≡ Some (Err errors.SignerFault) → step ≡ steps.Refused (Client auths.SignerFault)
refused_so place (steps.Refused (Client auths.SignerFault)) same = refl
refused_so place (steps.Refused (Key key_errors.Decode)) same = absurd cc
refused_so place step same = absurd cc

-- ---- before the session is open, and in an open one

opening_fault : (hosts : Hosts) (event : Event) (was is : LentGate) → HasGateCause (hosts_gate hosts) event was is (steps.Refused (Client auths.SignerFault)) → Rose was.rest.refusals is.rest.refusals
opening_fault hosts event was is (inl (why, told, cause, rose)) =
    let reported : Client auths.SignerFault ≡ Client why = told in
    let same : why ≡ auths.SignerFault = cc in
    subst (λ (e : Error). CountRose was.rest.refusals is.rest.refusals e) same rose
opening_fault hosts event was is (inr ((mid, answered), rose)) =
    -- an error of the session is never the gate's
    let (clear, (k, of_key, turn)) = gated hosts 0 was.rest.opening event was.rest.outbox mid _ (Err (Client auths.SignerFault)) answered in
    absurd cc

open_fault : (s new : SessionState) (event : Event) (row : SessionRow) → NextCaused (open_why s event) row.next → StepsRow Client row s new (steps.Refused (Client auths.SignerFault)) → ⊥
open_fault s new event row caused (e, mid, told, same, inl (memory, fronts)) = let clash : auths.SignerFault ≡ auths.NoMemory = cc in absurd cc
open_fault s new event row caused (e, mid, told, same, inr (next, moved)) =
    let stops : row.next ≡ refuses auths.SignerFault = cc in subst (λ (n : Next). NextCaused (open_why s event) n) stops caused

module _ (hosts : Hosts) (accepts : Accepts) (event : Event) (was is : Lent) (ready : IsReady was.session) where
  fault_by : (opened : Bool) → is_open was.session.opening.phase ≡ opened → (step : Step HandlerError) → SessionStepped (hosts_gate hosts) accepts event was is step → step ≡ steps.Refused (Client auths.SignerFault) → Rose was.signer_refusals is.signer_refusals
  fault_by false un step stepped same =
      let refused = subst (λ (x : Step HandlerError). SessionStepped (hosts_gate hosts) accepts event was is x) same stepped in
      let so = refused.opening (later_opens was.session ready un) in
      let before : LentGate = with_gate (lent was.session.opening (outgoing was.session) was.calls was.signer_refusals) was.gate_refusals was.setting in
      let now : LentGate = with_gate (lent so.opening so.output is.calls is.signer_refusals) is.gate_refusals is.setting in
      opening_fault hosts event before now so.stepped.cause
  fault_by true on step stepped same =
      let opened = subst (λ (x : Step HandlerError). SessionStepped (hosts_gate hosts) accepts event was is x) same stepped in
      let live : is_live was.session ≡ true = rw (ready.runs, on) refl in
      let row = session_row accepts (default_opinions was.session) was.session event in
      absurd (open_fault was.session is.session event row (session_holds accepts (default_opinions was.session) was.session event on).caused (opened.row live).0)

  pub step_signer : (place : ℕ) (step : Step HandlerError) → SessionStepped (hosts_gate hosts) accepts event was is step → SignerTaken was.signer_refusals is.signer_refusals (step_answer place step)
  step_signer place step stepped = record {
    later = stepped.signer;
    fault = λ answer. fault_by (is_open was.session.opening.phase) refl step stepped (refused_so place step answer);
  }
