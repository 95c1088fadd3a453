-- A turn that takes an event, from what each of its parts does.
use Rattle.std.proofs.Common.{◌≡◌, ◌∙◌, ap, sym, subst, Bool, Result}
use Rattle.sshc_wire.specs.declared.error.NoMemory.{NoMemory as RanOut}
use Rattle.sshc_auth_event.specs.declared.event.Event.{Event}
use Rattle.sshc_auth.specs.declared.step.Step.{Step}
use Rattle.sshc_auth.specs.Stepping.{GateAnswers}
use Rattle.sshc_client_packets.specs.HostKeyProof.{Accepts}
use Rattle.sshc_client_table.specs.SessionState.{SessionState}
use Rattle.sshc_client_state.specs.OpeningStep.{goes_on}
use Rattle.sshc_client.specs.HandledStep.{SessionSteps}
use Rattle.sshc_client.specs.Stepping.{SessionStepped}
use Rattle.sshc_handle_state.specs.declared.end.Turn.{Turn}
use Rattle.sshc_handle_state.specs.HandleAt.{HandleAt}
use Rattle.sshc_handle_state.specs.Picking.{LinkAt}
use Rattle.sshc_handle_state.specs.Turning.{Binds, CallersAt, Closes, DealsWith, TakesEvent, both, lent_to, turn_by}

pub taken : {E : Type 0} (defaults : Type 0) (gate : GateAnswers E) (accepts : Accepts) (event : Event) (old new bound dealt : HandleAt) (last : SessionState)
    (was is : CallersAt) (link_was link_is : LinkAt) (step : Step E) (goes : Bool) (binding dealing whole : Result (Unit {0}) RanOut) (due turn : Turn E)
    → goes ≡ goes_on step
    → SessionSteps defaults gate accepts event (lent_to old.session was) (lent_to last is) step
    → (defaults → SessionStepped gate accepts event (lent_to old.session was) (lent_to last is) step)
    → Binds event goes (record old { session = last }) bound binding
    → DealsWith bound dealt link_was link_is dealing
    → whole ≡ both binding dealing
    → due ≡ turn_by gate.told_as step whole
    → Closes gate.told_as due dealt new turn
    → TakesEvent defaults gate accepts event old new was is link_was link_is turn
taken {E = E} defaults gate accepts event old new bound dealt last was is link_was link_is step goes binding dealing whole due turn goes_is steps by_default binds deals whole_is due_is closes =
    record {
      last = last;
      step = step;
      steps = record { steps = steps; by_default = by_default };
      bound = bound;
      binding = binding;
      binds = subst (λ (b : Bool). Binds event b (record old { session = last }) bound binding) goes_is binds;
      dealt = dealt;
      dealing = dealing;
      deals = deals;
      closes = subst (λ (d : Turn E). Closes gate.told_as d dealt new turn) (due_is ∙ ap (λ (r : Result (Unit {0}) RanOut). turn_by gate.told_as step r) whole_is) closes;
    }
