-- What a caller knows about a call, and that the call of Close asks no question and writes nothing.
use Rattle.std.proofs.Common.{◌≡◌, ℕ, List, [], ◌∷◌, ◌++◌, Option, Some, None, Result, Ok, Err, IfOk, OnErr, refl, sym, ap, subst, arith, inl, inr}
use Rattle.sshc_wire.specs.Faults.{Rose}
use Rattle.sshc_key.specs.Signers.{SignCall}
use Rattle.sshc_key.specs.Asking.{Asking, Makes, asks, done}
use Rattle.sshc_agent_core.specs.declared.connections.Standing.{Standing}
use Rattle.sshc_agent_core.specs.declared.connections.Standing.TheVariants as standings
use Rattle.sshc_agent_shared.specs.declared.call.Call.{Call}
use Rattle.sshc_agent_core.specs.declared.input.AgentInput.{AgentInput}
use Rattle.sshc_agent_core.specs.declared.input.AgentInput.TheVariants as inputs
use Rattle.sshc_agent_core.specs.declared.input.AgentOutput.{AgentOutput}
use Rattle.sshc_agent_core.specs.AgentHistory.{stands_in}
use Rattle.sshc_agent_core.specs.AgentList.{AgentList, aged, seen}
use Rattle.sshc_agent_core.specs.AgentTable.{Steps, agent_row, seen_row, standing_row}
use Rattle.sshc_agent_core.specs.Turn.{Outcome}
use Rattle.sshc_agent_shared.specs.declared.error.CallRefused.{CallRefused}
use Rattle.sshc_agent_shared.specs.Calls.{call_of}
use Rattle.sshc_agent_shared.specs.Closing.{Tells}
use Rattle.sshc_agent_shared.specs.Kept.{SeatState, refused_once}
use Rattle.sshc_agent.specs.Talk.{Closes, IsCall, IsRefused, question, reply}

abbrev Silent : AgentOutput → Type 0
Silent output = (question output ≡ None) × (reply output ≡ [])

abbrev Quietly : Asking Outcome → Type 0
Quietly (done o) = Silent o.output
Quietly (asks asked on) = ⊥

standing_quiet : (stands : Option Standing) (conn : ℕ) (l : AgentList) → Quietly (standing_row stands conn inputs.Close l)
standing_quiet None conn l = (refl, refl)
standing_quiet (Some standings.Open) conn l = (refl, refl)
standing_quiet (Some standings.Closed) conn l = (refl, refl)
standing_quiet (Some (standings.RequestAsked whole)) conn l = (refl, refl)
standing_quiet (Some (standings.KeyAsked whole)) conn l = (refl, refl)

row_quiet : (now conn : ℕ) (before : AgentList) → Quietly (agent_row now conn inputs.Close before)
unfolding agent_row seen_row
row_quiet now conn before = standing_quiet (stands_in before conn) conn (seen conn (aged now before))

makes_quiet : (asking : Asking Outcome) (gained : List SignCall) (o : Outcome) → Quietly asking → Makes asking gained o → Silent o.output
makes_quiet (done x) [] o quiet is = subst (λ (y : Outcome). Silent y.output) is quiet
makes_quiet (done x) (call ∷ gained) o quiet is = absurd is
makes_quiet (asks asked on) gained o quiet is = absurd quiet

step_quiet : (now conn : ℕ) (before after : AgentList) (gained : List SignCall) (output : AgentOutput) → Steps now conn inputs.Close before after gained output → Silent output
step_quiet now conn before after gained output (inl makes) = makes_quiet (agent_row now conn inputs.Close before) gained (record { next = after; output = output }) (row_quiet now conn before) makes
step_quiet now conn before after gained output (inr starves) = subst Silent (sym starves.closed) (refl, refl)

told_quiet : (seat seat' : SeatState) (now : ℕ) (output : AgentOutput) (gained : List SignCall) → Tells seat seat' (call_of now inputs.Close output) gained → Silent output
told_quiet seat seat' now output gained t = step_quiet now seat.conn t.step.legal.last t.step.next gained output t.step.step

pub told_call : (seat seat' : SeatState) (call : Call) (gained : List SignCall) → Tells seat seat' call gained → IsCall seat seat' call.input call
told_call seat seat' call gained t =
    record {
      given = refl;
      calls = ap (λ (s : SeatState). s.calls) t.added;
      conn = ap (λ (s : SeatState). s.conn) t.added;
      unrefused = ap (λ (s : SeatState). s.refused) t.added;
    }

pub told_refused : (seat seat' : SeatState) → seat' ≡ refused_once seat → IsRefused seat seat'
told_refused seat seat' is =
    record {
      calls = ap (λ (s : SeatState). s.calls) is;
      conn = ap (λ (s : SeatState). s.conn) is;
      counted = subst (λ (n : ℕ). Rose seat.refused n) (sym (ap (λ (s : SeatState). s.refused) is)) (omega arith);
    }

pub told_close : (seat seat' : SeatState) (now : ℕ) (gained : List SignCall) (r : Result AgentOutput CallRefused) → IfOk r (λ out. Tells seat seat' (call_of now inputs.Close out) gained) → OnErr r (seat' ≡ refused_once seat) → Closes seat seat'
told_close seat seat' now gained (Ok output) tells refused =
    let quiet = told_quiet seat seat' now output gained tells in
    inl (call_of now inputs.Close output, told_call seat seat' (call_of now inputs.Close output) gained tells, quiet.0, quiet.1)
told_close seat seat' now gained (Err e) tells refused = inr (told_refused seat seat' refused)

pub refused_from : (seat seat' : SeatState) (r : Result AgentOutput CallRefused) → OnErr r (seat' ≡ refused_once seat) → OnErr r (IsRefused seat seat')
refused_from seat seat' (Ok output) refused = tt
refused_from seat seat' (Err e) refused = told_refused seat seat' refused
