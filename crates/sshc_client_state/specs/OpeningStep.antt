-- A step of the opening before the session is open: it works on the session's own records, and changes nothing else of
-- the session except its life.
use Rattle.std.specs.Prelude.{◌≡◌, ℕ, Bool, true, false, not, List}
use Rattle.sshc_wire.specs.Outgoing.{Outgoing}
use Rattle.sshc_auth_event.specs.declared.event.Event.{Event}
use Rattle.sshc_key.specs.Signers.{SignCall}
use Rattle.sshc_auth.specs.declared.step.Step.{Step}
use Rattle.sshc_auth.specs.declared.step.Step.TheVariants as steps
use Rattle.sshc_auth.specs.OpeningState.{OpeningState}
use Rattle.sshc_auth.specs.Promises.{Stepped}
use Rattle.sshc_auth.specs.Stepping.{GateAnswers, lent, with_gate}
use Rattle.sshc_client_table.specs.declared.life.Life.{Life}
use Rattle.sshc_client_table.specs.declared.life.Life.TheVariants.{Over, Runs}
use Rattle.sshc_client_table.specs.SessionRow.{Callback}
use Rattle.sshc_client_table.specs.SessionState.{SessionState, runs}

-- what a step borrows besides its session, as it is at one moment: the signer's calls and refusals, and the gate's
-- refusals with what it judges by and the calls of it that it keeps, newest first
pub record Lent : Type 0 where
  pub session : SessionState
  pub calls : List SignCall
  pub signer_refusals : ℕ
  pub gate_refusals : ℕ
  pub setting : List (List ℕ)
  pub heard : List Callback

abbrev pub lent_session : SessionState → List SignCall → ℕ → ℕ → List (List ℕ) → List Callback → Lent
lent_session session calls signer_refusals gate_refusals setting heard =
    record { session = session; calls = calls; signer_refusals = signer_refusals; gate_refusals = gate_refusals; setting = setting; heard = heard }

-- the session continues after the opening's step
abbrev pub goes_on : {E : Type 0} → Step E → Bool
goes_on steps.Went = true
goes_on steps.Opened = true
goes_on step = false

abbrev pub life_if : Bool → Life
life_if true = Runs
life_if false = Over

-- if the session continues its life is as it was, else it is over
abbrev pub life_behind : Bool → Life → Life
life_behind true life = life
life_behind false life = Over

-- the records of a session, which drops packets once the user has left it
abbrev pub outbox_of : SessionState → Outgoing
outbox_of s = record { records = s.records; muted = not (runs s.life) }

-- the opening's step on the session's records, where nothing else of the session changes except its life
pub record StepsLent {E : Type 0} (gate : GateAnswers E) (event : Event) (was is : Lent) (result : Step E) : Type 0 where
  pub opening : OpeningState
  pub output : Outgoing
  pub stepped :
      Stepped gate event (with_gate (lent was.session.opening (outbox_of was.session) was.calls was.signer_refusals) was.gate_refusals was.setting)
      (with_gate (lent opening output is.calls is.signer_refusals) is.gate_refusals is.setting) result
  pub rest : is.session ≡ record (was.session) { opening = opening; records = output.records; life = life_behind (goes_on result) was.session.life }

-- the records of a session that drops no packets
abbrev pub outgoing : SessionState → Outgoing
outgoing s = record { records = s.records; muted = false }

-- the opening's step on the session's records, where nothing else of the session changes
pub record StepsOpening {E : Type 0} (gate : GateAnswers E) (event : Event) (was is : Lent) (result : Step E) : Type 0 where
  pub opening : OpeningState
  pub output : Outgoing
  pub stepped :
      Stepped gate event (with_gate (lent was.session.opening (outgoing was.session) was.calls was.signer_refusals) was.gate_refusals was.setting)
      (with_gate (lent opening output is.calls is.signer_refusals) is.gate_refusals is.setting) result
  pub rest : is.session ≡ record (was.session) { opening = opening; records = output.records; life = life_if (goes_on result) }
