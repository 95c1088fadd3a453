-- What an agent asks and takes, from the core's clauses.
use Rattle.std.proofs.Common.{◌≡◌, inl, inr, ℕ, List, [], Option, Some, None, sym, subst}
use Rattle.sshc_key.specs.Asking.{Answer, SignRequest}
use Rattle.sshc_agent_core.specs.declared.input.AgentInput.{AgentInput}
use Rattle.sshc_agent_core.specs.declared.input.AgentOutput.{AgentOutput}
use Rattle.sshc_agent_core.specs.declared.signing.SignQuestion.{SignQuestion}
use Rattle.sshc_agent_core.specs.AgentList.{AgentList}
use Rattle.sshc_agent_core.specs.AgentTable.{Steps}
use Rattle.sshc_agent_core.specs.Asked.{asked_of, request_by}
use Rattle.sshc_agent_core.specs.Turn.{told_calls}
use Rattle.sshc_c_calls.specs.declared.question.Question.{Question}
use Rattle.sshc_c_calls.specs.AgentInputs.{RefusesInput}
use Rattle.sshc_c_calls.specs.AgentOutputs.{Returned, TakesInput, TakesNumber, bytes_of, number_of, said_as, status_of}
use Rattle.sshc_c_calls.specs.Questions.{AsksNumber, AsksRequest, HasNoParts, HasParts}

pub asked_none : (conn : ℕ) (q : Option SignRequest) (question : Question) (status : ℕ) → request_by conn None ≡ q → status ≡ 6 → HasNoParts question → AsksRequest q question status
asked_none conn q question status is h none = subst (λ (q : Option SignRequest). AsksRequest q question status) is (h, none)

pub asked_some : (conn : ℕ) (asked : SignQuestion) (q : Option SignRequest) (question : Question) (status : ℕ) → request_by conn (Some asked) ≡ q → HasParts asked question → status ≡ 12 → AsksRequest q question status
asked_some conn asked q question status is parts h =
    subst (λ (q : Option SignRequest). AsksRequest q question status) is
    (inr (h, record { hash = parts.hash; bytes = parts.bytes; key = parts.key; pair = parts.pair }))

pub starved : (conn : ℕ) (asked : SignQuestion) (q : Option SignRequest) (question : Question) (status : ℕ) → request_by conn (Some asked) ≡ q → status ≡ 20 → HasNoParts question → AsksRequest q question status
starved conn asked q question status is h none = subst (λ (q : Option SignRequest). AsksRequest q question status) is (inl (h, none))

pub taken : (now conn : ℕ) (input : AgentInput) (answer told : Option Answer) (old new : AgentList) (output : AgentOutput) (bytes : List ℕ) (number status : ℕ)
    → told ≡ answer → Steps now conn input old new (told_calls (asked_of now conn input old) told) output → bytes ≡ bytes_of output → number ≡ number_of output → status ≡ status_of output
    → TakesInput now conn input answer old new (said_as bytes number status)
taken now conn input answer told old new output bytes number status same steps is_bytes is_number is_status = record {
  output = output;
  steps = subst (λ (a : Option Answer). Steps now conn input old new (told_calls (asked_of now conn input old) a) output) same steps;
  bytes = is_bytes;
  number = is_number;
  status = is_status;
}

pub refused_ask : (now conn : ℕ) (o : Option AgentInput) (list : AgentList) (question : Question) (status : ℕ) → RefusesInput o status → HasNoParts question → AsksNumber now conn o list question status
refused_ask now conn None list question status h none = (h, none)
refused_ask now conn (Some input) list question status h none = inl (h, none)

pub made_ask : (now conn : ℕ) (o : Option AgentInput) (input : AgentInput) (list : AgentList) (question : Question) (status : ℕ) → o ≡ Some input → AsksRequest (asked_of now conn input list) question status → AsksNumber now conn o list question status
made_ask now conn o input list question status is h = subst (λ (o : Option AgentInput). AsksNumber now conn o list question status) (sym is) (inr h)

pub refused_take : (now conn : ℕ) (o : Option AgentInput) (answer : Option Answer) (old new : AgentList) (bytes : List ℕ) (number status : ℕ) → RefusesInput o status → bytes ≡ [] → number ≡ 0 → new ≡ old
    → TakesNumber now conn o answer old new (said_as bytes number status)
refused_take now conn None answer old new bytes number status h empty zero same = ((h, empty, zero), same)
refused_take now conn (Some input) answer old new bytes number status h empty zero same = inl ((h, empty, zero), same)

pub made_take : (now conn : ℕ) (o : Option AgentInput) (input : AgentInput) (answer : Option Answer) (old new : AgentList) (returned : Returned) → o ≡ Some input → TakesInput now conn input answer old new returned → TakesNumber now conn o answer old new returned
made_take now conn o input answer old new returned is h = subst (λ (o : Option AgentInput). TakesNumber now conn o answer old new returned) (sym is) (inr h)
