-- A step of the agent, with its record.
use Rattle.std.proofs.Common.{◌≡◌, inl, inr, ℕ, List, Option, Result, Ok, Err, OnErr, sym, subst}
use Rattle.sshc_wire.specs.declared.record.Record.{Record}
use Rattle.sshc_wire.specs.Outgoing.{listed}
use Rattle.sshc_key.specs.Signers.{SignCall}
use Rattle.sshc_key.specs.Asking.{Makes, MakesFirst}
use Rattle.sshc_key.specs.AskingLaws.{makes_on, first_on, all_first}
use Rattle.sshc_agent_core.specs.declared.input.AgentInput.{AgentInput}
use Rattle.sshc_agent_core.specs.declared.input.AgentOutput.{AgentOutput}
use Rattle.sshc_agent_core.specs.declared.input.AgentOutput.TheVariants as outputs
use Rattle.sshc_agent_core.specs.declared.input.Cause.TheVariants as causes
use Rattle.sshc_agent_core.specs.AgentList.{AgentList}
use Rattle.sshc_agent_core.specs.AgentTable.{Steps, agent_row}
use Rattle.sshc_run_agent.specs.AgentTurns.{input_turn, records_of, said_on}

-- a step that had enough memory is its row
pub input_made : (now conn : ℕ) (input : AgentInput) (before after : AgentList) (gained : List SignCall) (output : AgentOutput) (sent : Option Record) → Steps now conn input before after gained output
    → (output ≡ outputs.Closed causes.NoMemory → ⊥) → listed sent ≡ records_of conn output → Makes (input_turn now conn input before) gained (record { records = listed sent; list = after })
input_made now conn input before after gained output sent (inl makes) told is =
    subst (λ (rs : List Record). Makes (input_turn now conn input before) gained (record { records = rs; list = after })) (sym is)
    (makes_on (said_on conn) (agent_row now conn input before) gained (record { next = after; output = output }) makes)
input_made now conn input before after gained output sent (inr starves) told is = absurd (told starves.closed)

-- the calls are a prefix of those that its row makes
pub input_cut : (now conn : ℕ) (input : AgentInput) (before after : AgentList) (gained : List SignCall) (output : AgentOutput) → Steps now conn input before after gained output → MakesFirst (input_turn now conn input before) gained
input_cut now conn input before after gained output (inl makes) =
    first_on (said_on conn) (agent_row now conn input before) gained (all_first (agent_row now conn input before) gained (record { next = after; output = output }) makes)
input_cut now conn input before after gained output (inr starves) = first_on (said_on conn) (agent_row now conn input before) gained starves.asked

-- what holds in any case holds of an error
pub on_error : {A : Type 0} {E : Type 0} (r : Result A E) (P : Type 0) → P → OnErr r P
on_error (Ok x) P holds = tt
on_error (Err e) P holds = holds
