-- The result of a row of the agent table, and what a call that implements it does.
-- A row is plain data: the agent's state after it, the connection's new state and the answer; or the key that is to
-- sign, with what follows its blob in the request.
use Rattle.std.specs.Prelude.{◌≡◌, ℕ, List, [], ◌∷◌, Option, Some, None, Result, Ok, Err}
use Rattle.sshc_wire.specs.Wire.{string_text}
use Rattle.sshc_wire.specs.declared.error.NoMemory.{NoMemory}
use Rattle.sshc_key.specs.Signers.{SignCall}
use Rattle.sshc_key.specs.Asking.{Answer, Asking, Makes, SignRequest, asks, call_of, done}
use Rattle.sshc_agent_core.specs.declared.agent_core.turn.Turn.{Turn as Taken}
use Rattle.sshc_agent_core.specs.declared.agent_core.turn.Turn.TheVariants as taken
use Rattle.sshc_agent_core.specs.declared.connections.Standing.{Standing}
use Rattle.sshc_agent_core.specs.declared.connections.Standing.TheVariants.{Open, Closed}
use Rattle.sshc_agent_core.specs.declared.input.AgentOutput.{AgentOutput}
use Rattle.sshc_agent_core.specs.declared.input.AgentOutput.TheVariants as outputs
use Rattle.sshc_agent_core.specs.declared.input.Cause.{Cause}
use Rattle.sshc_agent_core.specs.declared.key_list.HeldKey.{HeldKey}
use Rattle.sshc_key.specs.AgentNumbers.{FAILURE, SUCCESS}
use Rattle.sshc_agent_core.specs.AgentList.{AgentList}

pub data Turn : Type 0 where
  -- the agent's state except the connection's; the connection's new state; the answer
  says : AgentList → Standing → AgentOutput → Turn
  -- the agent's state, the key that is to sign, and what follows its blob
  signs : AgentList → HeldKey → List ℕ → Turn

-- the agent's state after an input, and the answer
pub record Outcome : Type 0 where
  pub next : AgentList
  pub output : AgentOutput

-- ---- terms that the table uses

-- a frame with its length (draft-miller-ssh-agent, section 3)
abbrev pub frame : List ℕ → AgentOutput
frame body = outputs.Answer (string_text body)

-- an answer, after which no question is open
abbrev pub answers : AgentList → List ℕ → Turn
answers l body = says l Open (frame body)

abbrev pub fails : AgentList → Turn
fails l = answers l (FAILURE ∷ [])

abbrev pub succeeds : AgentList → Turn
succeeds l = answers l (SUCCESS ∷ [])

-- the connection is closed
abbrev pub closes : AgentList → Cause → Turn
closes l cause = says l Closed (outputs.Closed cause)

-- nothing changes, and there is no answer
abbrev pub ignored : AgentList → Outcome
ignored l = record { next = l; output = outputs.Nothing }

-- ---- what a call does

-- the result of a call that answers with this body
abbrev pub answered : List ℕ → Taken
answered body = taken.Says Open (frame body)

-- a call that took a row's turn leaves the connections unchanged; if memory ran out, it changed nothing
abbrev pub Follows : Turn → AgentList → AgentList → Result Taken NoMemory → Type 0
Follows turn old new (Ok (taken.Says stands output)) = (turn ≡ says new stands output) × (new.conns ≡ old.conns)
Follows turn old new (Ok (taken.Signs rest)) = (new ≡ old) × (key : HeldKey) × (turn ≡ signs new key rest.now)
Follows turn old new (Err e) = new ≡ old

-- ---- questions to the signer and their answers

-- what a row asks to be signed, if it asks
abbrev pub asked_in : Asking Outcome → Option SignRequest
asked_in (done o) = None
asked_in (asks q on) = Some q

-- the signer's calls that a request and its answer stand for: none if nothing was asked, or nothing was answered
abbrev pub told_calls : Option SignRequest → Option Answer → List SignCall
told_calls (Some q) (Some answer) = call_of q answer ∷ []
told_calls q answer = []

-- a call that was told the signer's answer did what the row does with it; if memory ran out, it changed nothing
abbrev pub FollowsTold : Asking Outcome → AgentList → AgentList → Option Answer → Result AgentOutput NoMemory → Type 0
FollowsTold asking old new answer (Ok output) = Makes asking (told_calls (asked_in asking) answer) (record { next = new; output = output })
FollowsTold asking old new answer (Err e) = new ≡ old
