-- How many bytes an output has: the room that a caller needs before the step.
use Rattle.std.specs.Prelude.{ℕ, length}
use Rattle.sshc_agent_core.specs.declared.input.AgentOutput.{AgentOutput}
use Rattle.sshc_agent_core.specs.declared.input.AgentOutput.TheVariants.{Answer, AskKey}

-- those of the frame with its length, or of the blob that a question names
abbrev pub answer_bytes : AgentOutput → ℕ
answer_bytes (Answer whole) = length whole
answer_bytes (AskKey blob) = length blob
answer_bytes output = 0
