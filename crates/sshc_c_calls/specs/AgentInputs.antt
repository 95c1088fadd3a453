-- The inputs of an agent by their numbers, as a caller in C hands them in.
use Rattle.std.specs.Prelude.{◌≡◌, ℕ, ◌==◌, nat_le, true, false, List, length, Option, Some, None, if◌then◌else◌}
use Rattle.sshc_agent_core.specs.declared.input.AgentInput.{AgentInput}
use Rattle.sshc_agent_core.specs.declared.input.AgentInput.TheVariants as inputs
use Rattle.sshc_key.specs.AgentNumbers.{MAX_AGENT_FRAME_LEN}

-- a frame without its length, unless it is too long
abbrev pub frame_of : List ℕ → Option AgentInput
frame_of frame = if nat_le (length frame) MAX_AGENT_FRAME_LEN then Some (inputs.Frame frame) else None

-- 0 a frame; 1 a frame's length above 262144; 2 and 3 the user allows the request asked about, or not; 4 and 5 confirms
-- the use of the key asked about, or not; 6 the client went away
abbrev pub input_of : ℕ → List ℕ → Option AgentInput
input_of number frame =
    if number == 0 then frame_of frame
    else (if number == 1 then Some (inputs.Oversize 262145)
    else (if number == 2 then Some (inputs.RequestAnswer true)
    else (if number == 3 then Some (inputs.RequestAnswer false)
    else (if number == 4 then Some (inputs.KeyAnswer true)
    else (if number == 5 then Some (inputs.KeyAnswer false)
    else (if number == 6 then Some inputs.Close
    else None))))))

-- the status of a call that made no input: the number names none, or memory ran out
abbrev pub RefusesInput : Option AgentInput → ℕ → Type 0
RefusesInput None status = status ≡ 4
RefusesInput (Some input) status = status ≡ 20
