-- The calls that a caller keeps of its entries (draft-miller-ssh-agent, section 3.6).
-- The definitions are about whole lists of entries; the code goes through the journal once for each connection.
use Rattle.std.specs.Prelude.{ℕ, ◌+◌, ◌*◌, List, filter, length, map, sum_by, ◌==◌}
use Rattle.sshc_agent_core.specs.declared.entry.Entry.{Entry}
use Rattle.sshc_agent_core.specs.declared.input.AgentInput.{AgentInput}
use Rattle.sshc_agent_core.specs.declared.input.AgentInput.TheVariants as inputs
use Rattle.sshc_agent_core.specs.declared.input.AgentOutput.{AgentOutput}
use Rattle.sshc_agent_core.specs.AgentHistory.{signature_of}
use Rattle.sshc_agent_shared.specs.declared.call.Call.{Call}

-- ---- calls

abbrev pub entry_of : ℕ → ℕ → ℕ → AgentInput → AgentOutput → Entry
entry_of conn number moment input output =
    record { conn = conn; number = number; moment = moment; input = input; signature = signature_of output; output = output }

abbrev pub call_of : ℕ → AgentInput → AgentOutput → Call
call_of moment input output = record { moment = moment; input = input; output = output }

abbrev pub call_in : Entry → Call
call_in e = call_of e.moment e.input e.output

-- the calls of one connection, in their order
abbrev pub calls_of : ℕ → List Entry → List Call
calls_of conn entries = map call_in (filter (λ e. e.conn == conn) entries)

-- ---- weights

-- the number of bytes in the frame, if the input is one
abbrev pub frame_length : AgentInput → ℕ
frame_length (inputs.Frame whole) = length whole
frame_length input = 0

abbrev pub entry_weight : AgentInput → ℕ
entry_weight input = 64 + frame_length input

-- 64 for each seat, and each entry's weight
abbrev pub journal_weight : ℕ → List Entry → ℕ
journal_weight seats entries = 64 * seats + sum_by (λ e. entry_weight e.input) entries
