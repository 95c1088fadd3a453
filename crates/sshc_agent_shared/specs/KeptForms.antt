-- What the forms in which calls are kept stand for: frames of one byte, and the answers SUCCESS and FAILURE, are kept
-- without their bytes.
use Rattle.std.specs.Prelude.{[], ◌∷◌}
use Rattle.std.specs.Arc.{arc_value}
use Rattle.sshc_key.specs.AgentNumbers.{FAILURE, SUCCESS}
use Rattle.sshc_agent_core.specs.declared.input.AgentInput.{AgentInput}
use Rattle.sshc_agent_core.specs.declared.input.AgentInput.TheVariants as inputs
use Rattle.sshc_agent_core.specs.declared.input.AgentOutput.{AgentOutput}
use Rattle.sshc_agent_core.specs.declared.input.AgentOutput.TheVariants as outputs
use Rattle.sshc_agent_shared.specs.declared.form.InputForm.{InputForm}
use Rattle.sshc_agent_shared.specs.declared.form.InputForm.TheVariants as ins
use Rattle.sshc_agent_shared.specs.declared.form.OutputForm.{OutputForm}
use Rattle.sshc_agent_shared.specs.declared.form.OutputForm.TheVariants as outs
use Rattle.sshc_agent_shared.specs.declared.form.BareInput.{BareInput}
use Rattle.sshc_agent_shared.specs.declared.form.BareInput.TheVariants as bare_ins
use Rattle.sshc_agent_shared.specs.declared.form.BareOutput.{BareOutput}
use Rattle.sshc_agent_shared.specs.declared.form.BareOutput.TheVariants as bare_outs
use Rattle.sshc_agent_shared.specs.declared.form.InputSeen.{InputSeen}
use Rattle.sshc_agent_shared.specs.declared.form.InputSeen.TheVariants as seen_ins
use Rattle.sshc_agent_shared.specs.declared.form.OutputSeen.{OutputSeen}
use Rattle.sshc_agent_shared.specs.declared.form.OutputSeen.TheVariants as seen_outs
use Rattle.sshc_agent_shared.specs.declared.form.Form.{Form}
use Rattle.sshc_agent_shared.specs.declared.form.Form.TheVariants as forms

abbrev pub input_of : InputForm → AgentInput
input_of (ins.Byte byte) = inputs.Frame (byte ∷ [])
input_of (ins.Frame bytes) = inputs.Frame bytes
input_of (ins.Oversize length) = inputs.Oversize length
input_of (ins.RequestAnswer allowed) = inputs.RequestAnswer allowed
input_of (ins.KeyAnswer confirmed) = inputs.KeyAnswer confirmed
input_of ins.Close = inputs.Close

abbrev pub output_of : OutputForm → AgentOutput
output_of outs.Failure = outputs.Answer (0 ∷ 0 ∷ 0 ∷ 1 ∷ FAILURE ∷ [])
output_of outs.Success = outputs.Answer (0 ∷ 0 ∷ 0 ∷ 1 ∷ SUCCESS ∷ [])
output_of (outs.Answer frame) = outputs.Answer frame
output_of (outs.AskRequest message) = outputs.AskRequest message
output_of (outs.AskKey blob) = outputs.AskKey blob
output_of outs.Nothing = outputs.Nothing
output_of (outs.Closed cause) = outputs.Closed cause

-- ---- without bytes

abbrev pub bare_input : BareInput → AgentInput
bare_input (bare_ins.Byte byte) = inputs.Frame (byte ∷ [])
bare_input (bare_ins.RequestAnswer allowed) = inputs.RequestAnswer allowed
bare_input (bare_ins.KeyAnswer confirmed) = inputs.KeyAnswer confirmed
bare_input bare_ins.Close = inputs.Close

abbrev pub bare_output : BareOutput → AgentOutput
bare_output bare_outs.Failure = outputs.Answer (0 ∷ 0 ∷ 0 ∷ 1 ∷ FAILURE ∷ [])
bare_output bare_outs.Success = outputs.Answer (0 ∷ 0 ∷ 0 ∷ 1 ∷ SUCCESS ∷ [])
bare_output (bare_outs.AskRequest message) = outputs.AskRequest message
bare_output bare_outs.Nothing = outputs.Nothing
bare_output (bare_outs.Closed cause) = outputs.Closed cause

-- ---- an input with its output

abbrev pub form_input : Form → AgentInput
form_input (forms.Bare input output) = bare_input input
form_input (forms.Asked message bytes) = inputs.Frame (arc_value bytes)
form_input (forms.Answered input bytes) = bare_input input
form_input (forms.Whole both) = input_of both.value.input

abbrev pub form_output : Form → AgentOutput
form_output (forms.Bare input output) = bare_output output
form_output (forms.Asked message bytes) = outputs.AskRequest message
form_output (forms.Answered input bytes) = outputs.Answer (arc_value bytes)
form_output (forms.Whole both) = output_of both.value.output

-- ---- where they are kept

abbrev pub seen_input : InputSeen → AgentInput
seen_input (seen_ins.Byte byte) = inputs.Frame (byte ∷ [])
seen_input (seen_ins.Frame bytes) = inputs.Frame bytes.now
seen_input (seen_ins.Oversize length) = inputs.Oversize length
seen_input (seen_ins.RequestAnswer allowed) = inputs.RequestAnswer allowed
seen_input (seen_ins.KeyAnswer confirmed) = inputs.KeyAnswer confirmed
seen_input seen_ins.Close = inputs.Close

abbrev pub seen_output : OutputSeen → AgentOutput
seen_output seen_outs.Failure = outputs.Answer (0 ∷ 0 ∷ 0 ∷ 1 ∷ FAILURE ∷ [])
seen_output seen_outs.Success = outputs.Answer (0 ∷ 0 ∷ 0 ∷ 1 ∷ SUCCESS ∷ [])
seen_output (seen_outs.Answer frame) = outputs.Answer frame.now
seen_output (seen_outs.AskRequest message) = outputs.AskRequest message
seen_output (seen_outs.AskKey blob) = outputs.AskKey blob.now
seen_output seen_outs.Nothing = outputs.Nothing
seen_output (seen_outs.Closed cause) = outputs.Closed cause
