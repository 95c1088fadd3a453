-- Outputs as lines: a byte of kind and the fields, as lower-case hexadecimal digits, and a line feed.
-- A map over the whole list; the code writes each line as it comes.
use Rattle.std.specs.Prelude.{ℕ, List, ◌∷◌, ◌++◌}
use Rattle.std.specs.List.{flat_map}
use Rattle.sshc_wire.specs.DigitLines.{text_line}
use Rattle.sshc_wire.specs.Wire.{u32_text, string_text}
use Rattle.sshc_forward_core.specs.declared.output.FwdOutput.{FwdOutput}
use Rattle.sshc_forward_core.specs.declared.output.FwdOutput.TheVariants.{OpenChannel, SendData, SendEof, WriteBytes, EndWriting, CloseStream, CloseChannel}

abbrev pub output_text : FwdOutput → List ℕ
output_text (OpenChannel stream host port originator originator_port) =
    129 ∷ (u32_text stream ++ string_text host ++ u32_text port ++ string_text originator ++ u32_text originator_port)
output_text (SendData channel bytes) = 130 ∷ (u32_text channel ++ string_text bytes)
output_text (SendEof channel) = 131 ∷ u32_text channel
output_text (WriteBytes stream bytes) = 132 ∷ (u32_text stream ++ string_text bytes)
output_text (EndWriting stream) = 133 ∷ u32_text stream
output_text (CloseStream stream) = 134 ∷ u32_text stream
output_text (CloseChannel channel) = 135 ∷ u32_text channel

abbrev pub line : FwdOutput → List ℕ
line o = text_line (output_text o)

abbrev pub lines : List FwdOutput → List ℕ
lines outputs = flat_map line outputs
