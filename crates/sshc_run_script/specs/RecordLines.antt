-- Record lines: each record as lower-case hexadecimal digits and a line feed.
-- A map over a whole list; the code writes each record as it comes.
use Rattle.std.specs.Prelude.{ℕ, List}
use Rattle.std.specs.List.{flat_map}
use Rattle.sshc_wire.specs.DigitLines.{text_line}
use Rattle.sshc_wire.specs.declared.record.Record.{Record}
use Rattle.sshc_wire.specs.Records.{record_text}

abbrev pub line : Record → List ℕ
line output = text_line (record_text output)

abbrev pub lines : List Record → List ℕ
lines records = flat_map line records

-- the lines of records that are kept as their texts
abbrev pub text_lines : List (List ℕ) → List ℕ
text_lines texts = flat_map text_line texts
