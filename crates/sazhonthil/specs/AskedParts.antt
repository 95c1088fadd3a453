-- The parts of a question by their numbers.
use Rattle.std.specs.Prelude.{ℕ, ◌==◌, if◌then◌else◌, List}
use Rattle.sshc_c_calls.specs.declared.question.Question.{Question}

-- the bytes to sign, the public key's blob, the key pair
abbrev pub part_of : Question → ℕ → List ℕ
part_of question part = if part == 0 then question.bytes else (if part == 1 then question.key else question.pair)
