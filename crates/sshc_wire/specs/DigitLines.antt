-- Bytes as a line: two lower-case hexadecimal digits for each byte, and a line feed.
use Rattle.std.specs.Prelude.{ℕ, List, [], ◌∷◌, ◌++◌}
use Rattle.hex.specs.Hex.{encode_lower}

abbrev pub text_line : List ℕ → List ℕ
text_line text = encode_lower text ++ 10 ∷ []
