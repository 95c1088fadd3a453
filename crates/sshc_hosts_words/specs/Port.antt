-- The argument PORT.
use Rattle.std.specs.Prelude.{◌≡◌, ℕ, ◌≤◌, ◌<◌, List, length}
use Rattle.std.specs.Str.Parse.{IsNumeral, digits_value}

-- one to five decimal digits, at most 65535
abbrev pub IsPort : List ℕ → ℕ → Type 0
IsPort word port = (length word ≤ 5) × IsNumeral 10 word × (digits_value 10 word ≡ port) × (port < 65536)
