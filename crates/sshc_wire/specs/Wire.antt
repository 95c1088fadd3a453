-- Wire text: numbers, strings and lists of names as bytes (RFC 4251, section 5).
-- Each definition writes a whole list; the code appends part by part, and reads by moving a cursor.
use Rattle.std.specs.Prelude.{ℕ, Bool, ◌<◌, ◌^◌, if◌then◌else◌, List, [], ◌∷◌, ◌++◌, length, get_or}
use Rattle.std.specs.Int.{w32, w64, to_be_bytes}
use Rattle.std.specs.List.{flat_map, join_with_byte}

-- each number is a byte
abbrev pub IsBytes : List ℕ → Type 0
IsBytes bytes = (i : ℕ) → get_or bytes i 0 < 256

-- short enough that its length is a u32
abbrev pub IsShort : List ℕ → Type 0
IsShort bytes = length bytes < 2 ^ 32

-- one byte, 1 for true
unfoldable pub bool_text : Bool → List ℕ
bool_text flag = (if flag then 1 else 0) ∷ []

-- four bytes, the most significant first
unfoldable pub u32_text : ℕ → List ℕ
u32_text n = to_be_bytes w32 n

-- eight bytes, the most significant first
unfoldable pub u64_text : ℕ → List ℕ
u64_text n = to_be_bytes w64 n

-- the length in four bytes, and then the bytes
unfoldable pub string_text : List ℕ → List ℕ
string_text bytes = u32_text (length bytes) ++ bytes

-- the names joined by commas, as a string
unfoldable pub names_text : List (List ℕ) → List ℕ
names_text names = string_text (join_with_byte 44 names)

-- the number of values in four bytes, and then their texts
unfoldable pub counted_text : {A : Type 0} → (A → List ℕ) → List A → List ℕ
counted_text text values = u32_text (length values) ++ flat_map text values
