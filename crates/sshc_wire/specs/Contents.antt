-- The bytes that sources, sinks and files hold: `None` where they aren't known.
-- One equation serves known and unknown contents; the code keeps positions and buffers.
use Rattle.std.proofs.Common.{◌≡◌, ℕ, ◌+◌, ◌≤◌, List, [], ◌∷◌, ◌++◌, length, Option, Some, None}
use Rattle.std.specs.Prelude.{bytes_eq, if◌then◌else◌}
use Rattle.std.specs.Option.{option_map, IfSome}
use Rattle.std.specs.Str.{is_utf8}
use Rattle.sshc_wire.specs.declared.files.Found.{Found}
use Rattle.sshc_wire.specs.declared.files.Found.TheVariants as found

-- the bytes, and then those that remain
abbrev pub prepend : List ℕ → Option (List ℕ) → Option (List ℕ)
prepend bytes left = option_map (λ rest. bytes ++ rest) left

-- what was held, and then the bytes
abbrev pub append : Option (List ℕ) → List ℕ → Option (List ℕ)
append held bytes = option_map (λ before. before ++ bytes) held

-- no bytes remain
abbrev pub IsAtEnd : Option (List ℕ) → Type 0
IsAtEnd left = IfSome left (λ rest. rest ≡ [])

-- a front of the whole was written
abbrev pub WroteFront : Option (List ℕ) → Option (List ℕ) → List ℕ → Type 0
WroteFront old new whole = (front rest : List ℕ) × (whole ≡ front ++ rest) × (new ≡ append old front)

-- each write moved a byte of what was written
abbrev pub WritesMove : Option (List ℕ) → Option (List ℕ) → ℕ → ℕ → Type 0
WritesMove old new writes writes' = (part : List ℕ) × (new ≡ append old part) × (writes' ≤ writes + length part)

-- each write but the last did
abbrev pub WritesFor : Option (List ℕ) → Option (List ℕ) → ℕ → ℕ → Type 0
WritesFor old new writes writes' = (part : List ℕ) × (new ≡ append old part) × (writes' ≤ writes + length part + 1)

-- the bytes of the first file of this path
abbrev pub bytes_of : List (List ℕ × List ℕ) → List ℕ → Option (List ℕ)
bytes_of [] path = None
bytes_of (file ∷ files) path = if bytes_eq file.0 path then Some file.1 else bytes_of files path

-- the text at the end of the first file of this path, or in a new file behind the others
abbrev pub with_text : List (List ℕ × List ℕ) → List ℕ → List ℕ → List (List ℕ × List ℕ)
with_text [] path text = (path, text) ∷ []
with_text (file ∷ files) path text =
    if bytes_eq file.0 path then (file.0, file.1 ++ text) ∷ files else file ∷ with_text files path text

-- what a file is found to be, by its bytes
abbrev pub found_in : Option (List ℕ) → Found
found_in None = found.NotOpened
found_in (Some bytes) = if is_utf8 bytes then found.Text bytes else found.NotText

-- the result agrees with the files, where they are known
abbrev pub IsFound : Option (List (List ℕ × List ℕ)) → List ℕ → Found → Type 0
IsFound None path answer = Unit {0}
IsFound (Some files) path answer = answer ≡ found_in (bytes_of files path)
