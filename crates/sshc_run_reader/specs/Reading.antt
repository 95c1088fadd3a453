-- What taking an event from a source returns, in terms of the bytes that were read from the source.
use Rattle.std.specs.Prelude.{◌≡◌, ℕ, ◌+◌, ◌≤◌, ◌⊎◌, List, [], ◌++◌, length, Option, Some, None, Result, Ok, Err}
use Rattle.sshc_wire.specs.Contents.{prepend, IsAtEnd}
use Rattle.sshc_run_reader.specs.declared.error.NextError.{NextError}
use Rattle.sshc_run_reader.specs.declared.error.NextError.TheVariants as nexts
use Rattle.sshc_run_reader.specs.Script.{Head, End, Bad, Whole, front, size_of}

-- these bytes were read, and `P` holds of them
abbrev pub Gave : Option (List ℕ) → Option (List ℕ) → (List ℕ → Type 0) → Type 0
Gave old new P = (bytes : List ℕ) × (old ≡ prepend bytes new) × P bytes

-- these bytes are the whole event, whatever follows
pub record IsWhole (last : ℕ) (head : Head) (bytes : List ℕ) : Type 0 where
  pub within : size_of head ≤ 262148
  pub size : length bytes ≡ size_of head
  pub is : (more : List ℕ) → front last (bytes ++ more) ≡ Whole head more

-- these bytes begin no event, neither alone nor followed by the bytes that remain
pub record IsBad (last : ℕ) (new : Option (List ℕ)) (bytes : List ℕ) : Type 0 where
  pub given : front last bytes ≡ Bad
  pub all : (more : List ℕ) → new ≡ Some more → front last (bytes ++ more) ≡ Bad

-- these bytes are no whole event
abbrev pub IsNoEvent : ℕ → List ℕ → Type 0
IsNoEvent last bytes = (front last bytes ≡ End) ⊎ (front last bytes ≡ Bad)

-- these bytes are at most one event, with nothing after it
abbrev pub IsOneAtMost : ℕ → List ℕ → Type 0
IsOneAtMost last bytes = IsNoEvent last bytes ⊎ ((head : Head) × (front last bytes ≡ Whole head []))

-- there were at most as many reads as bytes came, and one more
abbrev pub ReadFor : ℕ → ℕ → List ℕ → Type 0
ReadFor before now bytes = now ≤ before + length bytes + 1

abbrev pub NextGives : ℕ → Option (List ℕ) → Option (List ℕ) → ℕ → ℕ → Result (Option Head) NextError → Type 0
NextGives last old new reads reads' (Ok None) = (old ≡ new) × IsAtEnd new × (reads' ≤ reads + 1)
NextGives last old new reads reads' (Ok (Some head)) = Gave old new (λ bytes. IsWhole last head bytes × (reads' ≤ reads + length bytes))
NextGives last old new reads reads' (Err nexts.Bad) = Gave old new (λ bytes. IsBad last new bytes × ReadFor reads reads' bytes)
NextGives last old new reads reads' (Err nexts.ReadFault) = Gave old new (λ bytes. IsNoEvent last bytes × ReadFor reads reads' bytes)
NextGives last old new reads reads' (Err nexts.NoMemory) = Gave old new (λ bytes. IsOneAtMost last bytes × ReadFor reads reads' bytes)
