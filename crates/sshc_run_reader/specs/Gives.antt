-- What a reading function of the code returns, in terms of reading the whole bytes.
use Rattle.std.specs.Prelude.{◌≡◌, List, ℕ, Result, Ok, Err}
use Rattle.sshc_run_reader.specs.declared.error.EventError.{EventError}
use Rattle.sshc_run_reader.specs.declared.error.EventError.TheVariants as reads

-- the same error, unless memory ran out
abbrev pub Fails : {A : Type 0} → EventError → Result A EventError → Type 0
Fails reads.NoMemory read = Unit {0}
Fails reads.Bad read = read ≡ Err reads.Bad

-- the call returns the part at the front, mapped by `view`, and leaves the bytes after it
abbrev pub Gives : {X A : Type 0} → (X → A) → Result X EventError → List ℕ → Result (A × List ℕ) EventError → Type 0
Gives view (Ok x) new read = read ≡ Ok (view x, new)
Gives view (Err e) new read = Fails e read

-- the call returns the value of all of the bytes, mapped by `view`
abbrev pub GivesAll : {X A : Type 0} → (X → A) → Result X EventError → Result A EventError → Type 0
GivesAll view (Ok x) read = read ≡ Ok (view x)
GivesAll view (Err e) read = Fails e read
