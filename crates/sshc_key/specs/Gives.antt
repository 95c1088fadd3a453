-- The result of a call is what reading on lists yields. Where memory runs out, nothing is said.
use Rattle.std.specs.Prelude.{◌≡◌, ℕ, List, Result, Ok, Err}
use Rattle.sshc_key.specs.declared.error.Error.{Error}
use Rattle.sshc_key.specs.declared.error.Error.TheVariants.{NoMemory}

-- an error is out of memory, or the one that the reading yields
abbrev pub Fails : {Y : Type 0} → Error → Result Y Error → Type 0
Fails NoMemory read = Unit {0}
Fails e read = read ≡ Err e

-- the result of a call, by its view, and the bytes that remain
abbrev pub Gives : {X Y : Type 0} → (X → Y) → Result X Error → List ℕ → Result (Y × List ℕ) Error → Type 0
Gives view (Ok x) new read = read ≡ Ok (view x, new)
Gives view (Err e) new read = Fails e read

-- the same where all of the bytes are read
abbrev pub GivesAll : {X Y : Type 0} → (X → Y) → Result X Error → Result Y Error → Type 0
GivesAll view (Ok x) read = read ≡ Ok (view x)
GivesAll view (Err e) read = Fails e read
