-- What reading a part that is stored results in: the part and the bytes after it, the packet's error, or out of memory.
use Rattle.std.specs.Prelude.{◌≡◌, ◌⊎◌, ℕ, List, Result, Ok, Err}
use Rattle.sshc_wire.specs.declared.error.WireError.{WireError}
use Rattle.sshc_auth.specs.declared.error.Error.{Error}
use Rattle.sshc_auth.specs.declared.error.Error.TheVariants.{NoMemory, SshEncoding}

abbrev pub IsBroken : {A : Type 0} → Result A WireError → Type 0
IsBroken (Ok x) = ⊥
IsBroken (Err e) = Unit {0}

abbrev pub ReadsOr : {A : Type 0} → Result (A × List ℕ) WireError → List ℕ → Result A Error → Type 0
ReadsOr read left (Ok x) = read ≡ Ok (x, left)
ReadsOr read left (Err e) = (e ≡ NoMemory) ⊎ ((e ≡ SshEncoding) × IsBroken read)
