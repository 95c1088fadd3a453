-- A fault of reading is passed on.
use Rattle.std.proofs.Common.{◌≡◌, ℕ, ◌-◌, ◌<◌, List, Result, Err, sym, ◌∙◌}
use Rattle.sshc_wire.specs.Reads.{Reader}
use Rattle.sshc_wire.specs.Counted.{times_at}
use Rattle.sshc_key.specs.declared.error.Error.{Error}
use Rattle.sshc_key.specs.declared.error.Error.TheVariants as errors
use Rattle.sshc_key.specs.Gives.{Fails}
use Rattle.sshc_ask.proofs.Lists.{behind, stuck}

-- a fault of r, which is always a fault of all, too, is passed on
fails_through : {A B : Type 0} (e : Error) (r : Result A Error) (all : Result B Error) → ((d : Error) → r ≡ Err d → all ≡ Err d) → Fails e r → Fails e all
fails_through errors.NoMemory r all through h = tt
fails_through e r all through h = through e h

-- if a key can't be read, the listing can't be read
pub listing_stuck : {A : Type 0} (f : Reader Error A) (n i : ℕ) (xs : List A) (c : List ℕ) (all : Result (List A × List ℕ) Error) (e : Error) → i < n → behind xs (times_at (n - i) f c) ≡ all → Fails e (f c) → Fails e all
listing_stuck f n i xs c all e h so_far fails = fails_through e (f c) all (λ d is. sym so_far ∙ stuck f n i xs c d h is) fails
