-- Rounds that follow one another.
use Rattle.std.proofs.Common.{refl, ℕ, zero, suc}
use Rattle.sshc_handle_calls.specs.Rounds.{Rounds}

pub no_round : {W : Type 0} (goes : W → W → Type 0) (was : W) → (n : ℕ) × Rounds goes n was was
unfolding Rounds
no_round goes was = (zero, refl)

pub one_round_more : {W : Type 0} (goes : W → W → Type 0) (was mid is : W) → (n : ℕ) × Rounds goes n was mid → goes mid is → (n : ℕ) × Rounds goes n was is
unfolding Rounds
one_round_more goes was mid is (n, before) goes_on = (suc n, (mid, before, goes_on))
