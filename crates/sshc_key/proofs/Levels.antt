-- One level of certificates, and a first part that fails.
use Rattle.std.proofs.Common.{◌≡◌, ℕ, suc, ◌-◌, ◌<◌, List, Result, sym, ap, subst, refl, arith}
use Rattle.sshc_wire.specs.Reads.{◌>>=◌}
use Rattle.sshc_wire.specs.Format.{chosen_at}
use Rattle.sshc_key.specs.declared.error.Error.{Error}
use Rattle.sshc_key.specs.declared.error.Error.TheVariants as errors
use Rattle.sshc_key.specs.Gives.{Fails}
use Rattle.sshc_key.specs.KeyGrammar.{Key}
use Rattle.sshc_key.specs.KeyReading.{tag_at, tagged_at, key_at}

pub key_step : (n : ℕ) (bytes : List ℕ) → 0 < n → key_at n bytes ≡ chosen_at tag_at (tagged_at (key_at (n - 1))) bytes
unfolding key_at
key_step n bytes h = let e : n ≡ suc (n - 1) = omega arith in ap (λ (k : ℕ). key_at k bytes) e

-- where the first part fails, so does the whole
pub fails_first : {A B : Type 0} (e : Error) (r : Result A Error) (f : A → Result B Error) → Fails e r → Fails e (r >>= f)
fails_first errors.NoMemory r f h = tt
fails_first e r f h = rw h refl

pub tag_fails : (e : Error) (n : ℕ) (bytes : List ℕ) → 0 < n → Fails e (tag_at bytes) → Fails e (key_at n bytes)
tag_fails e n bytes h fails =
    subst (λ (r : Result (Key × List ℕ) Error). Fails e r) (sym (key_step n bytes h)) (fails_first e (tag_at bytes) (λ x. tagged_at (key_at (n - 1)) x.0 x.1) fails)
