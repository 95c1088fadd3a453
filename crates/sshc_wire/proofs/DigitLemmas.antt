-- The sixteen digits by their numbers.
use Rattle.std.proofs.Common.{◌≡◌, ℕ, zero, suc, ◌+◌, ◌<◌, ◌≤◌, slice_index, refl, arith}
use Rattle.hex.specs.Hex.{lower_digits}

pub digit_small : (v : ℕ) → v < 10 → v + 48 ≡ slice_index lower_digits v
digit_small zero h = refl
digit_small (suc zero) h = refl
digit_small (suc (suc zero)) h = refl
digit_small (suc (suc (suc zero))) h = refl
digit_small (suc (suc (suc (suc zero)))) h = refl
digit_small (suc (suc (suc (suc (suc zero))))) h = refl
digit_small (suc (suc (suc (suc (suc (suc zero)))))) h = refl
digit_small (suc (suc (suc (suc (suc (suc (suc zero))))))) h = refl
digit_small (suc (suc (suc (suc (suc (suc (suc (suc zero)))))))) h = refl
digit_small (suc (suc (suc (suc (suc (suc (suc (suc (suc zero))))))))) h = refl
digit_small (suc (suc (suc (suc (suc (suc (suc (suc (suc (suc v)))))))))) h = omega (arith, h)

pub digit_large : (v : ℕ) → 10 ≤ v → v < 16 → v + 87 ≡ slice_index lower_digits v
digit_large zero h k = omega (arith, h)
digit_large (suc zero) h k = omega (arith, h)
digit_large (suc (suc zero)) h k = omega (arith, h)
digit_large (suc (suc (suc zero))) h k = omega (arith, h)
digit_large (suc (suc (suc (suc zero)))) h k = omega (arith, h)
digit_large (suc (suc (suc (suc (suc zero))))) h k = omega (arith, h)
digit_large (suc (suc (suc (suc (suc (suc zero)))))) h k = omega (arith, h)
digit_large (suc (suc (suc (suc (suc (suc (suc zero))))))) h k = omega (arith, h)
digit_large (suc (suc (suc (suc (suc (suc (suc (suc zero)))))))) h k = omega (arith, h)
digit_large (suc (suc (suc (suc (suc (suc (suc (suc (suc zero))))))))) h k = omega (arith, h)
digit_large (suc (suc (suc (suc (suc (suc (suc (suc (suc (suc zero)))))))))) h k = refl
digit_large (suc (suc (suc (suc (suc (suc (suc (suc (suc (suc (suc zero))))))))))) h k = refl
digit_large (suc (suc (suc (suc (suc (suc (suc (suc (suc (suc (suc (suc zero)))))))))))) h k = refl
digit_large (suc (suc (suc (suc (suc (suc (suc (suc (suc (suc (suc (suc (suc zero))))))))))))) h k = refl
digit_large (suc (suc (suc (suc (suc (suc (suc (suc (suc (suc (suc (suc (suc (suc zero)))))))))))))) h k = refl
digit_large (suc (suc (suc (suc (suc (suc (suc (suc (suc (suc (suc (suc (suc (suc (suc zero))))))))))))))) h k = refl
digit_large (suc (suc (suc (suc (suc (suc (suc (suc (suc (suc (suc (suc (suc (suc (suc (suc v)))))))))))))))) h k = omega (arith, k)
