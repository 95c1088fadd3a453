-- The front of fewer than four bytes, and the end of the bytes.
use Rattle.std.proofs.Common.{◌≡◌, ℕ, ◌<◌, List, [], ◌∷◌, length, Option, Some, None, refl, sym, ◌∙◌, inl, inr, arith}
use Rattle.sshc_wire.specs.Contents.{IsAtEnd}
use Rattle.sshc_run_reader.specs.Reading.{IsNoEvent}
use Rattle.sshc_run_reader.specs.Script.{Bad, front}

pub front_cut : (last : ℕ) (bytes : List ℕ) → 0 < length bytes → length bytes < 4 → front last bytes ≡ Bad
unfolding front
front_cut last [] p h = absurd (omega (arith, p))
front_cut last (a ∷ []) p h = refl
front_cut last (a ∷ b ∷ []) p h = refl
front_cut last (a ∷ b ∷ c ∷ []) p h = refl
front_cut last (a ∷ b ∷ c ∷ d ∷ more) p h = absurd (omega (arith, h))

-- fewer than four bytes are no event
pub front_short : (last : ℕ) (bytes : List ℕ) → length bytes < 4 → IsNoEvent last bytes
unfolding front
front_short last [] h = inl refl
front_short last (a ∷ bytes) h = inr (front_cut last (a ∷ bytes) (omega arith) h)

-- at the end no bytes remain
pub none_more : (new : Option (List ℕ)) (more : List ℕ) → new ≡ Some more → IsAtEnd new → more ≡ []
none_more None more e end = cc
none_more (Some x) more e end = (let same : x ≡ more = cc in sym same) ∙ end
