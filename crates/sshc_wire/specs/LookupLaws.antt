-- What a test on bytes and a look-up in a table say.
use Rattle.std.proofs.Common.{◌≡◌, ℕ, Bool, true, false, cond, eqb, List, [], ◌∷◌, Option, Some, refl, sym, ap, ◌∙◌, ◌⊎◌, inl, inr}
use Rattle.std.specs.Prelude.{find, bytes_eq}
use Rattle.std.proofs.lemmas.Bool.{eqb-true}
use Rattle.sshc_wire.specs.CasesLaws.{both_true}

pub same_bytes : (a b : List ℕ) → bytes_eq a b ≡ true → a ≡ b
same_bytes [] [] e = refl
same_bytes [] (y ∷ ys) e = absurd cc
same_bytes (x ∷ xs) [] e = absurd cc
same_bytes (x ∷ xs) (y ∷ ys) e =
    let h = both_true (eqb x y) (bytes_eq xs ys) e in
    ap (λ (z : ℕ). z ∷ xs) (eqb-true x y h.0) ∙ ap (λ (zs : List ℕ). y ∷ zs) (same_bytes xs ys h.1)

found_first : {A : Type 0} (b : Bool) (x y : A) (o : Option A) → cond b (Some x) o ≡ Some y → ((b ≡ true) × (x ≡ y)) ⊎ (o ≡ Some y)
found_first true x y o e = inl (refl, cc)
found_first false x y o e = inr e

-- what is found passes the test
pub found_passes : {A : Type 0} (test : A → Bool) (xs : List A) (y : A) → find test xs ≡ Some y → test y ≡ true
found_passes test [] y e = absurd cc
found_passes test (x ∷ xs) y e =
    elim (found_first (test x) x y (find test xs) e) [ inl h ↦ ap test (sym h.1) ∙ h.0 | inr later ↦ found_passes test xs y later ]
