-- Lists appended to one another.
use Rattle.std.proofs.Common.{◌≡◌, List, [], ◌∷◌, ◌++◌, refl, ap, sym, ◌∙◌, append_assoc}
use Rattle.std.proofs.lemmas.List.{append-nil}
use Rattle.sshc_client_table.specs.Moves.{onto}

pub onto-append : {A : Type 0} (xs ys : List A) → onto xs ys ≡ xs ++ ys
onto-append xs [] = sym (append-nil xs)
onto-append xs (y ∷ ys) = refl

-- what comes first stays first
pub onto-behind : {A : Type 0} (before xs ys : List A) → onto (before ++ xs) ys ≡ before ++ onto xs ys
onto-behind before xs [] = refl
onto-behind before xs (y ∷ ys) = append_assoc before xs (y ∷ ys)

pub onto-two : {A : Type 0} (xs ys zs : List A) → onto (onto xs ys) zs ≡ xs ++ (ys ++ zs)
onto-two xs ys zs =
    onto-append (onto xs ys) zs ∙ ap (λ (l : List _). l ++ zs) (onto-append xs ys) ∙ append_assoc xs ys zs
