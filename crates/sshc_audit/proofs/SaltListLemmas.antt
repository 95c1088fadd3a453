-- A list of salts that are returned one after the other.
use Rattle.std.proofs.Common.{◌≡◌, ℕ, suc, ◌+◌, ◌<◌, ◌≤◌, List, [], ◌∷◌, ◌++◌, length, take, drop, get_or, Some, refl, ap, sym, ◌∙◌, arith, drop-cons, length-drop}
use Rattle.std.proofs.lemmas.List.{take_more, append-nil}
use Rattle.sshc_audit.specs.Salts.{IsSalt, Took, Wants}
use Rattle.sshc_audit.specs.SaltLines.{SaltsHeld, state_of}

abbrev pub held : List (List ℕ) → ℕ → ℕ → SaltsHeld
held salts next faults = record { salts = salts; next = next; faults = faults }

rest_is : (salts : List (List ℕ)) (n : ℕ) (salt : List ℕ) → n < length salts → salt ≡ get_or salts n salt → drop n salts ≡ salt ∷ drop (n + 1) salts
rest_is salts n salt lt is =
    let next : suc n ≡ n + 1 = omega arith in
    drop-cons salts n salt lt ∙ ap (λ (s : List ℕ). s ∷ drop (suc n) salts) (sym is) ∙ ap (λ (k : ℕ). salt ∷ drop k salts) next

pub took_next : (salts : List (List ℕ)) (n : ℕ) (salt : List ℕ) (faults faults' : ℕ) → n < length salts → salt ≡ get_or salts n salt → IsSalt salt
    → Took (state_of (held salts n faults)) (state_of (held salts (n + 1) faults')) (salt ∷ [])
took_next salts n salt faults faults' lt is sized = record {
  given = take_more salts n salt lt ∙ ap (λ (s : List ℕ). take n salts ++ s ∷ []) (sym is);
  left = ap Some (rest_is salts n salt lt is);
  sized = (sized, tt);
}

pub took_nothing : (salts : List (List ℕ)) (n faults faults' : ℕ) → Took (state_of (held salts n faults)) (state_of (held salts n faults')) []
took_nothing salts n faults faults' = record { given = sym (append-nil (take n salts)); left = refl; sized = tt }

pub wants_one : (salts : List (List ℕ)) (n faults : ℕ) → length salts ≤ n → Wants (state_of (held salts n faults)) 1
wants_one salts n faults le = omega (arith, le, length-drop n salts)
