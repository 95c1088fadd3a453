-- Texts that were added to, and cut back to what they were.
use Rattle.std.proofs.Common.{◌≡◌, ℕ, List, [], ◌++◌, length, take, Result, Ok, Err, refl, ap, sym, ◌∙◌, append_assoc}
use Rattle.std.specs.Prelude.{OnErr}
use Rattle.std.proofs.lemmas.List.{append-nil, take_at}
use Rattle.sshc_wire.specs.Extending.{Extends}

-- nothing was added
pub unextended : (old new : List ℕ) → new ≡ old → Extends old new
unextended old new same = ([], same ∙ sym (append-nil old))

-- something more was added
pub extended : (old mid new added : List ℕ) → new ≡ mid ++ added → Extends old mid → Extends old new
extended old mid new added more (first, is) = (first ++ added, more ∙ ap (λ (m : List ℕ). m ++ added) is ∙ append_assoc old first added)

-- more was added by another call
pub extended_on : (old mid new : List ℕ) → Extends mid new → Extends old mid → Extends old new
extended_on old mid new (more, now) (first, is) = (first ++ more, now ∙ ap (λ (m : List ℕ). m ++ more) is ∙ append_assoc old first more)

-- cut back
pub cut_back : (old mid new : List ℕ) → Extends old mid → new ≡ take (length old) mid → new ≡ old
cut_back old mid new (added, is) cut = cut ∙ ap (take (length old)) is ∙ take_at old added (length old) refl

-- what holds, holds after an error
pub after_error : {A E : Type 0} (r : Result A E) (P : Type 0) → P → OnErr r P
after_error (Ok x) P h = tt
after_error (Err e) P h = h
