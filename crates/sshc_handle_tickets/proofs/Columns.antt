-- Of one number: the places that are noted are those of the things that have it.
use Rattle.std.proofs.Common.{◌≡◌, refl, sym, ap, ◌∙◌, Bool, true, false, ◌&&◌, ◌||◌, not, cond, Option, Some, None}
use Rattle.sshc_handle_tickets.specs.Places.{passes}

only_this : (q g : Bool) → g ≡ false → (q && true) || g ≡ q
only_this true g none = refl
only_this false g none = none

not_this : (q g : Bool) → (q && false) || g ≡ g
not_this true g = refl
not_this false g = refl

cut_this : (q g : Bool) → g ≡ q → not (q && true) && g ≡ false
cut_this true g same = refl
cut_this false g same = same

cut_other : (q g : Bool) → not (q && false) && g ≡ g
cut_other true g = refl
cut_other false g = refl

-- after a thing is put
pub put_column : {X : Type 0} (test : X → Bool) (one : X) (o o' : Option X) (b g g' : Bool) → g ≡ passes test o → (b ≡ true → o ≡ None) → o' ≡ cond b (Some one) o → g' ≡ (test one && b) || g →
    g' ≡ passes test o'
put_column test one o o' true g g' indexed empty put noted = noted ∙ only_this (test one) g (indexed ∙ ap (passes test) (empty refl)) ∙ ap (passes test) (sym put)
put_column test one o o' false g g' indexed empty put noted = noted ∙ not_this (test one) g ∙ indexed ∙ ap (passes test) (sym put)

-- after it is taken
pub cut_column : {X : Type 0} (test : X → Bool) (one : X) (o o' : Option X) (b g g' : Bool) → g ≡ passes test o → (b ≡ true → o ≡ Some one) → o' ≡ cond b None o → g' ≡ not (test one && b) && g →
    g' ≡ passes test o'
cut_column test one o o' true g g' indexed there cut forgot = forgot ∙ cut_this (test one) g (indexed ∙ ap (passes test) (there refl)) ∙ ap (passes test) (sym cut)
cut_column test one o o' false g g' indexed there cut forgot = forgot ∙ cut_other (test one) g ∙ indexed ∙ ap (passes test) (sym cut)

-- after it is noted in part, and forgotten again
pub back_column : (q b g g' g'' : Bool) → (b ≡ true → g ≡ false) → (q && b ≡ false → g' ≡ g) → g'' ≡ not (q && b) && g' → g'' ≡ g
back_column true true g g' g'' empty kept forgot = forgot ∙ sym (empty refl)
back_column false true g g' g'' empty kept forgot = forgot ∙ kept refl
back_column true false g g' g'' empty kept forgot = forgot ∙ kept refl
back_column false false g g' g'' empty kept forgot = forgot ∙ kept refl
