-- A filter behind a map.
use Rattle.std.proofs.Common.{◌≡◌, ap, refl, List, [], ◌∷◌, Bool, true, false, map}
use Rattle.std.specs.Prelude.{filter}

after_both : {X Y : Type 0} (f : X → Y) (test : Y → Bool) (x : X) (xs : List X) (b : Bool) → test (f x) ≡ b → map f (filter (λ y. test (f y)) xs) ≡ filter test (map f xs) → map f (filter (λ y. test (f y)) (x ∷ xs)) ≡ filter test (f x ∷ map f xs)
after_both f test x xs true is so_far = rw is (ap (λ (ys : List _). f x ∷ ys) so_far)
after_both f test x xs false is so_far = rw is so_far

pub map_filter : {X Y : Type 0} (f : X → Y) (test : Y → Bool) (xs : List X) → map f (filter (λ x. test (f x)) xs) ≡ filter test (map f xs)
map_filter f test [] = refl
map_filter f test (x ∷ xs) = after_both f test x xs (test (f x)) refl (map_filter f test xs)
