-- Reading the parts of a list one at a time: the parts read so far, and then the rest.
use Rattle.std.proofs.Common.{◌≡◌, ℕ, suc, ◌+◌, ◌-◌, ◌<◌, List, [], ◌∷◌, ◌++◌, Result, Ok, Err, refl, ap, sym, ◌∙◌, arith, append_assoc}
use Rattle.sshc_wire.specs.Reads.{Reader, ◌>>=◌}
use Rattle.sshc_wire.specs.Format.{done}
use Rattle.sshc_wire.specs.Counted.{times_at}

-- these values before those that are read next
abbrev pub behind : {E A : Type 0} → List A → Result (List A × List ℕ) E → Result (List A × List ℕ) E
behind xs (Ok ys) = Ok (xs ++ ys.0, ys.1)
behind xs (Err e) = Err e

one_more : {E A : Type 0} (xs : List A) (x : A) (r : Result (List A × List ℕ) E) → behind xs (r >>= λ ys. Ok (x ∷ ys.0, ys.1)) ≡ behind (xs ++ x ∷ []) r
one_more {E} {A} xs x (Ok ys) = ap (λ (l : List A). done {E = E} (l, ys.1)) (sym (append_assoc xs (x ∷ []) ys.0))
one_more xs x (Err e) = refl

next_is : {E A : Type 0} (f : Reader E A) (n i : ℕ) (c : List ℕ) → i < n → times_at (n - i) f c ≡ times_at (suc (n - (i + 1))) f c
next_is f n i c h = let k : n - i ≡ suc (n - (i + 1)) = omega arith in ap (λ (m : ℕ). times_at m f c) k

-- a part that is read
pub took : {E A : Type 0} (f : Reader E A) (n i : ℕ) (xs : List A) (c later : List ℕ) (x : A) → i < n → f c ≡ Ok (x, later) → behind xs (times_at (n - i) f c) ≡ behind (xs ++ x ∷ []) (times_at (n - (i + 1)) f later)
took {E} {A} f n i xs c later x h e =
    ap (behind xs) (next_is f n i c h) ∙ ap (λ (r : Result (A × List ℕ) E). behind xs (r >>= λ y. times_at (n - (i + 1)) f y.1 >>= λ ys. Ok (y.0 ∷ ys.0, ys.1))) e ∙ one_more xs x (times_at (n - (i + 1)) f later)
