-- Reading the keys of a listing one at a time: those that were read, and then the rest.
use Rattle.std.proofs.Common.{◌≡◌, ℕ, suc, ◌+◌, ◌-◌, ◌<◌, List, [], ◌∷◌, ◌++◌, Result, Ok, Err, refl, ap, sym, ◌∙◌, arith, append_assoc}
use Rattle.std.proofs.lemmas.List.{append-nil}
use Rattle.sshc_wire.specs.Reads.{Reader, ◌>>=◌}
use Rattle.sshc_wire.specs.Format.{done}
use Rattle.sshc_wire.specs.Counted.{times_at}
use Rattle.sshc_key.specs.declared.error.Error.{Error}
use Rattle.sshc_key.specs.declared.error.Error.TheVariants as errors
use Rattle.sshc_key.specs.Gives.{Fails}

-- these values before those that are read
abbrev pub behind : {E A : Type 0} → List A → Result (List A × List ℕ) E → Result (List A × List ℕ) E
behind xs (Ok ys) = Ok (xs ++ ys.0, ys.1)
behind xs (Err e) = Err e

one_more : {E A : Type 0} (xs : List A) (x : A) (r : Result (List A × List ℕ) E) → behind xs (r >>= λ ys. Ok (x ∷ ys.0, ys.1)) ≡ behind (xs ++ x ∷ []) r
one_more {E} {A} xs x (Ok ys) = ap (λ (l : List A). done {E = E} (l, ys.1)) (sym (append_assoc xs (x ∷ []) ys.0))
one_more xs x (Err e) = refl

next_is : {E A : Type 0} (f : Reader E A) (n i : ℕ) (c : List ℕ) → i < n → times_at (n - i) f c ≡ times_at (suc (n - (i + 1))) f c
next_is f n i c h = let k : n - i ≡ suc (n - (i + 1)) = omega arith in ap (λ (m : ℕ). times_at m f c) k

-- a value that is read
pub took : {E A : Type 0} (f : Reader E A) (n i : ℕ) (xs : List A) (c later : List ℕ) (x : A) → i < n → f c ≡ Ok (x, later) → behind xs (times_at (n - i) f c) ≡ behind (xs ++ x ∷ []) (times_at (n - (i + 1)) f later)
took {E} {A} f n i xs c later x h e =
    ap (behind xs) (next_is f n i c h) ∙ ap (λ (r : Result (A × List ℕ) E). behind xs (r >>= λ y. times_at (n - (i + 1)) f y.1 >>= λ ys. Ok (y.0 ∷ ys.0, ys.1))) e ∙ one_more xs x (times_at (n - (i + 1)) f later)

-- a value that can't be read
pub stuck : {E A : Type 0} (f : Reader E A) (n i : ℕ) (xs : List A) (c : List ℕ) (d : E) → i < n → f c ≡ Err d → behind xs (times_at (n - i) f c) ≡ Err d
stuck {E} {A} f n i xs c d h e =
    ap (behind xs) (next_is f n i c h) ∙ ap (λ (r : Result (A × List ℕ) E). behind xs (r >>= λ y. times_at (n - (i + 1)) f y.1 >>= λ ys. Ok (y.0 ∷ ys.0, ys.1))) e

none_before : {E A : Type 0} (r : Result (List A × List ℕ) E) → behind [] r ≡ r
none_before (Ok ys) = refl
none_before (Err e) = refl

pub none_taken : {E A : Type 0} (f : Reader E A) (n : ℕ) (c : List ℕ) → behind [] (times_at (n - 0) f c) ≡ times_at n f c
none_taken {E} {A} f n c = let k : n - 0 ≡ n = omega arith in ap (λ (m : ℕ). behind [] (times_at m f c)) k ∙ none_before (times_at n f c)

pub all_taken : {E A : Type 0} (f : Reader E A) (n i : ℕ) (xs : List A) (c : List ℕ) → i ≡ n → behind xs (times_at (n - i) f c) ≡ Ok (xs, c)
all_taken {E} {A} f n i xs c h = let k : n - i ≡ 0 = omega arith in ap (λ (m : ℕ). behind xs (times_at m f c)) k ∙ ap (λ (l : List A). done {E = E} (l, c)) (append-nil xs)

-- a fault of r, which is always a fault of all, too, is passed on
fails_through : {A B : Type 0} (e : Error) (r : Result A Error) (all : Result B Error) → ((d : Error) → r ≡ Err d → all ≡ Err d) → Fails e r → Fails e all
fails_through errors.NoMemory r all through h = tt
fails_through e r all through h = through e h

-- if a key can't be read, the listing can't be read
pub listing_stuck : {A : Type 0} (f : Reader Error A) (n i : ℕ) (xs : List A) (c : List ℕ) (all : Result (List A × List ℕ) Error) (e : Error) → i < n → behind xs (times_at (n - i) f c) ≡ all → Fails e (f c) → Fails e all
listing_stuck f n i xs c all e h so_far fails = fails_through e (f c) all (λ d is. sym so_far ∙ stuck f n i xs c d h is) fails
