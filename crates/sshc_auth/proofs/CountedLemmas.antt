-- Reading the values of a counted list one at a time: those that were read, and then the rest.
use Rattle.std.proofs.Common.{◌≡◌, ◌⊎◌, inl, inr, ℕ, suc, ◌+◌, ◌-◌, ◌<◌, List, [], ◌∷◌, ◌++◌, Result, Ok, Err, refl, ap, sym, ◌∙◌, subst, arith, append_assoc}
use Rattle.std.proofs.lemmas.List.{append-nil}
use Rattle.sshc_wire.specs.declared.error.WireError.{WireError}
use Rattle.sshc_wire.specs.Reads.{Reader, ◌>>=◌}
use Rattle.sshc_wire.specs.Counted.{times_at}
use Rattle.sshc_auth.specs.declared.error.Error.{Error}
use Rattle.sshc_auth.specs.declared.error.Error.TheVariants.{NoMemory, SshEncoding}
use Rattle.sshc_auth.specs.Reading.{IsBroken}

abbrev pub Values : Type 0 → Type 0
Values A = Result (List A × List ℕ) WireError

-- these values before those that are read next
abbrev pub behind : {A : Type 0} → List A → Values A → Values A
behind xs (Ok ys) = Ok (xs ++ ys.0, ys.1)
behind xs (Err e) = Err e

-- the value and those after it
abbrev pub and_then : {A : Type 0} → (List ℕ → Values A) → Result (A × List ℕ) WireError → Values A
and_then on r = r >>= λ x. on x.1 >>= λ xs. Ok (x.0 ∷ xs.0, xs.1)

pub behind_none : {A : Type 0} (read : Values A) → behind [] read ≡ read
behind_none (Ok more) = refl
behind_none (Err e) = refl

one_more : {A : Type 0} (xs : List A) (x : A) (r : Values A) → behind xs (r >>= λ ys. Ok (x ∷ ys.0, ys.1)) ≡ behind (xs ++ x ∷ []) r
one_more {A} xs x (Ok ys) = ap (λ (l : List A). Ok (l, ys.1)) (sym (append_assoc xs (x ∷ []) ys.0))
one_more xs x (Err e) = refl

next_is : {A : Type 0} (f : Reader WireError A) (n k : ℕ) (body : List ℕ) → k < n → times_at (n - k) f body ≡ and_then (λ rest. times_at (n - (k + 1)) f rest) (f body)
next_is f n k body below = let is : n - k ≡ suc (n - (k + 1)) = omega arith in ap (λ (m : ℕ). times_at m f body) is

-- a value that is read
pub took : {A : Type 0} (f : Reader WireError A) (n k : ℕ) (xs : List A) (body rest : List ℕ) (x : A) → k < n → f body ≡ Ok (x, rest) →
    behind xs (times_at (n - k) f body) ≡ behind (xs ++ x ∷ []) (times_at (n - (k + 1)) f rest)
took f n k xs body rest x below read =
    ap (behind xs) (next_is f n k body below ∙ ap (and_then (λ r. times_at (n - (k + 1)) f r)) read) ∙ one_more xs x (times_at (n - (k + 1)) f rest)

broken_then : {A : Type 0} (xs : List A) (on : List ℕ → Values A) (r : Result (A × List ℕ) WireError) → IsBroken r → IsBroken (behind xs (and_then on r))
broken_then xs on (Ok x) broken = absurd broken
broken_then xs on (Err e) broken = tt

-- if a value can't be read, the whole list can't
pub stuck : {A : Type 0} (f : Reader WireError A) (n k : ℕ) (xs : List A) (all : Values A) (body : List ℕ) (e : Error) → k < n → behind xs (times_at (n - k) f body) ≡ all →
    ((e ≡ NoMemory) ⊎ ((e ≡ SshEncoding) × IsBroken (f body))) → (e ≡ NoMemory) ⊎ ((e ≡ SshEncoding) × IsBroken all)
stuck f n k xs all body e below is (inl memory) = inl memory
stuck {A} f n k xs all body e below is (inr (encoding, broken)) =
    inr (encoding, subst (λ (r : Values A). IsBroken r) (ap (behind xs) (sym (next_is f n k body below)) ∙ is) (broken_then xs (λ rest. times_at (n - (k + 1)) f rest) (f body) broken))

-- at the end no values remain to be read
pub all_taken : {A : Type 0} (f : Reader WireError A) (n k : ℕ) (xs : List A) (all : Values A) (body : List ℕ) → n - k ≡ 0 → behind xs (times_at (n - k) f body) ≡ all → all ≡ Ok (xs, body)
all_taken {A} f n k xs all body done is =
    sym is ∙ ap (λ (m : ℕ). behind xs (times_at m f body)) done ∙ ap (λ (l : List A). Ok (l, body)) (append-nil xs)
