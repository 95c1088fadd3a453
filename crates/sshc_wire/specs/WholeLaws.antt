-- Laws of the definitions in specs/Whole.antt.
use Rattle.std.proofs.Common.{◌≡◌, ℕ, zero, suc, ◌<◌, ◌≤◌, Bool, true, false, cond, eqb, List, [], ◌∷◌, ◌++◌, length, Result, Ok, Err, refl, sym, ap, subst, ◌∙◌, arith, ◌⊎◌, inl, inr}
use Rattle.std.specs.List.{flat_map, AllByRecursion}
use Rattle.std.proofs.lemmas.List.{append-nil, nil_from_length}
use Rattle.std.proofs.lemmas.List.Concat.{flat_map-cons}
use Rattle.std.proofs.lemmas.Bool.{eqb-true}
use Rattle.sshc_wire.specs.Wire.{IsBytes, IsShort, string_text, u32_text}
use Rattle.sshc_wire.specs.Reads.{Reader, ◌>>=◌}
use Rattle.sshc_wire.specs.Format.{IsFormat, done}
use Rattle.sshc_wire.specs.FormatLaws.{bind_ok, ok_is, behind_are_bytes}
use Rattle.sshc_wire.specs.Whole.{WholeReader, IsWhole, whole_at, framed_at, many_at, all_at, Takes}

pub front_are_bytes : (a b : List ℕ) → IsBytes (a ++ b) → IsBytes a
front_are_bytes [] b h i = omega arith
front_are_bytes (x ∷ a) b h zero = h 0
front_are_bytes (x ∷ a) b h (suc i) = front_are_bytes a b (λ k. h (suc k)) i

ended : {E A : Type 0} (b : Bool) (d : E) (x y : A) → cond b (Ok x) (Err d) ≡ Ok y → (b ≡ true) × (x ≡ y)
ended true d x y e = (refl, cc)
ended false d x y e = absurd cc

pub whole : {E A : Type 0} {t : A → List ℕ} {F : A → Type 0} {f : Reader E A} (fault : E) → IsFormat t F f → IsWhole t F (whole_at fault f)
whole {E} {A} {t} {F} {f} fault p = record {
  takes = λ bytes x fits e.
      let a = bind_ok (f bytes) (λ a. cond (eqb (length a.1) 0) (Ok a.0) (Err fault)) x e in
      let g = ended (eqb (length a.0.1) 0) fault a.0.0 x a.2 in
      let first = p.takes bytes a.0.0 a.0.1 fits a.1 in
      let nothing : a.0.1 ≡ [] = nil_from_length a.0.1 (eqb-true _ _ g.0) in
      let parts : bytes ≡ t a.0.0 = first.0 ∙ ap (λ (r : List ℕ). t a.0.0 ++ r) nothing ∙ append-nil (t a.0.0) in
      (parts ∙ ap t g.1, subst F g.1 first.1);
  again = λ x fits.
      let e : f (t x) ≡ Ok (x, []) = ap f (sym (append-nil (t x))) ∙ p.again x [] fits in
      rw e refl;
}

pub framed : {E A : Type 0} {outer : Reader E (List ℕ)} {t : A → List ℕ} {F : A → Type 0} {f : WholeReader E A} → IsFormat string_text IsShort outer → IsWhole t F f
    → IsFormat (λ x. string_text (t x)) (λ x. IsShort (t x) × F x) (framed_at outer f)
unfolding string_text
framed {E} {A} {outer} {t} {F} {f} o p = record {
  takes = λ bytes x rest fits e.
      let a = bind_ok (outer bytes) (λ s. f s.0 >>= λ x. Ok (x, s.1)) (x, rest) e in
      let b = bind_ok (f a.0.0) (λ x. Ok (x, a.0.1)) (x, rest) a.2 in
      let first = o.takes bytes a.0.0 a.0.1 fits a.1 in
      let inner : IsBytes a.0.0 = behind_are_bytes (u32_text (length a.0.0)) a.0.0 (front_are_bytes (string_text a.0.0) a.0.1 (subst IsBytes first.0 fits)) in
      let second = p.takes a.0.0 b.0 inner b.1 in
      subst (λ (y : A × List ℕ). (bytes ≡ string_text (t y.0) ++ y.1) × (IsShort (t y.0) × F y.0)) (ok_is {E = E} (b.0, a.0.1) (x, rest) b.2)
      (first.0 ∙ ap (λ (s : List ℕ). string_text s ++ a.0.1) second.0, (subst IsShort second.0 first.1, second.1));
  again = λ x rest fits. rw (o.again (t x) rest fits.0, p.again x fits.1) refl;
}

nothing_at : {E A : Type 0} (n : ℕ) (f : Reader E A) (bytes : List ℕ) → length bytes ≤ 0 → many_at n f bytes ≡ Ok []
nothing_at zero f [] h = refl
nothing_at (suc n) f [] h = refl
nothing_at n f (b ∷ bytes) h = absurd (omega arith)

-- more room than there are bytes changes nothing
room : {E A : Type 0} (f : Reader E A) → Takes f → (n m : ℕ) (bytes : List ℕ) → length bytes ≤ n → length bytes ≤ m → many_at n f bytes ≡ many_at m f bytes
room f t zero m bytes h k = nothing_at 0 f bytes h ∙ sym (nothing_at m f bytes h)
room f t (suc n) zero bytes h k = nothing_at (suc n) f bytes k ∙ sym (nothing_at 0 f bytes k)
room f t (suc n) (suc m) [] h k = refl
room {E} {A} f t (suc n) (suc m) (b ∷ bytes) h k = inside (λ r i j. room f t n m r i j) (f (b ∷ bytes)) refl
  where
    inside : ((r : List ℕ) → length r ≤ n → length r ≤ m → many_at n f r ≡ many_at m f r) → (r : Result (A × List ℕ) E) → f (b ∷ bytes) ≡ r → (r >>= λ x. many_at n f x.1 >>= λ xs. Ok (x.0 ∷ xs)) ≡ (r >>= λ x. many_at m f x.1 >>= λ xs. Ok (x.0 ∷ xs))
    inside same (Ok x) e = let less = t (b ∷ bytes) x.0 x.1 e in ap (λ (q : Result (List A) E). q >>= λ xs. Ok (x.0 ∷ xs)) (same x.1 (omega (arith, less)) (omega (arith, less)))
    inside same (Err d) e = refl

pub all_none : {E A : Type 0} (f : Reader E A) → all_at f [] ≡ Ok []
unfolding all_at
all_none f = refl

pub all_more : {E A : Type 0} (f : Reader E A) → Takes f → (bytes : List ℕ) (x : A) (rest : List ℕ) → f bytes ≡ Ok (x, rest) → all_at f bytes ≡ (all_at f rest >>= λ xs. Ok (x ∷ xs))
unfolding all_at
all_more f t [] x rest e = absurd (omega (arith, t [] x rest e))
all_more {E} {A} f t (b ∷ bytes) x rest e =
    rw e (ap (λ (q : Result (List A) E). q >>= λ xs. Ok (x ∷ xs)) (room f t (length bytes) (length rest) rest (omega (arith, t (b ∷ bytes) x rest e)) (omega arith)))

pub all_fails : {E A : Type 0} (f : Reader E A) (bytes : List ℕ) (d : E) → 0 < length bytes → f bytes ≡ Err d → all_at f bytes ≡ Err d
unfolding all_at
all_fails f [] d h e = absurd (omega arith)
all_fails f (b ∷ bytes) d h e = rw e refl

-- lists of values, up to the end
outcome : {X E : Type 0} (r : Result X E) → ((x : X) × (r ≡ Ok x)) ⊎ ((d : E) × (r ≡ Err d))
outcome (Ok x) = inl (x, refl)
outcome (Err d) = inr (d, refl)

every_takes : {E A : Type 0} {t : A → List ℕ} {F : A → Type 0} (f : Reader E A) → IsFormat t F f → Takes f → (n : ℕ) (bytes : List ℕ) (xs : List A) → length bytes ≤ n → IsBytes bytes → all_at f bytes ≡ Ok xs
    → (bytes ≡ flat_map t xs) × AllByRecursion F xs
every_takes {E} {A} {t} {F} f p s n [] xs h fits e =
    let none : done {E = E} [] ≡ done xs = sym (all_none f) ∙ e in
    subst (λ (ys : List A). ([] ≡ flat_map t ys) × AllByRecursion F ys) (ok_is {E = E} [] xs none) (refl, tt)
every_takes f p s zero (b ∷ bytes) xs h fits e = absurd (omega arith)
every_takes {E} {A} {t} {F} f p s (suc n) (b ∷ bytes) xs h fits e =
    elim (outcome (f (b ∷ bytes))) [
      | inl o ↦
          let a = bind_ok (all_at f o.0.1) (λ ys. Ok (o.0.0 ∷ ys)) xs (sym (all_more f s (b ∷ bytes) o.0.0 o.0.1 o.1) ∙ e) in
          let first = p.takes (b ∷ bytes) o.0.0 o.0.1 fits o.1 in
          let later : IsBytes o.0.1 = behind_are_bytes (t o.0.0) o.0.1 (subst IsBytes first.0 fits) in
          let less = s (b ∷ bytes) o.0.0 o.0.1 o.1 in
          let others = every_takes f p s n o.0.1 a.0 (omega (arith, less)) later a.1 in
          let parts : b ∷ bytes ≡ flat_map t (o.0.0 ∷ a.0) = first.0 ∙ ap (λ (r : List ℕ). t o.0.0 ++ r) others.0 ∙ sym (flat_map-cons t o.0.0 a.0) in
          subst (λ (ys : List A). (b ∷ bytes ≡ flat_map t ys) × AllByRecursion F ys) (ok_is {E = E} (o.0.0 ∷ a.0) xs a.2) (parts, (first.1, others.1))
      | inr o ↦ let bad = sym (all_fails f (b ∷ bytes) o.0 (omega arith) o.1) ∙ e in absurd cc
    ]

every_again : {E A : Type 0} {t : A → List ℕ} {F : A → Type 0} (f : Reader E A) → IsFormat t F f → Takes f → (xs : List A) → AllByRecursion F xs → all_at f (flat_map t xs) ≡ Ok xs
every_again f p s [] fits = all_none f
every_again {E} {A} {t} {F} f p s (x ∷ xs) fits =
    ap (all_at f) (flat_map-cons t x xs) ∙ all_more f s (t x ++ flat_map t xs) x (flat_map t xs) (p.again x (flat_map t xs) fits.0) ∙ rw (every_again f p s xs fits.1) refl

pub every : {E A : Type 0} {t : A → List ℕ} {F : A → Type 0} {f : Reader E A} → IsFormat t F f → Takes f → IsWhole (flat_map t) (AllByRecursion F) (all_at f)
every {E} {A} {t} {F} {f} p s = record {
  takes = λ bytes xs fits e. every_takes f p s (length bytes) bytes xs (omega arith) fits e;
  again = λ xs fits. every_again f p s xs fits;
}
