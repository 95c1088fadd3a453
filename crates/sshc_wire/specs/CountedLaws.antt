-- Laws of the definitions in specs/Counted.antt.
use Rattle.std.proofs.Common.{◌≡◌, ℕ, zero, suc, ◌+◌, ◌*◌, ◌<◌, ◌≤◌, ◌^◌, Bool, true, false, cond, List, [], ◌∷◌, ◌++◌, length, Ok, Err, Result, refl, sym, ap, subst, ◌∙◌, append_assoc, arith, length-append}
use Rattle.std.specs.Prelude.{not, nat_lt, ◌==◌}
use Rattle.std.specs.List.{flat_map, AllByRecursion}
use Rattle.std.proofs.lemmas.Bool.{le-ltb}
use Rattle.std.proofs.lemmas.List.{append-nil}
use Rattle.std.proofs.lemmas.List.Concat.{flat_map-cons}
use Rattle.sshc_wire.specs.declared.error.WireError.{WireError}
use Rattle.sshc_wire.specs.Wire.{IsBytes, bool_text, counted_text, u32_text}
use Rattle.sshc_wire.specs.Reads.{Reader, ◌>>=◌, boolean_at, byte_at}
use Rattle.sshc_wire.specs.Format.{IsFormat}
use Rattle.sshc_wire.specs.FormatLaws.{behind_are_bytes, bind_ok, ok_is}
use Rattle.sshc_wire.specs.Whole.{IsWhole, WholeReader}
use Rattle.sshc_wire.specs.Counted.{times_at, TakesAtLeast, counted_at, rest_at, last_at}

guarded : {A E : Type 0} (b : Bool) (d : E) (r : Result A E) (y : A) → cond b (Err d) r ≡ Ok y → (b ≡ false) × (r ≡ Ok y)
guarded true d r y e = absurd cc
guarded false d r y e = (refl, e)

times_take : {E A : Type 0} {t : A → List ℕ} {F : A → Type 0} {f : Reader E A} → IsFormat t F f → (n : ℕ) (bytes : List ℕ) (xs : List A) (rest : List ℕ) → IsBytes bytes → times_at n f bytes ≡ Ok (xs, rest)
    → (bytes ≡ flat_map t xs ++ rest) × ((length xs ≡ n) × AllByRecursion F xs)
times_take {E} {A} {t} {F} {f} p zero bytes xs rest fits e =
    let is = ok_is {E = E} ([], bytes) (xs, rest) e in
    subst (λ (y : List A × List ℕ). (bytes ≡ flat_map t y.0 ++ y.1) × ((length y.0 ≡ 0) × AllByRecursion F y.0)) is (refl, (refl, tt))
times_take {E} {A} {t} {F} {f} p (suc n) bytes xs rest fits e =
    let a = bind_ok (f bytes) (λ x. times_at n f x.1 >>= λ ys. Ok (x.0 ∷ ys.0, ys.1)) (xs, rest) e in
    let b = bind_ok (times_at n f a.0.1) (λ ys. Ok (a.0.0 ∷ ys.0, ys.1)) (xs, rest) a.2 in
    let first = p.takes bytes a.0.0 a.0.1 fits a.1 in
    let later : IsBytes a.0.1 = behind_are_bytes (t a.0.0) a.0.1 (subst IsBytes first.0 fits) in
    let others = times_take p n a.0.1 b.0.0 b.0.1 later b.1 in
    let parts : bytes ≡ flat_map t (a.0.0 ∷ b.0.0) ++ b.0.1 =
    first.0 ∙ ap (λ (r : List ℕ). t a.0.0 ++ r) others.0 ∙ sym (append_assoc (t a.0.0) (flat_map t b.0.0) b.0.1) ∙ ap (λ (s : List ℕ). s ++ b.0.1) (sym (flat_map-cons t a.0.0 b.0.0)) in
    let count : length (a.0.0 ∷ b.0.0) ≡ suc n = ap (λ (k : ℕ). suc k) others.1.0 in
    subst (λ (y : List A × List ℕ). (bytes ≡ flat_map t y.0 ++ y.1) × ((length y.0 ≡ suc n) × AllByRecursion F y.0)) (ok_is {E = E} (a.0.0 ∷ b.0.0, b.0.1) (xs, rest) b.2)
    (parts, (count, (first.1, others.1.1)))

times_again : {E A : Type 0} {t : A → List ℕ} {F : A → Type 0} {f : Reader E A} → IsFormat t F f → (xs : List A) (rest : List ℕ) → AllByRecursion F xs → times_at (length xs) f (flat_map t xs ++ rest) ≡ Ok (xs, rest)
times_again p [] rest fits = refl
times_again {E} {A} {t} {F} {f} p (x ∷ xs) rest fits =
    let behind : flat_map t (x ∷ xs) ++ rest ≡ t x ++ (flat_map t xs ++ rest) = ap (λ (s : List ℕ). s ++ rest) (flat_map-cons t x xs) ∙ append_assoc (t x) (flat_map t xs) rest in
    ap (times_at (length (x ∷ xs)) f) behind ∙ rw (p.again x (flat_map t xs ++ rest) fits.0, times_again p xs rest fits.1) refl

-- values of at least so many bytes each take so many together
long_enough : {E A : Type 0} {t : A → List ℕ} {F : A → Type 0} {f : Reader E A} (least : ℕ) → IsFormat t F f → TakesAtLeast least f → (xs : List A) → AllByRecursion F xs → length xs * least ≤ length (flat_map t xs)
long_enough least p takes [] fits = omega arith
long_enough {E} {A} {t} {F} {f} least p takes (x ∷ xs) fits =
    let one = takes (t x ++ []) x [] (p.again x [] fits.0) in
    let size : length (t x ++ []) ≡ length (t x) = ap length (append-nil (t x)) in
    let others = long_enough least p takes xs fits.1 in
    let whole : length (flat_map t (x ∷ xs)) ≡ length (t x) + length (flat_map t xs) = ap length (flat_map-cons t x xs) ∙ length-append (t x) (flat_map t xs) in
    let count : length (x ∷ xs) * least ≡ least + length xs * least = suc-times (length xs) least in
    rw (count, whole) (omega (arith, one, size, others))
  where
    suc-times : (n k : ℕ) → suc n * k ≡ k + n * k
    suc-times n k = omega arith

pub counted : {E A : Type 0} {t : A → List ℕ} {F : A → Type 0} {f : Reader E A} {number : Reader E ℕ} (least : ℕ) (fault : E) → IsFormat u32_text (λ n. n < 2 ^ 32) number → IsFormat t F f → TakesAtLeast least f
    → IsFormat (counted_text t) (λ xs. (length xs < 2 ^ 32) × AllByRecursion F xs) (counted_at least fault number f)
unfolding counted_text counted_at
counted {E} {A} {t} {F} {f} {number} least fault q p takes = record {
  takes = λ bytes xs rest fits e.
      let a = bind_ok (number bytes) (λ n. cond (nat_lt (length n.1) (n.0 * least)) (Err fault) (times_at n.0 f n.1)) (xs, rest) e in
      let first = q.takes bytes a.0.0 a.0.1 fits a.1 in
      let later : IsBytes a.0.1 = behind_are_bytes (u32_text a.0.0) a.0.1 (subst IsBytes first.0 fits) in
      let g = guarded (nat_lt (length a.0.1) (a.0.0 * least)) fault (times_at a.0.0 f a.0.1) (xs, rest) a.2 in
      let others = times_take p a.0.0 a.0.1 xs rest later g.1 in
      let parts : bytes ≡ (u32_text (length xs) ++ flat_map t xs) ++ rest =
      first.0 ∙ ap (λ (r : List ℕ). u32_text a.0.0 ++ r) others.0 ∙ sym (append_assoc (u32_text a.0.0) (flat_map t xs) rest)
      ∙ ap (λ (k : ℕ). (u32_text k ++ flat_map t xs) ++ rest) (sym others.1.0) in
      (parts, (subst (λ (k : ℕ). k < 2 ^ 32) (sym others.1.0) first.1, others.1.1));
  again = λ xs rest fits.
      let size = long_enough least p takes xs fits.1 in
      let long : nat_lt (length (flat_map t xs ++ rest)) (length xs * least) ≡ false = le-ltb _ _ (omega (arith, size, length-append (flat_map t xs) rest)) in
      rw (append_assoc (u32_text (length xs)) (flat_map t xs) rest, q.again (length xs) (flat_map t xs ++ rest) fits.0, long) (times_again p xs rest fits.1);
}

-- a boolean that was written is read again
pub boolean-again : (flag : Bool) (rest : List ℕ) → boolean_at (bool_text flag ++ rest) ≡ Ok (flag, rest)
unfolding boolean_at byte_at bool_text
boolean-again true rest = refl
boolean-again false rest = refl

-- a boolean is one byte, and true where that isn't 0; so not each text of one is what would be written
pub boolean-takes : (bytes : List ℕ) (flag : Bool) (rest : List ℕ) → boolean_at bytes ≡ Ok (flag, rest) → (n : ℕ) × ((bytes ≡ n ∷ rest) × (not (n == 0) ≡ flag))
unfolding boolean_at byte_at
boolean-takes [] flag rest e = absurd cc
boolean-takes (n ∷ bytes) flag rest e =
    let is = ok_is {E = WireError} (not (n == 0), bytes) (flag, rest) e in
    (n, (ap (λ (p : Bool × List ℕ). n ∷ p.1) is, ap (λ (p : Bool × List ℕ). p.0) is))

pub rests : {E : Type 0} → IsWhole {E = E} (λ bytes. bytes) (λ bytes. Unit {0}) rest_at
rests {E} = record { takes = λ bytes x fits e. (ok_is {E = E} bytes x e, tt); again = λ x fits. refl }

pub ends_with : {E A B : Type 0} {t : A → List ℕ} {F : A → Type 0} {f : Reader E A} {u : B → List ℕ} {G : B → Type 0} {g : WholeReader E B}
    → IsFormat t F f → IsWhole u G g → IsWhole (λ p. t p.0 ++ u p.1) (λ p. F p.0 × G p.1) (last_at f g)
ends_with {E} {A} {B} {t} {F} {f} {u} {G} {g} p q = record {
  takes = λ bytes x fits e.
      let a = bind_ok (f bytes) (λ a. g a.1 >>= λ b. Ok (a.0, b)) x e in
      let b = bind_ok (g a.0.1) (λ b. Ok (a.0.0, b)) x a.2 in
      let first = p.takes bytes a.0.0 a.0.1 fits a.1 in
      let later : IsBytes a.0.1 = behind_are_bytes (t a.0.0) a.0.1 (subst IsBytes first.0 fits) in
      let second = q.takes a.0.1 b.0 later b.1 in
      subst (λ (y : A × B). (bytes ≡ t y.0 ++ u y.1) × (F y.0 × G y.1)) (ok_is {E = E} (a.0.0, b.0) x b.2)
      (first.0 ∙ ap (λ (r : List ℕ). t a.0.0 ++ r) second.0, (first.1, second.1));
  again = λ x fits. rw (p.again x.0 (u x.1) fits.0, q.again x.1 fits.1) refl;
}
