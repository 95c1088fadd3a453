-- Laws of the definitions in specs/Grammar.antt.
use Rattle.std.proofs.Common.{◌≡◌, ℕ, zero, suc, ◌+◌, ◌*◌, ◌<◌, ◌≤◌, ◌^◌, Bool, true, false, not, cond, eqb, nat_lt, List, [], ◌∷◌, ◌++◌, length, Result, Ok, Err, refl, sym, ap, subst, ◌∙◌, append_assoc, length-append, arith}
use Rattle.std.proofs.lemmas.List.{append-nil, nil_from_length}
use Rattle.std.proofs.lemmas.Bool.{eqb-true}
use Rattle.std.proofs.lemmas.Bool.Decides.{nat_tests}
use Rattle.sshc_wire.specs.Wire.{IsBytes, u32_text}
use Rattle.sshc_wire.specs.Reads.{Reader, ◌>>=◌, byte_at, boolean_at}
use Rattle.sshc_wire.specs.Format.{IsFormat, both_at, made_at, tested_at, chosen_at, part_at, no_bytes_at}
use Rattle.sshc_wire.specs.FormatLaws.{bind_ok, ok_is, behind_are_bytes, faults_ok}
use Rattle.sshc_wire.specs.Counted.{times_at, counted_at}
use Rattle.sshc_wire.specs.PartsLaws.{a_byte}
use Rattle.sshc_wire.specs.Whole.{WholeReader, whole_at, IsWhole}
use Rattle.sshc_wire.specs.declared.error.WireError.{WireError}
use Rattle.sshc_wire.specs.Grammar.{IsGrammar, IsWholeGrammar, SpelledAs, IsFlag, InRow, Passing, converted_at, Converted, Tagged, IsNothing, SpellEach, IsCounted, TakesAtLeast, finished, finished_at}

pub of_format : {E A : Type 0} {t : A → List ℕ} {F : A → Type 0} {f : Reader E A} → IsFormat t F f → IsGrammar (SpelledAs t F) f
of_format {E} {A} {t} {F} {f} p = record {
  takes = λ bytes x rest fits e. let h = p.takes bytes x rest fits e in (t x, h.0, (refl, h.1));
  again = λ x front rest h. ap (λ (b : List ℕ). f (b ++ rest)) h.0 ∙ p.again x rest h.1;
}

flag_takes : (bytes : List ℕ) (x : Bool) (rest : List ℕ) → IsBytes bytes → boolean_at bytes ≡ Ok (x, rest) → (front : List ℕ) × (bytes ≡ front ++ rest) × IsFlag x front
unfolding boolean_at
flag_takes bytes x rest fits e =
    let b = bind_ok (byte_at bytes) (λ b. Ok (not (eqb b.0 0), b.1)) (x, rest) e in
    let first = a_byte.takes bytes b.0.0 b.0.1 fits b.1 in
    subst (λ (p : Bool × List ℕ). (front : List ℕ) × (bytes ≡ front ++ p.1) × IsFlag p.0 front) (ok_is {E = WireError} (not (eqb b.0.0 0), b.0.1) (x, rest) b.2)
    (b.0.0 ∷ [], first.0, (b.0.0, refl, first.1, refl))

flag_again : (x : Bool) (front rest : List ℕ) → IsFlag x front → boolean_at (front ++ rest) ≡ Ok (x, rest)
unfolding boolean_at byte_at
flag_again x front rest (b, is, small, so) = rw (is, so) refl

pub flags : IsGrammar IsFlag boolean_at
flags = record { takes = flag_takes; again = flag_again }

pub in_row : {E A B : Type 0} {S : A → List ℕ → Type 0} {f : Reader E A} {T : B → List ℕ → Type 0} {g : Reader E B}
    → IsGrammar S f → IsGrammar T g → IsGrammar (InRow S T) (both_at f g)
in_row {E} {A} {B} {S} {f} {T} {g} p q = record {
  takes = λ bytes x rest fits e.
      let a = bind_ok (f bytes) (λ a. g a.1 >>= λ b. Ok ((a.0, b.0), b.1)) (x, rest) e in
      let b = bind_ok (g a.0.1) (λ b. Ok ((a.0.0, b.0), b.1)) (x, rest) a.2 in
      let first = p.takes bytes a.0.0 a.0.1 fits a.1 in
      let later : IsBytes a.0.1 = behind_are_bytes first.0 a.0.1 (subst IsBytes first.1 fits) in
      let second = q.takes a.0.1 b.0.0 b.0.1 later b.1 in
      let parts : bytes ≡ (first.0 ++ second.0) ++ b.0.1 = first.1 ∙ ap (λ (r : List ℕ). first.0 ++ r) second.1 ∙ sym (append_assoc first.0 second.0 b.0.1) in
      subst (λ (y : (A × B) × List ℕ). (front : List ℕ) × (bytes ≡ front ++ y.1) × InRow S T y.0 front) (ok_is {E = E} ((a.0.0, b.0.0), b.0.1) (x, rest) b.2)
      (first.0 ++ second.0, parts, (first.0, second.0, refl, first.2, second.2));
  again = λ x front rest h.
      let one : f (front ++ rest) ≡ Ok (x.0, h.1 ++ rest) = ap (λ (r : List ℕ). f (r ++ rest)) h.2 ∙ ap f (append_assoc h.0 h.1 rest) ∙ p.again x.0 h.0 (h.1 ++ rest) h.3 in
      rw (one, q.again x.1 h.1 rest h.4) refl;
}

-- the same value, made of its parts
pub made_of : {E A B : Type 0} {S : A → List ℕ → Type 0} {f : Reader E A} (make : A → B) (T : B → List ℕ → Type 0)
    → ((a : A) (bytes : List ℕ) → S a bytes → T (make a) bytes) → ((b : B) (bytes : List ℕ) → T b bytes → (a : A) × (make a ≡ b) × S a bytes)
    → IsGrammar S f → IsGrammar T (made_at make f)
made_of {E} {A} {B} {S} {f} make T there back p = record {
  takes = λ bytes x rest fits e.
      let a = bind_ok (f bytes) (λ a. Ok (make a.0, a.1)) (x, rest) e in
      let first = p.takes bytes a.0.0 a.0.1 fits a.1 in
      subst (λ (y : B × List ℕ). (front : List ℕ) × (bytes ≡ front ++ y.1) × T y.0 front) (ok_is {E = E} (make a.0.0, a.0.1) (x, rest) a.2)
      (first.0, first.1, there a.0.0 first.0 first.2);
  again = λ x front rest h.
      let a = back x front h in
      rw (p.again a.0 front rest a.2, a.1) refl;
}

-- a value that passes a test
passed : {E A : Type 0} (b : Bool) (d : E) (x y : A) → cond b (Ok x) (Err d) ≡ Ok y → (b ≡ true) × (x ≡ y)
passed true d x y e = (refl, cc)
passed false d x y e = absurd cc

pub passing : {E A : Type 0} {S : A → List ℕ → Type 0} {f : Reader E A} (test : A → Bool) (fault : E) → IsGrammar S f → IsGrammar (Passing test S) (tested_at test fault f)
passing {E} {A} {S} {f} test fault p = record {
  takes = λ bytes x rest fits e.
      let a = bind_ok (f bytes) (λ a. cond (test a.0) (Ok a) (Err fault)) (x, rest) e in
      let g = passed (test a.0.0) fault a.0 (x, rest) a.2 in
      let first = p.takes bytes a.0.0 a.0.1 fits a.1 in
      subst (λ (y : A × List ℕ). (front : List ℕ) × (bytes ≡ front ++ y.1) × Passing test S y.0 front) g.1 (first.0, first.1, (first.2, g.0));
  again = λ x front rest h. rw (p.again x front rest h.0, h.1) refl;
}

pub converted : {E A B : Type 0} {S : A → List ℕ → Type 0} {f : Reader E A} (convert : A → Result B E) → IsGrammar S f → IsGrammar (Converted convert S) (converted_at convert f)
converted {E} {A} {B} {S} {f} convert p = record {
  takes = λ bytes y rest fits e.
      let a = bind_ok (f bytes) (λ x. convert x.0 >>= λ z. Ok (z, x.1)) (y, rest) e in
      let b = bind_ok (convert a.0.0) (λ z. Ok (z, a.0.1)) (y, rest) a.2 in
      let first = p.takes bytes a.0.0 a.0.1 fits a.1 in
      subst (λ (z : B × List ℕ). (front : List ℕ) × (bytes ≡ front ++ z.1) × Converted convert S z.0 front) (ok_is {E = E} (b.0, a.0.1) (y, rest) b.2)
      (first.0, first.1, (a.0.0, first.2, b.1));
  again = λ y front rest h. rw (p.again h.0 front rest h.1, h.2) refl;
}

pub tagged : {E T B : Type 0} {S : T → List ℕ → Type 0} {f : Reader E T} {U : B → List ℕ → Type 0} {g : T → Reader E B} (tag_of : B → T)
    → IsGrammar S f → ((x : T) → IsGrammar (λ b bytes. (tag_of b ≡ x) × U b bytes) (g x)) → IsGrammar (Tagged S tag_of U) (chosen_at f g)
tagged {E} {T} {B} {S} {f} {U} {g} tag_of p q = record {
  takes = λ bytes x rest fits e.
      let a = bind_ok (f bytes) (λ a. g a.0 a.1) (x, rest) e in
      let first = p.takes bytes a.0.0 a.0.1 fits a.1 in
      let later : IsBytes a.0.1 = behind_are_bytes first.0 a.0.1 (subst IsBytes first.1 fits) in
      let second = (q a.0.0).takes a.0.1 x rest later a.2 in
      let parts : bytes ≡ (first.0 ++ second.0) ++ rest = first.1 ∙ ap (λ (r : List ℕ). first.0 ++ r) second.1 ∙ sym (append_assoc first.0 second.0 rest) in
      (first.0 ++ second.0, parts, (first.0, second.0, refl, subst (λ (t : T). S t first.0) (sym second.2.0) first.2, second.2.1));
  again = λ x front rest h.
      let one : f (front ++ rest) ≡ Ok (tag_of x, h.1 ++ rest) = ap (λ (r : List ℕ). f (r ++ rest)) h.2 ∙ ap f (append_assoc h.0 h.1 rest) ∙ p.again (tag_of x) h.0 (h.1 ++ rest) h.3 in
      rw (one, (q (tag_of x)).again x h.1 rest (refl, h.4)) refl;
}

-- faults seen as other faults
pub faults_seen : {E D A : Type 0} {S : A → List ℕ → Type 0} {f : Reader E A} (h : E → D) → IsGrammar S f → IsGrammar S (part_at h f)
faults_seen {E} {D} {A} {S} {f} h p = record {
  takes = λ bytes x rest fits e. p.takes bytes x rest fits (faults_ok h (f bytes) (x, rest) e);
  again = λ x front rest s. rw (p.again x front rest s) refl;
}

pub no_bytes : {E A : Type 0} (x : A) → IsGrammar {E = E} (IsNothing x) (no_bytes_at x)
no_bytes {E} {A} x = record {
  takes = λ bytes y rest fits e.
      let is = ok_is {E = E} (x, bytes) (y, rest) e in
      ([], ap (λ (p : A × List ℕ). p.1) is, (sym (ap (λ (p : A × List ℕ). p.0) is), refl));
  again = λ y front rest h. rw (h.1, h.0) refl;
}

-- ---- all of the bytes

ended : {E A : Type 0} (b : Bool) (d : E) (x y : A) → cond b (Ok x) (Err d) ≡ Ok y → (b ≡ true) × (x ≡ y)
ended true d x y e = (refl, cc)
ended false d x y e = absurd cc

-- one value and nothing after it
pub all_of : {E A : Type 0} {S : A → List ℕ → Type 0} {f : Reader E A} (fault : E) → IsGrammar S f → IsWholeGrammar S (whole_at fault f)
all_of {E} {A} {S} {f} fault p = record {
  takes = λ bytes x fits e.
      let a = bind_ok (f bytes) (λ a. cond (eqb (length a.1) 0) (Ok a.0) (Err fault)) x e in
      let g = ended (eqb (length a.0.1) 0) fault a.0.0 x a.2 in
      let first = p.takes bytes a.0.0 a.0.1 fits a.1 in
      let nothing : a.0.1 ≡ [] = nil_from_length a.0.1 (eqb-true _ _ g.0) in
      let parts : bytes ≡ first.0 = first.1 ∙ ap (λ (r : List ℕ). first.0 ++ r) nothing ∙ append-nil first.0 in
      let front : S x first.0 = subst (λ (y : A). S y first.0) g.1 first.2 in
      subst (λ (b : List ℕ). S x b) (sym parts) front;
  again = λ x bytes h.
      let e : f bytes ≡ Ok (x, []) = ap f (sym (append-nil bytes)) ∙ p.again x bytes [] h in
      rw e refl;
}

-- a whole of one spelling
pub of_whole : {E A : Type 0} {t : A → List ℕ} {F : A → Type 0} {f : WholeReader E A} → IsWhole t F f → IsWholeGrammar (SpelledAs t F) f
of_whole {E} {A} {t} {F} {f} p = record {
  takes = λ bytes x fits e. p.takes bytes x fits e;
  again = λ x bytes h. ap f h.0 ∙ p.again x h.1;
}

times_takes : {E A : Type 0} {S : A → List ℕ → Type 0} (f : Reader E A) → IsGrammar S f → (n : ℕ) (bytes : List ℕ) (xs : List A) (rest : List ℕ) → IsBytes bytes → times_at n f bytes ≡ Ok (xs, rest)
    → (front : List ℕ) × (bytes ≡ front ++ rest) × (length xs ≡ n) × SpellEach S xs front
times_takes {E} {A} {S} f p zero bytes xs rest fits e =
    subst (λ (y : List A × List ℕ). (front : List ℕ) × (bytes ≡ front ++ y.1) × (length y.0 ≡ 0) × SpellEach S y.0 front) (ok_is {E = E} ([], bytes) (xs, rest) e) ([], refl, refl, refl)
times_takes {E} {A} {S} f p (suc n) bytes xs rest fits e =
    let a = bind_ok (f bytes) (λ x. times_at n f x.1 >>= λ ys. Ok (x.0 ∷ ys.0, ys.1)) (xs, rest) e in
    let b = bind_ok (times_at n f a.0.1) (λ ys. Ok (a.0.0 ∷ ys.0, ys.1)) (xs, rest) a.2 in
    let first = p.takes bytes a.0.0 a.0.1 fits a.1 in
    let later : IsBytes a.0.1 = behind_are_bytes first.0 a.0.1 (subst IsBytes first.1 fits) in
    let second = times_takes f p n a.0.1 b.0.0 b.0.1 later b.1 in
    let parts : bytes ≡ (first.0 ++ second.0) ++ b.0.1 = first.1 ∙ ap (λ (r : List ℕ). first.0 ++ r) second.1 ∙ sym (append_assoc first.0 second.0 b.0.1) in
    subst (λ (y : List A × List ℕ). (front : List ℕ) × (bytes ≡ front ++ y.1) × (length y.0 ≡ suc n) × SpellEach S y.0 front) (ok_is {E = E} (a.0.0 ∷ b.0.0, b.0.1) (xs, rest) b.2)
    (first.0 ++ second.0, parts, ap (λ (k : ℕ). suc k) second.2, (first.0, second.0, refl, first.2, second.3))

times_again : {E A : Type 0} {S : A → List ℕ → Type 0} (f : Reader E A) → IsGrammar S f → (xs : List A) (front rest : List ℕ) → SpellEach S xs front → times_at (length xs) f (front ++ rest) ≡ Ok (xs, rest)
times_again f p [] front rest h = rw h refl
times_again f p (x ∷ xs) front rest (a, b, is, first, others) =
    let one : f (front ++ rest) ≡ Ok (x, b ++ rest) = ap (λ (r : List ℕ). f (r ++ rest)) is ∙ ap f (append_assoc a b rest) ∙ p.again x a (b ++ rest) first in
    rw (one, times_again f p xs b rest others) refl

guarded : {A E : Type 0} (b : Bool) (d : E) (r : Result A E) (y : A) → cond b (Err d) r ≡ Ok y → (b ≡ false) × (r ≡ Ok y)
guarded true d r y e = absurd cc
guarded false d r y e = (refl, e)

enough : {A : Type 0} {S : A → List ℕ → Type 0} (least : ℕ) → TakesAtLeast least S → (xs : List A) (bytes : List ℕ) → SpellEach S xs bytes → length xs * least ≤ length bytes
enough least long [] bytes h = grind arith
enough least long (x ∷ xs) bytes (a, b, is, first, others) =
    let one = long x a first in
    let more = enough least long xs b others in
    let size : length bytes ≡ length a + length b = ap length is ∙ length-append a b in
    grind (arith, one, more, size)

no_less : (a b : ℕ) → b ≤ a → nat_lt a b ≡ false
no_less a b h = grind (arith, nat_tests)

room_for : {A : Type 0} {S : A → List ℕ → Type 0} (least : ℕ) → TakesAtLeast least S → (xs : List A) (body rest : List ℕ) → SpellEach S xs body → length xs * least ≤ length (body ++ rest)
room_for least long xs body rest h = let size = enough least long xs body h in omega (arith, size, length-append body rest)

pub counted_parts : {E A : Type 0} {S : A → List ℕ → Type 0} {f : Reader E A} {count : Reader E ℕ} (least : ℕ) (fault : E) → TakesAtLeast least S → IsFormat u32_text (λ n. n < 2 ^ 32) count → IsGrammar S f
    → IsGrammar (IsCounted S) (counted_at least fault count f)
unfolding counted_at
counted_parts {E} {A} {S} {f} {count} least fault long c p = record {
  takes = λ bytes xs rest fits e.
      let n = bind_ok (count bytes) (λ n. cond (nat_lt (length n.1) (n.0 * least)) (Err fault) (times_at n.0 f n.1)) (xs, rest) e in
      let g = guarded (nat_lt (length n.0.1) (n.0.0 * least)) fault (times_at n.0.0 f n.0.1) (xs, rest) n.2 in
      let head = c.takes bytes n.0.0 n.0.1 fits n.1 in
      let later : IsBytes n.0.1 = behind_are_bytes (u32_text n.0.0) n.0.1 (subst IsBytes head.0 fits) in
      let body = times_takes f p n.0.0 n.0.1 xs rest later g.1 in
      let parts : bytes ≡ (u32_text n.0.0 ++ body.0) ++ rest = head.0 ∙ ap (λ (r : List ℕ). u32_text n.0.0 ++ r) body.1 ∙ sym (append_assoc (u32_text n.0.0) body.0 rest) in
      (u32_text n.0.0 ++ body.0, parts, (body.0, ap (λ (k : ℕ). u32_text k ++ body.0) (sym body.2), subst (λ (k : ℕ). k < 2 ^ 32) (sym body.2) head.1, body.3));
  again = λ xs front rest h.
      let one : count (front ++ rest) ≡ Ok (length xs, h.0 ++ rest) = ap (λ (r : List ℕ). count (r ++ rest)) h.1 ∙ ap count (append_assoc (u32_text (length xs)) h.0 rest) ∙ c.again (length xs) (h.0 ++ rest) h.2 in
      let fits : nat_lt (length (h.0 ++ rest)) (length xs * least) ≡ false = no_less _ _ (room_for least long xs h.0 rest h.3) in
      rw (one, fits, times_again f p xs h.0 rest h.3) refl;
}

-- ---- spellings said in another way

pub spelled_so : {E A : Type 0} {S : A → List ℕ → Type 0} {f : Reader E A} (T : A → List ℕ → Type 0) → ((x : A) (bytes : List ℕ) → S x bytes → T x bytes) → ((x : A) (bytes : List ℕ) → T x bytes → S x bytes)
    → IsGrammar S f → IsGrammar T f
spelled_so T there back p = record {
  takes = λ bytes x rest fits e. let h = p.takes bytes x rest fits e in (h.0, h.1, there x h.0 h.2);
  again = λ x front rest h. p.again x front rest (back x front h);
}

pub spelled_whole : {E A : Type 0} {S : A → List ℕ → Type 0} {f : WholeReader E A} (T : A → List ℕ → Type 0) → ((x : A) (bytes : List ℕ) → S x bytes → T x bytes) → ((x : A) (bytes : List ℕ) → T x bytes → S x bytes)
    → IsWholeGrammar S f → IsWholeGrammar T f
spelled_whole T there back p = record {
  takes = λ bytes x fits e. there x bytes (p.takes bytes x fits e);
  again = λ x bytes h. p.again x bytes (back x bytes h);
}

finished_ok : {E A : Type 0} (fault : E) (x : A) (rest : List ℕ) (y : A) → finished fault (x, rest) ≡ Ok y → (rest ≡ []) × (x ≡ y)
finished_ok {E} fault x [] y e = (refl, ok_is {E = E} x y e)
finished_ok fault x (b ∷ rest) y e = absurd cc

pub finishing : {E A : Type 0} {S : A → List ℕ → Type 0} {f : Reader E A} (fault : E) → IsGrammar S f → IsWholeGrammar S (finished_at fault f)
finishing {E} {A} {S} {f} fault p = record {
  takes = λ bytes x fits e.
      let a = bind_ok (f bytes) (λ a. finished fault a) x e in
      let g = finished_ok fault a.0.0 a.0.1 x a.2 in
      let first = p.takes bytes a.0.0 a.0.1 fits a.1 in
      let parts : bytes ≡ first.0 = first.1 ∙ ap (λ (r : List ℕ). first.0 ++ r) g.0 ∙ append-nil first.0 in
      let front : S x first.0 = subst (λ (y : A). S y first.0) g.1 first.2 in
      subst (λ (b : List ℕ). S x b) (sym parts) front;
  again = λ x bytes h.
      let e : f bytes ≡ Ok (x, []) = ap f (sym (append-nil bytes)) ∙ p.again x bytes [] h in
      rw e refl;
}
