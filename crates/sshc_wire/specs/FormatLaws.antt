-- Laws of the definitions in specs/Format.antt.
use Rattle.std.proofs.Common.{◌≡◌, ◌↔◌, ℕ, suc, Bool, true, false, cond, List, [], ◌∷◌, ◌++◌, Option, Some, None, Result, Ok, Err, refl, sym, ap, subst, ◌∙◌, append_assoc}
use Rattle.sshc_wire.specs.Reads.{Reader, ◌>>=◌}
use Rattle.sshc_wire.specs.Wire.{IsBytes}
use Rattle.sshc_wire.specs.Format.{IsFormat, done, both_at, made_at, tested_at, faults_as, part_at, chosen_at, known, named_at, then_at, no_bytes_at}

pub behind_are_bytes : (a b : List ℕ) → IsBytes (a ++ b) → IsBytes b
behind_are_bytes [] b h = h
behind_are_bytes (x ∷ a) b h = behind_are_bytes a b (λ i. h (suc i))

-- the value of a step that did not fail
pub bind_ok : {A B E : Type 0} (r : Result A E) (f : A → Result B E) (y : B) → (r >>= f) ≡ Ok y → (x : A) × (r ≡ Ok x) × (f x ≡ Ok y)
bind_ok (Ok x) f y e = (x, refl, e)
bind_ok (Err d) f y e = absurd cc

pub ok_is : {A E : Type 0} (x y : A) → done {E = E} x ≡ done y → x ≡ y
ok_is x y e = cc

pub both : {E A B : Type 0} {t : A → List ℕ} {F : A → Type 0} {f : Reader E A} {u : B → List ℕ} {G : B → Type 0} {g : Reader E B}
    → IsFormat t F f → IsFormat u G g → IsFormat (λ p. t p.0 ++ u p.1) (λ p. F p.0 × G p.1) (both_at f g)
both {E} {A} {B} {t} {F} {f} {u} {G} {g} p q = record {
  takes = λ bytes x rest fits e.
      let a = bind_ok (f bytes) (λ a. g a.1 >>= λ b. Ok ((a.0, b.0), b.1)) (x, rest) e in
      let b = bind_ok (g a.0.1) (λ b. Ok ((a.0.0, b.0), b.1)) (x, rest) a.2 in
      let first = p.takes bytes a.0.0 a.0.1 fits a.1 in
      let later : IsBytes a.0.1 = behind_are_bytes (t a.0.0) a.0.1 (subst IsBytes first.0 fits) in
      let second = q.takes a.0.1 b.0.0 b.0.1 later b.1 in
      let parts : bytes ≡ (t a.0.0 ++ u b.0.0) ++ b.0.1 = first.0 ∙ ap (λ (r : List ℕ). t a.0.0 ++ r) second.0 ∙ sym (append_assoc (t a.0.0) (u b.0.0) b.0.1) in
      subst (λ (y : (A × B) × List ℕ). (bytes ≡ (t y.0.0 ++ u y.0.1) ++ y.1) × (F y.0.0 × G y.0.1)) (ok_is {E = E} ((a.0.0, b.0.0), b.0.1) (x, rest) b.2) (parts, (first.1, second.1));
  again = λ x rest fits. rw (append_assoc (t x.0) (u x.1) rest, p.again x.0 (u x.1 ++ rest) fits.0, q.again x.1 rest fits.1) refl;
}

pub made : {E A B : Type 0} {t : A → List ℕ} {F : A → Type 0} {f : Reader E A} (make : A → B) (parts : B → A) → ((b : B) → make (parts b) ≡ b) → ((a : A) → parts (make a) ≡ a)
    → IsFormat t F f → IsFormat (λ b. t (parts b)) (λ b. F (parts b)) (made_at make f)
made {E} {A} {B} {t} {F} {f} make parts there back p = record {
  takes = λ bytes x rest fits e.
      let a = bind_ok (f bytes) (λ a. Ok (make a.0, a.1)) (x, rest) e in
      let first = p.takes bytes a.0.0 a.0.1 fits a.1 in
      subst (λ (y : B × List ℕ). (bytes ≡ t (parts y.0) ++ y.1) × F (parts y.0)) (ok_is {E = E} (make a.0.0, a.0.1) (x, rest) a.2)
      (rw (back a.0.0) first);
  again = λ x rest fits. rw (p.again (parts x) rest fits, there x) refl;
}

passed : {E A : Type 0} (b : Bool) (d : E) (x y : A) → cond b (Ok x) (Err d) ≡ Ok y → (b ≡ true) × (x ≡ y)
passed true d x y e = (refl, cc)
passed false d x y e = absurd cc

pub tested : {E A : Type 0} {t : A → List ℕ} {F : A → Type 0} {f : Reader E A} (test : A → Bool) (fault : E) → IsFormat t F f → IsFormat t (λ x. F x × (test x ≡ true)) (tested_at test fault f)
tested {E} {A} {t} {F} {f} test fault p = record {
  takes = λ bytes x rest fits e.
      let a = bind_ok (f bytes) (λ a. cond (test a.0) (Ok a) (Err fault)) (x, rest) e in
      let g = passed (test a.0.0) fault a.0 (x, rest) a.2 in
      let first = p.takes bytes a.0.0 a.0.1 fits a.1 in
      subst (λ (y : A × List ℕ). (bytes ≡ t y.0 ++ y.1) × (F y.0 × (test y.0 ≡ true))) g.1 (first.0, (first.1, g.0));
  again = λ x rest fits. rw (p.again x rest fits.0, fits.1) refl;
}

pub faults_ok : {E D A : Type 0} (h : E → D) (r : Result A E) (x : A) → faults_as h r ≡ Ok x → r ≡ Ok x
faults_ok h (Ok y) x e = ap (λ (z : _). Ok z) (ok_is y x e)
faults_ok h (Err y) x e = absurd cc

pub part : {E D A : Type 0} {t : A → List ℕ} {F : A → Type 0} {f : Reader E A} (h : E → D) → IsFormat t F f → IsFormat t F (part_at h f)
part {E} {D} {A} {t} {F} {f} h p = record {
  takes = λ bytes x rest fits e. p.takes bytes x rest fits (faults_ok h (f bytes) (x, rest) e);
  again = λ x rest fits. rw (p.again x rest fits) refl;
}

-- a value that is some of a larger type's values
pub partly : {E A B : Type 0} {t : A → List ℕ} {F : A → Type 0} {f : Reader E A} (u : B → List ℕ) (G : B → Type 0) (make : A → B)
    → ((a : A) → F a → (u (make a) ≡ t a) × G (make a)) → ((b : B) → G b → (a : A) × (make a ≡ b) × (F a) × (u b ≡ t a))
    → IsFormat t F f → IsFormat u G (made_at make f)
partly {E} {A} {B} {t} {F} {f} u G make there back p = record {
  takes = λ bytes x rest fits e.
      let a = bind_ok (f bytes) (λ a. Ok (make a.0, a.1)) (x, rest) e in
      let first = p.takes bytes a.0.0 a.0.1 fits a.1 in
      let is = there a.0.0 first.1 in
      let parts : bytes ≡ u (make a.0.0) ++ a.0.1 = rw is.0 first.0 in
      subst (λ (y : B × List ℕ). (bytes ≡ u y.0 ++ y.1) × G y.0) (ok_is {E = E} (make a.0.0, a.0.1) (x, rest) a.2) (parts, is.1);
  again = λ x rest fits.
      let a = back x fits in
      rw (a.3, p.again a.0 rest a.2, a.1) refl;
}

pub chosen : {E T B : Type 0} {t : T → List ℕ} {F : T → Type 0} {f : Reader E T} {u : B → List ℕ} {G : B → Type 0} {g : T → Reader E B} (tag_of : B → T)
    → IsFormat t F f → ((x : T) → IsFormat u (λ b. (tag_of b ≡ x) × G b) (g x))
    → IsFormat (λ b. t (tag_of b) ++ u b) (λ b. F (tag_of b) × G b) (chosen_at f g)
chosen {E} {T} {B} {t} {F} {f} {u} {G} {g} tag_of p q = record {
  takes = λ bytes x rest fits e.
      let a = bind_ok (f bytes) (λ a. g a.0 a.1) (x, rest) e in
      let first = p.takes bytes a.0.0 a.0.1 fits a.1 in
      let later : IsBytes a.0.1 = behind_are_bytes (t a.0.0) a.0.1 (subst IsBytes first.0 fits) in
      let second = (q a.0.0).takes a.0.1 x rest later a.2 in
      let parts : bytes ≡ (t a.0.0 ++ u x) ++ rest = first.0 ∙ ap (λ (r : List ℕ). t a.0.0 ++ r) second.0 ∙ sym (append_assoc (t a.0.0) (u x) rest) in
      (rw second.1.0 parts, (rw second.1.0 first.1, second.1.1));
  again = λ x rest fits. rw (append_assoc (t (tag_of x)) (u x) rest, p.again (tag_of x) (u x ++ rest) fits.0, (q (tag_of x)).again x rest (refl, fits.1)) refl;
}

known_ok : {E T : Type 0} (o : Option T) (fault : E) (rest : List ℕ) (y : T × List ℕ) → known o fault rest ≡ Ok y → (o ≡ Some y.0) × (rest ≡ y.1)
known_ok None fault rest y e = absurd cc
known_ok {E} (Some x) fault rest y e = let is = ok_is {E = E} (x, rest) y e in (ap (λ (p : _). Some p.0) is, ap (λ (p : _). p.1) is)

pub named : {E A T : Type 0} {t : A → List ℕ} {F : A → Type 0} {f : Reader E A} (name_of : T → A) (G : T → Type 0) (lookup : A → Option T) (fault : E)
    → ((s : A) (x : T) → lookup s ≡ Some x → (s ≡ name_of x) × G x) → ((x : T) → G x → lookup (name_of x) ≡ Some x)
    → IsFormat t F f → IsFormat (λ x. t (name_of x)) (λ x. F (name_of x) × G x) (named_at lookup fault f)
named {E} {A} {T} {t} {F} {f} name_of G lookup fault there back p = record {
  takes = λ bytes x rest fits e.
      let a = bind_ok (f bytes) (λ s. known (lookup s.0) fault s.1) (x, rest) e in
      let first = p.takes bytes a.0.0 a.0.1 fits a.1 in
      let is = known_ok (lookup a.0.0) fault a.0.1 (x, rest) a.2 in
      let found = there a.0.0 x is.0 in
      let name : a.0.0 ≡ name_of x = found.0 in
      (first.0 ∙ ap (λ (n : A). t n ++ a.0.1) name ∙ ap (λ (r : List ℕ). t (name_of x) ++ r) is.1, (subst F name first.1, found.1));
  again = λ x rest fits. rw (p.again (name_of x) rest fits.0, back x fits.1) refl;
}

pub followed : {E A B : Type 0} {t : A → List ℕ} {F : A → Type 0} {f : Reader E A} {u : A → B → List ℕ} {G : A → B → Type 0} {g : A → Reader E B}
    → IsFormat t F f → ((a : A) → IsFormat (u a) (G a) (g a)) → IsFormat (λ p. t p.0 ++ u p.0 p.1) (λ p. F p.0 × G p.0 p.1) (then_at f g)
followed {E} {A} {B} {t} {F} {f} {u} {G} {g} p q = record {
  takes = λ bytes x rest fits e.
      let a = bind_ok (f bytes) (λ a. g a.0 a.1 >>= λ b. Ok ((a.0, b.0), b.1)) (x, rest) e in
      let b = bind_ok (g a.0.0 a.0.1) (λ b. Ok ((a.0.0, b.0), b.1)) (x, rest) a.2 in
      let first = p.takes bytes a.0.0 a.0.1 fits a.1 in
      let later : IsBytes a.0.1 = behind_are_bytes (t a.0.0) a.0.1 (subst IsBytes first.0 fits) in
      let second = (q a.0.0).takes a.0.1 b.0.0 b.0.1 later b.1 in
      let parts : bytes ≡ (t a.0.0 ++ u a.0.0 b.0.0) ++ b.0.1 = first.0 ∙ ap (λ (r : List ℕ). t a.0.0 ++ r) second.0 ∙ sym (append_assoc (t a.0.0) (u a.0.0 b.0.0) b.0.1) in
      subst (λ (y : (A × B) × List ℕ). (bytes ≡ (t y.0.0 ++ u y.0.0 y.0.1) ++ y.1) × (F y.0.0 × G y.0.0 y.0.1)) (ok_is {E = E} ((a.0.0, b.0.0), b.0.1) (x, rest) b.2) (parts, (first.1, second.1));
  again = λ x rest fits. rw (append_assoc (t x.0) (u x.0 x.1) rest, p.again x.0 (u x.0 x.1 ++ rest) fits.0, (q x.0).again x.1 rest fits.1) refl;
}

-- the same values by another type
pub told_as : {E A : Type 0} {t : A → List ℕ} {F : A → Type 0} {f : Reader E A} (u : A → List ℕ) (G : A → Type 0)
    → ((a : A) → F a → (u a ≡ t a) × G a) → ((a : A) → G a → (u a ≡ t a) × F a) → IsFormat t F f → IsFormat u G f
told_as u G there back p = record {
  takes = λ bytes x rest fits e. let first = p.takes bytes x rest fits e in let is = there x first.1 in (rw is.0 first.0, is.1);
  again = λ x rest fits. let is = back x fits in rw is.0 (p.again x rest is.1);
}

pub nothing : {E A : Type 0} (x : A) → IsFormat {E = E} (λ a. []) (λ a. a ≡ x) (no_bytes_at x)
nothing {E} x = record {
  takes = λ bytes y rest fits e. let is = ok_is {E = E} (x, bytes) (y, rest) e in (ap (λ (p : _). p.1) is, sym (ap (λ (p : _). p.0) is));
  again = λ y rest fits. rw fits refl;
}

-- a format's reader returns just the value whose text is at the front
pub reads_just : {E A : Type 0} {t : A → List ℕ} {F : A → Type 0} {f : Reader E A} → IsFormat t F f → (bytes : List ℕ) → IsBytes bytes → (x : A) (rest : List ℕ)
    → (f bytes ≡ Ok (x, rest)) ↔ (F x × (bytes ≡ t x ++ rest))
reads_just {f = f} p bytes fits x rest = (
  (λ e. let h = p.takes bytes x rest fits e in (h.1, h.0)),
  (λ h. ap f h.1 ∙ p.again x rest h.0),
)
