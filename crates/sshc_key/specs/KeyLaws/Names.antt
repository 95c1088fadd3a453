-- Names with a domain, and the mark of certificates in them.
use Rattle.std.proofs.Common.{Bor, append_assoc, ◌≡◌, ℕ, ◌+◌, ◌-◌, ◌≤◌, Bool, true, false, cond, eqb, ltb, List, [], ◌∷◌, ◌++◌, length, take, drop, get_or, Option, Some, None, refl, sym, ap, ◌∙◌, arith, ◌⊎◌, inl, inr}
use Rattle.std.specs.Str.Pattern.{FindsTextSuffix, StripsSuffix}
use Rattle.std.specs.Prelude.{MatchOption, ◌&&◌, not, nat_le, bytes_eq}
use Rattle.std.specs.List.{list_all, position_or_len, before_first, after_first}
use Rattle.std.proofs.lemmas.Bool.{cases_Bool, eqb-true, ltb-true, lt-ltb, leb-true, le-leb}
use Rattle.std.proofs.lemmas.List.{take_at, drop_at, take-append-drop, length-append}
use Rattle.std.proofs.lemmas.List.Sums.{split_at_first, passes_at_first}
use Rattle.sshc_wire.specs.CasesLaws.{both_true}
use Rattle.sshc_wire.specs.LookupLaws.{same_bytes}
use Rattle.sshc_key.specs.declared.kind.Kind.TheVariants as kinds
use Rattle.sshc_key.specs.declared.kind.Tag.TheVariants as tags
use Rattle.sshc_key.specs.AlgorithmNames.{Parted, is_sign, parted, at_domain, mark, is_name_byte, is_side, is_marked, is_taken, is_opaque, opaque_parts, is_opaque_name, with_mark, marked_parts, marked_name, unmarked, opaque_tag}

pub chosen : {X : Type 0} (b : Bool) (x y z : X) → cond b x y ≡ z → ((b ≡ true) × (x ≡ z)) ⊎ ((b ≡ false) × (y ≡ z))
chosen true x y z e = inl (refl, e)
chosen false x y z e = inr (refl, e)

abbrev pub some : {X : Type 0} → X → Option X
some x = Some x

pub some_is : {X : Type 0} (x y : X) → some x ≡ some y → x ≡ y
some_is x y e = cc

pub cases_option : {X : Type 0} (o : Option X) → (o ≡ None) ⊎ ((x : X) × (o ≡ Some x))
cases_option None = inl refl
cases_option (Some x) = inr (x, refl)

-- ---- the first sign

no_sign : (b : ℕ) → is_name_byte b ≡ true → eqb b 64 ≡ false
unfolding is_name_byte
no_sign b h =
    let last = (both_true _ (not (eqb b 64)) h).1 in
    elim (cases_Bool (eqb b 64)) [ inl e ↦ let bad : not true ≡ true = ap not (sym e) ∙ last in absurd cc | inr e ↦ e ]

sign_behind : (front domain : List ℕ) → list_all is_name_byte front ≡ true → position_or_len is_sign (front ++ (64 ∷ domain)) ≡ length front
sign_behind [] domain h = refl
sign_behind (b ∷ front) domain h =
    let first = both_true (is_name_byte b) (list_all is_name_byte front) h in
    rw (no_sign b first.0, sign_behind front domain first.1) (omega arith)

behind_sign : (front domain : List ℕ) → drop (length front + 1) (front ++ (64 ∷ domain)) ≡ domain
behind_sign front domain =
    ap (drop (length front + 1)) (sym (append_assoc front (64 ∷ []) domain)) ∙ drop_at (front ++ (64 ∷ [])) domain (length front + 1) (length-append front (64 ∷ []))

pub parted_back : (front domain : List ℕ) → list_all is_name_byte front ≡ true → parted (front ++ (64 ∷ domain)) ≡ Some (record { front = front; domain = domain })
unfolding parted
parted_back front domain h =
    let at = sign_behind front domain h in
    let inside : ltb (length front) (length (front ++ (64 ∷ domain))) ≡ true = lt-ltb _ _ (omega (arith, length-append front (64 ∷ domain))) in
    rw (at, inside, take_at front (64 ∷ domain) (length front) refl, behind_sign front domain) refl

pub parted_there : (s : List ℕ) (p : Parted) → parted s ≡ Some p → s ≡ at_domain p
unfolding parted
parted_there s p e =
    elim (chosen (ltb (position_or_len is_sign s) (length s)) (Some (record { front = before_first is_sign s; domain = after_first is_sign s })) None (Some p) e) [
      | inl h ↦
          let inside = ltb-true _ _ h.0 in
          let sign : get_or s (position_or_len is_sign s) 0 ≡ 64 = eqb-true _ 64 (passes_at_first is_sign s 0 inside) in
          let is : record { front = before_first is_sign s; domain = after_first is_sign s } ≡ p = some_is _ _ h.1 in
          split_at_first is_sign s 0 inside ∙ ap (λ (c : ℕ). before_first is_sign s ++ (c ∷ after_first is_sign s)) sign ∙ ap at_domain is
      | inr h ↦ let bad = h.1 in absurd cc
    ]

-- ---- the mark

pub unmarked_back : (front : List ℕ) → unmarked (front ++ mark) ≡ Some front
unfolding unmarked
unmarked_back front =
    let k : length (front ++ mark) - 9 ≡ length front = omega (arith, length-append front mark) in
    rw (k, drop_at front mark (length front) refl, take_at front mark (length front) refl) refl

pub unmarked_there : (m front : List ℕ) → unmarked m ≡ Some front → m ≡ front ++ mark
unfolding unmarked
unmarked_there m front e =
    elim (chosen (bytes_eq (drop (length m - 9) m) mark) (Some (take (length m - 9) m)) None (Some front) e) [
      | inl h ↦
          let before : take (length m - 9) m ≡ front = some_is _ _ h.1 in
          let behind : drop (length m - 9) m ≡ mark = same_bytes _ _ h.0 in
          sym (take-append-drop (length m - 9) m) ∙ ap (λ (t : List ℕ). t ++ drop (length m - 9) m) before ∙ ap (λ (t : List ℕ). front ++ t) behind
      | inr h ↦ let bad = h.1 in absurd cc
    ]

not_marked : (m : List ℕ) → ((front : List ℕ) → m ≡ front ++ mark → ⊥) → unmarked m ≡ None
not_marked m h = elim (cases_option (unmarked m)) [ inl e ↦ e | inr p ↦ absurd (h p.0 (unmarked_there m p.0 p.1)) ]

-- what `strip_suffix` says
pub unmarked_of_suffix : (m : List ℕ) (r : Option (Bor (List ℕ))) → MatchOption r (FindsTextSuffix mark m None) (λ x. StripsSuffix (FindsTextSuffix mark) m x.now)
    → MatchOption r (unmarked m ≡ None) (λ own. unmarked m ≡ Some own.now)
unmarked_of_suffix m None h = not_marked m h
unmarked_of_suffix m (Some x) h = ap unmarked (h.1.1 ∙ ap (λ (t : List ℕ). t ++ mark) (sym h.2)) ∙ unmarked_back x.now

-- ---- opaque names

pub name_bytes : (p : Parted) → is_opaque p ≡ true → (list_all is_name_byte p.front ≡ true) × (list_all is_name_byte p.domain ≡ true)
unfolding is_opaque is_side
name_bytes p h =
    let a = both_true _ (not (is_marked p.front)) h in
    let b = both_true _ (not (is_taken p)) a.0 in
    let c = both_true _ (nat_le (length p.front + 1 + length p.domain) 64) b.0 in
    let sides = both_true (is_side p.front) (is_side p.domain) c.0 in
    ((both_true _ (list_all is_name_byte p.front) sides.0).1, (both_true _ (list_all is_name_byte p.domain) sides.1).1)

pub opaque_short : (p : Parted) → is_opaque p ≡ true → length (at_domain p) ≤ 64
unfolding is_opaque
opaque_short p h =
    let a = both_true _ (not (is_marked p.front)) h in
    let b = both_true _ (not (is_taken p)) a.0 in
    let c = both_true _ (nat_le (length p.front + 1 + length p.domain) 64) b.0 in
    let few : length p.front + 1 + length p.domain ≤ 64 = leb-true _ _ c.1 in
    omega (arith, few, length-append p.front (64 ∷ p.domain))

pub all_append : (name : List ℕ) → list_all is_name_byte name ≡ true → list_all is_name_byte (name ++ mark) ≡ true
unfolding is_name_byte
all_append [] h = refl
all_append (b ∷ name) h =
    let first = both_true (is_name_byte b) (list_all is_name_byte name) h in
    rw first.0 (all_append name first.1)

ends_marked : (front : List ℕ) → is_marked (front ++ mark) ≡ true
unfolding is_marked
ends_marked front =
    let k : length (front ++ mark) - 9 ≡ length front = omega (arith, length-append front mark) in
    rw (k, drop_at front mark (length front) refl) refl

and_false : (a : Bool) {b : Bool} → b ≡ false → (a && b) ≡ false
and_false true e = e
and_false false e = refl

-- a marked name is not opaque
marked_is_not : (p : Parted) → is_opaque (with_mark p) ≡ false
unfolding is_opaque
marked_is_not p = and_false _ (ap not (ends_marked p.front))

-- the two sides of an opaque name
pub sides : (name : List ℕ) → is_opaque_name name ≡ true → (p : Parted) × (parted name ≡ Some p) × (is_opaque p ≡ true)
sides name h =
    elim (cases_option (parted name)) [
      | inl e ↦ let bad : opaque_parts None ≡ true = ap opaque_parts (sym e) ∙ h in absurd cc
      | inr p ↦ (p.0, p.1, ap opaque_parts (sym p.1) ∙ h)
    ]

pub opaque_here : (name : List ℕ) (p : Parted) → parted name ≡ Some p → is_opaque p ≡ true → is_opaque_name name ≡ true
opaque_here name p e h = ap opaque_parts e ∙ h

pub marked_is : (p : Parted) → is_opaque p ≡ true → marked_name (at_domain p) ≡ at_domain (with_mark p)
marked_is p h = ap (marked_parts (at_domain p)) (parted_back p.front p.domain (name_bytes p h).0)

pub opaque_again : (name : List ℕ) (p : Parted) → parted name ≡ Some p → is_opaque p ≡ true → opaque_tag name (parted name) ≡ Some (tags.Plain (kinds.Opaque name))
opaque_again name p e h = rw (e, h) refl

pub certified_again : (p : Parted) → is_opaque p ≡ true → length (at_domain (with_mark p)) ≤ 64
    → opaque_tag (at_domain (with_mark p)) (parted (at_domain (with_mark p))) ≡ Some (tags.Certified (kinds.Opaque (at_domain p)))
certified_again p h few =
    let short : nat_le (length (at_domain (with_mark p))) 64 ≡ true = le-leb _ _ few in
    rw (parted_back (p.front ++ mark) p.domain (all_append p.front (name_bytes p h).0), marked_is_not p, unmarked_back p.front, h, short) refl
