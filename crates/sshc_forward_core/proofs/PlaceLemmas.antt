-- A finite map from numbers at one key, after an entry was put in or taken out.
use Rattle.std.proofs.Common.{◌≡◌, ℕ, cond, Some, None, refl, sym, ap, ◌∙◌, inl, inr, ◌⊎◌}
use Rattle.std.specs.Ordering.{nat_cmp}
use Rattle.std.specs.Cmp.{nat_cmp_total, unsigned_tied}
use Rattle.std.specs.FinMap.{FinMap, get, insert, remove, get-insert, get-remove}
use Rattle.std.proofs.lemmas.Bool.{eq-eqb, ne_eqb, cases_eq}
use Rattle.std.proofs.lemmas.Option.{none-some, same_Some}

module _ {X : Type 0} where
  pub get_here : (m : FinMap nat_cmp X) (k : ℕ) (v : X) → get (insert m k v) k ≡ Some v
  get_here m k v =
      get-insert nat_cmp_total m k v k
      ∙ ap (λ b. cond b (Some v) (get m k)) (unsigned_tied k k ∙ eq-eqb k k refl)

  pub get_other : (m : FinMap nat_cmp X) (k : ℕ) (v : X) (q : ℕ) → (q ≡ k → ⊥) → get (insert m k v) q ≡ get m q
  get_other m k v q apart =
      get-insert nat_cmp_total m k v q
      ∙ ap (λ b. cond b (Some v) (get m q)) (unsigned_tied q k ∙ ne_eqb q k apart)

  pub gone_here : (m : FinMap nat_cmp X) (k : ℕ) → get (remove m k) k ≡ None
  gone_here m k =
      get-remove nat_cmp_total m k k
      ∙ ap (λ b. cond b None (get m k)) (unsigned_tied k k ∙ eq-eqb k k refl)

  pub gone_other : (m : FinMap nat_cmp X) (k q : ℕ) → (q ≡ k → ⊥) → get (remove m k) q ≡ get m q
  gone_other m k q apart =
      get-remove nat_cmp_total m k q
      ∙ ap (λ b. cond b None (get m q)) (unsigned_tied q k ∙ ne_eqb q k apart)

  -- what is there after an entry was put in
  pub put_cases :
      (m : FinMap nat_cmp X) (k : ℕ) (v : X) (q : ℕ) (x : X) → get (insert m k v) q ≡ Some x →
      ((q ≡ k) × (v ≡ x)) ⊎ ((q ≡ k → ⊥) × (get m q ≡ Some x))
  put_cases m k v q x h = elim (cases_eq q k) [
    | inl e ↦ inl (e, same_Some v x (sym (get_here m k v) ∙ ap (get (insert m k v)) (sym e) ∙ h))
    | inr apart ↦ inr (apart, sym (get_other m k v q apart) ∙ h)
  ]

  -- what is there after an entry was taken out
  pub left_after :
      (m : FinMap nat_cmp X) (k q : ℕ) (x : X) → get (remove m k) q ≡ Some x →
      (q ≡ k → ⊥) × (get m q ≡ Some x)
  left_after m k q x h =
      let apart : q ≡ k → ⊥ = λ e. none-some x (sym (gone_here m k) ∙ ap (get (remove m k)) (sym e) ∙ h) in
      (apart, sym (gone_other m k q apart) ∙ h)

  -- two values at one key are one
  pub one_value : (m : FinMap nat_cmp X) (k q : ℕ) (x y : X) → k ≡ q → get m k ≡ Some x → get m q ≡ Some y → x ≡ y
  one_value m k q x y e h i = same_Some x y (sym h ∙ ap (get m) e ∙ i)
