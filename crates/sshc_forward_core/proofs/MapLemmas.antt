-- Finite maps from numbers, as the entries of a hash map show them.
use Rattle.std.proofs.Common.{◌≡◌, ℕ, Bool, true, false, cond, List, [], ◌∷◌, Option, Some, None, refl, sym, ap, ◌∙◌, length, ◌+◌, add-one}
use Rattle.std.specs.Prelude.{nat_eq, is_some}
use Rattle.std.proofs.lemmas.Bool.{eqb-true}
use Rattle.std.specs.Ordering.{nat_cmp}
use Rattle.std.specs.Cmp.{nat_cmp_total, nat_eq_equiv, unsigned_tied}
use Rattle.std.specs.Map.{lookup, keys_of}
use Rattle.std.specs.List.{IsDistinct, AllByRecursion}
use Rattle.std.proofs.lemmas.Map.Keys.{IsDistinct-head, IsDistinct-tail}
use Rattle.std.specs.FinMap.{FinMap, find, get, insert, remove, contains_key, from_entries, get-from_entries, get-insert, get-remove, same_map, nat_cmp-IsAntisymmetric, len, len-empty, len-insert}

module _ {X : Type 0} where
  find_is : (es : List (ℕ × X)) (q : ℕ) → find nat_cmp q es ≡ lookup (nat_eq q) es
  find_is [] q = refl
  find_is (e ∷ es) q =
      ap (λ b. cond b (Some e.1) (find nat_cmp q es)) (unsigned_tied q e.0)
      ∙ ap (cond (nat_eq q e.0) (Some e.1)) (find_is es q)

  -- what the map has at a key
  pub get_is : (es : List (ℕ × X)) (q : ℕ) → get (from_entries {R = nat_cmp} es) q ≡ lookup (nat_eq q) es
  get_is es q = get-from_entries nat_cmp_total es q ∙ find_is es q

  -- entries that differ at one key make maps that differ there
  pub inserted :
      (es fs : List (ℕ × X)) (k : ℕ) (v : X) →
      ((q : ℕ) → lookup (nat_eq q) fs ≡ cond (nat_eq k q) (Some v) (lookup (nat_eq q) es)) →
      from_entries {R = nat_cmp} fs ≡ insert (from_entries es) k v
  inserted es fs k v h = same_map nat_cmp_total nat_cmp-IsAntisymmetric _ _ (λ q.
      get_is fs q ∙ h q
      ∙ sym (get-insert nat_cmp_total (from_entries es) k v q
      ∙ ap (λ b. cond b (Some v) (get (from_entries {R = nat_cmp} es) q)) (unsigned_tied q k ∙ nat_eq_equiv.symm q k)
      ∙ ap (cond (nat_eq k q) (Some v)) (get_is es q)))

  pub removed :
      (es fs : List (ℕ × X)) (k : ℕ) →
      ((q : ℕ) → lookup (nat_eq q) fs ≡ cond (nat_eq k q) None (lookup (nat_eq q) es)) →
      from_entries {R = nat_cmp} fs ≡ remove (from_entries es) k
  removed es fs k h = same_map nat_cmp_total nat_cmp-IsAntisymmetric _ _ (λ q.
      get_is fs q ∙ h q
      ∙ sym (get-remove nat_cmp_total (from_entries es) k q
      ∙ ap (λ b. cond b None (get (from_entries {R = nat_cmp} es) q)) (unsigned_tied q k ∙ nat_eq_equiv.symm q k)
      ∙ ap (cond (nat_eq k q) None) (get_is es q)))

  -- a new key is inserted and removed again
  undone_at : (b : Bool) (o : Option X) (v : X) → (b ≡ true → o ≡ None) → cond b None (cond b (Some v) o) ≡ o
  undone_at true o v h = sym (h refl)
  undone_at false o v h = refl

  none_of : (o : Option X) → is_some o ≡ false → o ≡ None
  none_of None h = refl
  none_of (Some x) h = cc

  pub undone : (m : FinMap nat_cmp X) (k : ℕ) (v : X) → contains_key m k ≡ false → remove (insert m k v) k ≡ m
  undone m k v h = same_map nat_cmp_total nat_cmp-IsAntisymmetric _ _ (λ q.
      get-remove nat_cmp_total (insert m k v) k q
      ∙ ap (λ b. cond b None (get (insert m k v) q)) (unsigned_tied q k)
      ∙ ap (cond (nat_eq q k) None) (get-insert nat_cmp_total m k v q ∙ ap (λ b. cond b (Some v) (get m q)) (unsigned_tied q k))
      ∙ undone_at (nat_eq q k) (get m q) v (λ e. ap (get m) (eqb-true q k e) ∙ none_of (get m k) h))

  -- to put in what is there changes nothing
  same_at : (b : Bool) (o : Option X) (v : X) → (b ≡ true → o ≡ Some v) → cond b (Some v) o ≡ o
  same_at true o v h = sym (h refl)
  same_at false o v h = refl

  pub insert_same : (m : FinMap nat_cmp X) (k : ℕ) (v : X) → get m k ≡ Some v → insert m k v ≡ m
  insert_same m k v h = same_map nat_cmp_total nat_cmp-IsAntisymmetric _ _ (λ q.
      get-insert nat_cmp_total m k v q
      ∙ ap (λ b. cond b (Some v) (get m q)) (unsigned_tied q k)
      ∙ same_at (nat_eq q k) (get m q) v (λ e. ap (get m) (eqb-true q k e) ∙ h))

  -- a key that none of the others is
  fresh : (k : ℕ) (es : List (ℕ × X)) → AllByRecursion (λ y. nat_eq k y ≡ false) (keys_of es) → lookup (nat_eq k) es ≡ None
  fresh k [] h = refl
  fresh k (e ∷ es) h = ap (λ b. cond b (Some e.1) (lookup (nat_eq k) es)) h.0 ∙ fresh k es h.1

  -- how many entries the map has
  pub counted : (es : List (ℕ × X)) → IsDistinct nat_eq (keys_of es) → len (from_entries {R = nat_cmp} es) ≡ length es
  counted [] h = len-empty nat_cmp X
  counted (e ∷ es) h =
      len-insert nat_cmp_total (from_entries es) e.0 e.1
      ∙ ap (λ o. cond (is_some o) (len (from_entries {R = nat_cmp} es)) (len (from_entries {R = nat_cmp} es) + 1))
      (get_is es e.0 ∙ fresh e.0 es (IsDistinct-head nat_eq e.0 (keys_of es) h))
      ∙ ap (λ n. n + 1) (counted es (IsDistinct-tail nat_eq e.0 (keys_of es) h)) ∙ add-one (length es)
