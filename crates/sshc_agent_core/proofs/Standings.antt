-- A connection that is set to the state that it has, in a list that is ordered by number.
use Rattle.std.proofs.Common.{◌≡◌, ℕ, ◌<◌, Bool, true, false, cond, List, [], ◌∷◌, Option, Some, None, refl, sym, ap, ◌∙◌, arith}
use Rattle.std.specs.Prelude.{◌==◌, nat_lt}
use Rattle.std.specs.List.{AllByRecursion}
use Rattle.std.specs.List.Sorted.{IsStrictlySortedBy}
use Rattle.std.specs.Ordering.{nat_cmp, is_eq, match_ordering}
use Rattle.std.specs.declared.cmp.Ordering.{Ordering}
use Rattle.std.specs.declared.cmp.Ordering.TheVariants.{Less, Equal, Greater}
use Rattle.std.specs.Cmp.{nat_cmp_is}
use Rattle.std.specs.BTreeMap.{insert_entry}
use Rattle.std.specs.Map.{keys_of}
use Rattle.std.proofs.lemmas.Bool.{eqb-false, eqb-true, ltb-false, ltb-true}
use Rattle.sshc_agent_core.specs.declared.connections.Standing.{Standing}
use Rattle.sshc_agent_core.specs.Connections.{standing_of, with_standing}
use Rattle.sshc_agent_core.specs.StepLaws.{same_place, unlike}

abbrev Conns : Type 0
Conns = List (ℕ × Standing)

below_of : (a b : ℕ) → nat_cmp a b ≡ Less → a < b
below_of a b is = by (nat_lt a b) refl
  where
    same : (c : Bool) → (a == b) ≡ c → nat_lt a b ≡ false → a < b
    same true e above = let clash : Equal ≡ Less = nat_cmp_is a b Equal (eqb-true a b e) ∙ is in absurd cc
    same false e above = let clash : Greater ≡ Less = nat_cmp_is a b Greater (omega (arith, ltb-false a b above, eqb-false a b e)) ∙ is in absurd cc

    by : (c : Bool) → nat_lt a b ≡ c → a < b
    by true e = ltb-true a b e
    by false e = same (a == b) refl e

-- a number below all numbers isn't there
absent : (first conn : ℕ) (es : Conns) → conn < first → AllByRecursion (λ y. nat_cmp first y ≡ Less) (keys_of es) → standing_of es conn ≡ None
absent first conn [] below all = refl
absent first conn (e ∷ es) below all =
    let other : is_eq (nat_cmp conn e.0) ≡ false = unlike conn e.0 (λ same. omega (arith, same, below, below_of first e.0 all.0)) in
    ap (λ (b : Bool). cond b (Some e.1) (standing_of es conn)) other ∙ absent first conn es below all.1

inner : (v w : Standing) → Some v ≡ Some w → v ≡ w
inner v w e = cc

stays_by : (o : Ordering) (conn : ℕ) (v : Standing) (e : ℕ × Standing) (es : Conns) → nat_cmp conn e.0 ≡ o → AllByRecursion (λ y. nat_cmp e.0 y ≡ Less) (keys_of es)
    → cond (is_eq o) (Some e.1) (standing_of es conn) ≡ Some v → (standing_of es conn ≡ Some v → insert_entry nat_cmp es conn v ≡ es)
    → match_ordering o ((conn, v) ∷ e ∷ es) ((e.0, v) ∷ es) (e ∷ insert_entry nat_cmp es conn v) ≡ e ∷ es
stays_by Less conn v e es is above there later =
    let none : standing_of es conn ≡ None = absent e.0 conn es (below_of conn e.0 is) above in
    let clash : None ≡ Some v = sym none ∙ there in
    absurd cc
stays_by Equal conn v e es is above there later = ap (λ (w : Standing). (e.0, w) ∷ es) (sym (inner e.1 v there))
stays_by Greater conn v e es is above there later = ap (λ (rest : Conns). e ∷ rest) (later there)

pub stays : (conns : Conns) (conn : ℕ) (v : Standing) → IsStrictlySortedBy nat_cmp (keys_of conns) → standing_of conns conn ≡ Some v → with_standing conns conn v ≡ conns
unfolding IsStrictlySortedBy
stays [] conn v ordered there = let clash : None ≡ Some v = there in absurd cc
stays (e ∷ es) conn v ordered there =
    stays_by (nat_cmp conn e.0) conn v e es refl ordered.0 there (λ deeper. stays es conn v ordered.1 deeper)
