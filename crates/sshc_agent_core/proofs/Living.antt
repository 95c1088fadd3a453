-- The keys that are still held at a moment, where no two keys have the same blob.
use Rattle.std.proofs.Common.{◌≡◌, ℕ, ◌+◌, ◌≤◌, Bool, true, false, cond, not, List, [], ◌∷◌, Option, Some, None, refl, sym, ap, ◌∙◌, arith, sum_by}
use Rattle.std.specs.Prelude.{filter}
use Rattle.std.proofs.lemmas.List.Sums.{sum_by-cons}
use Rattle.std.proofs.lemmas.List.Filters.{sum_by-filter_both}
use Rattle.sshc_agent_core.specs.declared.key_list.HeldKey.{HeldKey}
use Rattle.sshc_agent_core.specs.AskedRows.{live}
use Rattle.sshc_agent_core.specs.Deadlines.{AreApart, named_in, one}
use Rattle.sshc_agent_core.specs.KeyList.{held, is_key, is_past, unexpired}

named_by : (c : Bool) (k : HeldKey) (o : Option HeldKey) (n : ℕ) → one c + n ≡ 0 → (n ≡ 0 → o ≡ None) → cond c (Some k) o ≡ None
named_by true k o n none later = absurd (omega (arith, none))
named_by false k o n none later = later (omega (arith, none))

-- a blob that no key has
none_named : (keys : List HeldKey) (blob : List ℕ) → named_in blob keys ≡ 0 → held keys blob ≡ None
none_named [] blob none = refl
none_named (k ∷ keys) blob none =
    named_by (is_key blob k) k (held keys blob) (named_in blob keys) (sym (sum_by-cons (λ (x : HeldKey). one (is_key blob x)) k keys) ∙ none) (none_named keys blob)

none_kept : (p : HeldKey → Bool) (keys : List HeldKey) (blob : List ℕ) → named_in blob keys ≡ 0 → held (filter p keys) blob ≡ None
none_kept p keys blob none =
    none_named (filter p keys) blob (omega (arith, none, sum_by-filter_both p (λ (k : HeldKey). not (p k)) (λ x. refl) (λ (k : HeldKey). one (is_key blob k)) keys))

rest_apart : (k : HeldKey) (keys : List HeldKey) → AreApart (k ∷ keys) → AreApart keys
rest_apart k keys apart blob = omega (arith, apart blob, sum_by-cons (λ (x : HeldKey). one (is_key blob x)) k keys)

live_by : (now : ℕ) (k : HeldKey) (keys : List HeldKey) (blob : List ℕ) → AreApart (k ∷ keys) → held (unexpired now keys) blob ≡ live now (held keys blob) → (c p : Bool) → is_key blob k ≡ c → is_past k.deadline now ≡ p
    → held (cond (not p) (k ∷ unexpired now keys) (unexpired now keys)) blob ≡ live now (cond c (Some k) (held keys blob))
live_by now k keys blob apart later true true is past =
    let alone : named_in blob keys ≡ 0 = omega (arith, apart blob, sum_by-cons (λ (x : HeldKey). one (is_key blob x)) k keys, ap one is) in
    none_kept _ keys blob alone ∙ ap (λ (b : Bool). cond b None (Some k)) (sym past)
live_by now k keys blob apart later true false is past = ap (λ (b : Bool). cond b (Some k) (held (unexpired now keys) blob)) is ∙ ap (λ (b : Bool). cond b None (Some k)) (sym past)
live_by now k keys blob apart later false true is past = later
live_by now k keys blob apart later false false is past = ap (λ (b : Bool). cond b (Some k) (held (unexpired now keys) blob)) is ∙ later

-- the key of a blob among those that are still held
pub held_live : (now : ℕ) (keys : List HeldKey) (blob : List ℕ) → AreApart keys → held (unexpired now keys) blob ≡ live now (held keys blob)
held_live now [] blob apart = refl
held_live now (k ∷ keys) blob apart = live_by now k keys blob apart (held_live now keys blob (rest_apart k keys apart)) (is_key blob k) (is_past k.deadline now) refl refl
