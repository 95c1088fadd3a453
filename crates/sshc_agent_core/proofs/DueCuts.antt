-- Deadlines and keys that agree once a moment has come.
use Rattle.std.proofs.Common.{◌≡◌, ℕ, ◌+◌, ◌≤◌, Bool, true, false, cond, not, List, [], ◌∷◌, Option, Some, None, refl, sym, ap, ◌∙◌, arith}
use Rattle.std.specs.Prelude.{◌&&◌, nat_le}
use Rattle.std.proofs.lemmas.List.Sums.{sum_by-cons}
use Rattle.std.proofs.lemmas.Bool.{eqb-true, eq-eqb, leb-true}
use Rattle.sshc_agent_core.specs.declared.key_list.HeldKey.{HeldKey}
use Rattle.sshc_agent_core.specs.KeyList.{is_key, is_past, unexpired}
use Rattle.sshc_agent_core.specs.Deadlines.{Agree, IsCut, IsSame, Lists, due_in, is_due, is_then, listed_at, one, times}
use Rattle.sshc_agent_core.proofs.DueLists.{and_first, is_same, no_times}
use Rattle.sshc_agent_core.proofs.DueLemmas.{kept_sum}

-- ---- a moment comes

-- a key that is due at a moment is past exactly if the moment is
due_past : (o : Option ℕ) (q now : ℕ) → is_then o q ≡ true → is_past o now ≡ nat_le q now
due_past None q now h = absurd cc
due_past (Some d) q now h = ap (λ (n : ℕ). nat_le n now) (eqb-true d q h)

cut_by : (p t c : Bool) (n m : ℕ) → (t ≡ true → p ≡ c) → n ≡ cond c 0 m → cond (not p) (one t + n) n ≡ cond c 0 (one t + m)
cut_by p true true n m due h = let past : p ≡ true = due refl in rw past h
cut_by p true false n m due h = let later : p ≡ false = due refl in rw (later, h) refl
cut_by true false true n m due h = h
cut_by true false false n m due h = omega (arith, h)
cut_by false false true n m due h = omega (arith, h)
cut_by false false false n m due h = omega (arith, h)

due_cut : (now q : ℕ) (b : List ℕ) (keys : List HeldKey) → due_in b q (unexpired now keys) ≡ cond (nat_le q now) 0 (due_in b q keys)
due_cut now q b [] = no_times (nat_le q now)
due_cut now q b (k ∷ keys) =
    kept_sum (not (is_past k.deadline now)) (λ (x : HeldKey). one (is_due b q x)) k (unexpired now keys)
    ∙ cut_by (is_past k.deadline now) (is_due b q k) (nat_le q now) (due_in b q (unexpired now keys)) (due_in b q keys) (λ h. due_past k.deadline q now (and_first (is_then k.deadline q) (is_key b k) h)) (due_cut now q b keys)
    ∙ ap (λ (n : ℕ). cond (nat_le q now) 0 n) (sym (sum_by-cons (λ (x : HeldKey). one (is_due b q x)) k keys))

gone_times : (c : Bool) (b : List ℕ) (o : Option (List (List ℕ))) → times b (listed_at (cond c None o)) ≡ cond c 0 (times b (listed_at o))
gone_times true b o = refl
gone_times false b o = refl

gone_full : (c : Bool) (o : Option (List (List ℕ))) → (o ≡ Some [] → ⊥) → cond c None o ≡ Some [] → ⊥
gone_full true o full h = absurd cc
gone_full false o full h = full h

pub cut_agree : (now : ℕ) (keys : List HeldKey) (old new : Lists) → IsCut now old new → Agree keys old → Agree (unexpired now keys) new
cut_agree now keys old new cut agree = record {
  counts = λ q b.
      ap (λ (o : Option (List (List ℕ))). times b (listed_at o)) (cut q) ∙ gone_times (nat_le q now) b (old q)
      ∙ ap (λ (n : ℕ). cond (nat_le q now) 0 n) (agree.counts q b) ∙ sym (due_cut now q b keys);
  full = λ q e. gone_full (nat_le q now) (old q) (agree.full q) (sym (cut q) ∙ e);
}

later_by : (now : ℕ) (o : Option ℕ) → ((q : ℕ) → q ≤ now → is_then o q ≡ false) → is_past o now ≡ false
later_by now None none = refl
later_by now (Some d) none = by (nat_le d now) refl
  where
    by : (c : Bool) → nat_le d now ≡ c → nat_le d now ≡ false
    by true is = let no : true ≡ false = sym (eq-eqb d d refl) ∙ none d (leb-true d now is) in absurd cc
    by false is = is

first_none : (t : Bool) (n : ℕ) → one t + n ≡ 0 → t ≡ false
first_none true n h = absurd (omega (arith, h))
first_none false n h = refl

not_and : (a b : Bool) → (a && b) ≡ false → b ≡ true → a ≡ false
not_and true b h is = let no : true ≡ false = sym is ∙ h in absurd cc
not_and false b h is = refl

unpast : (now : ℕ) (keys : List HeldKey) → ((q : ℕ) (b : List ℕ) → q ≤ now → due_in b q keys ≡ 0) → unexpired now keys ≡ keys
unpast now [] none = refl
unpast now (k ∷ keys) none =
    let first : (q : ℕ) (b : List ℕ) → q ≤ now → one (is_due b q k) + due_in b q keys ≡ 0 = λ q b low. sym (sum_by-cons (λ (x : HeldKey). one (is_due b q x)) k keys) ∙ none q b low in
    let later : is_past k.deadline now ≡ false = later_by now k.deadline (λ q low. not_and (is_then k.deadline q) (is_key k.blob k) (first_none (is_due k.blob q k) (due_in k.blob q keys) (first q k.blob low)) (is_same k.blob)) in
    let rest : unexpired now keys ≡ keys = unpast now keys (λ q b low. omega (arith, first q b low)) in
    rw (later, rest) refl

-- no key is past where no list is
pub none_past : (now : ℕ) (keys : List HeldKey) (old : Lists) → Agree keys old → ((q : ℕ) → q ≤ now → old q ≡ None) → unexpired now keys ≡ keys
none_past now keys old agree none = unpast now keys (λ q b low. sym (agree.counts q b) ∙ ap (λ (o : Option (List (List ℕ))). times b (listed_at o)) (none q low))

pub none_cut : (now : ℕ) (old new : Lists) → IsCut now old new → ((q : ℕ) → q ≤ now → old q ≡ None) → IsSame old new
none_cut now old new cut none q = by (nat_le q now) refl (cut q)
  where
    by : (c : Bool) → nat_le q now ≡ c → new q ≡ cond c None (old q) → new q ≡ old q
    by true low is = is ∙ sym (none q (leb-true q now low))
    by false low is = is
