-- Deadlines and keys that agree.
use Rattle.std.proofs.Common.{◌≡◌, ℕ, zero, suc, ◌+◌, ◌<◌, ◌≤◌, Bool, true, false, cond, not, List, [], ◌∷◌, ◌++◌, length, get_or, set, slice_get, Option, Some, None, refl, sym, ap, ◌∙◌, subst, arith, sum_by}
use Rattle.std.specs.Prelude.{◌&&◌, bytes_eq, filter}
use Rattle.std.proofs.lemmas.List.Sums.{sum_by-cons, sum_by_push, sum_by-set, sum_by-le-sum_by}
use Rattle.std.proofs.lemmas.List.Filters.{sum_by-filter_both}
use Rattle.std.proofs.lemmas.Option.{slice_get_within, get_or_from_slice_get}
use Rattle.sshc_agent_core.specs.declared.key_list.HeldKey.{HeldKey}
use Rattle.sshc_agent_core.specs.KeyList.{held, is_key, without_key}
use Rattle.sshc_agent_core.specs.Deadlines.{Adds, Agree, AreApart, Drops, IsMoved, IsSame, Lists, added, due_in, is_due, is_then, listed_at, named_in, one, times}
use Rattle.sshc_agent_core.proofs.DueLists.{added_counts, added_full, adds_added, and_first, and_later, dropped_counts, dropped_full, no_times, same_blob, stays_by, then_same, unlike}
use Rattle.std.proofs.lemmas.Bool.{false_from_ne_true}

-- ---- no keys

pub none_agree : (at : Lists) → ((q : ℕ) → at q ≡ None) → Agree [] at
none_agree at none = record {
  counts = λ q b. rw (none q) refl;
  full = λ q e. let no : None ≡ Some [] = sym (none q) ∙ e in absurd cc;
}

pub none_apart : AreApart []
none_apart blob = omega arith

-- ---- the same lists

pub same_agree : (keys : List HeldKey) (old new : Lists) → IsSame old new → Agree keys old → Agree keys new
same_agree keys old new same h = record {
  counts = λ q b. rw (same q) (h.counts q b);
  full = λ q e. h.full q (sym (same q) ∙ e);
}

-- ---- a key at the end

named_by : (c : Bool) (k : HeldKey) (o : Option HeldKey) (n : ℕ) → cond c (Some k) o ≡ None → (o ≡ None → n ≡ 0) → one c + n ≡ 0
named_by true k o n e later = absurd cc
named_by false k o n e later = omega (arith, later e)

named_none : (keys : List HeldKey) (blob : List ℕ) → held keys blob ≡ None → named_in blob keys ≡ 0
named_none [] blob h = refl
named_none (k ∷ keys) blob h =
    sum_by-cons (λ (x : HeldKey). one (is_key blob x)) k keys
    ∙ named_by (is_key blob k) k (held keys blob) (named_in blob keys) h (named_none keys blob)

pub appended_agree : (keys : List HeldKey) (key : HeldKey) (old new : Lists) → Adds key.deadline key.blob old new → Agree keys old → Agree (keys ++ key ∷ []) new
appended_agree keys key old new h agree = record {
  counts = λ q b. omega (arith, added_counts key.deadline key.blob old new h q b, agree.counts q b, sum_by_push (λ (k : HeldKey). one (is_due b q k)) keys key);
  full = added_full key.deadline key.blob old new h agree.full;
}

pub appended_apart : (keys : List HeldKey) (key : HeldKey) → held keys key.blob ≡ None → AreApart keys → AreApart (keys ++ key ∷ [])
appended_apart keys key none apart blob = by (is_key blob key) refl
  where
    by : (c : Bool) → is_key blob key ≡ c → named_in blob (keys ++ key ∷ []) ≤ 1
    by true is =
        let same : key.blob ≡ blob = same_blob key.blob blob is in
        let nowhere : named_in blob keys ≡ 0 = subst (λ (b : List ℕ). named_in b keys ≡ 0) same (named_none keys key.blob none) in
        omega (arith, nowhere, sum_by_push (λ (k : HeldKey). one (is_key blob k)) keys key, ap one is)
    by false is = omega (arith, apart blob, sum_by_push (λ (k : HeldKey). one (is_key blob k)) keys key, ap one is)

-- ---- keys that are kept

pub kept_sum : (c : Bool) (f : HeldKey → ℕ) (k : HeldKey) (rest : List HeldKey) → sum_by f (cond c (k ∷ rest) rest) ≡ cond c (f k + sum_by f rest) (sum_by f rest)
kept_sum true f k rest = sum_by-cons f k rest
kept_sum false f k rest = refl

pub kept_apart : (p : HeldKey → Bool) (keys : List HeldKey) → AreApart keys → AreApart (filter p keys)
kept_apart p keys apart blob = omega (arith, apart blob, sum_by-filter_both p (λ (k : HeldKey). not (p k)) (λ x. refl) (λ (k : HeldKey). one (is_key blob k)) keys)

-- ---- a key in the place of another

slice_get_Some : (keys : List HeldKey) (at : ℕ) (before key : HeldKey) → slice_get keys at ≡ Some before → (at < length keys) × (get_or keys at key ≡ before)
slice_get_Some keys at before key there = (slice_get_within keys at before there, get_or_from_slice_get keys at before key there)

due_named : (b : List ℕ) (q : ℕ) (k : HeldKey) → one (is_due b q k) ≤ one (is_key b k)
due_named b q k = by (is_then k.deadline q) (is_key b k)
  where
    by : (t e : Bool) → one (t && e) ≤ one e
    by true true = omega arith
    by true false = omega arith
    by false true = omega arith
    by false false = omega arith

due_once : (b : List ℕ) (q : ℕ) (keys : List HeldKey) → AreApart keys → due_in b q keys ≤ 1
due_once b q keys apart = omega (arith, apart b, sum_by-le-sum_by (λ (k : HeldKey). one (is_due b q k)) (λ (k : HeldKey). one (is_key b k)) keys (due_named b q))

change_by : (t0 t1 : Bool) (n m : ℕ) → m + one t0 ≡ n + one t1 → (t0 ≡ true → t1 ≡ false) → n ≤ 1 → cond t0 0 (n + one t1) ≡ m
change_by true t1 n m sums differ once = let no : t1 ≡ false = differ refl in omega (arith, sums, ap one no, once)
change_by false t1 n m sums differ once = omega (arith, sums)

pub set_agree : (keys : List HeldKey) (at : ℕ) (before key : HeldKey) (old new : Lists) → slice_get keys at ≡ Some before → before.blob ≡ key.blob → before.deadline ≡ key.deadline
    → IsSame old new → Agree keys old → Agree (set keys at key) new
set_agree keys at before key old new there same alike lists agree = record {
  counts = λ q b.
      let place = slice_get_Some keys at before key there in
      let f : HeldKey → ℕ = λ k. one (is_due b q k) in
      let as_before : is_due b q before ≡ is_due b q key = rw (same, alike) refl in
      ap (λ (o : Option (List (List ℕ))). times b (listed_at o)) (lists q) ∙
      omega (arith, agree.counts q b, sum_by-set (λ (k : HeldKey). one (is_due b q k)) keys at key key place.0, ap (λ (k : HeldKey). one (is_due b q k)) place.1, ap one as_before);
  full = λ q e. agree.full q (sym (lists q) ∙ e);
}

pub set_apart : (keys : List HeldKey) (at : ℕ) (before key : HeldKey) → slice_get keys at ≡ Some before → before.blob ≡ key.blob → AreApart keys → AreApart (set keys at key)
set_apart keys at before key there same apart blob =
    let place = slice_get_Some keys at before key there in
    let as_before : is_key blob before ≡ is_key blob key = rw same refl in
    omega (arith, apart blob, sum_by-set (λ (k : HeldKey). one (is_key blob k)) keys at key key place.0, ap (λ (k : HeldKey). one (is_key blob k)) place.1, ap one as_before)

replaced_agree : (keys : List HeldKey) (at : ℕ) (before key : HeldKey) (old mid new : Lists) → slice_get keys at ≡ Some before → before.blob ≡ key.blob → (before.deadline ≡ key.deadline → ⊥)
    → AreApart keys → Adds key.deadline key.blob old mid → Drops before.deadline key.blob mid new → Agree keys old → Agree (set keys at key) new
replaced_agree keys at before key old mid new there same differ apart adds drops agree = record {
  counts = λ q b.
      let place = slice_get_Some keys at before key there in
      let t0 : Bool = is_then before.deadline q && bytes_eq key.blob b in
      let as_before : is_due b q before ≡ (is_then before.deadline q && bytes_eq key.blob b) = rw same refl in
      let sums : due_in b q (set keys at key) + one (is_then before.deadline q && bytes_eq key.blob b) ≡ due_in b q keys + one (is_due b q key) =
      omega (arith, sum_by-set (λ (k : HeldKey). one (is_due b q k)) keys at key key place.0, ap (λ (k : HeldKey). one (is_due b q k)) place.1, ap one as_before) in
      dropped_counts before.deadline key.blob mid new drops q b
      ∙ ap (λ (n : ℕ). cond (is_then before.deadline q && bytes_eq key.blob b) 0 n) (added_counts key.deadline key.blob old mid adds q b ∙ ap (λ (n : ℕ). n + one (is_due b q key)) (agree.counts q b))
      ∙ change_by (is_then before.deadline q && bytes_eq key.blob b) (is_due b q key) (due_in b q keys) (due_in b q (set keys at key)) sums
      (λ h. false_from_ne_true (is_due b q key) (λ k. differ (then_same before.deadline key.deadline q (and_first (is_then before.deadline q) (bytes_eq key.blob b) h) (and_first (is_then key.deadline q) (is_key b key) k))))
      (due_once b q keys apart);
  full = dropped_full before.deadline key.blob mid new drops (added_full key.deadline key.blob old mid adds agree.full);
}

-- a key in the place of one with another deadline, whose blob goes from the one list to the other
pub moved_agree : (keys : List HeldKey) (at : ℕ) (before key : HeldKey) (old new : Lists) → slice_get keys at ≡ Some before → before.blob ≡ key.blob → (before.deadline ≡ key.deadline → ⊥)
    → AreApart keys → IsMoved before.deadline key.deadline key.blob old new → Agree keys old → Agree (set keys at key) new
moved_agree keys at before key old new there same differ apart moved agree =
    replaced_agree keys at before key old (added key.deadline key.blob old) new there same differ apart (adds_added key.deadline key.blob old) moved agree

-- ---- a key goes

without_by : (e : Bool) (k : HeldKey) (blob b : List ℕ) (q : ℕ) (rest keys : List HeldKey) → is_key blob k ≡ e
    → due_in b q rest ≡ cond (bytes_eq blob b) 0 (due_in b q keys) → cond (not e) (one (is_due b q k) + due_in b q rest) (due_in b q rest) ≡ cond (bytes_eq blob b) 0 (one (is_due b q k) + due_in b q keys)
without_by true k blob b q rest keys same h = by (bytes_eq blob b) refl h
  where
    by : (c : Bool) → bytes_eq blob b ≡ c → due_in b q rest ≡ cond c 0 (due_in b q keys) → due_in b q rest ≡ cond c 0 (one (is_due b q k) + due_in b q keys)
    by true is h = h
    by false is h =
        let other : is_key b k ≡ false = ap (λ (a : List ℕ). bytes_eq a b) (same_blob k.blob blob same) ∙ is in
        let never : is_due b q k ≡ false = false_from_ne_true (is_due b q k) (λ t. let no : true ≡ false = sym (and_later (is_then k.deadline q) (is_key b k) t) ∙ other in absurd cc) in
        omega (arith, h, ap one never)
without_by false k blob b q rest keys differ h =
    stays_by (bytes_eq blob b) (is_due b q k) (due_in b q rest) (due_in b q keys)
    (λ is. false_from_ne_true (is_due b q k) (λ t. let no : true ≡ false = sym (and_later (is_then k.deadline q) (is_key b k) t) ∙ unlike k.blob blob b differ is in absurd cc)) h

due_without : (blob b : List ℕ) (q : ℕ) (keys : List HeldKey) → due_in b q (without_key keys blob) ≡ cond (bytes_eq blob b) 0 (due_in b q keys)
due_without blob b q [] = no_times (bytes_eq blob b)
due_without blob b q (k ∷ keys) =
    kept_sum (not (is_key blob k)) (λ (x : HeldKey). one (is_due b q x)) k (without_key keys blob)
    ∙ without_by (is_key blob k) k blob b q (without_key keys blob) keys refl (due_without blob b q keys)
    ∙ ap (λ (n : ℕ). cond (bytes_eq blob b) 0 n) (sym (sum_by-cons (λ (x : HeldKey). one (is_due b q x)) k keys))

-- a key that has the blob and isn't due is the only one
spare_one : (f g : HeldKey → ℕ) (keys : List HeldKey) (at : ℕ) (before : HeldKey) → slice_get keys at ≡ Some before → ((k : HeldKey) → f k ≤ g k) → f before + 1 ≤ g before → sum_by f keys + 1 ≤ sum_by g keys
spare_one f g [] at before there within less = absurd cc
spare_one f g (k ∷ keys) zero before there within less =
    let same : k ≡ before = cc in
    omega (arith, less, ap f same, ap g same, sum_by-cons f k keys, sum_by-cons g k keys, sum_by-le-sum_by f g keys within)
spare_one f g (k ∷ keys) (suc at) before there within less =
    omega (arith, within k, sum_by-cons f k keys, sum_by-cons g k keys, spare_one f g keys at before there within less)

drop_by : (t e : Bool) (n : ℕ) → (t ≡ false → e ≡ true → n ≡ 0) → cond (t && e) 0 n ≡ cond e 0 n
drop_by true true n none = refl
drop_by true false n none = refl
drop_by false true n none = none refl refl
drop_by false false n none = refl

pub removed_agree : (keys : List HeldKey) (at : ℕ) (before : HeldKey) (blob : List ℕ) (old new : Lists) → slice_get keys at ≡ Some before → before.blob ≡ blob → AreApart keys
    → Drops before.deadline blob old new → Agree keys old → Agree (without_key keys blob) new
removed_agree keys at before blob old new there same apart drops agree = record {
  counts = λ q b.
      dropped_counts before.deadline blob old new drops q b
      ∙ ap (λ (n : ℕ). cond (is_then before.deadline q && bytes_eq blob b) 0 n) (agree.counts q b)
      ∙ drop_by (is_then before.deadline q) (bytes_eq blob b) (due_in b q keys)
      (λ never is.
      let named : is_key b before ≡ true = ap (λ (a : List ℕ). bytes_eq a b) same ∙ is in
      let undue : is_due b q before ≡ false = ap (λ (t : Bool). t && is_key b before) never in
      omega (arith, apart b, spare_one (λ (k : HeldKey). one (is_due b q k)) (λ (k : HeldKey). one (is_key b k)) keys at before there (due_named b q) (omega (arith, ap one named, ap one undue))))
      ∙ sym (due_without blob b q keys);
  full = dropped_full before.deadline blob old new drops agree.full;
}

unheld_by : (c : Bool) (k : HeldKey) (o : Option HeldKey) (rest keys : List HeldKey) → cond c (Some k) o ≡ None → (o ≡ None → rest ≡ keys) → cond (not c) (k ∷ rest) rest ≡ k ∷ keys
unheld_by true k o rest keys none later = absurd cc
unheld_by false k o rest keys none later = ap (λ (ks : List HeldKey). k ∷ ks) (later none)

pub unheld : (keys : List HeldKey) (blob : List ℕ) → held keys blob ≡ None → without_key keys blob ≡ keys
unheld [] blob none = refl
unheld (k ∷ keys) blob none = unheld_by (is_key blob k) k (held keys blob) (without_key keys blob) keys none (unheld keys blob)
