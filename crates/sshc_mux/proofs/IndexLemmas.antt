-- The index of the numbers' slots, and the count of the channels on which bytes wait.
use Rattle.std.proofs.Common.{◌≡◌, ℕ, zero, suc, ◌+◌, ◌<◌, ◌≤◌, Bool, true, false, ◌||◌, List, [], ◌∷◌, ◌++◌, length, map, set, get_or, eqb, ltb, if◌then◌else◌, Option, Some, None, is_some, MatchOption, Result, Ok, Err, OnOk, OnErr, IfOk, refl, ap, sym, subst, ◌∙◌, arith, inl, inr, nat_eq, cond, length-append}
use Rattle.std.specs.Map.{lookup}
use Rattle.std.specs.HashMap.{HashMap, get, hash_map_len, Updates}
use Rattle.std.specs.List.{filter}
use Rattle.std.proofs.lemmas.Bool.{ne_eqb, lt-ltb}
use Rattle.std.proofs.lemmas.Bool.Decides.{eqb_tells}
use Rattle.std.proofs.lemmas.List.{get_or_append_left, get_or-set_same, get_or-set_other}
use Rattle.std.proofs.Math.Seq.{get_or-append_seam}
use Rattle.sshc_mux.specs.ChannelState.{ChannelState, channel_of, with_channel, without}
use Rattle.sshc_mux.specs.ChannelTable.{flush_turn, all_flushed, waits, any_waits}
use Rattle.sshc_mux.specs.Places.{Slots, present, IsPlace, IsIndexed, HasNumbers, flushed_slot, numbers, has, Apart, waiting_of}
use Rattle.sshc_mux.proofs.NumbersLemmas.{none_has, has_none, numbers-with, has_without, apart_without, apart_append, without_same, numbers-flushed}
use Rattle.sshc_mux.proofs.PlaceLemmas.{found_at, place_at, held_in, or_none, or_other, within_slots, present-append}

-- look-ups

-- the look-ups of an index, by where it was changed

record Looked (slots : Slots) (n : ℕ) (o : Option ℕ) : Type 0 where
  is : MatchOption o (channel_of n (present slots) ≡ None) (λ at. IsPlace n slots at)

looked_none : (slots : Slots) (n : ℕ) (o : Option ℕ) → o ≡ None → channel_of n (present slots) ≡ None → Looked slots n o
looked_none slots n None is none = record { is = none }
looked_none slots n (Some at) is none = absurd (cc)

looked_some : (slots : Slots) (n at : ℕ) (o : Option ℕ) → o ≡ Some at → IsPlace n slots at → Looked slots n o
looked_some slots n at None is place = absurd (cc)
looked_some slots n at (Some k) is place = let same : at ≡ k = cc in let P : ℕ → Type 0 = λ j. IsPlace n slots j in record { is = subst P same place }

-- two channels of one slot are one
same_slot : (slots : Slots) (at k : ℕ) (c d : ChannelState) → at ≡ k → get_or slots at None ≡ Some c → get_or slots k None ≡ Some d → c ≡ d
same_slot slots at k c d is here there =
    let same : Some c ≡ Some d = sym here ∙ ap (λ (j : ℕ). get_or slots j None) is ∙ there in cc

-- the same look-ups in another order

pub indexed_reordered : (index index2 : List (ℕ × ℕ)) (slots : Slots) → length index2 ≡ length index → ((m : ℕ) → lookup (nat_eq m) index2 ≡ lookup (nat_eq m) index) → IsIndexed index slots → IsIndexed index2 slots
indexed_reordered index index2 slots sized looked indexed =
    let P : (m : ℕ) → Option ℕ → Type 0 = λ m o. Looked slots m o in record {
      places = λ m. (subst (P m) (sym (looked m)) (record { is = indexed.places m })).is;
      sized = sized ∙ indexed.sized;
    }

-- another channel in the slot of one

length-with : (n : ℕ) (new : ChannelState) (cs : List ChannelState) → length (with_channel n new cs) ≡ length cs
length-with n new [] = refl
length-with n new (c ∷ cs) = elim (eqb_tells c.head.number n) [
  | inl w ↦ ap (λ (b : Bool). length (if b then new ∷ cs else c ∷ with_channel n new cs)) w.0
  | inr w ↦ ap (λ (b : Bool). length (if b then new ∷ cs else c ∷ with_channel n new cs)) w.0 ∙ omega (arith, length-with n new cs)
]

set_by : (o : Option ℕ) (m n at : ℕ) (slots : Slots) (new : ChannelState) → Apart (numbers (present slots)) → (place : IsPlace n slots at) → new.head.number ≡ n →
    MatchOption o (channel_of m (present slots) ≡ None) (λ k. IsPlace m slots k) → Looked (set slots at (Some new)) m o
set_by None m n at slots new apart place is none =
    let slots2 : Slots = set slots at (Some new) in
    let same : numbers (present slots2) ≡ numbers (present slots) = ap numbers (sym (place.put new)) ∙ numbers-with n new (present slots) is in
    looked_none slots2 m None refl (none_has m (present slots2) (ap (λ (ns : List ℕ). has m ns) same ∙ has_none m (present slots) none))
set_by (Some k) m n at slots new apart place is other =
    let slots2 : Slots = set slots at (Some new) in
    let P : List ℕ → Type 0 = λ ns. Apart ns in
    let apart2 : Apart (numbers (present slots2)) = subst P (sym (ap numbers (sym (place.put new)) ∙ numbers-with n new (present slots) is)) apart in
    looked_some slots2 m k (Some k) refl
    (elim (eqb_tells k at) [
      | inl w ↦
          let named : n ≡ m = sym place.number ∙ ap (λ (d : ChannelState). d.head.number) (same_slot slots at k place.channel other.channel (sym w.1) place.here other.here) ∙ other.number in
          place_at m k slots2 new apart2 (ap (λ (j : ℕ). get_or (set slots at (Some new)) j None) w.1 ∙ get_or-set_same slots at (Some new) None (within_slots at slots place.channel place.here)) (is ∙ named)
      | inr w ↦ place_at m k slots2 other.channel apart2 (get_or-set_other slots at k (Some new) None w.1 ∙ other.here) other.number
    ])

pub indexed_set : (n at : ℕ) (index : List (ℕ × ℕ)) (slots : Slots) (new : ChannelState) → Apart (numbers (present slots)) → IsPlace n slots at → new.head.number ≡ n → IsIndexed index slots → IsIndexed index (set slots at (Some new))
indexed_set n at index slots new apart place is indexed = record {
  places = λ m. (set_by (lookup (nat_eq m) index) m n at slots new apart place is (indexed.places m)).is;
  sized = indexed.sized ∙ sym (length-with n new (present slots)) ∙ ap length (place.put new);
}

-- a channel is removed from its slot

pub length-without : (n : ℕ) (cs : List ChannelState) (c : ChannelState) → channel_of n cs ≡ Some c → length (without n cs) + 1 ≡ length cs
length-without n [] c found = absurd (cc)
length-without n (x ∷ cs) c found = elim (eqb_tells x.head.number n) [
  | inl w ↦ omega (arith, ap (λ (b : Bool). length (if b then cs else x ∷ without n cs)) w.0)
  | inr w ↦
      let rest = length-without n cs c (ap (λ (b : Bool). if b then Some x else channel_of n cs) (sym w.0) ∙ found) in
      omega (arith, rest, ap (λ (b : Bool). length (if b then cs else x ∷ without n cs)) w.0)
]

gone_by : (o : Option ℕ) (m n at : ℕ) (slots : Slots) → Apart (numbers (present slots)) → (place : IsPlace n slots at) → (n ≡ m → ⊥) →
    MatchOption o (channel_of m (present slots) ≡ None) (λ k. IsPlace m slots k) → Looked (set slots at None) m o
gone_by None m n at slots apart place ne none =
    let slots2 : Slots = set slots at None in
    let P : List ChannelState → Type 0 = λ cs. channel_of m cs ≡ None in
    looked_none slots2 m None refl (subst P place.gone (none_has m (without n (present slots)) (has_without m n (present slots) (has_none m (present slots) none))))
gone_by (Some k) m n at slots apart place ne other =
    let slots2 : Slots = set slots at None in
    let P : List ChannelState → Type 0 = λ cs. Apart (numbers cs) in
    let apart2 : Apart (numbers (present slots2)) = subst P place.gone (apart_without n (present slots) apart) in
    looked_some slots2 m k (Some k) refl
    (elim (eqb_tells k at) [
      | inl w ↦ absurd (ne (sym place.number ∙ ap (λ (d : ChannelState). d.head.number) (same_slot slots at k place.channel other.channel (sym w.1) place.here other.here) ∙ other.number))
      | inr w ↦ place_at m k slots2 other.channel apart2 (get_or-set_other slots at k None None w.1 ∙ other.here) other.number
    ])

removed_at : (b : Bool) (m n at : ℕ) (index index2 : List (ℕ × ℕ)) (slots : Slots) → Apart (numbers (present slots)) → IsPlace n slots at → b ≡ eqb n m → lookup (nat_eq m) index2 ≡ cond b None (lookup (nat_eq m) index) → IsIndexed index slots →
    Looked (set slots at None) m (lookup (nat_eq m) index2)
removed_at true m n at index index2 slots apart place is looked indexed = elim (eqb_tells n m) [
  | inl w ↦
      let P : List ChannelState → Type 0 = λ cs. channel_of m cs ≡ None in
      let Q : ℕ → Type 0 = λ k. channel_of k (without n (present slots)) ≡ None in
      looked_none (set slots at None) m (lookup (nat_eq m) index2) looked (subst P place.gone (subst Q w.1 (without_same n (present slots) apart)))
  | inr w ↦ let no : true ≡ false = is ∙ w.0 in absurd (cc)
]
removed_at false m n at index index2 slots apart place is looked indexed = elim (eqb_tells n m) [
  | inl w ↦ let no : false ≡ true = is ∙ w.0 in absurd (cc)
  | inr w ↦
      let P : Option ℕ → Type 0 = λ o. Looked (set slots at None) m o in
      subst P (sym looked) (gone_by (lookup (nat_eq m) index) m n at slots apart place w.1 (indexed.places m))
]

pub indexed_remove : (n at : ℕ) (index index2 : List (ℕ × ℕ)) (slots slots2 : Slots) → Apart (numbers (present slots)) → IsPlace n slots at → slots2 ≡ set slots at None →
    ((m : ℕ) → lookup (nat_eq m) index2 ≡ cond (eqb n m) None (lookup (nat_eq m) index)) → length index2 + 1 ≡ length index → IsIndexed index slots → IsIndexed index2 slots2
indexed_remove n at index index2 slots slots2 apart place is looked shorter indexed =
    let P : Slots → Type 0 = λ s. IsIndexed index2 s in
    subst P (sym is) (record {
      places = λ m. (removed_at (eqb n m) m n at index index2 slots apart place refl (looked m) indexed).is;
      sized = omega (arith, shorter, indexed.sized, length-without n (present slots) place.channel place.found, ap length place.gone);
    })

-- one more channel

none_append : (m : ℕ) (cs : List ChannelState) (c : ChannelState) → channel_of m cs ≡ None → (c.head.number ≡ m → ⊥) → channel_of m (cs ++ c ∷ []) ≡ None
none_append m [] c none ne = ap (λ (b : Bool). let nobody : Option ChannelState = None in if b then Some c else nobody) (ne_eqb c.head.number m ne)
none_append m (x ∷ cs) c none ne = elim (eqb_tells x.head.number m) [
  | inl w ↦ let no : Some x ≡ None = ap (λ (b : Bool). if b then Some x else channel_of m cs) (sym w.0) ∙ none in absurd (cc)
  | inr w ↦ ap (λ (b : Bool). if b then Some x else channel_of m (cs ++ c ∷ [])) w.0 ∙ none_append m cs c (ap (λ (b : Bool). if b then Some x else channel_of m cs) (sym w.0) ∙ none) ne
]

more_by : (o : Option ℕ) (m : ℕ) (slots : Slots) (c : ChannelState) → Apart (numbers (present (slots ++ Some c ∷ []))) → (c.head.number ≡ m → ⊥) →
    MatchOption o (channel_of m (present slots) ≡ None) (λ k. IsPlace m slots k) → Looked (slots ++ Some c ∷ []) m o
more_by None m slots c apart ne none =
    let P : List ChannelState → Type 0 = λ cs. channel_of m cs ≡ None in
    looked_none (slots ++ Some c ∷ []) m None refl (subst P (sym (present-append slots c)) (none_append m (present slots) c none ne))
more_by (Some k) m slots c apart ne other =
    looked_some (slots ++ Some c ∷ []) m k (Some k) refl
    (place_at m k (slots ++ Some c ∷ []) other.channel apart (get_or_append_left slots (Some c ∷ []) None k (within_slots k slots other.channel other.here) ∙ other.here) other.number)

pushed_at : (b : Bool) (m n : ℕ) (index index2 : List (ℕ × ℕ)) (slots : Slots) (c : ChannelState) → Apart (numbers (present (slots ++ Some c ∷ []))) → c.head.number ≡ n → b ≡ eqb n m →
    lookup (nat_eq m) index2 ≡ cond b (Some (length slots)) (lookup (nat_eq m) index) → IsIndexed index slots → Looked (slots ++ Some c ∷ []) m (lookup (nat_eq m) index2)
pushed_at true m n index index2 slots c apart named is looked indexed = elim (eqb_tells n m) [
  | inl w ↦ looked_some (slots ++ Some c ∷ []) m (length slots) (lookup (nat_eq m) index2) looked (place_at m (length slots) (slots ++ Some c ∷ []) c apart (get_or-append_seam slots (Some c) [] None) (named ∙ w.1))
  | inr w ↦ let no : true ≡ false = is ∙ w.0 in absurd (cc)
]
pushed_at false m n index index2 slots c apart named is looked indexed = elim (eqb_tells n m) [
  | inl w ↦ let no : false ≡ true = is ∙ w.0 in absurd (cc)
  | inr w ↦
      let P : Option ℕ → Type 0 = λ o. Looked (slots ++ Some c ∷ []) m o in
      subst P (sym looked) (more_by (lookup (nat_eq m) index) m slots c apart (λ e. w.1 (sym named ∙ e)) (indexed.places m))
]

pub indexed_push : (n : ℕ) (index index2 : List (ℕ × ℕ)) (slots : Slots) (c : ChannelState) → Apart (numbers (present slots)) → channel_of n (present slots) ≡ None → c.head.number ≡ n →
    ((m : ℕ) → lookup (nat_eq m) index2 ≡ cond (eqb n m) (Some (length slots)) (lookup (nat_eq m) index)) → length index2 ≡ length index + 1 → IsIndexed index slots → IsIndexed index2 (slots ++ Some c ∷ [])
indexed_push n index index2 slots c apart free named looked longer indexed =
    let P : List ChannelState → Type 0 = λ cs. Apart (numbers cs) in
    let apart2 : Apart (numbers (present (slots ++ Some c ∷ []))) =
    subst P (sym (present-append slots c)) (apart_append (present slots) c apart (ap (λ (k : ℕ). has k (numbers (present slots))) named ∙ has_none n (present slots) free)) in
    record {
      places = λ m. (pushed_at (eqb n m) m n index index2 slots c apart2 named refl (looked m) indexed).is;
      sized = omega (arith, longer, indexed.sized, ap length (present-append slots c), length-append (present slots) (c ∷ []));
    }

-- all are flushed

pub present-flushed : (slots : Slots) → present (map flushed_slot slots) ≡ all_flushed (present slots)
present-flushed [] = refl
present-flushed (None ∷ slots) = present-flushed slots
present-flushed (Some c ∷ slots) = ap (λ (rest : List ChannelState). (flush_turn c).channel ∷ rest) (present-flushed slots)

flushed_here : (at : ℕ) (slots : Slots) (c : ChannelState) → get_or slots at None ≡ Some c → get_or (map flushed_slot slots) at None ≡ Some (flush_turn c).channel
flushed_here at [] c here = absurd (cc)
flushed_here zero (x ∷ slots) c here = ap flushed_slot here
flushed_here (suc at) (x ∷ slots) c here = flushed_here at slots c here

flushed_by : (o : Option ℕ) (m : ℕ) (slots : Slots) → Apart (numbers (present slots)) → MatchOption o (channel_of m (present slots) ≡ None) (λ k. IsPlace m slots k) → Looked (map flushed_slot slots) m o
flushed_by None m slots apart none =
    let same : numbers (present (map flushed_slot slots)) ≡ numbers (present slots) = ap numbers (present-flushed slots) ∙ numbers-flushed (present slots) in
    looked_none (map flushed_slot slots) m None refl (none_has m (present (map flushed_slot slots)) (ap (λ (ns : List ℕ). has m ns) same ∙ has_none m (present slots) none))
flushed_by (Some k) m slots apart place =
    let P : List ℕ → Type 0 = λ ns. Apart ns in
    let apart2 = subst P (sym (ap numbers (present-flushed slots) ∙ numbers-flushed (present slots))) apart in
    looked_some (map flushed_slot slots) m k (Some k) refl (place_at m k (map flushed_slot slots) (flush_turn place.channel).channel apart2 (flushed_here k slots place.channel place.here) place.number)

length-flushed : (cs : List ChannelState) → length (all_flushed cs) ≡ length cs
length-flushed [] = refl
length-flushed (c ∷ cs) = omega (arith, length-flushed cs)

pub indexed_flush : (index : List (ℕ × ℕ)) (slots : Slots) → Apart (numbers (present slots)) → IsIndexed index slots → IsIndexed index (map flushed_slot slots)
indexed_flush index slots apart indexed = record {
  places = λ m. (flushed_by (lookup (nat_eq m) index) m slots apart (indexed.places m)).is;
  sized = indexed.sized ∙ sym (length-flushed (present slots)) ∙ sym (ap length (present-flushed slots));
}

-- what the index has of a number

free_by : (o : Option ℕ) (n : ℕ) (slots : Slots) → MatchOption o (channel_of n (present slots) ≡ None) (λ k. IsPlace n slots k) → channel_of n (present slots) ≡ None → o ≡ None
free_by None n slots is none = refl
free_by (Some k) n slots place none = let no : Some place.channel ≡ None = sym place.found ∙ none in absurd (cc)

pub free_lookup : (n : ℕ) (index : List (ℕ × ℕ)) (slots : Slots) → IsIndexed index slots → channel_of n (present slots) ≡ None → lookup (nat_eq n) index ≡ None
free_lookup n index slots indexed none = free_by (lookup (nat_eq n) index) n slots (indexed.places n) none

taken_by : (o : Option ℕ) (n : ℕ) (slots : Slots) (c : ChannelState) → MatchOption o (channel_of n (present slots) ≡ None) (λ k. IsPlace n slots k) → channel_of n (present slots) ≡ Some c → is_some o ≡ true
taken_by None n slots c none found = let no : None ≡ Some c = sym none ∙ found in absurd (cc)
taken_by (Some k) n slots c place found = refl

pub taken_lookup : (n : ℕ) (index : List (ℕ × ℕ)) (slots : Slots) (c : ChannelState) → IsIndexed index slots → channel_of n (present slots) ≡ Some c → is_some (lookup (nat_eq n) index) ≡ true
taken_lookup n index slots c indexed found = taken_by (lookup (nat_eq n) index) n slots c (indexed.places n) found

-- the slots are numbered again

pub present-filter : (slots : Slots) → present (filter (λ (o : Option ChannelState). is_some o) slots) ≡ present slots
present-filter [] = refl
present-filter (None ∷ slots) = present-filter slots
present-filter (Some c ∷ slots) = ap (λ (rest : List ChannelState). c ∷ rest) (present-filter slots)

known_by : (o : Option ℕ) (n : ℕ) (slots : Slots) → MatchOption o (channel_of n (present slots) ≡ None) (λ k. IsPlace n slots k) → is_some o ≡ is_some (channel_of n (present slots))
known_by None n slots none = ap (λ (o : Option ChannelState). is_some o) (sym none)
known_by (Some k) n slots place = ap (λ (o : Option ChannelState). is_some o) (sym place.found)

pub has_numbers : (index : List (ℕ × ℕ)) (slots slots2 : Slots) → present slots2 ≡ present slots → IsIndexed index slots → HasNumbers index (present slots2)
has_numbers index slots slots2 same indexed =
    let P : List ChannelState → Type 0 = λ cs. HasNumbers index cs in
    subst P (sym same) (record { same = λ n. known_by (lookup (nat_eq n) index) n slots (indexed.places n); sized = indexed.sized })

-- the slots up to here are noted
pub record Noted (index : List (ℕ × ℕ)) (slots : Slots) (upto : ℕ) : Type 0 where
  pub has : HasNumbers index (present slots)
  pub noted : (n at : ℕ) (c : ChannelState) → at < upto → get_or slots at None ≡ Some c → c.head.number ≡ n → lookup (nat_eq n) index ≡ Some at

nothing : {A : Type 0} (o : Option A) → is_some o ≡ false → o ≡ None
nothing None is = refl
nothing (Some x) is = absurd (cc)

noted_by : (o : Option ℕ) (p : Option ChannelState) (index : List (ℕ × ℕ)) (slots : Slots) (n : ℕ) → Apart (numbers (present slots)) → Noted index slots (length slots) → o ≡ lookup (nat_eq n) index → p ≡ channel_of n (present slots) → Looked slots n o
noted_by o None index slots n apart noted o_is p_is =
    looked_none slots n o (nothing o (ap (λ (a : Option ℕ). is_some a) o_is ∙ noted.has.same n ∙ ap (λ (a : Option ChannelState). is_some a) (sym p_is))) (sym p_is)
noted_by o (Some c) index slots n apart noted o_is p_is =
    let holder = held_in n slots c (sym p_is) in
    let found : lookup (nat_eq n) index ≡ Some holder.0 = noted.noted n holder.0 holder.1 (within_slots holder.0 slots holder.1 holder.2) holder.2 holder.3 in
    looked_some slots n holder.0 o (o_is ∙ found) (place_at n holder.0 slots holder.1 apart holder.2 holder.3)

slot_of : (slots : Slots) (at k : ℕ) (slot : Option ChannelState) (c : ChannelState) → k ≡ at → slot ≡ get_or slots at slot → get_or slots k None ≡ Some c → slot ≡ Some c
slot_of slots at k slot c is item here =
    let there : get_or slots at None ≡ Some c = ap (λ (j : ℕ). get_or slots j None) (sym is) ∙ here in
    item ∙ or_none at slots slot c there ∙ there

-- an empty slot needs no entry
pub noted_empty : (index : List (ℕ × ℕ)) (slots : Slots) (at : ℕ) (slot : Option ChannelState) → slot ≡ get_or slots at slot → slot ≡ None → Noted index slots at → Noted index slots (at + 1)
noted_empty index slots at slot item none noted = record {
  has = noted.has;
  noted = λ n k c before here is. elim (eqb_tells k at) [
    | inl w ↦ let no : None ≡ Some c = sym none ∙ slot_of slots at k slot c w.1 item here in absurd (cc)
    | inr w ↦ noted.noted n k c (omega (arith, before, w.1)) here is
  ];
}

-- a channel's slot is noted

noted_same : (b : Bool) (m n : ℕ) (at k : ℕ) (index index2 : List (ℕ × ℕ)) → b ≡ eqb n m → lookup (nat_eq m) index2 ≡ cond b (Some at) (lookup (nat_eq m) index) → (n ≡ m → k ≡ at) → ((n ≡ m → ⊥) → lookup (nat_eq m) index ≡ Some k) → lookup (nat_eq m) index2 ≡ Some k
noted_same true m n at k index index2 is looked same other = elim (eqb_tells n m) [
  | inl w ↦ looked ∙ ap (λ (j : ℕ). Some j) (sym (same w.1))
  | inr w ↦ let no : true ≡ false = is ∙ w.0 in absurd (cc)
]
noted_same false m n at k index index2 is looked same other = elim (eqb_tells n m) [
  | inl w ↦ let no : false ≡ true = is ∙ w.0 in absurd (cc)
  | inr w ↦ looked ∙ other w.1
]

known_still : (b : Bool) (m n at : ℕ) (index index2 : List (ℕ × ℕ)) → b ≡ eqb n m → lookup (nat_eq m) index2 ≡ cond b (Some at) (lookup (nat_eq m) index) → is_some (lookup (nat_eq n) index) ≡ true → is_some (lookup (nat_eq m) index2) ≡ is_some (lookup (nat_eq m) index)
known_still true m n at index index2 is looked there = elim (eqb_tells n m) [
  | inl w ↦ ap (λ (o : Option ℕ). is_some o) looked ∙ sym there ∙ ap (λ (j : ℕ). is_some (lookup (nat_eq j) index)) w.1
  | inr w ↦ let no : true ≡ false = is ∙ w.0 in absurd (cc)
]
known_still false m n at index index2 is looked there = ap (λ (o : Option ℕ). is_some o) looked

-- a number that the first channel has isn't in the others
not_both : (x : ChannelState) (n : ℕ) (slots : Slots) (c : ChannelState) → has x.head.number (numbers (present slots)) ≡ false → channel_of n (present slots) ≡ Some c → x.head.number ≡ n → ⊥
not_both x n slots c fresh found is =
    let no : None ≡ Some c = sym (none_has x.head.number (present slots) fresh) ∙ ap (λ (k : ℕ). channel_of k (present slots)) is ∙ found in absurd (cc)

-- where numbers are apart, a number is in one slot
same_place : (slots : Slots) (n at k : ℕ) (c d : ChannelState) → Apart (numbers (present slots)) → get_or slots at None ≡ Some c → c.head.number ≡ n → get_or slots k None ≡ Some d → d.head.number ≡ n → k ≡ at
same_place [] n at k c d apart here is there named = absurd (cc)
same_place (x ∷ slots) n zero zero c d apart here is there named = refl
same_place (None ∷ slots) n zero (suc k) c d apart here is there named = absurd (cc)
same_place (None ∷ slots) n (suc at) zero c d apart here is there named = absurd (cc)
same_place (None ∷ slots) n (suc at) (suc k) c d apart here is there named = ap (λ (j : ℕ). suc j) (same_place slots n at k c d apart here is there named)
same_place (Some x ∷ slots) n zero (suc k) c d apart here is there named =
    absurd (not_both x n slots d apart.0 (found_at n k slots d apart.1 there named) (let same : x ≡ c = cc in ap (λ (y : ChannelState). y.head.number) same ∙ is))
same_place (Some x ∷ slots) n (suc at) zero c d apart here is there named =
    absurd (not_both x n slots c apart.0 (found_at n at slots c apart.1 here is) (let same : x ≡ d = cc in ap (λ (y : ChannelState). y.head.number) same ∙ named))
same_place (Some x ∷ slots) n (suc at) (suc k) c d apart here is there named = ap (λ (j : ℕ). suc j) (same_place slots n at k c d apart.1 here is there named)

known_at : (index : List (ℕ × ℕ)) (slots : Slots) (n at : ℕ) (slot : Option ChannelState) (c : ChannelState) → Apart (numbers (present slots)) → at < length slots → slot ≡ get_or slots at slot → slot ≡ Some c → n ≡ c.head.number → Noted index slots at → is_some (lookup (nat_eq n) index) ≡ true
known_at index slots n at slot c apart within item is named noted =
    noted.has.same n ∙ ap (λ (o : Option ChannelState). is_some o) (found_at n at slots c apart (or_other at slots None slot within ∙ sym item ∙ is) (sym named))

-- a channel was noted at its slot
pub noted_more : (index index2 : List (ℕ × ℕ)) (slots : Slots) (n at : ℕ) (slot : Option ChannelState) (c : ChannelState) → Apart (numbers (present slots)) → at < length slots → slot ≡ get_or slots at slot → slot ≡ Some c → c.head.number ≡ n →
    ((m : ℕ) → lookup (nat_eq m) index2 ≡ cond (eqb n m) (Some at) (lookup (nat_eq m) index)) → length index2 ≡ length index → Noted index slots at → Noted index2 slots (at + 1)
noted_more index index2 slots n at slot c apart within item is named looked sized noted =
    let here : get_or slots at None ≡ Some c = or_other at slots None slot within ∙ sym item ∙ is in
    let there : is_some (lookup (nat_eq n) index) ≡ true = noted.has.same n ∙ ap (λ (o : Option ChannelState). is_some o) (found_at n at slots c apart here named) in
    record {
      has = record { same = λ m. known_still (eqb n m) m n at index index2 refl (looked m) there ∙ noted.has.same m; sized = sized ∙ noted.has.sized };
      noted = λ m k d before at_k number. noted_same (eqb n m) m n at k index index2 refl (looked m)
          (λ e. same_place slots n at k c d apart here named at_k (number ∙ sym e))
          (λ ne. elim (eqb_tells k at) [
            | inl w ↦ absurd (ne (sym named ∙ ap (λ (x : ChannelState). x.head.number) (same_slot slots at k c d (sym w.1) here at_k) ∙ number))
            | inr w ↦ noted.noted m k d (omega (arith, before, w.1)) at_k number
          ]);
    }

-- the number is there, so the insertion succeeds
pub noted_put : {S E : Type 0} (before after : HashMap ℕ ℕ S) (slots : Slots) (n at : ℕ) (slot : Option ChannelState) (c : ChannelState) (result : Result (Option ℕ) E) → Apart (numbers (present slots)) → at < length slots → slot ≡ get_or slots at slot → slot ≡ Some c → n ≡ c.head.number →
    OnOk result (Updates nat_eq before after n (Some at)) → IfOk result (λ old. old ≡ get nat_eq before n) → IfOk result (λ old. hash_map_len after ≡ hash_map_len before + (if is_some old then 0 else 1)) → OnErr result (get nat_eq before n ≡ None) →
    Noted before.entries slots at → Noted after.entries slots (at + 1)
noted_put before after slots n at slot c (Ok old) apart within item is named updates old_is sized absent noted =
    let there : is_some (lookup (nat_eq n) before.entries) ≡ true = known_at before.entries slots n at slot c apart within item is named noted in
    let none : (if is_some old then 0 else 1) ≡ 0 = ap (λ (b : Bool). let count : ℕ = if b then 0 else 1 in count) (ap (λ (o : Option ℕ). is_some o) old_is ∙ there) in
    noted_more before.entries after.entries slots n at slot c apart within item is (sym named) updates.0 (omega (arith, sized, none)) noted
noted_put before after slots n at slot c (Err e) apart within item is named updates old_is sized absent noted =
    let there : is_some (lookup (nat_eq n) before.entries) ≡ true = known_at before.entries slots n at slot c apart within item is named noted in
    let no : false ≡ true = ap (λ (o : Option ℕ). is_some o) (sym absent) ∙ there in absurd (cc)

pub all_noted : (index : List (ℕ × ℕ)) (slots : Slots) → Apart (numbers (present slots)) → Noted index slots (length slots) → IsIndexed index slots
all_noted index slots apart noted = record {
  places = λ n. (noted_by (lookup (nat_eq n) index) (channel_of n (present slots)) index slots n apart noted refl refl).is;
  sized = noted.has.sized;
}

-- the count

pub waiting-with : (n : ℕ) (cs : List ChannelState) (c new : ChannelState) → channel_of n cs ≡ Some c → waiting_of (with_channel n new cs) + (if waits c then 1 else 0) ≡ waiting_of cs + (if waits new then 1 else 0)
waiting-with n [] c new found = absurd (cc)
waiting-with n (x ∷ cs) c new found = elim (eqb_tells x.head.number n) [
  | inl w ↦
      let same : Some x ≡ Some c = ap (λ (b : Bool). if b then Some x else channel_of n cs) (sym w.0) ∙ found in
      let is : x ≡ c = cc in
      let first : waiting_of (with_channel n new (x ∷ cs)) ≡ waiting_of (new ∷ cs) = ap (λ (b : Bool). waiting_of (if b then new ∷ cs else x ∷ with_channel n new cs)) w.0 in
      omega (arith, first, ap (λ (d : ChannelState). let count : ℕ = if waits d then 1 else 0 in count) is)
  | inr w ↦
      let rest = waiting-with n cs c new (ap (λ (b : Bool). if b then Some x else channel_of n cs) (sym w.0) ∙ found) in
      let first : waiting_of (with_channel n new (x ∷ cs)) ≡ waiting_of (x ∷ with_channel n new cs) = ap (λ (b : Bool). waiting_of (if b then new ∷ cs else x ∷ with_channel n new cs)) w.0 in
      omega (arith, first, rest)
]

pub waiting-without : (n : ℕ) (cs : List ChannelState) (c : ChannelState) → channel_of n cs ≡ Some c → waiting_of (without n cs) + (if waits c then 1 else 0) ≡ waiting_of cs
waiting-without n [] c found = absurd (cc)
waiting-without n (x ∷ cs) c found = elim (eqb_tells x.head.number n) [
  | inl w ↦
      let same : Some x ≡ Some c = ap (λ (b : Bool). if b then Some x else channel_of n cs) (sym w.0) ∙ found in
      let is : x ≡ c = cc in
      let first : waiting_of (without n (x ∷ cs)) ≡ waiting_of cs = ap (λ (b : Bool). waiting_of (if b then cs else x ∷ without n cs)) w.0 in
      omega (arith, first, ap (λ (d : ChannelState). let count : ℕ = if waits d then 1 else 0 in count) is)
  | inr w ↦
      let rest = waiting-without n cs c (ap (λ (b : Bool). if b then Some x else channel_of n cs) (sym w.0) ∙ found) in
      let first : waiting_of (without n (x ∷ cs)) ≡ waiting_of (x ∷ without n cs) = ap (λ (b : Bool). waiting_of (if b then cs else x ∷ without n cs)) w.0 in
      omega (arith, first, rest)
]

pub waiting-append : (cs : List ChannelState) (c : ChannelState) → waits c ≡ false → waiting_of (cs ++ c ∷ []) ≡ waiting_of cs
waiting-append [] c quiet = let one : (if waits c then 1 else 0) ≡ 0 = ap (λ (b : Bool). let count : ℕ = if b then 1 else 0 in count) quiet in omega (arith, one)
waiting-append (x ∷ cs) c quiet = omega (arith, waiting-append cs c quiet)

pub one_most : (b : Bool) → (if b then 1 else 0) ≤ 1
one_most true = omega arith
one_most false = omega arith

pub waiting_most : (cs : List ChannelState) → waiting_of cs ≤ length cs
waiting_most [] = omega arith
waiting_most (c ∷ cs) = omega (arith, one_most (waits c), waiting_most cs)

pub length-present : (slots : Slots) → length (present slots) ≤ length slots
length-present [] = omega arith
length-present (None ∷ slots) = omega (arith, length-present slots)
length-present (Some c ∷ slots) = omega (arith, length-present slots)

any_by : (b : Bool) (rest : ℕ) (more : Bool) → more ≡ ltb 0 rest → (b || more) ≡ ltb 0 ((if b then 1 else 0) + rest)
any_by true rest more is = sym (lt-ltb 0 (1 + rest) (omega arith))
any_by false rest more is = let same : rest ≡ 0 + rest = omega arith in is ∙ ap (λ (n : ℕ). ltb 0 n) same

-- bytes wait on some channel where the count is above 0
pub any_counted : (cs : List ChannelState) → any_waits cs ≡ ltb 0 (waiting_of cs)
any_counted [] = refl
any_counted (c ∷ cs) = any_by (waits c) (waiting_of cs) (any_waits cs) (any_counted cs)
