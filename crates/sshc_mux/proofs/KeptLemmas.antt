-- What the table keeps: the slots with their index and count, and a legal table.
use Rattle.std.proofs.Common.{◌≡◌, ℕ, ◌+◌, ◌-◌, ◌^◌, ◌<◌, Bool, true, false, not, List, [], ◌∷◌, ◌++◌, length, map, set, eqb, if◌then◌else◌, Option, Some, None, is_some, Result, Ok, Err, IsOk, OnOk, IfOk, refl, ap, sym, subst, ◌∙◌, inl, inr, arith, nat_eq, cond}
use Rattle.std.specs.Map.{lookup}
use Rattle.std.specs.HashMap.{HashMap, get, hash_map_len, Updates}
use Rattle.std.proofs.lemmas.Bool.Decides.{eqb_tells}
use Rattle.sshc_wire.specs.declared.error.NoMemory.{NoMemory}
use Rattle.sshc_wire.specs.Outgoing.{Outgoing}
use Rattle.sshc_mux.specs.ChannelState.{ChannelFlow, ChannelState, TableState, channel_of, with_channel, without}
use Rattle.sshc_mux.specs.ChannelTable.{Turn, Turned, waits, all_flushed}
use Rattle.sshc_mux.specs.ChannelAccount.{FlushAll, IsSound, IsLegal, CallPart, Moves}
use Rattle.sshc_mux.specs.Places.{Slots, present, IsPlace, IsIndexed, IsStored, flushed_slot, numbers, has, Apart, waiting_of}
use Rattle.sshc_mux.proofs.NumbersLemmas.{has_none, number_of, numbers-with, with_same, with_other, without_same, without_other, apart_without, apart_append, append_found}
use Rattle.sshc_mux.proofs.PlaceLemmas.{present-append}
use Rattle.sshc_mux.proofs.IndexLemmas.{indexed_set, indexed_push, indexed_reordered, indexed_flush, free_lookup, present-flushed, waiting-with, waiting-without, waiting-append, waiting_most, length-without, length-present}
use Rattle.sshc_mux.proofs.ShapeLemmas.{IsTurn}
use Rattle.sshc_mux.proofs.LegalLemmas.{Fresh, found_new, legal_stays}
use Rattle.sshc_mux.proofs.TableLemmas.{table_of, Held}

-- the slots with their index and count, and the legal table
abbrev pub Stored : List (ℕ × ℕ) → Slots → ℕ → ℕ → Type 0
Stored index slots waiting last = IsStored index slots waiting × IsLegal (table_of slots last)

abbrev channels_of : List ChannelState → ℕ → TableState
channels_of cs last = record { channels = cs; last = last }

-- the count where the channel waits, and where it doesn't

pub some_wait : (n at waiting last : ℕ) (index : List (ℕ × ℕ)) (slots : Slots) (c : ChannelState) (waited : Bool) → Held n slots at c → Stored index slots waiting last → waited ≡ waits c → waited ≡ true → 0 < waiting
some_wait n at waiting last index slots c waited here stored is waits_so =
    let one : (if waits c then 1 else 0) ≡ 1 = ap (λ (b : Bool). let count : ℕ = if b then 1 else 0 in count) (sym is ∙ waits_so) in
    omega (arith, one, stored.0.counted, waiting-without n (present slots) c here.found)

pub room_left : (n at waiting last : ℕ) (index : List (ℕ × ℕ)) (slice slots : Slots) (c : ChannelState) (waited : Bool) → Held n slots at c → Stored index slots waiting last → slice ≡ slots → length slice < 2 ^ 63 → waited ≡ waits c → waited ≡ false → waiting < 2 ^ 64 - 1
room_left n at waiting last index slice slots c waited here stored same small is quiet =
    let none : (if waits c then 1 else 0) ≡ 0 = ap (λ (b : Bool). let count : ℕ = if b then 1 else 0 in count) (sym is ∙ quiet) in
    omega (arith, none, stored.0.counted, waiting-without n (present slots) c here.found, waiting_most (without n (present slots)), length-without n (present slots) c here.found, length-present slots, ap length same, small)

-- another channel in the slot of one

with_sound : (n m : ℕ) (cs : List ChannelState) (before after c : ChannelState) → channel_of n cs ≡ Some before → after.head.number ≡ n → IsSound after → ((k : ℕ) (d : ChannelState) → channel_of k cs ≡ Some d → IsSound d) → channel_of m (with_channel n after cs) ≡ Some c → IsSound c
with_sound n m cs before after c here number sound all found =
    let P : ChannelState → Type 0 = λ d. IsSound d in
    elim (eqb_tells n m) [
      | inl w ↦
          let new : Some after ≡ Some c = sym (with_same n after cs before here number) ∙ ap (λ (k : ℕ). channel_of k (with_channel n after cs)) w.1 ∙ found in
          let is : after ≡ c = cc in
          subst P is sound
      | inr w ↦ all m c (sym (with_other m n after cs w.1 number) ∙ found)
    ]

pub kept_set : (n at last waiting waiting2 : ℕ) (index : List (ℕ × ℕ)) (slots : Slots) (before after : ChannelState) → Held n slots at before → Stored index slots waiting last →
    after.head.number ≡ before.head.number → (IsSound before → IsSound after) → waiting2 + (if waits before then 1 else 0) ≡ waiting + (if waits after then 1 else 0) → Stored index (set slots at (Some after)) waiting2 last
kept_set n at last waiting waiting2 index slots before after here stored number sound count =
    let place : IsPlace n slots at = here.place in
    let found : channel_of n (present slots) ≡ Some before = here.found in
    let named : after.head.number ≡ n = number ∙ number_of n (present slots) before found in
    let P : List ChannelState → Type 0 = λ all. IsLegal (channels_of all last) in
    let Q : List ℕ → Type 0 = λ ns. Apart ns in (
      record {
        indexed = indexed_set n at index slots after stored.1.apart place named stored.0.indexed;
        counted = omega (arith, count, stored.0.counted, waiting-with n (present slots) before after found, ap waiting_of (place.put after));
      },
      subst P (place.put after) (record {
        apart = subst Q (sym (numbers-with n after (present slots) named)) stored.1.apart;
        sound = λ m c is. with_sound n m (present slots) before after c found named (sound (stored.1.sound n before found)) stored.1.sound is;
      }),
    )

-- a channel's turn

turned_kept : {A : Type 0} (turn : ChannelState → Turn) → IsTurn turn → (before after : ChannelState) (old new : Outgoing) (result : Result A NoMemory) → ((x : ChannelState) → IsSound x → (p : CallPart) × Moves x (turn x).channel (turn x).packets p) →
    Turned (turn before) before after old new result → IsSound before → (after.head.number ≡ before.head.number) × IsSound after
turned_kept turn is before after old new (Ok x) moves (after_is, written, muted) sound =
    let P : ChannelState → Type 0 = λ c. (c.head.number ≡ before.head.number) × IsSound c in
    subst P (sym after_is) (is.number before, (moves before sound).1.sound)
turned_kept turn is before after old new (Err e) moves (after_is, written, muted) sound =
    let P : ChannelState → Type 0 = λ c. (c.head.number ≡ before.head.number) × IsSound c in
    subst P (sym after_is) (refl, sound)

pub kept_turn : {A : Type 0} (turn : ChannelState → Turn) → IsTurn turn → (n at last waiting waiting2 : ℕ) (index : List (ℕ × ℕ)) (slots : Slots) (before after : ChannelState) (old new : Outgoing) (result : Result A NoMemory) →
    ((x : ChannelState) → IsSound x → (p : CallPart) × Moves x (turn x).channel (turn x).packets p) → Held n slots at before → Stored index slots waiting last →
    waiting2 + (if waits before then 1 else 0) ≡ waiting + (if waits after then 1 else 0) → Turned (turn before) before after old new result → Stored index (set slots at (Some after)) waiting2 last
kept_turn turn is n at last waiting waiting2 index slots before after old new result moves here stored count turned =
    let kept = turned_kept turn is before after old new result moves turned (stored.1.sound n before here.found) in
    kept_set n at last waiting waiting2 index slots before after here stored kept.0 (λ s. kept.1) count

-- a turn that doesn't change what waits
pub same_waits : {A : Type 0} (turn : ChannelState → Turn) (before after : ChannelState) (old new : Outgoing) (result : Result A NoMemory) (waiting : ℕ) → ((x : ChannelState) → (turn x).channel.flow ≡ x.flow) → Turned (turn before) before after old new result →
    waiting + (if waits before then 1 else 0) ≡ waiting + (if waits after then 1 else 0)
same_waits turn before after old new (Ok x) waiting same (after_is, written, muted) =
    ap (λ (f : ChannelFlow). waiting + (if not (eqb (length f.pending) 0) then 1 else 0)) (sym (ap (λ (c : ChannelState). c.flow) after_is ∙ same before))
same_waits turn before after old new (Err e) waiting same (after_is, written, muted) =
    ap (λ (c : ChannelState). waiting + (if waits c then 1 else 0)) (sym after_is)

-- a channel removed

without_sound : (n m : ℕ) (cs : List ChannelState) (c : ChannelState) → Apart (numbers cs) → ((k : ℕ) (d : ChannelState) → channel_of k cs ≡ Some d → IsSound d) → channel_of m (without n cs) ≡ Some c → IsSound c
without_sound n m cs c apart all found = elim (eqb_tells n m) [
  | inl w ↦ let no : None ≡ Some c = sym (without_same m cs apart) ∙ ap (λ (k : ℕ). channel_of m (without k cs)) (sym w.1) ∙ found in absurd (cc)
  | inr w ↦ all m c (sym (without_other m n cs w.1) ∙ found)
]

pub kept_remove : (n at last waiting waiting2 : ℕ) (index index2 : List (ℕ × ℕ)) (slots slots2 : Slots) (c : ChannelState) → Held n slots at c → Stored index slots waiting last →
    present slots2 ≡ without n (present slots) → IsIndexed index2 slots2 → (waited : Bool) → waited ≡ waits c → waiting2 + (if waited then 1 else 0) ≡ waiting + 0 → Stored index2 slots2 waiting2 last
kept_remove n at last waiting waiting2 index index2 slots slots2 c here stored left indexed waited waited_is count =
    let one : (if waited then 1 else 0) ≡ (if waits c then 1 else 0) = ap (λ (b : Bool). let many : ℕ = if b then 1 else 0 in many) waited_is in
    let P : List ChannelState → Type 0 = λ all. IsLegal (channels_of all last) in (
      record { indexed = indexed; counted = omega (arith, count, one, stored.0.counted, waiting-without n (present slots) c here.found, ap waiting_of left) },
      subst P (sym left) (record {
        apart = apart_without n (present slots) stored.1.apart;
        sound = λ m d is. without_sound n m (present slots) d stored.1.apart stored.1.sound is;
      }),
    )

-- the index in another order

pub kept_reordered : (last waiting : ℕ) (index index2 : List (ℕ × ℕ)) (slots slots2 : Slots) → slots2 ≡ slots →
    length index2 ≡ length index → ((m : ℕ) → lookup (nat_eq m) index2 ≡ lookup (nat_eq m) index) → Stored index slots waiting last → Stored index2 slots2 waiting last
kept_reordered last waiting index index2 slots slots2 same sized looked stored =
    let P : Slots → Type 0 = λ s. Stored index2 s waiting last in
    subst P (sym same) (record { indexed = indexed_reordered index index2 slots sized looked stored.0.indexed; counted = stored.0.counted }, stored.1)

-- one more channel

appended_sound : (o : Option ChannelState) (n m : ℕ) (cs : List ChannelState) (new c : ChannelState) → channel_of m cs ≡ o → Fresh n new → ((k : ℕ) (d : ChannelState) → channel_of k cs ≡ Some d → IsSound d) → channel_of m (cs ++ new ∷ []) ≡ Some c → IsSound c
appended_sound None n m cs new c none fresh all found = let P : ChannelState → Type 0 = λ d. IsSound d in subst P (sym (found_new m cs new c none found)) fresh.sound
appended_sound (Some x) n m cs new c here fresh all found =
    let same : Some x ≡ Some c = sym (append_found m cs (new ∷ []) x here) ∙ found in
    let is : x ≡ c = cc in
    let P : ChannelState → Type 0 = λ d. IsSound d in
    subst P is (all m x here)

fresh_quiet : (n : ℕ) (c : ChannelState) → Fresh n c → waits c ≡ false
fresh_quiet n c fresh = ap (λ (f : ChannelFlow). not (eqb (length f.pending) 0)) fresh.flow

pub kept_push : (last waiting n at : ℕ) (index index2 : List (ℕ × ℕ)) (slice slots base longer : Slots) (c new : ChannelState) (old : Option ℕ) → Stored index slots waiting last → slice ≡ slots → channel_of n (present slice) ≡ None → Fresh n new → c ≡ new →
    base ≡ slots → at ≡ length slice → ((m : ℕ) → lookup (nat_eq m) index2 ≡ cond (eqb n m) (Some at) (lookup (nat_eq m) index)) → old ≡ lookup (nat_eq n) index → length index2 ≡ length index + (if is_some old then 0 else 1) →
    longer ≡ base ++ Some c ∷ [] → Stored index2 longer waiting n
kept_push last waiting n at index index2 slice slots base longer c new old stored same free fresh made_is base_is at_is looked old_is more is =
    let none : channel_of n (present slots) ≡ None = ap (λ (s : Slots). channel_of n (present s)) (sym same) ∙ free in
    let nothing : (if is_some old then 0 else 1) ≡ 1 = ap (λ (o : Option ℕ). let count : ℕ = if is_some o then 0 else 1 in count) (old_is ∙ free_lookup n index slots stored.0.indexed none) in
    let P : Slots → Type 0 = λ s. Stored index2 s waiting n in
    let Q : List ChannelState → Type 0 = λ all. IsLegal (channels_of all n) in
    let R : ChannelState → Type 0 = λ d. Fresh n d in
    let fresh_so : Fresh n c = subst R (sym made_is) fresh in
    let place : at ≡ length slots = at_is ∙ ap length same in
    subst P (sym (is ∙ ap (λ (s : Slots). s ++ Some c ∷ []) base_is)) (
      record {
        indexed = indexed_push n index index2 slots c stored.1.apart none fresh_so.number (λ m. looked m ∙ ap (λ (j : ℕ). cond (eqb n m) (Some j) (lookup (nat_eq m) index)) place) (omega (arith, more, nothing)) stored.0.indexed;
        counted = stored.0.counted ∙ sym (waiting-append (present slots) c (fresh_quiet n c fresh_so)) ∙ ap waiting_of (sym (present-append slots c));
      },
      subst Q (sym (present-append slots c)) (record {
        apart = apart_append (present slots) c stored.1.apart (ap (λ (k : ℕ). has k (numbers (present slots))) fresh_so.number ∙ has_none n (present slots) none);
        sound = λ m d found. appended_sound (channel_of m (present slots)) n m (present slots) c d refl fresh_so stored.1.sound found;
      }),
    )

-- one more channel, for which the index had room
pub kept_put : {S E : Type 0} (last waiting n at : ℕ) (index : List (ℕ × ℕ)) (before after : HashMap ℕ ℕ S) (slice slots base longer : Slots) (c new : ChannelState) (result : Result (Option ℕ) E) → IsOk result → Stored index slots waiting last →
    length before.entries ≡ length index → ((m : ℕ) → lookup (nat_eq m) before.entries ≡ lookup (nat_eq m) index) → slice ≡ slots → channel_of n (present slice) ≡ None → Fresh n new → c ≡ new → base ≡ slots → at ≡ length slice →
    OnOk result (Updates nat_eq before after n (Some at)) → IfOk result (λ old. old ≡ get nat_eq before n) → IfOk result (λ old. hash_map_len after ≡ hash_map_len before + (if is_some old then 0 else 1)) →
    longer ≡ base ++ Some c ∷ [] → Stored after.entries longer waiting n
kept_put last waiting n at index before after slice slots base longer c new (Ok old) ok stored sized looked same free fresh made_is base_is at_is updates old_is more is =
    kept_push last waiting n at before.entries after.entries slice slots base longer c new old (kept_reordered last waiting index before.entries slots slots refl sized looked stored) same free fresh made_is base_is at_is updates.0 old_is more is
kept_put last waiting n at index before after slice slots base longer c new (Err e) ok stored sized looked same free fresh made_is base_is at_is updates old_is more is = absurd (cc)

-- all flushed

pub kept_flush : (last waiting waiting2 : ℕ) (index : List (ℕ × ℕ)) (slots now : Slots) → Stored index slots waiting last → now ≡ map flushed_slot slots → waiting2 ≡ waiting_of (present now) → Stored index now waiting2 last
kept_flush last waiting waiting2 index slots now stored is count =
    let P : Slots → Type 0 = λ s. IsIndexed index s in
    let Q : List ChannelState → Type 0 = λ all. IsLegal (channels_of all last) in
    let now_is : present now ≡ all_flushed (present slots) = ap present is ∙ present-flushed slots in (
      record { indexed = subst P (sym is) (indexed_flush index slots stored.1.apart stored.0.indexed); counted = count },
      subst Q (sym now_is) (legal_stays FlushAll (table_of slots last) stored.1),
    )
