-- The numbers of a table's channels, which stay different.
use Rattle.std.proofs.Common.{◌≡◌, ℕ, Bool, true, false, ◌||◌, List, [], ◌∷◌, ◌++◌, eqb, if◌then◌else◌, Option, Some, None, refl, ap, sym, subst, ◌∙◌, inl, inr, eq-eqb}
use Rattle.std.proofs.lemmas.Bool.{ne_eqb}
use Rattle.std.proofs.lemmas.Bool.Decides.{eqb_tells}
use Rattle.sshc_wire.specs.CasesLaws.{neither}
use Rattle.sshc_mux.specs.ChannelState.{ChannelState, channel_of, with_channel, without}
use Rattle.sshc_mux.specs.Places.{numbers, has, Apart}
use Rattle.sshc_mux.specs.ChannelTable.{flush_turn, all_flushed}

-- a number that no channel has is not among the numbers

pub none_has : (n : ℕ) (cs : List ChannelState) → has n (numbers cs) ≡ false → channel_of n cs ≡ None
none_has n [] h = refl
none_has n (c ∷ cs) h =
    let parts = neither (eqb c.head.number n) (has n (numbers cs)) h in
    ap (λ (b : Bool). if b then Some c else channel_of n cs) parts.0 ∙ none_has n cs parts.1

pub has_none : (n : ℕ) (cs : List ChannelState) → channel_of n cs ≡ None → has n (numbers cs) ≡ false
has_none n [] h = refl
has_none n (c ∷ cs) h = elim (eqb_tells c.head.number n) [
  | inl w ↦ let no : Some c ≡ None = ap (λ (b : Bool). if b then Some c else channel_of n cs) (sym w.0) ∙ h in absurd (cc)
  | inr w ↦ ap (λ (b : Bool). b || has n (numbers cs)) w.0 ∙ has_none n cs (ap (λ (b : Bool). if b then Some c else channel_of n cs) (sym w.0) ∙ h)
]

-- the channel that is found has the number
pub number_of : (n : ℕ) (cs : List ChannelState) (c : ChannelState) → channel_of n cs ≡ Some c → c.head.number ≡ n
number_of n [] c h = absurd (cc)
number_of n (x ∷ cs) c h = elim (eqb_tells x.head.number n) [
  | inl w ↦ let same : Some x ≡ Some c = ap (λ (b : Bool). if b then Some x else channel_of n cs) (sym w.0) ∙ h in let is : x ≡ c = cc in ap (λ (d : ChannelState). d.head.number) (sym is) ∙ w.1
  | inr w ↦ number_of n cs c (ap (λ (b : Bool). if b then Some x else channel_of n cs) (sym w.0) ∙ h)
]

-- a channel in the place of another of its number

pub with_same : (n : ℕ) (new : ChannelState) (cs : List ChannelState) (c : ChannelState) → channel_of n cs ≡ Some c → new.head.number ≡ n → channel_of n (with_channel n new cs) ≡ Some new
with_same n new [] c found is = absurd (cc)
with_same n new (x ∷ cs) c found is = elim (eqb_tells x.head.number n) [
  | inl w ↦
      ap (λ (b : Bool). channel_of n (if b then new ∷ cs else x ∷ with_channel n new cs)) w.0
      ∙ ap (λ (b : Bool). if b then Some new else channel_of n cs) (eq-eqb new.head.number n is)
  | inr w ↦
      ap (λ (b : Bool). channel_of n (if b then new ∷ cs else x ∷ with_channel n new cs)) w.0
      ∙ ap (λ (b : Bool). if b then Some x else channel_of n (with_channel n new cs)) w.0
      ∙ with_same n new cs c (ap (λ (b : Bool). if b then Some x else channel_of n cs) (sym w.0) ∙ found) is
]

pub with_other : (n m : ℕ) (new : ChannelState) (cs : List ChannelState) → (m ≡ n → ⊥) → new.head.number ≡ m → channel_of n (with_channel m new cs) ≡ channel_of n cs
with_other n m new [] ne is = refl
with_other n m new (x ∷ cs) ne is = elim (eqb_tells x.head.number m) [
  | inl w ↦
      ap (λ (b : Bool). channel_of n (if b then new ∷ cs else x ∷ with_channel m new cs)) w.0
      ∙ ap (λ (b : Bool). if b then Some new else channel_of n cs) (ne_eqb new.head.number n (λ e. ne (sym is ∙ e)))
      ∙ ap (λ (b : Bool). if b then Some x else channel_of n cs) (sym (ne_eqb x.head.number n (λ e. ne (sym w.1 ∙ e))))
  | inr w ↦
      ap (λ (b : Bool). channel_of n (if b then new ∷ cs else x ∷ with_channel m new cs)) w.0
      ∙ ap (λ (o : Option ChannelState). if eqb x.head.number n then Some x else o) (with_other n m new cs ne is)
]

pub numbers-with : (n : ℕ) (new : ChannelState) (cs : List ChannelState) → new.head.number ≡ n → numbers (with_channel n new cs) ≡ numbers cs
numbers-with n new [] is = refl
numbers-with n new (x ∷ cs) is = elim (eqb_tells x.head.number n) [
  | inl w ↦ ap (λ (b : Bool). numbers (if b then new ∷ cs else x ∷ with_channel n new cs)) w.0 ∙ ap (λ (k : ℕ). k ∷ numbers cs) (is ∙ sym w.1)
  | inr w ↦ ap (λ (b : Bool). numbers (if b then new ∷ cs else x ∷ with_channel n new cs)) w.0 ∙ ap (λ (ks : List ℕ). x.head.number ∷ ks) (numbers-with n new cs is)
]

-- a channel that is removed

pub without_other : (n m : ℕ) (cs : List ChannelState) → (m ≡ n → ⊥) → channel_of n (without m cs) ≡ channel_of n cs
without_other n m [] ne = refl
without_other n m (x ∷ cs) ne = elim (eqb_tells x.head.number m) [
  | inl w ↦
      ap (λ (b : Bool). channel_of n (if b then cs else x ∷ without m cs)) w.0
      ∙ ap (λ (b : Bool). if b then Some x else channel_of n cs) (sym (ne_eqb x.head.number n (λ e. ne (sym w.1 ∙ e))))
  | inr w ↦
      ap (λ (b : Bool). channel_of n (if b then cs else x ∷ without m cs)) w.0
      ∙ ap (λ (o : Option ChannelState). if eqb x.head.number n then Some x else o) (without_other n m cs ne)
]

pub without_same : (n : ℕ) (cs : List ChannelState) → Apart (numbers cs) → channel_of n (without n cs) ≡ None
without_same n [] apart = refl
without_same n (x ∷ cs) apart = elim (eqb_tells x.head.number n) [
  | inl w ↦ ap (λ (b : Bool). channel_of n (if b then cs else x ∷ without n cs)) w.0 ∙ ap (λ (k : ℕ). channel_of k cs) (sym w.1) ∙ none_has x.head.number cs apart.0
  | inr w ↦
      ap (λ (b : Bool). channel_of n (if b then cs else x ∷ without n cs)) w.0
      ∙ ap (λ (b : Bool). if b then Some x else channel_of n (without n cs)) w.0
      ∙ without_same n cs apart.1
]

pub has_without : (k n : ℕ) (cs : List ChannelState) → has k (numbers cs) ≡ false → has k (numbers (without n cs)) ≡ false
has_without k n [] h = refl
has_without k n (x ∷ cs) h =
    let parts = neither (eqb x.head.number k) (has k (numbers cs)) h in
    elim (eqb_tells x.head.number n) [
      | inl w ↦ ap (λ (b : Bool). has k (numbers (if b then cs else x ∷ without n cs))) w.0 ∙ parts.1
      | inr w ↦
          ap (λ (b : Bool). has k (numbers (if b then cs else x ∷ without n cs))) w.0
          ∙ ap (λ (b : Bool). b || has k (numbers (without n cs))) parts.0
          ∙ has_without k n cs parts.1
    ]

pub apart_without : (n : ℕ) (cs : List ChannelState) → Apart (numbers cs) → Apart (numbers (without n cs))
apart_without n [] apart = tt
apart_without n (x ∷ cs) apart =
    let P : Bool → Type 0 = λ b. Apart (numbers (if b then cs else x ∷ without n cs)) in
    elim (eqb_tells x.head.number n) [
      | inl w ↦ subst P (sym w.0) apart.1
      | inr w ↦ subst P (sym w.0) (has_without x.head.number n cs apart.0, apart_without n cs apart.1)
    ]

-- one more channel

pub append_found : (n : ℕ) (cs more : List ChannelState) (c : ChannelState) → channel_of n cs ≡ Some c → channel_of n (cs ++ more) ≡ Some c
append_found n [] more c found = absurd (cc)
append_found n (x ∷ cs) more c found = elim (eqb_tells x.head.number n) [
  | inl w ↦ ap (λ (b : Bool). if b then Some x else channel_of n (cs ++ more)) w.0 ∙ ap (λ (b : Bool). if b then Some x else channel_of n cs) (sym w.0) ∙ found
  | inr w ↦ ap (λ (b : Bool). if b then Some x else channel_of n (cs ++ more)) w.0 ∙ append_found n cs more c (ap (λ (b : Bool). if b then Some x else channel_of n cs) (sym w.0) ∙ found)
]

has_append : (k : ℕ) (cs : List ChannelState) (new : ChannelState) → has k (numbers cs) ≡ false → eqb new.head.number k ≡ false → has k (numbers (cs ++ new ∷ [])) ≡ false
has_append k [] new h ne = ap (λ (b : Bool). b || false) ne
has_append k (x ∷ cs) new h ne =
    let parts = neither (eqb x.head.number k) (has k (numbers cs)) h in
    ap (λ (b : Bool). b || has k (numbers (cs ++ new ∷ []))) parts.0 ∙ has_append k cs new parts.1 ne

pub apart_append : (cs : List ChannelState) (new : ChannelState) → Apart (numbers cs) → has new.head.number (numbers cs) ≡ false → Apart (numbers (cs ++ new ∷ []))
apart_append [] new apart fresh = (refl, tt)
apart_append (x ∷ cs) new apart fresh =
    let parts = neither (eqb x.head.number new.head.number) (has new.head.number (numbers cs)) fresh in
    let ne : eqb new.head.number x.head.number ≡ false = elim (eqb_tells x.head.number new.head.number) [
      | inl w ↦ let no : true ≡ false = sym w.0 ∙ parts.0 in absurd (cc)
      | inr w ↦ ne_eqb new.head.number x.head.number (λ e. w.1 (sym e))
    ] in
    (has_append x.head.number cs new apart.0 ne, apart_append cs new apart.1 parts.1)

-- channels that are flushed keep their numbers

pub numbers-flushed : (cs : List ChannelState) → numbers (all_flushed cs) ≡ numbers cs
numbers-flushed [] = refl
numbers-flushed (c ∷ cs) = ap (λ (ks : List ℕ). c.head.number ∷ ks) (numbers-flushed cs)

pub flushed_found : (n : ℕ) (cs : List ChannelState) (c : ChannelState) → channel_of n cs ≡ Some c → channel_of n (all_flushed cs) ≡ Some (flush_turn c).channel
flushed_found n [] c found = absurd (cc)
flushed_found n (x ∷ cs) c found = elim (eqb_tells x.head.number n) [
  | inl w ↦
      let same : Some x ≡ Some c = ap (λ (b : Bool). if b then Some x else channel_of n cs) (sym w.0) ∙ found in
      let is : x ≡ c = cc in
      ap (λ (b : Bool). if b then Some (flush_turn x).channel else channel_of n (all_flushed cs)) (eq-eqb x.head.number n w.1)
      ∙ ap (λ (d : ChannelState). Some (flush_turn d).channel) is
  | inr w ↦
      ap (λ (b : Bool). if b then Some (flush_turn x).channel else channel_of n (all_flushed cs)) w.0
      ∙ flushed_found n cs c (ap (λ (b : Bool). if b then Some x else channel_of n cs) (sym w.0) ∙ found)
]
