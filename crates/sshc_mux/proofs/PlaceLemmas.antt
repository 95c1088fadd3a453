-- The slot of a channel among the others.
use Rattle.std.proofs.Common.{◌≡◌, ℕ, zero, suc, ◌<◌, Bool, false, List, [], ◌∷◌, ◌++◌, length, set, get_or, eqb, if◌then◌else◌, Option, Some, None, refl, ap, sym, ◌∙◌, arith, inl, inr, eq-eqb}
use Rattle.std.proofs.lemmas.Bool.Decides.{eqb_tells}
use Rattle.sshc_mux.specs.ChannelState.{ChannelState, channel_of, with_channel, without}
use Rattle.sshc_mux.specs.Places.{Slots, present, IsPlace, numbers, has, Apart}
use Rattle.sshc_mux.proofs.NumbersLemmas.{none_has}

-- a number that another channel has isn't the first one's
first_other : (x : ChannelState) (n : ℕ) (cs : List ChannelState) (c : ChannelState) → has x.head.number (numbers cs) ≡ false → channel_of n cs ≡ Some c → eqb x.head.number n ≡ false
first_other x n cs c fresh found = elim (eqb_tells x.head.number n) [
  | inl w ↦ let no : None ≡ Some c = sym (none_has x.head.number cs fresh) ∙ ap (λ (k : ℕ). channel_of k cs) w.1 ∙ found in absurd (cc)
  | inr w ↦ w.0
]

pub found_at : (n at : ℕ) (slots : Slots) (c : ChannelState) → Apart (numbers (present slots)) → get_or slots at None ≡ Some c → c.head.number ≡ n → channel_of n (present slots) ≡ Some c
found_at n at [] c apart here is = absurd (cc)
found_at n zero (None ∷ slots) c apart here is = absurd (cc)
found_at n zero (Some x ∷ slots) c apart here is =
    let same : x ≡ c = cc in
    ap (λ (b : Bool). if b then Some x else channel_of n (present slots)) (eq-eqb x.head.number n (ap (λ (d : ChannelState). d.head.number) same ∙ is)) ∙ here
found_at n (suc at) (None ∷ slots) c apart here is = found_at n at slots c apart here is
found_at n (suc at) (Some x ∷ slots) c apart here is =
    let rest : channel_of n (present slots) ≡ Some c = found_at n at slots c apart.1 here is in
    ap (λ (b : Bool). if b then Some x else channel_of n (present slots)) (first_other x n (present slots) c apart.0 rest) ∙ rest

put_at : (n at : ℕ) (slots : Slots) (c new : ChannelState) → Apart (numbers (present slots)) → get_or slots at None ≡ Some c → c.head.number ≡ n → with_channel n new (present slots) ≡ present (set slots at (Some new))
put_at n at [] c new apart here is = absurd (cc)
put_at n zero (None ∷ slots) c new apart here is = absurd (cc)
put_at n zero (Some x ∷ slots) c new apart here is =
    let same : x ≡ c = cc in
    ap (λ (b : Bool). if b then new ∷ present slots else x ∷ with_channel n new (present slots)) (eq-eqb x.head.number n (ap (λ (d : ChannelState). d.head.number) same ∙ is))
put_at n (suc at) (None ∷ slots) c new apart here is = put_at n at slots c new apart here is
put_at n (suc at) (Some x ∷ slots) c new apart here is =
    ap (λ (b : Bool). if b then new ∷ present slots else x ∷ with_channel n new (present slots)) (first_other x n (present slots) c apart.0 (found_at n at slots c apart.1 here is))
    ∙ ap (λ (rest : List ChannelState). x ∷ rest) (put_at n at slots c new apart.1 here is)

gone_at : (n at : ℕ) (slots : Slots) (c : ChannelState) → Apart (numbers (present slots)) → get_or slots at None ≡ Some c → c.head.number ≡ n → without n (present slots) ≡ present (set slots at None)
gone_at n at [] c apart here is = absurd (cc)
gone_at n zero (None ∷ slots) c apart here is = absurd (cc)
gone_at n zero (Some x ∷ slots) c apart here is =
    let same : x ≡ c = cc in
    ap (λ (b : Bool). if b then present slots else x ∷ without n (present slots)) (eq-eqb x.head.number n (ap (λ (d : ChannelState). d.head.number) same ∙ is))
gone_at n (suc at) (None ∷ slots) c apart here is = gone_at n at slots c apart here is
gone_at n (suc at) (Some x ∷ slots) c apart here is =
    ap (λ (b : Bool). if b then present slots else x ∷ without n (present slots)) (first_other x n (present slots) c apart.0 (found_at n at slots c apart.1 here is))
    ∙ ap (λ (rest : List ChannelState). x ∷ rest) (gone_at n at slots c apart.1 here is)

-- if the numbers are different, the slot with a number's channel is its place
pub place_at : (n at : ℕ) (slots : Slots) (c : ChannelState) → Apart (numbers (present slots)) → get_or slots at None ≡ Some c → c.head.number ≡ n → IsPlace n slots at
place_at n at slots c apart here is = record {
  channel = c;
  here = here;
  number = is;
  found = found_at n at slots c apart here is;
  put = λ new. put_at n at slots c new apart here is;
  gone = gone_at n at slots c apart here is;
}

-- some slot holds the channel that is found
pub held_in : (n : ℕ) (slots : Slots) (c : ChannelState) → channel_of n (present slots) ≡ Some c → (at : ℕ) × (d : ChannelState) × (get_or slots at None ≡ Some d) × (d.head.number ≡ n)
held_in n [] c found = absurd (cc)
held_in n (None ∷ slots) c found = let rest = held_in n slots c found in (suc rest.0, rest.1, rest.2, rest.3)
held_in n (Some x ∷ slots) c found = elim (eqb_tells x.head.number n) [
  | inl w ↦ (zero, x, refl, w.1)
  | inr w ↦ let rest = held_in n slots c (ap (λ (b : Bool). if b then Some x else channel_of n (present slots)) (sym w.0) ∙ found) in (suc rest.0, rest.1, rest.2, rest.3)
]

pub within_slots : (at : ℕ) (slots : Slots) (c : ChannelState) → get_or slots at None ≡ Some c → at < length slots
within_slots at [] c here = absurd (cc)
within_slots zero (x ∷ slots) c here = omega arith
within_slots (suc at) (x ∷ slots) c here = let rest = within_slots at slots c here in omega (arith, rest)

pub present-append : (slots : Slots) (c : ChannelState) → present (slots ++ Some c ∷ []) ≡ present slots ++ c ∷ []
present-append [] c = refl
present-append (None ∷ slots) c = present-append slots c
present-append (Some x ∷ slots) c = ap (λ (rest : List ChannelState). x ∷ rest) (present-append slots c)

-- within the slots the default doesn't matter

pub or_other : (at : ℕ) (slots : Slots) (x y : Option ChannelState) → at < length slots → get_or slots at x ≡ get_or slots at y
or_other at [] x y within = absurd (omega arith)
or_other zero (slot ∷ slots) x y within = refl
or_other (suc at) (slot ∷ slots) x y within = or_other at slots x y (omega arith)

pub or_none : (at : ℕ) (slots : Slots) (x : Option ChannelState) (c : ChannelState) → get_or slots at None ≡ Some c → get_or slots at x ≡ get_or slots at None
or_none at slots x c here = or_other at slots x None (within_slots at slots c here)
