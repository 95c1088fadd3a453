-- What each call of the table does to the account of one channel.
use Rattle.std.proofs.Common.{◌≡◌, ℕ, Bool, true, false, List, [], ◌∷◌, ◌++◌, if◌then◌else◌, Option, Some, None, refl, ap, sym, ◌∙◌, inl, inr}
use Rattle.std.proofs.lemmas.List.{append-nil}
use Rattle.std.proofs.lemmas.Bool.{ne_eqb}
use Rattle.std.proofs.lemmas.Bool.Decides.{eqb_tells}
use Rattle.std.proofs.Common.{eq-eqb}
use Rattle.sshc_mux.specs.ChannelState.{ChannelState, TableState, channel_of, with_channel, without}
use Rattle.sshc_mux.specs.Packets.{Packet}
use Rattle.sshc_mux.specs.ChannelTable.{ChannelPacket, said_by, turned, turn_at, unmoved, all_flushed, all_said, flush, removed, taken_away, take_at, Turn, flush_turn}
use Rattle.sshc_mux.specs.ChannelAccount.{packets_by}
use Rattle.sshc_mux.specs.Places.{numbers, Apart}
use Rattle.sshc_mux.proofs.NumbersLemmas.{none_has, number_of, with_same, with_other, without_same, without_other, flushed_found}

-- the packets of one channel

pub packets-append : (n : ℕ) (a b : List ChannelPacket) → packets_by n (a ++ b) ≡ packets_by n a ++ packets_by n b
packets-append n [] b = refl
packets-append n (s ∷ a) b = elim (eqb_tells s.number n) [
  | inl w ↦
      ap (λ (x : Bool). if x then s.packet ∷ packets_by n (a ++ b) else packets_by n (a ++ b)) w.0
      ∙ ap (λ (ps : List Packet). s.packet ∷ ps) (packets-append n a b)
      ∙ ap (λ (x : Bool). (if x then s.packet ∷ packets_by n a else packets_by n a) ++ packets_by n b) (sym w.0)
  | inr w ↦
      ap (λ (x : Bool). if x then s.packet ∷ packets_by n (a ++ b) else packets_by n (a ++ b)) w.0
      ∙ packets-append n a b
      ∙ ap (λ (x : Bool). (if x then s.packet ∷ packets_by n a else packets_by n a) ++ packets_by n b) (sym w.0)
]

pub packets-own : (n : ℕ) (c : ChannelState) (ps : List Packet) → c.head.number ≡ n → packets_by n (said_by c ps) ≡ ps
packets-own n c [] is = refl
packets-own n c (p ∷ ps) is =
    ap (λ (x : Bool). if x then p ∷ packets_by n (said_by c ps) else packets_by n (said_by c ps)) (eq-eqb c.head.number n is)
    ∙ ap (λ (qs : List Packet). p ∷ qs) (packets-own n c ps is)

pub packets-other : (n : ℕ) (c : ChannelState) (ps : List Packet) → (c.head.number ≡ n → ⊥) → packets_by n (said_by c ps) ≡ []
packets-other n c [] ne = refl
packets-other n c (p ∷ ps) ne =
    ap (λ (x : Bool). if x then p ∷ packets_by n (said_by c ps) else packets_by n (said_by c ps)) (ne_eqb c.head.number n ne)
    ∙ packets-other n c ps ne

no_packets : (n : ℕ) (cs : List ChannelState) → channel_of n cs ≡ None → packets_by n (all_said cs) ≡ []
no_packets n [] none = refl
no_packets n (x ∷ cs) none = elim (eqb_tells x.head.number n) [
  | inl w ↦ let no : Some x ≡ None = ap (λ (b : Bool). if b then Some x else channel_of n cs) (sym w.0) ∙ none in absurd (cc)
  | inr w ↦
      packets-append n (said_by x (flush_turn x).packets) (all_said cs)
      ∙ ap (λ (ps : List Packet). ps ++ packets_by n (all_said cs)) (packets-other n x (flush_turn x).packets w.1)
      ∙ no_packets n cs (ap (λ (b : Bool). if b then Some x else channel_of n cs) (sym w.0) ∙ none)
]

flush_packets : (n : ℕ) (cs : List ChannelState) (c : ChannelState) → Apart (numbers cs) → channel_of n cs ≡ Some c → packets_by n (all_said cs) ≡ (flush_turn c).packets
flush_packets n [] c apart found = absurd (cc)
flush_packets n (x ∷ cs) c apart found = elim (eqb_tells x.head.number n) [
  | inl w ↦
      let same : Some x ≡ Some c = ap (λ (b : Bool). if b then Some x else channel_of n cs) (sym w.0) ∙ found in
      let is : x ≡ c = cc in
      packets-append n (said_by x (flush_turn x).packets) (all_said cs)
      ∙ ap (λ (ps : List Packet). ps ++ packets_by n (all_said cs)) (packets-own n x (flush_turn x).packets w.1)
      ∙ ap (λ (ps : List Packet). (flush_turn x).packets ++ ps) (no_packets n cs (ap (λ (k : ℕ). channel_of k cs) (sym w.1) ∙ none_has x.head.number cs apart.0))
      ∙ append-nil (flush_turn x).packets
      ∙ ap (λ (d : ChannelState). (flush_turn d).packets) is
  | inr w ↦
      packets-append n (said_by x (flush_turn x).packets) (all_said cs)
      ∙ ap (λ (ps : List Packet). ps ++ packets_by n (all_said cs)) (packets-other n x (flush_turn x).packets w.1)
      ∙ flush_packets n cs c apart.1 (ap (λ (b : Bool). if b then Some x else channel_of n cs) (sym w.0) ∙ found)
]

-- What a call does to the channel that it names; the call leaves the other channels unchanged.
pub record Outcome (n id : ℕ) (c c2 after : ChannelState) (packets own : List Packet) : Type 0 where
  pub same : id ≡ n → (c2 ≡ after) × (packets ≡ own)
  pub other : (id ≡ n → ⊥) → (c2 ≡ c) × (packets ≡ [])

some_same : (a b : ChannelState) (o : Option ChannelState) → o ≡ Some a → o ≡ Some b → b ≡ a
some_same a b o first second = let same : Some b ≡ Some a = sym second ∙ first in cc

turn_by : (n id : ℕ) (turn : ChannelState → Turn) (t : TableState) (c c2 : ChannelState) (o : Option ChannelState) → channel_of id t.channels ≡ o → ((x : ChannelState) → (turn x).channel.head.number ≡ x.head.number) →
    channel_of n t.channels ≡ Some c → channel_of n (turned id o turn t).table.channels ≡ Some c2 →
    Outcome n id c c2 (turn c).channel (packets_by n (turned id o turn t).output) (turn c).packets
turn_by n id turn t c c2 None found number here there = record {
  same = λ e. let no : None ≡ Some c = sym found ∙ ap (λ (k : ℕ). channel_of k t.channels) e ∙ here in absurd (cc);
  other = λ ne. (some_same c c2 (channel_of n t.channels) here there, refl);
}
turn_by n id turn t c c2 (Some x) found number here there =
    let named : x.head.number ≡ id = number_of id t.channels x found in
    let kept : (turn x).channel.head.number ≡ id = number x ∙ named in
    record {
      same = λ e.
          let x_is : x ≡ c = some_same c x (channel_of n t.channels) here (ap (λ (k : ℕ). channel_of k t.channels) (sym e) ∙ found) in
          let now : channel_of n (with_channel id (turn x).channel t.channels) ≡ Some (turn x).channel =
          ap (λ (k : ℕ). channel_of n (with_channel k (turn x).channel t.channels)) e ∙ with_same n (turn x).channel t.channels c here (kept ∙ e) in (
            some_same (turn x).channel c2 (channel_of n (with_channel id (turn x).channel t.channels)) now there ∙ ap (λ (d : ChannelState). (turn d).channel) x_is,
            packets-own n x (turn x).packets (named ∙ e) ∙ ap (λ (d : ChannelState). (turn d).packets) x_is,
          );
      other = λ ne. (
        some_same c c2 (channel_of n (with_channel id (turn x).channel t.channels)) (with_other n id (turn x).channel t.channels ne kept ∙ here) there,
        packets-other n x (turn x).packets (λ e. ne (sym named ∙ e)),
      );
    }

pub turn_outcome : (n id : ℕ) (turn : ChannelState → Turn) (t : TableState) (c c2 : ChannelState) → ((x : ChannelState) → (turn x).channel.head.number ≡ x.head.number) →
    channel_of n t.channels ≡ Some c → channel_of n (turn_at id turn t).table.channels ≡ Some c2 →
    Outcome n id c c2 (turn c).channel (packets_by n (turn_at id turn t).output) (turn c).packets
turn_outcome n id turn t c c2 number here there = turn_by n id turn t c c2 (channel_of id t.channels) refl number here there

same_outcome : (n id : ℕ) (t : TableState) (c c2 : ChannelState) → channel_of n t.channels ≡ Some c → channel_of n t.channels ≡ Some c2 → Outcome n id c c2 c [] []
same_outcome n id t c c2 here there = record {
  same = λ e. (some_same c c2 (channel_of n t.channels) here there, refl);
  other = λ ne. (some_same c c2 (channel_of n t.channels) here there, refl);
}

-- a channel that is still in the table wasn't the one that was removed
take_if : (b : Bool) (n id : ℕ) (x : ChannelState) (last : List Packet) (t : TableState) (c c2 : ChannelState) → channel_of id t.channels ≡ Some x → Apart (numbers t.channels) → channel_of n t.channels ≡ Some c →
    channel_of n (if b then record { table = removed id t; output = said_by x last } else unmoved t).table.channels ≡ Some c2 →
    Outcome n id c c2 c (packets_by n (if b then record { table = removed id t; output = said_by x last } else unmoved t).output) []
take_if true n id x last t c c2 found apart here there = record {
  same = λ e. let no : None ≡ Some c2 = sym (without_same n t.channels apart) ∙ ap (λ (k : ℕ). channel_of n (without k t.channels)) (sym e) ∙ there in absurd (cc);
  other = λ ne. (
    some_same c c2 (channel_of n (without id t.channels)) (without_other n id t.channels ne ∙ here) there,
    packets-other n x last (λ e. ne (sym (number_of id t.channels x found) ∙ e)),
  );
}
take_if false n id x last t c c2 found apart here there = same_outcome n id t c c2 here there

take_by : (o : Option ChannelState) (n id : ℕ) (goes : ChannelState → Bool) (last : ChannelState → List Packet) (t : TableState) (c c2 : ChannelState) → channel_of id t.channels ≡ o → Apart (numbers t.channels) → channel_of n t.channels ≡ Some c →
    channel_of n (taken_away id o goes last t).table.channels ≡ Some c2 → Outcome n id c c2 c (packets_by n (taken_away id o goes last t).output) []
take_by None n id goes last t c c2 found apart here there = same_outcome n id t c c2 here there
take_by (Some x) n id goes last t c c2 found apart here there = take_if (goes x) n id x (last x) t c c2 found apart here there

pub take_outcome : (n id : ℕ) (goes : ChannelState → Bool) (last : ChannelState → List Packet) (t : TableState) (c c2 : ChannelState) → Apart (numbers t.channels) → channel_of n t.channels ≡ Some c →
    channel_of n (take_at id goes last t).table.channels ≡ Some c2 → Outcome n id c c2 c (packets_by n (take_at id goes last t).output) []
take_outcome n id goes last t c c2 apart here there = take_by (channel_of id t.channels) n id goes last t c c2 refl apart here there

pub flush_outcome : (n : ℕ) (t : TableState) (c c2 : ChannelState) → Apart (numbers t.channels) → channel_of n t.channels ≡ Some c → channel_of n (flush t).table.channels ≡ Some c2 →
    (c2 ≡ (flush_turn c).channel) × (packets_by n (flush t).output ≡ (flush_turn c).packets)
flush_outcome n t c c2 apart here there =
    (some_same (flush_turn c).channel c2 (channel_of n (all_flushed t.channels)) (flushed_found n t.channels c here) there, flush_packets n t.channels c apart here)
