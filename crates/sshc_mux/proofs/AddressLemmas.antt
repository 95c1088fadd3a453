-- Every packet is addressed to the peer's number of its channel.
use Rattle.std.proofs.Common.{◌≡◌, ℕ, Bool, true, false, List, [], ◌∷◌, ◌++◌, if◌then◌else◌, Option, Some, None, refl, ap, sym, subst, ◌∙◌, inl, inr, eq-eqb}
use Rattle.std.proofs.lemmas.Bool.Decides.{eqb_tells}
use Rattle.sshc_mux.specs.ChannelState.{ChannelState, TableState, channel_of}
use Rattle.sshc_mux.specs.Packets.{Packet}
use Rattle.sshc_mux.specs.ChannelTable.{ChannelPacket, Effect, said_by, unmoved, turned, removed, taken_away, all_said, recipient_in, Turn, flush_turn}
use Rattle.sshc_mux.specs.ChannelTable.Opens.{next_number}
use Rattle.sshc_mux.specs.ChannelAccount.{Call, called, opened, AllAddressed}
use Rattle.sshc_mux.specs.Places.{numbers, Apart}
use Rattle.sshc_mux.proofs.NumbersLemmas.{none_has, number_of}
use Rattle.sshc_mux.proofs.ShapeLemmas.{IsTurn, AreLast, by_shape, silent_flush}

addressed_append : (cs : List ChannelState) (a b : List ChannelPacket) → AllAddressed cs a → AllAddressed cs b → AllAddressed cs (a ++ b)
addressed_append cs [] b first second = second
addressed_append cs (s ∷ a) b first second = (first.0, addressed_append cs a b first.1 second)

addressed_by : (cs : List ChannelState) (c : ChannelState) (ps : List Packet) → recipient_in (channel_of c.head.number cs) ≡ Some c.head.recipient → AllAddressed cs (said_by c ps)
addressed_by cs c [] is = tt
addressed_by cs c (p ∷ ps) is = (is, addressed_by cs c ps is)

-- the packets of a channel that writes nothing until it is established
said_addressed : (b : Bool) (cs : List ChannelState) (c : ChannelState) (ps : List Packet) → c.head.established ≡ b → (c.head.established ≡ false → ps ≡ []) → channel_of c.head.number cs ≡ Some c → AllAddressed cs (said_by c ps)
said_addressed true cs c ps up silent found =
    addressed_by cs c ps (ap (λ (o : Option ChannelState). recipient_in o) found ∙ ap (λ (b : Bool). if b then Some c.head.recipient else None) up)
said_addressed false cs c ps down silent found = let P : List Packet → Type 0 = λ qs. AllAddressed cs (said_by c qs) in subst P (sym (silent down)) tt

own_place : (n : ℕ) (cs : List ChannelState) (c : ChannelState) → channel_of n cs ≡ Some c → channel_of c.head.number cs ≡ Some c
own_place n cs c found = ap (λ (k : ℕ). channel_of k cs) (number_of n cs c found) ∙ found

turned_addressed : (o : Option ChannelState) (n : ℕ) (turn : ChannelState → Turn) (t : TableState) → IsTurn turn → channel_of n t.channels ≡ o → AllAddressed t.channels (turned n o turn t).output
turned_addressed None n turn t is found = tt
turned_addressed (Some c) n turn t is found = said_addressed c.head.established t.channels c (turn c).packets refl (is.silent c) (own_place n t.channels c found)

taken_if_addressed : (b : Bool) (n : ℕ) (c : ChannelState) (last : List Packet) (t : TableState) → (b ≡ true → c.head.established ≡ false → last ≡ []) → channel_of n t.channels ≡ Some c → AllAddressed t.channels (if b then record { table = removed n t; output = said_by c last } else unmoved t).output
taken_if_addressed true n c last t silent found = said_addressed c.head.established t.channels c last refl (silent refl) (own_place n t.channels c found)
taken_if_addressed false n c last t silent found = tt

taken_addressed : (o : Option ChannelState) (n : ℕ) (goes : ChannelState → Bool) (last : ChannelState → List Packet) (t : TableState) → AreLast goes last → channel_of n t.channels ≡ o → AllAddressed t.channels (taken_away n o goes last t).output
taken_addressed None n goes last t are found = tt
taken_addressed (Some c) n goes last t are found = taken_if_addressed (goes c) n c (last c) t (are.silent c) found

opened_addressed : (o : Option ℕ) (channel : ℕ → ChannelState) (t : TableState) → AllAddressed t.channels (opened o channel t).output
opened_addressed None channel t = tt
opened_addressed (Some n) channel t = tt

-- a channel after another is found by its number
behind : (x c : ChannelState) (cs : List ChannelState) → Apart (numbers (x ∷ cs)) → channel_of c.head.number cs ≡ Some c → channel_of c.head.number (x ∷ cs) ≡ Some c
behind x c cs apart found = elim (eqb_tells x.head.number c.head.number) [
  | inl w ↦ let no : None ≡ Some c = sym (none_has x.head.number cs apart.0) ∙ ap (λ (k : ℕ). channel_of k cs) w.1 ∙ found in absurd (cc)
  | inr w ↦ ap (λ (b : Bool). if b then Some x else channel_of c.head.number cs) w.0 ∙ found
]

flush_addressed : (cs rest : List ChannelState) → ((c : ChannelState) → channel_of c.head.number rest ≡ Some c → channel_of c.head.number cs ≡ Some c) → Apart (numbers rest) → AllAddressed cs (all_said rest)
flush_addressed cs [] finds apart = tt
flush_addressed cs (c ∷ rest) finds apart =
    addressed_append cs (said_by c (flush_turn c).packets) (all_said rest)
    (said_addressed c.head.established cs c (flush_turn c).packets refl (λ down. silent_flush false c.head c.flow down) (finds c (ap (λ (b : Bool). if b then Some c else channel_of c.head.number rest) (eq-eqb c.head.number c.head.number refl))))
    (flush_addressed cs rest (λ d found. finds d (behind c d rest apart found)) apart.1)

pub addressed : (call : Call) (t : TableState) → Apart (numbers t.channels) → AllAddressed t.channels (called call t).output
addressed call t apart =
    let P : Effect → Type 0 = λ e. AllAddressed t.channels e.output in
    by_shape P t (record {
      opens = λ channel makes. opened_addressed (next_number t) channel t;
      turns = λ n turn is. turned_addressed (channel_of n t.channels) n turn t is refl;
      takes = λ n goes last are. taken_addressed (channel_of n t.channels) n goes last t are refl;
      flushes = flush_addressed t.channels t.channels (λ c found. found) apart;
    }) call
