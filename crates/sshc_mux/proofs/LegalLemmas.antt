-- Every call leaves a legal table, and writes no bytes for a channel that it removes.
use Rattle.std.proofs.Common.{OnOk, Result, Ok, Err, ◌≡◌, ℕ, zero, suc, ◌+◌, Bool, true, false, List, [], ◌∷◌, ◌++◌, length, eqb, if◌then◌else◌, Option, Some, None, refl, ap, sym, subst, ◌∙◌, inl, inr}
use Rattle.std.proofs.lemmas.Bool.Decides.{eqb_tells}
use Rattle.sshc_wire.specs.declared.error.NoMemory.{NoMemory}
use Rattle.sshc_wire.specs.declared.ticket.Ticket.{Ticket}
use Rattle.sshc_wire.specs.Outgoing.{Outgoing}
use Rattle.sshc_mux.specs.ChannelState.{ChannelState, TableState, channel_of}
use Rattle.sshc_mux.specs.Packets.{Packet}
use Rattle.sshc_mux.specs.ChannelTable.{CameAbout, Effect, said_by, unmoved, turned, removed, taken_away, Turn}
use Rattle.sshc_mux.specs.ChannelTable.Opens.{above, free_or, free_from, next_number, new_flow, opened_by_user, reserved_by_server}
use Rattle.sshc_mux.specs.ChannelAccount.{Call, called, opened, ran, packets_by, bytes_in, IsOrdered, IsSound, IsMade, IsLegal, DidItsPart}
use Rattle.sshc_mux.specs.Places.{numbers, has, Apart}
use Rattle.sshc_mux.proofs.NumbersLemmas.{none_has, has_none, number_of, numbers-with, has_without, apart_without, apart_append, numbers-flushed}
use Rattle.sshc_mux.proofs.CallLemmas.{packets-own, packets-other}
use Rattle.sshc_mux.proofs.LifeLemmas.{step_moves}
use Rattle.sshc_mux.proofs.ShapeLemmas.{IsTurn, AreLast, by_shape}

-- a channel as it is made: nothing waits, and no end was asked for
pub record Fresh (n : ℕ) (c : ChannelState) : Type 0 where
  pub number : c.head.number ≡ n
  pub flow : c.flow ≡ new_flow c.flow.window
  pub sound : IsSound c

new_ordered : (window : ℕ) → IsOrdered (new_flow window)
new_ordered window = record { filled = tt; eof = λ h. refl; close = λ h. refl; last = λ h. refl }

pub new_user : (n window packet : ℕ) (ticket : Option Ticket) → Fresh n (opened_by_user n window packet ticket)
new_user n window packet ticket = record { number = refl; flow = refl; sound = record { flow = new_ordered 0; unopened = λ h. refl } }

pub new_server : (n recipient window packet own : ℕ) → Fresh n (reserved_by_server n recipient window packet own)
new_server n recipient window packet own = record { number = refl; flow = refl; sound = record { flow = new_ordered window; unopened = λ h. absurd (cc) } }

pub fresh : (n : ℕ) (c : ChannelState) → IsMade n c → Fresh n c
fresh n c (inl (window, packet, ticket, is)) = let P : ChannelState → Type 0 = λ x. Fresh n x in subst P (sym is) (new_user n window packet ticket)
fresh n c (inr (recipient, window, packet, own, is)) = let P : ChannelState → Type 0 = λ x. Fresh n x in subst P (sym is) (new_server n recipient window packet own)

-- numbers stay different

free_by : (o : Option ChannelState) (n m : ℕ) (other : Option ℕ) (cs : List ChannelState) → channel_of n cs ≡ o → (other ≡ Some m → channel_of m cs ≡ None) → free_or o n other ≡ Some m → channel_of m cs ≡ None
free_by None n m other cs is later found = let same : n ≡ m = cc in ap (λ (k : ℕ). channel_of k cs) (sym same) ∙ is
free_by (Some c) n m other cs is later found = later found

free_none : (tries n m : ℕ) (cs : List ChannelState) → free_from tries n cs ≡ Some m → channel_of m cs ≡ None
free_none zero n m cs found = absurd (cc)
free_none (suc tries) n m cs found = free_by (channel_of n cs) n m (free_from tries (above n) cs) cs refl (λ h. free_none tries (above n) m cs h) found

pub next_none : (t : TableState) (n : ℕ) → next_number t ≡ Some n → channel_of n t.channels ≡ None
unfolding next_number
next_none t n found = free_none (length t.channels + 1) (above t.last) n t.channels found

opened_apart : (o : Option ℕ) (channel : ℕ → ChannelState) (t : TableState) → ((n : ℕ) → (channel n).head.number ≡ n) → ((n : ℕ) → o ≡ Some n → channel_of n t.channels ≡ None) → Apart (numbers t.channels) → Apart (numbers (opened o channel t).table.channels)
opened_apart None channel t number fresh apart = apart
opened_apart (Some n) channel t number fresh apart =
    apart_append t.channels (channel n) apart (ap (λ (k : ℕ). has k (numbers t.channels)) (number n) ∙ has_none n t.channels (fresh n refl))

turned_apart : (o : Option ChannelState) (n : ℕ) (turn : ChannelState → Turn) (t : TableState) → ((x : ChannelState) → (turn x).channel.head.number ≡ x.head.number) → channel_of n t.channels ≡ o → Apart (numbers t.channels) → Apart (numbers (turned n o turn t).table.channels)
turned_apart None n turn t number found apart = apart
turned_apart (Some x) n turn t number found apart =
    let P : List ℕ → Type 0 = λ ns. Apart ns in
    subst P (sym (numbers-with n (turn x).channel t.channels (number x ∙ number_of n t.channels x found))) apart

taken_if_apart : (b : Bool) (n : ℕ) (x : ChannelState) (last : List Packet) (t : TableState) → Apart (numbers t.channels) → Apart (numbers (if b then record { table = removed n t; output = said_by x last } else unmoved t).table.channels)
taken_if_apart true n x last t apart = apart_without n t.channels apart
taken_if_apart false n x last t apart = apart

taken_apart : (o : Option ChannelState) (n : ℕ) (goes : ChannelState → Bool) (last : ChannelState → List Packet) (t : TableState) → Apart (numbers t.channels) → Apart (numbers (taken_away n o goes last t).table.channels)
taken_apart None n goes last t apart = apart
taken_apart (Some x) n goes last t apart = taken_if_apart (goes x) n x (last x) t apart

pub step_apart : (call : Call) (t : TableState) → Apart (numbers t.channels) → Apart (numbers (called call t).table.channels)
step_apart call t apart =
    let P : Effect → Type 0 = λ e. Apart (numbers e.table.channels) in
    let Q : List ℕ → Type 0 = λ ns. Apart ns in
    by_shape P t (record {
      opens = λ channel makes. opened_apart (next_number t) channel t (λ n. (fresh n (channel n) (makes n)).number) (λ n h. next_none t n h) apart;
      turns = λ n turn is. turned_apart (channel_of n t.channels) n turn t is.number refl apart;
      takes = λ n goes last are. taken_apart (channel_of n t.channels) n goes last t apart;
      flushes = subst Q (sym (numbers-flushed t.channels)) apart;
    }) call

pub ran_apart : (calls : List Call) (t : TableState) → Apart (numbers t.channels) → Apart (numbers (ran calls t).table.channels)
ran_apart [] t apart = apart
ran_apart (call ∷ calls) t apart = ran_apart calls (called call t).table (step_apart call t apart)

-- the same numbers, the same look-ups that find nothing
none_still : (n : ℕ) (cs ds : List ChannelState) → numbers ds ≡ numbers cs → channel_of n cs ≡ None → channel_of n ds ≡ None
none_still n cs ds same none = none_has n ds (ap (λ (ns : List ℕ). has n ns) same ∙ has_none n cs none)

some_or_none : (c : ChannelState) (o : Option ChannelState) → o ≡ Some c → o ≡ None → ⊥
some_or_none c None some none = absurd (cc)
some_or_none c (Some x) some none = absurd (cc)

-- a channel that is there after a call and not before is new

new_if : (b : Bool) (new c : ChannelState) → (if b then Some new else None) ≡ Some c → c ≡ new
new_if true new c found = cc
new_if false new c found = absurd (cc)

new_behind : (b : Bool) (n : ℕ) (x : ChannelState) (cs : List ChannelState) (new c : ChannelState) → (if b then Some x else channel_of n cs) ≡ None → (if b then Some x else channel_of n (cs ++ new ∷ [])) ≡ Some c →
    (channel_of n cs ≡ None → channel_of n (cs ++ new ∷ []) ≡ Some c → c ≡ new) → c ≡ new
new_behind true n x cs new c none found rest = absurd (cc)
new_behind false n x cs new c none found rest = rest none found

pub found_new : (n : ℕ) (cs : List ChannelState) (new c : ChannelState) → channel_of n cs ≡ None → channel_of n (cs ++ new ∷ []) ≡ Some c → c ≡ new
found_new n [] new c none found = new_if (eqb new.head.number n) new c found
found_new n (x ∷ cs) new c none found = new_behind (eqb x.head.number n) n x cs new c none found (λ h k. found_new n cs new c h k)

opened_new : (o : Option ℕ) (channel : ℕ → ChannelState) (t : TableState) (n : ℕ) (c : ChannelState) → ((m : ℕ) → IsSound (channel m)) → channel_of n t.channels ≡ None → channel_of n (opened o channel t).table.channels ≡ Some c → IsSound c
opened_new None channel t n c sound none found = absurd (some_or_none c (channel_of n t.channels) found none)
opened_new (Some m) channel t n c sound none found = let P : ChannelState → Type 0 = λ x. IsSound x in subst P (sym (found_new n t.channels (channel m) c none found)) (sound m)

turned_numbers : (o : Option ChannelState) (m : ℕ) (turn : ChannelState → Turn) (t : TableState) → IsTurn turn → channel_of m t.channels ≡ o → numbers (turned m o turn t).table.channels ≡ numbers t.channels
turned_numbers None m turn t is found = refl
turned_numbers (Some x) m turn t is found = numbers-with m (turn x).channel t.channels (is.number x ∙ number_of m t.channels x found)

taken_if_none : (b : Bool) (m n : ℕ) (x : ChannelState) (last : List Packet) (t : TableState) → channel_of n t.channels ≡ None → channel_of n (if b then record { table = removed m t; output = said_by x last } else unmoved t).table.channels ≡ None
taken_if_none true m n x last t none = none_has n _ (has_without n m t.channels (has_none n t.channels none))
taken_if_none false m n x last t none = none

taken_none_still : (o : Option ChannelState) (m n : ℕ) (goes : ChannelState → Bool) (last : ChannelState → List Packet) (t : TableState) → channel_of n t.channels ≡ None → channel_of n (taken_away m o goes last t).table.channels ≡ None
taken_none_still None m n goes last t none = none
taken_none_still (Some x) m n goes last t none = taken_if_none (goes x) m n x (last x) t none

new_sound : (call : Call) (t : TableState) (n : ℕ) (c : ChannelState) → channel_of n t.channels ≡ None → channel_of n (called call t).table.channels ≡ Some c → IsSound c
new_sound call t n c none =
    let P : Effect → Type 0 = λ e. channel_of n e.table.channels ≡ Some c → IsSound c in
    by_shape P t (record {
      opens = λ channel makes found. opened_new (next_number t) channel t n c (λ m. (fresh m (channel m) (makes m)).sound) none found;
      turns = λ m turn is found. absurd (some_or_none c _ found (none_still n t.channels _ (turned_numbers (channel_of m t.channels) m turn t is refl) none));
      takes = λ m goes last are found. absurd (some_or_none c _ found (taken_none_still (channel_of m t.channels) m n goes last t none));
      flushes = λ found. absurd (some_or_none c _ found (none_still n t.channels _ (numbers-flushed t.channels) none));
    }) call

sound_after : (o : Option ChannelState) (call : Call) (t : TableState) (n : ℕ) (c : ChannelState) → channel_of n t.channels ≡ o → IsLegal t → channel_of n (called call t).table.channels ≡ Some c → IsSound c
sound_after None call t n c here legal there = new_sound call t n c here there
sound_after (Some x) call t n c here legal there = (step_moves n call t x c legal.apart (legal.sound n x here) here there).sound

pub legal_stays : (call : Call) (t : TableState) → IsLegal t → IsLegal (called call t).table
legal_stays call t legal = record { apart = step_apart call t legal.apart; sound = λ n c there. sound_after (channel_of n t.channels) call t n c refl legal there }

-- a channel that a call removes

said_none : (x : ChannelState) (last : List Packet) (n : ℕ) → bytes_in last ≡ [] → bytes_in (packets_by n (said_by x last)) ≡ []
said_none x last n none = elim (eqb_tells x.head.number n) [
  | inl w ↦ ap bytes_in (packets-own n x last w.1) ∙ none
  | inr w ↦ ap bytes_in (packets-other n x last w.1)
]

taken_if_bytes : (b : Bool) (m n : ℕ) (x : ChannelState) (last : List Packet) (t : TableState) → bytes_in last ≡ [] → bytes_in (packets_by n (if b then record { table = removed m t; output = said_by x last } else unmoved t).output) ≡ []
taken_if_bytes true m n x last t none = said_none x last n none
taken_if_bytes false m n x last t none = refl

taken_bytes : (o : Option ChannelState) (m n : ℕ) (goes : ChannelState → Bool) (last : ChannelState → List Packet) (t : TableState) → AreLast goes last → bytes_in (packets_by n (taken_away m o goes last t).output) ≡ []
taken_bytes None m n goes last t are = refl
taken_bytes (Some x) m n goes last t are = taken_if_bytes (goes x) m n x (last x) t (are.bytes x)

opened_bytes : (o : Option ℕ) (channel : ℕ → ChannelState) (t : TableState) (n : ℕ) → bytes_in (packets_by n (opened o channel t).output) ≡ []
opened_bytes None channel t n = refl
opened_bytes (Some m) channel t n = refl

pub ended_bytes : (call : Call) (t : TableState) (n : ℕ) (c : ChannelState) → channel_of n t.channels ≡ Some c → channel_of n (called call t).table.channels ≡ None → bytes_in (packets_by n (called call t).output) ≡ []
ended_bytes call t n c here =
    let P : Effect → Type 0 = λ e. channel_of n e.table.channels ≡ None → bytes_in (packets_by n e.output) ≡ [] in
    by_shape P t (record {
      opens = λ channel makes gone. opened_bytes (next_number t) channel t n;
      turns = λ m turn is gone. absurd (some_or_none c _ here (none_still n _ t.channels (sym (turned_numbers (channel_of m t.channels) m turn t is refl)) gone));
      takes = λ m goes last are gone. taken_bytes (channel_of m t.channels) m n goes last t are;
      flushes = λ gone. absurd (some_or_none c _ here (none_still n _ t.channels (sym (numbers-flushed t.channels)) gone));
    }) call

pub did_part : (call : Call) (before after : TableState) → IsLegal before → after ≡ (called call before).table → DidItsPart call before after
did_part call before after legal is = record {
  part = λ n c d here there. step_moves n call before c d legal.apart (legal.sound n c here) here (ap (λ (t : TableState). channel_of n t.channels) (sym is) ∙ there);
}

-- the same for a call that may have run out of memory
pub did_part_ok : {A : Type 0} (call : Call) (before after : TableState) (old new : Outgoing) (result : Result A NoMemory) → IsLegal before → CameAbout (called call before) before after old new result → OnOk result (DidItsPart call before after)
did_part_ok call before after old new (Ok x) legal did = did_part call before after legal did.0
did_part_ok call before after old new (Err e) legal did = tt
