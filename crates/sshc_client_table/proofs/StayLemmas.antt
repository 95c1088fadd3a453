-- If no open of ours waits under a number, none does until an open takes the number.
use Rattle.std.proofs.Common.{◌≡◌, inl, inr, ℕ, ◌-◌, Bool, true, false, not, ◌&&◌, List, [], ◌∷◌, ◌++◌, length, eqb, if◌then◌else◌, Option, Some, None, is_some, refl, ap, sym, ◌∙◌}
use Rattle.std.proofs.lemmas.Bool.Decides.{eqb_tells}
use Rattle.sshc_wire.specs.declared.ticket.Ticket.{Ticket}
use Rattle.sshc_mux.specs.ChannelState.{ChannelState, Head, TableState, channel_of}
use Rattle.sshc_mux.specs.ChannelTable.{Turn, accept_turn, all_flushed, confirm_turn, data_turn, eof_turn, close_turn, grant_turn, is_awaited, is_up, last_packets, no_packets_of, received_turn, taken_away, turned}
use Rattle.sshc_mux.specs.declared.chunk.Stream.{Stream}
use Rattle.sshc_mux.specs.ChannelTable.Ends.{takes}
use Rattle.sshc_mux.specs.ChannelTable.Windows.{adjust_of, held}
use Rattle.sshc_mux.specs.Packets.{Packet}
use Rattle.sshc_mux.specs.ChannelTable.Opens.{accepted_head, awaited, awaited_by, awaited_in, confirmed_head, is_reserved, next_number, opened_by_user, reserved_by_server}
use Rattle.sshc_mux.specs.ChannelAccount.{Call, OpenUser, ReserveServer, SettleServer, Confirm, Fail, Bytes, AskEof, AskClose, PeerClose, Grant, FlushAll, Received, EachCallDoesItsPart, IsLegal, CallPart, accept_part, answered, bytes_part, called, close_part, confirm_part, eof_part, grant_part, no_part, opened, part, received_part}
use Rattle.sshc_mux.proofs.NumbersLemmas.{has_none, none_has, number_of, numbers-flushed, with_other, without_other}
use Rattle.sshc_mux.specs.Places.{has}
use Rattle.sshc_client_table.specs.SessionState.{SessionState}
use Rattle.sshc_client_table.specs.Moves.{Move, after, deed_of, did}
use Rattle.sshc_client_table.specs.OpensOnce.{call_opens, is_number}

-- ---- a channel that was there

abbrev head_waits : Head → Option (Option Ticket)
head_waits h = awaited_in h.established h.opener

-- an answer establishes the channel
abbrev Settles : Option Head → Type 0
Settles None = Unit {0}
Settles (Some h) = h.established ≡ true

settles_if : (b : Bool) (p q : CallPart) → Settles p.answer → Settles q.answer → Settles (if b then p else q).answer
settles_if true p q first second = first
settles_if false p q first second = second

none_settles : (o : Option Head) → o ≡ None → Settles o
none_settles None e = tt
none_settles (Some h) e = absurd cc

accept_settles : (c : ChannelState) → Settles (accept_part c).answer
accept_settles c = settles_if (is_reserved c) (record no_part { answer = Some (accepted_head c.head) }) no_part refl tt

confirm_settles : (recipient window packet : ℕ) (c : ChannelState) → Settles (confirm_part recipient window packet c).answer
confirm_settles recipient window packet c =
    settles_if (is_some (awaited_by (Some c))) (record no_part { gain = window; answer = Some (confirmed_head recipient packet c.head) }) no_part refl tt

answers_none : (b : Bool) (p : CallPart) → p.answer ≡ None → Settles (if b then p else no_part).answer
answers_none b p none = settles_if b p no_part (none_settles p.answer none) tt

bytes_settles : (stream : Stream) (bytes : List ℕ) (exchanging : Bool) (c : ChannelState) → Settles (bytes_part stream bytes exchanging c).answer
bytes_settles stream bytes exchanging c =
    answers_none (takes c.flow && not (eqb (length bytes) 0)) (record no_part { more = record { stream = stream; bytes = bytes } ∷ []; sends = not exchanging; ends = true }) refl

grant_settles : (amount : ℕ) (exchanging : Bool) (c : ChannelState) → Settles (grant_part amount exchanging c).answer
grant_settles amount exchanging c =
    answers_none c.head.established (record no_part { gain = held amount c.flow.window; sends = not exchanging; ends = true }) refl

received_settles : (len target : ℕ) (c : ChannelState) → Settles (received_part len target c).answer
received_settles len target c =
    answers_none c.head.established (record no_part { used = len; returned = adjust_of target (c.own_window - len) }) refl

part_settles : (n : ℕ) (call : Call) (c : ChannelState) → Settles (part n call c).answer
part_settles n (SettleServer id true) c = settles_if (eqb id n) (accept_part c) no_part (accept_settles c) tt
part_settles n (Confirm id recipient window packet) c = settles_if (eqb id n) (confirm_part recipient window packet c) no_part (confirm_settles recipient window packet c) tt
part_settles n (Bytes id stream bytes exchanging) c = settles_if (eqb id n) (bytes_part stream bytes exchanging c) no_part (bytes_settles stream bytes exchanging c) tt
part_settles n (AskEof id) c = settles_if (eqb id n) (eof_part c) no_part tt tt
part_settles n (AskClose id) c = settles_if (eqb id n) close_part no_part tt tt
part_settles n (Grant id amount exchanging) c = settles_if (eqb id n) (grant_part amount exchanging c) no_part (grant_settles amount exchanging c) tt
part_settles n (Received id len target) c = settles_if (eqb id n) (received_part len target c) no_part (received_settles len target c) tt
part_settles n FlushAll c = tt
part_settles n (SettleServer id false) c = tt
part_settles n (OpenUser window packet ticket) c = tt
part_settles n (ReserveServer recipient window packet own) c = tt
part_settles n (Fail id) c = tt
part_settles n (PeerClose id) c = tt

settled_head : (o : Option Head) (h : Head) → Settles o → head_waits h ≡ None → head_waits (answered o h) ≡ None
settled_head None h settles none = none
settled_head (Some new) h settles none = ap (λ (b : Bool). awaited_in b new.opener) settles

still_there : EachCallDoesItsPart → (o : Option ChannelState) (n : ℕ) (call : Call) (t : TableState) (c : ChannelState) → IsLegal t → channel_of n t.channels ≡ Some c → head_waits c.head ≡ None
    → channel_of n (called call t).table.channels ≡ o → awaited_by o ≡ None
still_there law None n call t c legal there none found = refl
still_there law (Some d) n call t c legal there none found =
    ap head_waits (law n call t c d legal there found).head ∙ settled_head (part n call c).answer c.head (part_settles n call c) none

-- ---- a number that no channel has

behind_none : (n : ℕ) (x : ChannelState) (cs : List ChannelState) → channel_of n cs ≡ None → (x.head.number ≡ n → awaited_by (Some x) ≡ None) → awaited_by (channel_of n (cs ++ x ∷ [])) ≡ None
behind_none n x [] none own = elim (eqb_tells x.head.number n) [
  | inl w ↦ ap (λ (b : Bool). awaited_by (if b then Some x else None)) w.0 ∙ own w.1
  | inr w ↦ ap (λ (b : Bool). awaited_by (if b then Some x else None)) w.0
]
behind_none n x (c ∷ cs) none own = elim (eqb_tells c.head.number n) [
  | inl w ↦ let e : Some c ≡ None = sym (ap (λ (b : Bool). if b then Some c else channel_of n cs) w.0) ∙ none in absurd cc
  | inr w ↦
      ap (λ (b : Bool). awaited_by (if b then Some c else channel_of n (cs ++ x ∷ []))) w.0
      ∙ behind_none n x cs (sym (ap (λ (b : Bool). if b then Some c else channel_of n cs) w.0) ∙ none) own
]

same_is : (m n : ℕ) → m ≡ n → eqb m n ≡ false → ⊥
same_is m n is isnt = elim (eqb_tells m n) [
  | inl w ↦ let e : true ≡ false = sym w.0 ∙ isnt in cc
  | inr w ↦ w.1 is
]

user_opened : (o : Option ℕ) (n window packet : ℕ) (ticket : Option Ticket) (t : TableState) → channel_of n t.channels ≡ None → is_number n o ≡ false
    → awaited n (opened o (λ m. opened_by_user m window packet ticket) t).table ≡ None
user_opened None n window packet ticket t none other = ap awaited_by none
user_opened (Some m) n window packet ticket t none other =
    behind_none n (opened_by_user m window packet ticket) t.channels none (λ is. absurd (same_is m n is other))

server_opened : (o : Option ℕ) (n recipient window packet own : ℕ) (t : TableState) → channel_of n t.channels ≡ None
    → awaited n (opened o (λ m. reserved_by_server m recipient window packet own) t).table ≡ None
server_opened None n recipient window packet own t none = ap awaited_by none
server_opened (Some m) n recipient window packet own t none =
    behind_none n (reserved_by_server m recipient window packet own) t.channels none (λ is. refl)

-- a turn of another channel, and of no channel
turned_none : (o : Option ChannelState) (n m : ℕ) (turn : ChannelState → Turn) (t : TableState) → ((c : ChannelState) → (turn c).channel.head.number ≡ c.head.number)
    → channel_of m t.channels ≡ o → channel_of n t.channels ≡ None → awaited n (turned m o turn t).table ≡ None
turned_none None n m turn t number there none = ap awaited_by none
turned_none (Some c) n m turn t number there none = elim (eqb_tells m n) [
  | inl w ↦ let e : Some c ≡ None = sym there ∙ ap (λ (k : ℕ). channel_of k t.channels) w.1 ∙ none in absurd cc
  | inr w ↦ ap awaited_by (with_other n m (turn c).channel t.channels w.1 (number c ∙ number_of m t.channels c there) ∙ none)
]

taken_by : (b : Bool) (n m : ℕ) (c : ChannelState) (goes : ChannelState → Bool) (last : ChannelState → List Packet) (t : TableState) → goes c ≡ b → channel_of m t.channels ≡ Some c → channel_of n t.channels ≡ None
    → awaited n (taken_away m (Some c) goes last t).table ≡ None
taken_by false n m c goes last t is there none = rw is (ap awaited_by none)
taken_by true n m c goes last t is there none = rw is (elim (eqb_tells m n) [
  | inl w ↦ let e : Some c ≡ None = sym there ∙ ap (λ (k : ℕ). channel_of k t.channels) w.1 ∙ none in absurd cc
  | inr w ↦ ap awaited_by (without_other n m t.channels w.1 ∙ none)
])

taken_none : (o : Option ChannelState) (n m : ℕ) (goes : ChannelState → Bool) (last : ChannelState → List Packet) (t : TableState) → channel_of m t.channels ≡ o → channel_of n t.channels ≡ None
    → awaited n (taken_away m o goes last t).table ≡ None
taken_none None n m goes last t there none = ap awaited_by none
taken_none (Some c) n m goes last t there none = taken_by (goes c) n m c goes last t refl there none

number_if : (b : Bool) (x y : ChannelState) (n : ℕ) → x.head.number ≡ n → y.head.number ≡ n → (if b then x else y).head.number ≡ n
number_if true x y n first second = first
number_if false x y n first second = second

settle_none : (accept : Bool) (n m : ℕ) (t : TableState) → channel_of n t.channels ≡ None → awaited n (called (SettleServer m accept) t).table ≡ None
settle_none true n m t none = turned_none (channel_of m t.channels) n m accept_turn t (λ c. number_if (is_reserved c) _ c c.head.number refl refl) refl none
settle_none false n m t none = taken_none (channel_of m t.channels) n m is_reserved no_packets_of t refl none

flush_none : (n : ℕ) (cs : List ChannelState) → channel_of n cs ≡ None → channel_of n (all_flushed cs) ≡ None
flush_none n cs none = none_has n (all_flushed cs) (ap (λ (ns : List ℕ). has n ns) (numbers-flushed cs) ∙ has_none n cs none)

was_none : (n : ℕ) (call : Call) (t : TableState) → channel_of n t.channels ≡ None → call_opens n (Some call) t ≡ false → awaited n (called call t).table ≡ None
was_none n (OpenUser window packet ticket) t none other = user_opened (next_number t) n window packet ticket t none other
was_none n (ReserveServer recipient window packet own) t none other = server_opened (next_number t) n recipient window packet own t none
was_none n (SettleServer m accept) t none other = settle_none accept n m t none
was_none n (Confirm m recipient window packet) t none other =
    turned_none (channel_of m t.channels) n m (confirm_turn recipient window packet) t (λ c. number_if (is_awaited c) _ c c.head.number refl refl) refl none
was_none n (Fail m) t none other = taken_none (channel_of m t.channels) n m is_awaited no_packets_of t refl none
was_none n (Bytes m stream bytes exchanging) t none other = turned_none (channel_of m t.channels) n m (data_turn stream bytes exchanging) t (λ c. refl) refl none
was_none n (AskEof m) t none other = turned_none (channel_of m t.channels) n m eof_turn t (λ c. refl) refl none
was_none n (AskClose m) t none other = turned_none (channel_of m t.channels) n m close_turn t (λ c. refl) refl none
was_none n (PeerClose m) t none other = taken_none (channel_of m t.channels) n m is_up last_packets t refl none
was_none n (Grant m amount exchanging) t none other = turned_none (channel_of m t.channels) n m (grant_turn amount exchanging) t (λ c. refl) refl none
was_none n FlushAll t none other = ap awaited_by (flush_none n t.channels none)
was_none n (Received m len target) t none other = turned_none (channel_of m t.channels) n m (received_turn len target) t (λ c. refl) refl none

-- ---- both

by_channel : EachCallDoesItsPart → (o : Option ChannelState) (n : ℕ) (call : Call) (t : TableState) → IsLegal t → channel_of n t.channels ≡ o → awaited_by o ≡ None → call_opens n (Some call) t ≡ false
    → awaited n (called call t).table ≡ None
by_channel law None n call t legal there none other = was_none n call t there other
by_channel law (Some c) n call t legal there none other = still_there law (channel_of n (called call t).table.channels) n call t c legal there none refl

by_call : EachCallDoesItsPart → (o : Option Call) (n : ℕ) (t : TableState) → IsLegal t → awaited n t ≡ None → call_opens n o t ≡ false → awaited n (did o t).table ≡ None
by_call law None n t legal none other = none
by_call law (Some call) n t legal none other = by_channel law (channel_of n t.channels) n call t legal refl none other

pub answered_stays : EachCallDoesItsPart → (n : ℕ) (move : Move) (s : SessionState) → IsLegal s.table → awaited n s.table ≡ None → call_opens n (deed_of move s).call s.table ≡ false → awaited n (after move s).table ≡ None
unfolding after
answered_stays law n move s legal none other = by_call law (deed_of move s).call n s.table legal none other
