-- Each turn of a channel does its part in the account.
use Rattle.std.proofs.Common.{◌≡◌, ℕ, ◌+◌, ◌-◌, ◌<◌, ◌/◌, Bool, true, false, not, ◌&&◌, sum, List, [], ◌∷◌, ◌++◌, length, take, eqb, ltb, if◌then◌else◌, Option, Some, None, is_some, refl, ap, sym, subst, ◌∙◌, arith}
use Rattle.std.proofs.lemmas.List.{append-nil}
use Rattle.std.proofs.lemmas.Bool.{ltb-true}
use Rattle.sshc_mux.specs.declared.chunk.Stream.{Stream}
use Rattle.sshc_mux.specs.declared.channel.Stage.{Stage}
use Rattle.sshc_mux.specs.declared.channel.Stage.TheVariants as Stages
use Rattle.sshc_mux.specs.declared.channel.Opener.{Opener}
use Rattle.sshc_mux.specs.ChannelState.{Head, ChannelFlow, ChannelState, Waiting}
use Rattle.sshc_mux.specs.Packets.{Packet, Piece, Eof, Close, Adjust}
use Rattle.sshc_mux.specs.ChannelTable.{data_turn, eof_turn, close_turn, grant_turn, flush_turn, received_turn, accept_turn, confirm_turn}
use Rattle.sshc_mux.specs.ChannelTable.Opens.{accepted, accepted_head, confirmed, confirmed_head, awaited_in, awaited_by, is_reserved}
use Rattle.sshc_mux.specs.ChannelTable.Sending.{FlowTurn, still, pieces_of, cut, sent_of, room_of, emptied, may_end, is_due, ends_of, ended, ended_if, flushed}
use Rattle.sshc_mux.specs.ChannelTable.Windows.{held, raised, is_low, refilled, adjust_of, adjust_packets}
use Rattle.sshc_mux.specs.ChannelTable.Ends.{is_sent, is_unasked, asked, takes, with_pending, flush_with, with_eof, with_close}
use Rattle.sshc_mux.specs.ChannelAccount.{amounts_in, pending, IsOrdered, IsSound, CallPart, no_part, bytes_part, eof_part, close_part, grant_part, flush_part, confirm_part, accept_part, received_part, AreLongest, Orderly, NoneDue, FlowMoves, answered, Moves}
use Rattle.sshc_mux.proofs.TestLemmas.{and_left, and_right, and-false, and-true, no_length, room_facts}
use Rattle.sshc_wire.specs.CasesLaws.{not_true}
use Rattle.sshc_mux.proofs.PromptLemmas.{flush_empties, flush_longest}
use Rattle.sshc_mux.proofs.AccountLemmas.{Kept, kept_then, emptied_kept, ended_kept, filled_append, pending-append, done_due}

-- a flow's flush

flush_kept : (exchanging : Bool) (h : Head) (f : ChannelFlow) → IsOrdered f → Kept f (flushed exchanging h f).flow (flushed exchanging h f).packets
unfolding flushed
flush_kept exchanging h f ordered =
    let room = room_facts (h.established && not exchanging && ltb 0 h.packet_size) f.window h.packet_size (λ yes. ltb-true 0 h.packet_size (and_right (h.established && not exchanging) (ltb 0 h.packet_size) yes)) in
    let empty : ChannelFlow = emptied (room_of exchanging h f) f in
    let first : Kept f empty (sent_of h.packet_size (room_of exchanging h f) f.pending) = emptied_kept h.packet_size (room_of exchanging h f) f room.0 room.1 ordered in
    kept_then f empty (ended h empty) (sent_of h.packet_size (room_of exchanging h f) f.pending) (ends_of h empty)
    first
    (ended_kept (may_end h empty) empty (λ yes. no_length empty.pending (and_right h.established (eqb (length empty.pending) 0) yes)) first.ordered)

-- if nothing waits on an established channel, neither EOF nor close is due after its flush
ended_none : (may : Bool) (h : Head) (f : ChannelFlow) → may ≡ may_end h f → h.established ≡ true → f.pending ≡ [] → NoneDue (ended_if may f)
ended_none true h f is up none = record { eof = done_due f.eof; close = done_due f.close }
ended_none false h f is up none =
    let no : false ≡ true = is ∙ ap (λ (b : Bool). b && eqb (length f.pending) 0) up ∙ ap (λ (n : ℕ). eqb n 0) (ap length none) in absurd (cc)

flush_ends : (exchanging : Bool) (h : Head) (f : ChannelFlow) → h.established ≡ true → (flushed exchanging h f).flow.pending ≡ [] → NoneDue (flushed exchanging h f).flow
unfolding flushed
flush_ends exchanging h f up none = ended_none (may_end h (emptied (room_of exchanging h f) f)) h (emptied (room_of exchanging h f) f) refl up none

-- A call's part before anything is sent: the flow with it.
record Readies (f ready : ChannelFlow) (p : CallPart) : Type 0 where
  pending : ready.pending ≡ f.pending ++ p.more
  window : ready.window ≡ f.window + p.gain
  eof_sent : is_sent ready.eof ≡ is_sent f.eof
  close_sent : is_sent ready.close ≡ is_sent f.close
  eof : is_unasked ready.eof ≡ (is_unasked f.eof && not p.eof)
  close : is_unasked ready.close ≡ (is_unasked f.close && not p.close)
  taking : takes ready ≡ (takes f && not p.last)
  ordered : IsOrdered ready

-- it sends nothing
silent_moves : (h : Head) (f ready : ChannelFlow) (p : CallPart) → p.sends ≡ false → p.ends ≡ false → Readies f ready p → FlowMoves h f ready [] p
silent_moves h f ready p sends ends r = record {
  balance = ap pending r.pending ∙ pending-append f.pending p.more;
  window = omega (arith, r.window);
  longest = tt;
  order = (sym r.eof_sent, sym r.close_sent);
  eof = r.eof;
  close = r.close;
  taking = r.taking;
  prompt = λ yes. let no : false ≡ true = sym sends ∙ yes in absurd (cc);
  ends = λ yes. let no : false ≡ true = sym ends ∙ yes in absurd (cc);
}

-- and then what may be sent is sent
flush_moves : (exchanging : Bool) (h : Head) (f ready : ChannelFlow) (p : CallPart) → (p.sends ≡ true → exchanging ≡ false) → Readies f ready p → FlowMoves h f (flushed exchanging h ready).flow (flushed exchanging h ready).packets p
flush_moves exchanging h f ready p sends r =
    let after : ChannelFlow = (flushed exchanging h ready).flow in
    let packets : List Packet = (flushed exchanging h ready).packets in
    let kept = flush_kept exchanging h ready r.ordered in
    let P : Bool → Type 0 = λ e. Orderly e (is_sent ready.close) packets (is_sent after.eof) (is_sent after.close) in
    let Q : Bool → Type 0 = λ k. Orderly (is_sent f.eof) k packets (is_sent after.eof) (is_sent after.close) in
    let S : ℕ → Type 0 = λ n. AreLongest h.packet_size n ready.pending packets in
    let T : List Waiting → Type 0 = λ ws. AreLongest h.packet_size (f.window + p.gain) ws packets in
    record {
      balance = kept.balance ∙ ap pending r.pending ∙ pending-append f.pending p.more;
      window = kept.window ∙ r.window;
      longest = subst T r.pending (subst S r.window (flush_longest exchanging h ready r.ordered.filled));
      order = subst Q r.close_sent (subst P r.eof_sent kept.order);
      eof = kept.eof ∙ r.eof;
      close = kept.close ∙ r.close;
      taking = ap (λ (e : Bool). e && is_unasked after.close) kept.eof ∙ ap (λ (k : Bool). is_unasked ready.eof && k) kept.close ∙ r.taking;
      prompt = λ yes up some window. flush_empties exchanging h ready (sends yes) up some window;
      ends = λ _ up none. flush_ends exchanging h ready up none;
    }

-- a flow with more room, or as it was
risen : (f : ChannelFlow) (amount : ℕ) (p : CallPart) → p.more ≡ [] → p.eof ≡ false → p.close ≡ false → p.last ≡ false → p.gain ≡ amount → IsOrdered f → Readies f (record f { window = f.window + amount }) p
risen f amount p more eof close last gain ordered = record {
  pending = sym (append-nil f.pending) ∙ ap (λ (ws : List Waiting). f.pending ++ ws) (sym more);
  window = omega (arith, gain);
  eof_sent = refl;
  close_sent = refl;
  eof = sym (and-true (is_unasked f.eof)) ∙ ap (λ (b : Bool). is_unasked f.eof && not b) (sym eof);
  close = sym (and-true (is_unasked f.close)) ∙ ap (λ (b : Bool). is_unasked f.close && not b) (sym close);
  taking = sym (and-true (takes f)) ∙ ap (λ (b : Bool). takes f && not b) (sym last);
  ordered = record { filled = ordered.filled; eof = ordered.eof; close = ordered.close; last = ordered.last };
}

as_was : (f : ChannelFlow) (p : CallPart) → p.more ≡ [] → p.eof ≡ false → p.close ≡ false → p.last ≡ false → p.gain ≡ 0 → IsOrdered f → Readies f f p
as_was f p more eof close last gain ordered =
    let none : f.window + 0 ≡ f.window = omega arith in
    let P : ℕ → Type 0 = λ n. Readies f (record f { window = n }) p in
    subst P none (risen f 0 p more eof close last gain ordered)

-- sending doesn't raise our window

amounts-append : (a b : List Packet) → amounts_in (a ++ b) ≡ amounts_in a ++ amounts_in b
amounts-append [] b = refl
amounts-append (Piece s bytes ∷ a) b = amounts-append a b
amounts-append (Eof ∷ a) b = amounts-append a b
amounts-append (Close ∷ a) b = amounts-append a b
amounts-append (Adjust amount ∷ a) b = ap (λ (ns : List ℕ). amount ∷ ns) (amounts-append a b)

pieces_amounts : (s : Stream) (pieces : List (List ℕ)) (more : List Packet) → amounts_in (pieces_of s pieces ++ more) ≡ amounts_in more
pieces_amounts s [] more = refl
pieces_amounts s (p ∷ pieces) more = pieces_amounts s pieces more

sent_amounts : (size room : ℕ) (ws : List Waiting) → amounts_in (sent_of size room ws) ≡ []
sent_amounts size room [] = refl
sent_amounts size room (w ∷ ws) = pieces_amounts w.stream (cut size (take room w.bytes)) (sent_of size (room - length w.bytes) ws) ∙ sent_amounts size (room - length w.bytes) ws

ends_amounts : (may e k : Bool) → amounts_in (if may then ((if e then Eof ∷ [] else []) ++ (if k then Close ∷ [] else [])) else []) ≡ []
ends_amounts true true true = refl
ends_amounts true true false = refl
ends_amounts true false true = refl
ends_amounts true false false = refl
ends_amounts false e k = refl

flush_amounts : (exchanging : Bool) (h : Head) (f : ChannelFlow) → amounts_in (flushed exchanging h f).packets ≡ []
unfolding flushed
flush_amounts exchanging h f =
    let empty : ChannelFlow = emptied (room_of exchanging h f) f in
    amounts-append (sent_of h.packet_size (room_of exchanging h f) f.pending) (ends_of h empty)
    ∙ ap (λ (ns : List ℕ). ns ++ amounts_in (ends_of h empty)) (sent_amounts h.packet_size (room_of exchanging h f) f.pending)
    ∙ ends_amounts (may_end h empty) (is_due f.eof) (is_due f.close)

-- A flow's turn does its part.
record DoesPart (h : Head) (f : ChannelFlow) (turn : FlowTurn) (p : CallPart) : Type 0 where
  moves : FlowMoves h f turn.flow turn.packets p
  ordered : IsOrdered turn.flow
  returned : amounts_in turn.packets ≡ []

flush_does : (exchanging : Bool) (h : Head) (f ready : ChannelFlow) (p : CallPart) → (p.sends ≡ true → exchanging ≡ false) → Readies f ready p → DoesPart h f (flushed exchanging h ready) p
flush_does exchanging h f ready p sends r = record {
  moves = flush_moves exchanging h f ready p sends r;
  ordered = (flush_kept exchanging h ready r.ordered).ordered;
  returned = flush_amounts exchanging h ready;
}

still_does : (h : Head) (f : ChannelFlow) → IsOrdered f → DoesPart h f (still f) no_part
still_does h f ordered = record { moves = silent_moves h f f no_part refl refl (as_was f no_part refl refl refl refl refl ordered); ordered = ordered; returned = refl }

-- the channel around it
channel_moves : (c : ChannelState) (turn : FlowTurn) (p : CallPart) → p.answer ≡ None → p.used ≡ 0 → p.returned ≡ [] → (is_some (awaited_by (Some c)) ≡ true → p.gain ≡ 0) → IsSound c → DoesPart c.head c.flow turn p →
    Moves c (record c { flow = turn.flow }) turn.packets p
channel_moves c turn p answer none back gain sound does =
    let given : sum p.returned ≡ 0 = ap sum back in
    record {
      head = ap (λ (a : Option Head). answered a c.head) (sym answer);
      own = omega (arith, none, given);
      returned = does.returned ∙ sym back;
      flow = does.moves;
      sound = record { flow = does.ordered; unopened = λ waits. omega (arith, does.moves.window, sound.unopened waits, gain waits) };
    }

pub still_moves : (c : ChannelState) → IsSound c → Moves c c [] no_part
still_moves c sound = channel_moves c (still c.flow) no_part refl refl refl (λ _. refl) sound (still_does c.head c.flow sound.flow)

pub flush_turn_moves : (c : ChannelState) → IsSound c → Moves c (flush_turn c).channel (flush_turn c).packets flush_part
flush_turn_moves c sound =
    channel_moves c (flushed false c.head c.flow) flush_part refl refl refl (λ _. refl) sound
    (flush_does false c.head c.flow c.flow flush_part (λ _. refl) (as_was c.flow flush_part refl refl refl refl refl sound.flow))

-- data

unasked_not_sent : (s : Stage) → is_unasked s ≡ true → is_sent s ≡ true → ⊥
unasked_not_sent Stages.Unasked h k = absurd (cc)
unasked_not_sent Stages.Asked h k = absurd (cc)
unasked_not_sent Stages.Sent h k = absurd (cc)

some_length : (bytes : List ℕ) → not (eqb (length bytes) 0) ≡ true → 0 < length bytes
some_length [] h = absurd (cc)
some_length (b ∷ bytes) h = omega arith

-- a choice of turns does the chosen part
either_moves : (b : Bool) (c : ChannelState) (turn : FlowTurn) (p : CallPart) → IsSound c → (b ≡ true → Moves c (record c { flow = turn.flow }) turn.packets p) →
    Moves c (record c { flow = (if b then turn else still c.flow).flow }) (if b then turn else still c.flow).packets (if b then p else no_part)
either_moves true c turn p sound moves = moves refl
either_moves false c turn p sound moves = still_moves c sound

with_bytes : (stream : Stream) (bytes : List ℕ) (exchanging : Bool) (f : ChannelFlow) → takes f ≡ true → 0 < length bytes → IsOrdered f →
    Readies f (with_pending stream bytes f) (record no_part { more = record { stream = stream; bytes = bytes } ∷ []; sends = not exchanging; ends = true })
with_bytes stream bytes exchanging f open_then some ordered = record {
  pending = refl;
  window = omega arith;
  eof_sent = refl;
  close_sent = refl;
  eof = sym (and-true (is_unasked f.eof));
  close = sym (and-true (is_unasked f.close));
  taking = sym (and-true (takes f));
  ordered = record {
    filled = filled_append f.pending (record { stream = stream; bytes = bytes } ∷ []) ordered.filled (some, tt);
    eof = λ h. absurd (unasked_not_sent f.eof (and_left (is_unasked f.eof) (is_unasked f.close) open_then) h);
    close = λ h. absurd (unasked_not_sent f.close (and_right (is_unasked f.eof) (is_unasked f.close) open_then) h);
    last = ordered.last;
  };
}

pub data_moves : (stream : Stream) (bytes : List ℕ) (exchanging : Bool) (c : ChannelState) → IsSound c →
    Moves c (data_turn stream bytes exchanging c).channel (data_turn stream bytes exchanging c).packets (bytes_part stream bytes exchanging c)
data_moves stream bytes exchanging c sound =
    let some : Bool = not (eqb (length bytes) 0) in
    let p : CallPart = record no_part { more = record { stream = stream; bytes = bytes } ∷ []; sends = not exchanging; ends = true } in
    either_moves (takes c.flow && some) c (flush_with stream bytes exchanging c.head c.flow) p sound
    (λ yes. channel_moves c (flush_with stream bytes exchanging c.head c.flow) p refl refl refl (λ _. refl) sound
    (flush_does exchanging c.head c.flow (with_pending stream bytes c.flow) p (not_true exchanging)
    (with_bytes stream bytes exchanging c.flow (and_left (takes c.flow) some yes) (some_length bytes (and_right (takes c.flow) some yes)) sound.flow)))

-- ends

asked_sent : (s : Stage) → is_sent (asked s) ≡ is_sent s
asked_sent Stages.Unasked = refl
asked_sent Stages.Asked = refl
asked_sent Stages.Sent = refl

asked_unasked : (s : Stage) → is_unasked (asked s) ≡ false
asked_unasked Stages.Unasked = refl
asked_unasked Stages.Asked = refl
asked_unasked Stages.Sent = refl

sent_unasked : (s : Stage) → true ≡ is_sent s → is_unasked s ≡ false
sent_unasked Stages.Unasked h = absurd (cc)
sent_unasked Stages.Asked h = absurd (cc)
sent_unasked Stages.Sent h = refl

eof_by : (b : Bool) (f : ChannelFlow) → b ≡ is_sent f.close → IsOrdered f → Readies f (record f { eof = if b then f.eof else asked f.eof }) (record no_part { eof = not b; last = true; ends = true })
eof_by true f is ordered = record {
  pending = sym (append-nil f.pending);
  window = omega arith;
  eof_sent = refl;
  close_sent = refl;
  eof = sym (and-true (is_unasked f.eof));
  close = sym (and-true (is_unasked f.close));
  taking = ap (λ (k : Bool). is_unasked f.eof && k) (sent_unasked f.close is) ∙ and-false (is_unasked f.eof) ∙ sym (and-false (takes f));
  ordered = ordered;
}
eof_by false f is ordered = record {
  pending = sym (append-nil f.pending);
  window = omega arith;
  eof_sent = asked_sent f.eof;
  close_sent = refl;
  eof = asked_unasked f.eof ∙ sym (and-false (is_unasked f.eof));
  close = sym (and-true (is_unasked f.close));
  taking = ap (λ (e : Bool). e && is_unasked f.close) (asked_unasked f.eof) ∙ sym (and-false (takes f));
  ordered = record {
    filled = ordered.filled;
    eof = λ h. ordered.eof (sym (asked_sent f.eof) ∙ h);
    close = ordered.close;
    last = λ h. let no : false ≡ true = is ∙ h in absurd (cc);
  };
}

pub eof_moves : (c : ChannelState) → IsSound c → Moves c (eof_turn c).channel (eof_turn c).packets (eof_part c)
eof_moves c sound =
    channel_moves c (flushed true c.head (with_eof c.flow)) (eof_part c) refl refl refl (λ _. refl) sound
    (flush_does true c.head c.flow (with_eof c.flow) (eof_part c) (λ no. absurd (cc)) (eof_by (is_sent c.flow.close) c.flow refl sound.flow))

with_close_asked : (f : ChannelFlow) → IsOrdered f → Readies f (with_close f) close_part
with_close_asked f ordered = record {
  pending = sym (append-nil f.pending);
  window = omega arith;
  eof_sent = refl;
  close_sent = asked_sent f.close;
  eof = sym (and-true (is_unasked f.eof));
  close = asked_unasked f.close ∙ sym (and-false (is_unasked f.close));
  taking = ap (λ (k : Bool). is_unasked f.eof && k) (asked_unasked f.close) ∙ and-false (is_unasked f.eof) ∙ sym (and-false (takes f));
  ordered = record {
    filled = ordered.filled;
    eof = ordered.eof;
    close = λ h. ordered.close (sym (asked_sent f.close) ∙ h);
    last = λ h. ordered.last (sym (asked_sent f.close) ∙ h);
  };
}

pub close_moves : (c : ChannelState) → IsSound c → Moves c (close_turn c).channel (close_turn c).packets close_part
close_moves c sound =
    channel_moves c (flushed true c.head (with_close c.flow)) close_part refl refl refl (λ _. refl) sound
    (flush_does true c.head c.flow (with_close c.flow) close_part (λ no. absurd (cc)) (with_close_asked c.flow sound.flow))

-- windows

not_awaited : (e : Bool) (o : Opener) → e ≡ true → is_some (awaited_in e o) ≡ true → ⊥
not_awaited true o up h = absurd (cc)
not_awaited false o up h = absurd (cc)

pub grant_moves : (amount : ℕ) (exchanging : Bool) (c : ChannelState) → IsSound c → Moves c (grant_turn amount exchanging c).channel (grant_turn amount exchanging c).packets (grant_part amount exchanging c)
grant_moves amount exchanging c sound =
    let more : ℕ = held amount c.flow.window in
    let p : CallPart = record no_part { gain = more; sends = not exchanging; ends = true } in
    either_moves c.head.established c (flushed exchanging c.head (raised amount c.flow)) p sound
    (λ up. channel_moves c (flushed exchanging c.head (raised amount c.flow)) p refl refl refl (λ waits. absurd (not_awaited c.head.established c.head.opener up waits)) sound
    (flush_does exchanging c.head c.flow (raised amount c.flow) p (not_true exchanging) (risen c.flow more p refl refl refl refl refl sound.flow)))

returned_packets : (amounts : List ℕ) → amounts_in (adjust_packets amounts) ≡ amounts
returned_packets [] = refl
returned_packets (n ∷ amounts) = ap (λ (ns : List ℕ). n ∷ ns) (returned_packets amounts)

adjusted_moves : (h : Head) (f : ChannelFlow) (p : CallPart) (amounts : List ℕ) → FlowMoves h f f [] p → FlowMoves h f f (adjust_packets amounts) p
adjusted_moves h f p [] m = m
adjusted_moves h f p (n ∷ amounts) m =
    let rest : FlowMoves h f f (adjust_packets amounts) p = adjusted_moves h f p amounts m in
    record {
      balance = rest.balance;
      window = rest.window;
      longest = rest.longest;
      order = rest.order;
      eof = rest.eof;
      close = rest.close;
      taking = rest.taking;
      prompt = rest.prompt;
      ends = rest.ends;
    }

refilled_by : (b : Bool) (target left : ℕ) → is_low target left ≡ b → (if b then target else left) ≡ left + sum (if b then (target - left) ∷ [] else [])
refilled_by true target left is = let low : left < target / 2 = ltb-true left (target / 2) is in omega arith
refilled_by false target left is = omega arith

refilled_sum : (target left : ℕ) → refilled target left ≡ left + sum (adjust_of target left)
refilled_sum target left = refilled_by (is_low target left) target left refl

received_by : (b : Bool) (len target : ℕ) (c : ChannelState) → IsSound c →
    Moves c (record c { own_window = if b then refilled target (c.own_window - len) else c.own_window }) (adjust_packets (if b then adjust_of target (c.own_window - len) else []))
    (if b then record no_part { used = len; returned = adjust_of target (c.own_window - len) } else no_part)
received_by true len target c sound =
    let p : CallPart = record no_part { used = len; returned = adjust_of target (c.own_window - len) } in
    record {
      head = refl;
      own = refilled_sum target (c.own_window - len);
      returned = returned_packets (adjust_of target (c.own_window - len));
      flow = adjusted_moves c.head c.flow p (adjust_of target (c.own_window - len)) (silent_moves c.head c.flow c.flow p refl refl (as_was c.flow p refl refl refl refl refl sound.flow));
      sound = record { flow = sound.flow; unopened = sound.unopened };
    }
received_by false len target c sound = still_moves c sound

pub received_moves : (len target : ℕ) (c : ChannelState) → IsSound c → Moves c (received_turn len target c).channel (received_turn len target c).packets (received_part len target c)
received_moves len target c sound = received_by c.head.established len target c sound

-- opens

pub confirmed_sound : (recipient window packet : ℕ) (c : ChannelState) → IsSound c → IsSound (confirmed recipient window packet c)
confirmed_sound recipient window packet c sound =
    record { flow = record { filled = sound.flow.filled; eof = sound.flow.eof; close = sound.flow.close; last = sound.flow.last }; unopened = λ h. absurd (cc) }

pub accepted_sound : (c : ChannelState) → IsSound c → IsSound (accepted c)
accepted_sound c sound = record { flow = sound.flow; unopened = λ h. absurd (cc) }

accepted_by : (b : Bool) (c : ChannelState) → IsSound c → Moves c (if b then accepted c else c) [] (if b then record no_part { answer = Some (accepted_head c.head) } else no_part)
accepted_by true c sound =
    let p : CallPart = record no_part { answer = Some (accepted_head c.head) } in
    record {
      head = refl;
      own = omega arith;
      returned = refl;
      flow = silent_moves (accepted_head c.head) c.flow c.flow p refl refl (as_was c.flow p refl refl refl refl refl sound.flow);
      sound = accepted_sound c sound;
    }
accepted_by false c sound = still_moves c sound

pub accept_moves : (c : ChannelState) → IsSound c → Moves c (accept_turn c).channel [] (accept_part c)
accept_moves c sound = accepted_by (is_reserved c) c sound

confirmed_by : (b : Bool) (recipient window packet : ℕ) (c : ChannelState) → b ≡ is_some (awaited_by (Some c)) → IsSound c →
    Moves c (if b then confirmed recipient window packet c else c) [] (if b then record no_part { gain = window; answer = Some (confirmed_head recipient packet c.head) } else no_part)
confirmed_by true recipient window packet c is sound =
    let p : CallPart = record no_part { gain = window; answer = Some (confirmed_head recipient packet c.head) } in
    let first : c.flow.window + window ≡ window = omega (arith, sound.unopened (sym is)) in
    let P : ℕ → Type 0 = λ n. Readies c.flow (record c.flow { window = n }) p in
    record {
      head = refl;
      own = omega arith;
      returned = refl;
      flow = silent_moves (confirmed_head recipient packet c.head) c.flow (record c.flow { window = window }) p refl refl (subst P first (risen c.flow window p refl refl refl refl refl sound.flow));
      sound = confirmed_sound recipient window packet c sound;
    }
confirmed_by false recipient window packet c is sound = still_moves c sound

pub confirm_moves : (recipient window packet : ℕ) (c : ChannelState) → IsSound c → Moves c (confirm_turn recipient window packet c).channel [] (confirm_part recipient window packet c)
confirm_moves recipient window packet c sound = confirmed_by (is_some (awaited_by (Some c))) recipient window packet c refl sound

-- while an exchange runs there is room for no bytes
pub no_room : (h : Head) (f : ChannelFlow) → room_of true h f ≡ 0
no_room h f = ap (λ (b : Bool). if b && ltb 0 h.packet_size then f.window else 0) (and-false h.established)
