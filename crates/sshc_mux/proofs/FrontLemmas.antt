-- Bytes that are taken when none wait: to let them wait and then send is to send a front of them at once and let the
-- rest wait.
use Rattle.std.proofs.Common.{◌≡◌, ℕ, ◌+◌, ◌-◌, ◌<◌, min, Bool, true, false, List, [], ◌∷◌, ◌++◌, length, take, drop, if◌then◌else◌, refl, ap, sym, ◌∙◌, Ok, arith, inl, inr, length-take, length-drop}
use Rattle.std.proofs.lemmas.List.{append-nil}
use Rattle.std.proofs.lemmas.Bool.{cases_lt}
use Rattle.sshc_wire.specs.declared.record.Record.{Record}
use Rattle.sshc_wire.specs.Outgoing.{Outgoing, shown}
use Rattle.sshc_mux.specs.declared.chunk.Stream.{Stream}
use Rattle.sshc_mux.specs.declared.channel.Stage.{Stage}
use Rattle.sshc_mux.specs.declared.channel.Stage.TheVariants as Stages
use Rattle.sshc_mux.specs.ChannelState.{Head, ChannelFlow, ChannelState, Waiting}
use Rattle.sshc_mux.specs.Packets.{Packet, Eof, Close, payloads}
use Rattle.sshc_mux.specs.ChannelTable.{Turned, in_flow}
use Rattle.sshc_mux.specs.ChannelTable.Sending.{FlowTurn, cut, pieces_of, count_of, sent_of, left_of, room_of, emptied, may_end, is_due, done, due_of, ended_if, flushed}
use Rattle.sshc_mux.specs.ChannelTable.Ends.{is_unasked, takes, waiting_of, with_pending, flush_with}
use Rattle.sshc_mux.proofs.PieceLemmas.{take-min, drop-past}
use Rattle.sshc_mux.proofs.SendingLemmas.{left-whole, left-part}
use Rattle.sshc_mux.proofs.TestLemmas.{and_left, and_right}

rest-some : (stream : Stream) (bytes : List ℕ) → 0 < length bytes → record { stream = stream; bytes = bytes } ∷ [] ≡ waiting_of stream bytes
rest-some stream [] some = absurd (omega arith)
rest-some stream (b ∷ bytes) some = refl

-- the rest of the bytes
left-rest : (room count : ℕ) (stream : Stream) (bytes : List ℕ) → count ≡ min (length bytes) room →
    left_of room (record { stream = stream; bytes = bytes } ∷ []) ≡ waiting_of stream (drop count bytes)
left-rest room count stream bytes is = elim (cases_lt room (length bytes)) [
  | inl short ↦
      let same : room ≡ count = omega arith in
      left-part room (record { stream = stream; bytes = bytes }) [] short
      ∙ ap (λ (n : ℕ). let w : Waiting = record { stream = stream; bytes = drop n bytes } in w ∷ []) same
      ∙ rest-some stream (drop count bytes) (omega (arith, length-drop count bytes))
  | inr fits ↦
      left-whole room (record { stream = stream; bytes = bytes }) [] fits
      ∙ ap (λ (bs : List ℕ). waiting_of stream bs) (sym (drop-past count bytes (omega arith)))
]

-- an end that nobody asked for isn't due
unasked_due : (s : Stage) → is_unasked s ≡ true → is_due s ≡ false
unasked_due Stages.Unasked h = refl
unasked_due Stages.Asked h = absurd (cc)
unasked_due Stages.Sent h = absurd (cc)

unasked_done : (s : Stage) → is_unasked s ≡ true → done s ≡ s
unasked_done Stages.Unasked h = refl
unasked_done Stages.Asked h = absurd (cc)
unasked_done Stages.Sent h = absurd (cc)

no_ends : (b e k : Bool) → e ≡ false → k ≡ false → (if b then ((if e then Eof ∷ [] else []) ++ (if k then Close ∷ [] else [])) else []) ≡ []
no_ends true true k eof close = absurd (cc)
no_ends true false true eof close = absurd (cc)
no_ends true false false eof close = refl
no_ends false e k eof close = refl

not_ended : (may : Bool) (f : ChannelFlow) → done f.eof ≡ f.eof → done f.close ≡ f.close → ended_if may f ≡ f
not_ended true f eof close = ap (λ (s : Stage). record f { eof = s; close = done f.close }) eof ∙ ap (λ (s : Stage). record f { close = s }) close
not_ended false f eof close = refl

-- a front is sent at once, and the rest waits
front_sent : (stream : Stream) (bytes front rest : List ℕ) (exchanging : Bool) (h : Head) (f : ChannelFlow) (room count : ℕ) →
    f.pending ≡ [] → takes f ≡ true → room ≡ room_of exchanging h f → count ≡ min (length bytes) room → front ≡ take count bytes → rest ≡ drop count bytes →
    flush_with stream bytes exchanging h f
    ≡ record { flow = record f { window = f.window - count; pending = waiting_of stream rest }; packets = pieces_of stream (cut h.packet_size front) }
unfolding flushed
front_sent stream bytes front rest exchanging h f room count empty taking room_is count_is front_is rest_is =
    let some : ℕ = room_of exchanging h f in
    let w : Waiting = record { stream = stream; bytes = bytes } in
    let after : ChannelFlow = emptied some (with_pending stream bytes f) in
    let alone : f.pending ++ w ∷ [] ≡ w ∷ [] = ap (λ (ws : List Waiting). ws ++ w ∷ []) empty in
    let fits : count ≡ min (length bytes) some = count_is ∙ ap (λ (n : ℕ). min (length bytes) n) room_is in
    let sent : sent_of h.packet_size some (f.pending ++ w ∷ []) ≡ pieces_of stream (cut h.packet_size front) =
    ap (λ (ws : List Waiting). sent_of h.packet_size some ws) alone
    ∙ append-nil (pieces_of stream (cut h.packet_size (take some bytes)))
    ∙ ap (λ (bs : List ℕ). pieces_of stream (cut h.packet_size bs)) (take-min some count bytes fits ∙ sym front_is) in
    let left : left_of some (f.pending ++ w ∷ []) ≡ waiting_of stream rest =
    ap (λ (ws : List Waiting). left_of some ws) alone ∙ left-rest some count stream bytes fits ∙ ap (λ (bs : List ℕ). waiting_of stream bs) (sym rest_is) in
    let used : min some (length bytes + 0) ≡ count = omega arith in
    let window : f.window - min some (count_of (f.pending ++ w ∷ [])) ≡ f.window - count =
    ap (λ (ws : List Waiting). f.window - min some (count_of ws)) alone ∙ ap (λ (n : ℕ). f.window - n) used in
    let eof : is_unasked f.eof ≡ true = and_left (is_unasked f.eof) (is_unasked f.close) taking in
    let close : is_unasked f.close ≡ true = and_right (is_unasked f.eof) (is_unasked f.close) taking in
    let flow : ended_if (may_end h after) after ≡ record f { window = f.window - count; pending = waiting_of stream rest } =
    not_ended (may_end h after) after (unasked_done f.eof eof) (unasked_done f.close close)
    ∙ ap (λ (ws : List Waiting). record after { pending = ws }) left
    ∙ ap (λ (n : ℕ). record f { window = n; pending = waiting_of stream rest }) window in
    let packets : sent_of h.packet_size some (f.pending ++ w ∷ []) ++ (if may_end h after then due_of after else []) ≡ pieces_of stream (cut h.packet_size front) =
    ap (λ (ps : List Packet). sent_of h.packet_size some (f.pending ++ w ∷ []) ++ ps) (no_ends (may_end h after) (is_due f.eof) (is_due f.close) (unasked_due f.eof eof) (unasked_due f.close close))
    ∙ append-nil (sent_of h.packet_size some (f.pending ++ w ∷ [])) ∙ sent in
    ap (λ (k : ChannelFlow). let t : FlowTurn = record { flow = k; packets = sent_of h.packet_size some (f.pending ++ w ∷ []) ++ (if may_end h after then due_of after else []) } in t) flow
    ∙ ap (λ (ps : List Packet). let t : FlowTurn = record { flow = record f { window = f.window - count; pending = waiting_of stream rest }; packets = ps } in t) packets

-- the channel and the outbox after it
pub front_turned : {A : Type 0} (x : A) (stream : Stream) (bytes front rest : List ℕ) (exchanging : Bool) (c after : ChannelState) (room count : ℕ) (output : List Record) (old new : Outgoing) →
    c.flow.pending ≡ [] → takes c.flow ≡ true → room ≡ room_of exchanging c.head c.flow → count ≡ min (length bytes) room → front ≡ take count bytes → rest ≡ drop count bytes →
    output ≡ payloads c.head.recipient (pieces_of stream (cut c.head.packet_size front)) →
    after ≡ record c { flow = record c.flow { pending = c.flow.pending ++ waiting_of stream rest; window = c.flow.window - length front } } →
    new.records ≡ old.records ++ shown old.muted output → new.muted ≡ old.muted →
    Turned (in_flow (flush_with stream bytes exchanging) c) c after old new (Ok x)
front_turned x stream bytes front rest exchanging c after room count output old new empty taking room_is count_is front_is rest_is said_is after_is added muted =
    let f : ChannelFlow = c.flow in
    let alike = front_sent stream bytes front rest exchanging c.head f room count empty taking room_is count_is front_is rest_is in
    let short : length front ≡ count = ap (λ (bs : List ℕ). length bs) front_is ∙ omega (arith, length-take count bytes) in
    let channel : after ≡ record c { flow = record f { window = f.window - count; pending = waiting_of stream rest } } =
    after_is
    ∙ ap (λ (n : ℕ). record c { flow = record f { pending = f.pending ++ waiting_of stream rest; window = f.window - n } }) short
    ∙ ap (λ (ws : List Waiting). record c { flow = record f { pending = ws ++ waiting_of stream rest; window = f.window - count } }) empty in
    let packets : output ≡ payloads c.head.recipient (flush_with stream bytes exchanging c.head f).packets = said_is ∙ ap (λ (t : FlowTurn). payloads c.head.recipient t.packets) (sym alike) in (
      channel ∙ ap (λ (t : FlowTurn). record c { flow = t.flow }) (sym alike),
      added ∙ ap (λ (rs : List Record). old.records ++ shown old.muted rs) packets,
      muted,
    )
