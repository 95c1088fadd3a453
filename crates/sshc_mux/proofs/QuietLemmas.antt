-- While an exchange runs no packet of bytes is written.
use Rattle.std.proofs.Common.{◌≡◌, ℕ, Bool, true, false, not, ◌&&◌, List, [], ◌∷◌, ◌++◌, length, eqb, if◌then◌else◌, Option, Some, None, refl, ap, sym, subst, ◌∙◌}
use Rattle.std.specs.List.{AllByRecursion}
use Rattle.sshc_mux.specs.declared.chunk.Stream.{Stream}
use Rattle.sshc_mux.specs.ChannelState.{ChannelFlow, Head, ChannelState, TableState, channel_of}
use Rattle.sshc_mux.specs.Packets.{Packet, Piece, Eof, Close, Adjust}
use Rattle.sshc_mux.specs.ChannelTable.{said_by, unmoved, removed, turned, taken_away, no_packets_of, accept_turn, confirm_turn, is_awaited, is_up, Turn, data_turn, eof_turn, close_turn, grant_turn, received_turn, last_packets}
use Rattle.sshc_mux.specs.ChannelTable.Opens.{next_number, opened_by_user, reserved_by_server, is_reserved}
use Rattle.sshc_mux.specs.ChannelTable.Sending.{FlowTurn, due_of, emptied, ends_of, flushed, is_due, may_end, room_of, sent_of, still}
use Rattle.sshc_mux.specs.ChannelTable.Windows.{raised, adjust_packets, returned}
use Rattle.sshc_mux.specs.ChannelTable.Ends.{is_sent, takes, with_pending, flush_with, with_eof, with_close}
use Rattle.sshc_mux.specs.ChannelAccount.{Call, OpenUser, ReserveServer, SettleServer, Confirm, Fail, Bytes, AskEof, AskClose, PeerClose, Grant, FlushAll, Received, IsNoData, called, opened, bytes_in, packets_in, may_send}
use Rattle.sshc_mux.proofs.SendingLemmas.{sent-nothing}
use Rattle.sshc_mux.proofs.TurnLemmas.{no_room}

abbrev Silent : List Packet → Type 0
Silent packets = AllByRecursion IsNoData packets

said_silent : (c : ChannelState) (ps : List Packet) → Silent ps → Silent (packets_in (said_by c ps))
said_silent c [] all = tt
said_silent c (p ∷ ps) (one, all) = (one, said_silent c ps all)

opened_silent : (o : Option ℕ) (channel : ℕ → ChannelState) (t : TableState) → Silent (packets_in (opened o channel t).output)
opened_silent None channel t = tt
opened_silent (Some n) channel t = tt

turned_silent : (o : Option ChannelState) (n : ℕ) (turn : ChannelState → Turn) (t : TableState) → ((c : ChannelState) → Silent (turn c).packets) → Silent (packets_in (turned n o turn t).output)
turned_silent None n turn t silent_so = tt
turned_silent (Some c) n turn t silent_so = said_silent c (turn c).packets (silent_so c)

silent_if : (b : Bool) (turn : FlowTurn) (f : ChannelFlow) → Silent turn.packets → Silent (if b then turn else still f).packets
silent_if true turn f all = all
silent_if false turn f all = tt

adjusts_silent : (amounts : List ℕ) → Silent (adjust_packets amounts)
adjusts_silent [] = tt
adjusts_silent (n ∷ amounts) = (tt, adjusts_silent amounts)

if_taken_silent : (b : Bool) (n : ℕ) (c : ChannelState) (last : List Packet) (t : TableState) → Silent last → Silent (packets_in (if b then record { table = removed n t; output = said_by c last } else unmoved t).output)
if_taken_silent true n c last t all = said_silent c last all
if_taken_silent false n c last t all = tt

taken_silent : (o : Option ChannelState) (n : ℕ) (goes : ChannelState → Bool) (last : ChannelState → List Packet) (t : TableState) → ((c : ChannelState) → Silent (last c)) → Silent (packets_in (taken_away n o goes last t).output)
taken_silent None n goes last t all = tt
taken_silent (Some c) n goes last t all = if_taken_silent (goes c) n c (last c) t (all c)

-- ---- ends alone

two_silent : (a b : List Packet) → Silent a → Silent b → Silent (a ++ b)
two_silent [] b one other = other
two_silent (p ∷ a) b (one, more) other = (one, two_silent a b more other)

end_silent : (b : Bool) (end : Packet) → IsNoData end → Silent (if b then end ∷ [] else [])
end_silent true end is = (is, tt)
end_silent false end is = tt

due_silent : (f : ChannelFlow) → Silent (due_of f)
due_silent f = two_silent (if is_due f.eof then Eof ∷ [] else []) (if is_due f.close then Close ∷ [] else []) (end_silent (is_due f.eof) Eof tt) (end_silent (is_due f.close) Close tt)

ends_silent : (may : Bool) (f : ChannelFlow) → Silent (if may then due_of f else [])
ends_silent true f = due_silent f
ends_silent false f = tt

last_silent : (sent : Bool) → Silent (if sent then [] else Close ∷ [])
last_silent true = tt
last_silent false = (tt, tt)

-- while an exchange runs a flush writes ends alone
flush_silent : (h : Head) (f : ChannelFlow) → Silent (flushed true h f).packets
unfolding flushed
flush_silent h f =
    let empty : ChannelFlow = emptied (room_of true h f) f in
    two_silent (sent_of h.packet_size (room_of true h f) f.pending) (ends_of h empty)
    (subst Silent (sym (ap (λ (r : ℕ). sent_of h.packet_size r f.pending) (no_room h f) ∙ sent-nothing h.packet_size f.pending)) tt)
    (ends_silent (may_end h empty) empty)

data_silent : (stream : Stream) (bytes : List ℕ) (exchanging : Bool) (c : ChannelState) → not exchanging ≡ false → Silent (data_turn stream bytes exchanging c).packets
data_silent stream bytes true c h = silent_if (takes c.flow && not (eqb (length bytes) 0)) (flush_with stream bytes true c.head c.flow) c.flow (flush_silent c.head (with_pending stream bytes c.flow))
data_silent stream bytes false c h = absurd (cc)

grant_silent : (amount : ℕ) (exchanging : Bool) (c : ChannelState) → not exchanging ≡ false → Silent (grant_turn amount exchanging c).packets
grant_silent amount true c h = silent_if c.head.established (flushed true c.head (raised amount c.flow)) c.flow (flush_silent c.head (raised amount c.flow))
grant_silent amount false c h = absurd (cc)

pub silent : (call : Call) (t : TableState) → may_send call ≡ false → Silent (packets_in (called call t).output)
silent (OpenUser window packet ticket) t h = opened_silent (next_number t) (λ n. opened_by_user n window packet ticket) t
silent (ReserveServer recipient window packet own) t h = opened_silent (next_number t) (λ n. reserved_by_server n recipient window packet own) t
silent (SettleServer n true) t h = turned_silent (channel_of n t.channels) n accept_turn t (λ c. tt)
silent (SettleServer n false) t h = taken_silent (channel_of n t.channels) n is_reserved no_packets_of t (λ c. tt)
silent (Confirm n recipient window packet) t h = turned_silent (channel_of n t.channels) n (confirm_turn recipient window packet) t (λ c. tt)
silent (Fail n) t h = taken_silent (channel_of n t.channels) n is_awaited no_packets_of t (λ c. tt)
silent (Bytes n stream bytes exchanging) t h = turned_silent (channel_of n t.channels) n (data_turn stream bytes exchanging) t (λ c. data_silent stream bytes exchanging c h)
silent (AskEof n) t h = turned_silent (channel_of n t.channels) n eof_turn t (λ c. flush_silent c.head (with_eof c.flow))
silent (AskClose n) t h = turned_silent (channel_of n t.channels) n close_turn t (λ c. flush_silent c.head (with_close c.flow))
silent (PeerClose n) t h = taken_silent (channel_of n t.channels) n is_up last_packets t (λ c. last_silent (is_sent c.flow.close))
silent (Grant n amount exchanging) t h = turned_silent (channel_of n t.channels) n (grant_turn amount exchanging) t (λ c. grant_silent amount exchanging c h)
silent FlushAll t h = absurd (cc)
silent (Received n len target) t h = turned_silent (channel_of n t.channels) n (received_turn len target) t (λ c. adjusts_silent (returned len target c))

-- ---- so no bytes are sent

no_bytes : (ps : List Packet) → Silent ps → bytes_in ps ≡ []
no_bytes [] all = refl
no_bytes (Piece stream bytes ∷ ps) all = absurd all.0
no_bytes (Eof ∷ ps) all = no_bytes ps all.1
no_bytes (Close ∷ ps) all = no_bytes ps all.1
no_bytes (Adjust amount ∷ ps) all = no_bytes ps all.1

pub quiet : (call : Call) (t : TableState) → may_send call ≡ false → bytes_in (packets_in (called call t).output) ≡ []
quiet call t h = no_bytes (packets_in (called call t).output) (silent call t h)
