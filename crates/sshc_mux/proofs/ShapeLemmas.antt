-- What every call does is one of four things: it opens a channel, runs one channel's turn, removes one, or flushes
-- each.
use Rattle.std.proofs.Common.{◌≡◌, ℕ, ◌-◌, Bool, true, false, not, ◌&&◌, List, [], ◌∷◌, ◌++◌, length, eqb, ltb, if◌then◌else◌, refl, ap, ◌∙◌, inl, inr}
use Rattle.std.proofs.lemmas.List.{append-nil}
use Rattle.sshc_mux.specs.declared.chunk.Stream.{Stream}
use Rattle.sshc_mux.specs.ChannelState.{Head, ChannelFlow, ChannelState, TableState}
use Rattle.sshc_mux.specs.Packets.{Packet, Close}
use Rattle.sshc_mux.specs.ChannelTable.{Effect, turn_at, take_at, no_packets_of, flush, accept_turn, confirm_turn, is_awaited, is_up, Turn, data_turn, eof_turn, close_turn, grant_turn, received_turn, last_packets}
use Rattle.sshc_mux.specs.ChannelTable.Opens.{next_number, opened_by_user, reserved_by_server, is_reserved}
use Rattle.sshc_mux.specs.ChannelTable.Sending.{FlowTurn, still, sent_of, left_of, due_of, flushed}
use Rattle.sshc_mux.specs.ChannelTable.Windows.{raised, adjust_of, adjust_packets}
use Rattle.sshc_mux.specs.ChannelTable.Ends.{takes, is_sent, with_pending, flush_with, with_eof, with_close}
use Rattle.sshc_mux.specs.ChannelAccount.{Call, OpenUser, ReserveServer, SettleServer, Confirm, Fail, Bytes, AskEof, AskClose, PeerClose, Grant, FlushAll, Received, called, opened, bytes_in, IsMade}
use Rattle.sshc_mux.proofs.SendingLemmas.{sent-nothing}
use Rattle.sshc_mux.proofs.LifeLemmas.{accept_number, confirm_number}

-- a turn keeps the number, and writes nothing on a channel that isn't established
pub record IsTurn (turn : ChannelState → Turn) : Type 0 where
  pub number : (c : ChannelState) → (turn c).channel.head.number ≡ c.head.number
  pub silent : (c : ChannelState) → c.head.established ≡ false → (turn c).packets ≡ []

-- the last packets of a channel hold no bytes, and there are no last packets if it isn't established
pub record AreLast (goes : ChannelState → Bool) (last : ChannelState → List Packet) : Type 0 where
  pub bytes : (c : ChannelState) → bytes_in (last c) ≡ []
  pub silent : (c : ChannelState) → goes c ≡ true → c.head.established ≡ false → last c ≡ []

pub record Shapes (P : Effect → Type 0) (t : TableState) : Type 0 where
  pub opens : (channel : ℕ → ChannelState) → ((n : ℕ) → IsMade n (channel n)) → P (opened (next_number t) channel t)
  pub turns : (n : ℕ) (turn : ChannelState → Turn) → IsTurn turn → P (turn_at n turn t)
  pub takes : (n : ℕ) (goes : ChannelState → Bool) (last : ChannelState → List Packet) → AreLast goes last → P (take_at n goes last t)
  pub flushes : P (flush t)

pub silent_flush : (exchanging : Bool) (h : Head) (f : ChannelFlow) → h.established ≡ false → (flushed exchanging h f).packets ≡ []
unfolding flushed
silent_flush exchanging h f down =
    ap (λ (b : Bool). sent_of h.packet_size (if b && not exchanging && ltb 0 h.packet_size then f.window else 0) f.pending
    ++ (if b && eqb (length (left_of (if b && not exchanging && ltb 0 h.packet_size then f.window else 0) f.pending)) 0 then due_of f else [])) down
    ∙ append-nil (sent_of h.packet_size 0 f.pending)
    ∙ sent-nothing h.packet_size f.pending

silent_if : (b : Bool) (turn : FlowTurn) (f : ChannelFlow) → turn.packets ≡ [] → (if b then turn else still f).packets ≡ []
silent_if true turn f silent = silent
silent_if false turn f silent = refl

accepting : IsTurn accept_turn
accepting = record { number = accept_number; silent = λ c down. refl }

confirming : (recipient window packet : ℕ) → IsTurn (confirm_turn recipient window packet)
confirming recipient window packet = record { number = confirm_number recipient window packet; silent = λ c down. refl }

pub taking_bytes : (stream : Stream) (bytes : List ℕ) (exchanging : Bool) → IsTurn (data_turn stream bytes exchanging)
taking_bytes stream bytes exchanging = record {
  number = λ c. refl;
  silent = λ c down. silent_if (takes c.flow && not (eqb (length bytes) 0)) (flush_with stream bytes exchanging c.head c.flow) c.flow (silent_flush exchanging c.head (with_pending stream bytes c.flow) down);
}

pub asking_eof : IsTurn eof_turn
asking_eof = record { number = λ c. refl; silent = λ c down. silent_flush true c.head (with_eof c.flow) down }

pub asking_close : IsTurn close_turn
asking_close = record { number = λ c. refl; silent = λ c down. silent_flush true c.head (with_close c.flow) down }

pub granting : (amount : ℕ) (exchanging : Bool) → IsTurn (grant_turn amount exchanging)
granting amount exchanging = record {
  number = λ c. refl;
  silent = λ c down. silent_if c.head.established (flushed exchanging c.head (raised amount c.flow)) c.flow (silent_flush exchanging c.head (raised amount c.flow) down);
}

pub receiving : (len target : ℕ) → IsTurn (received_turn len target)
receiving len target = record {
  number = λ c. refl;
  silent = λ c down. ap (λ (b : Bool). adjust_packets (if b then adjust_of target (c.own_window - len) else [])) down;
}

pub without_packets : (goes : ChannelState → Bool) → AreLast goes no_packets_of
without_packets goes = record { bytes = λ c. refl; silent = λ c h down. refl }

last_bytes : (k : Bool) → bytes_in (if k then [] else Close ∷ []) ≡ []
last_bytes true = refl
last_bytes false = refl

both : (b : Bool) → b ≡ true → b ≡ false → ⊥
both true up down = absurd (cc)
both false up down = absurd (cc)

pub closing_last : AreLast is_up last_packets
closing_last = record {
  bytes = λ c. last_bytes (is_sent c.flow.close);
  silent = λ c up down. absurd (both c.head.established up down);
}

-- what holds of the four things holds of every call
pub by_shape : (P : Effect → Type 0) (t : TableState) → Shapes P t → (call : Call) → P (called call t)
by_shape P t shapes (OpenUser window packet ticket) = shapes.opens (λ n. opened_by_user n window packet ticket) (λ n. inl (window, packet, ticket, refl))
by_shape P t shapes (ReserveServer recipient window packet own) = shapes.opens (λ n. reserved_by_server n recipient window packet own) (λ n. inr (recipient, window, packet, own, refl))
by_shape P t shapes (SettleServer n true) = shapes.turns n accept_turn accepting
by_shape P t shapes (SettleServer n false) = shapes.takes n is_reserved no_packets_of (without_packets is_reserved)
by_shape P t shapes (Confirm n recipient window packet) = shapes.turns n (confirm_turn recipient window packet) (confirming recipient window packet)
by_shape P t shapes (Fail n) = shapes.takes n is_awaited no_packets_of (without_packets is_awaited)
by_shape P t shapes (Bytes n stream bytes exchanging) = shapes.turns n (data_turn stream bytes exchanging) (taking_bytes stream bytes exchanging)
by_shape P t shapes (AskEof n) = shapes.turns n eof_turn asking_eof
by_shape P t shapes (AskClose n) = shapes.turns n close_turn asking_close
by_shape P t shapes (PeerClose n) = shapes.takes n is_up last_packets closing_last
by_shape P t shapes (Grant n amount exchanging) = shapes.turns n (grant_turn amount exchanging) (granting amount exchanging)
by_shape P t shapes FlushAll = shapes.flushes
by_shape P t shapes (Received n len target) = shapes.turns n (received_turn len target) (receiving len target)
