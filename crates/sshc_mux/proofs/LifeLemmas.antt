-- The account of a channel over a list of calls.
use Rattle.std.proofs.Common.{◌≡◌, ℕ, Bool, true, false, List, [], ◌∷◌, eqb, if◌then◌else◌, Option, Some, None, is_some, refl, sym, subst, ◌∙◌, inl, inr}
use Rattle.std.proofs.lemmas.Bool.Decides.{eqb_tells}
use Rattle.sshc_mux.specs.ChannelState.{ChannelState, TableState, channel_of}
use Rattle.sshc_mux.specs.Packets.{Packet}
use Rattle.sshc_mux.specs.ChannelTable.{turn_at, take_at, no_packets_of, flush, accept_turn, confirm_turn, is_awaited, is_up, close_peer, Turn, flush_turn, data_turn, eof_turn, close_turn, grant_turn, received_turn, last_packets}
use Rattle.sshc_mux.specs.ChannelTable.Opens.{next_number, opened_by_user, reserved_by_server, awaited_by, accepted, confirmed, is_reserved}
use Rattle.sshc_mux.specs.ChannelAccount.{Call, OpenUser, ReserveServer, SettleServer, Confirm, Fail, Bytes, AskEof, AskClose, PeerClose, Grant, FlushAll, Received, called, opened, packets_by, IsSound, CallPart, no_part, bytes_part, eof_part, close_part, grant_part, flush_part, accept_part, confirm_part, received_part, part, Moves}
use Rattle.sshc_mux.proofs.TurnLemmas.{still_moves, flush_turn_moves, data_moves, eof_moves, close_moves, grant_moves, received_moves, confirm_moves, accept_moves}
use Rattle.sshc_mux.specs.Places.{numbers, Apart}
use Rattle.sshc_mux.proofs.NumbersLemmas.{append_found}
use Rattle.sshc_mux.proofs.CallLemmas.{Outcome, turn_outcome, take_outcome, flush_outcome}

-- turns keep the channel's number

accept_by : (b : Bool) (c : ChannelState) → (if b then accepted c else c).head.number ≡ c.head.number
accept_by true c = refl
accept_by false c = refl

pub accept_number : (c : ChannelState) → (accept_turn c).channel.head.number ≡ c.head.number
accept_number c = accept_by (is_reserved c) c

confirm_by : (b : Bool) (recipient window packet : ℕ) (c : ChannelState) → (if b then confirmed recipient window packet c else c).head.number ≡ c.head.number
confirm_by true recipient window packet c = refl
confirm_by false recipient window packet c = refl

pub confirm_number : (recipient window packet : ℕ) (c : ChannelState) → (confirm_turn recipient window packet c).channel.head.number ≡ c.head.number
confirm_number recipient window packet c = confirm_by (is_some (awaited_by (Some c))) recipient window packet c

moves_is : (c after c2 : ChannelState) (own packets : List Packet) (p : CallPart) → c2 ≡ after → packets ≡ own → Moves c after own p → Moves c c2 packets p
moves_is c after c2 own packets p channel_is packets_is moves =
    let P : ChannelState → Type 0 = λ x. Moves c x own p in
    let Q : List Packet → Type 0 = λ ps. Moves c c2 ps p in
    subst Q (sym packets_is) (subst P (sym channel_is) moves)

-- the named channel takes its turn, and another stays
by_name : (n id : ℕ) (c c2 after : ChannelState) (packets own : List Packet) (p : CallPart) →
    Outcome n id c c2 after packets own → IsSound c → (id ≡ n → Moves c after own p) → Moves c c2 packets (if eqb id n then p else no_part)
by_name n id c c2 after packets own p outcome sound moves =
    let P : Bool → Type 0 = λ b. Moves c c2 packets (if b then p else no_part) in
    elim (eqb_tells id n) [
      | inl w ↦ subst P (sym w.0) (moves_is c after c2 own packets p (outcome.same w.1).0 (outcome.same w.1).1 (moves w.1))
      | inr w ↦ subst P (sym w.0) (moves_is c c c2 [] packets no_part (outcome.other w.1).0 (outcome.other w.1).1 (still_moves c sound))
    ]

same_if : {A : Type 0} (b : Bool) (x : A) → (if b then x else x) ≡ x
same_if true x = refl
same_if false x = refl

-- the same where the call has no part in the account
quietly : (n id : ℕ) (c c2 after : ChannelState) (packets own : List Packet) → Outcome n id c c2 after packets own → IsSound c → (id ≡ n → Moves c after own no_part) → Moves c c2 packets no_part
quietly n id c c2 after packets own outcome sound moves =
    let P : CallPart → Type 0 = λ p. Moves c c2 packets p in
    subst P (same_if (eqb id n) no_part) (by_name n id c c2 after packets own no_part outcome sound moves)

opened_moves : (n : ℕ) (o : Option ℕ) (channel : ℕ → ChannelState) (t : TableState) (c c2 : ChannelState) → IsSound c → channel_of n t.channels ≡ Some c → channel_of n (opened o channel t).table.channels ≡ Some c2 → Moves c c2 (packets_by n (opened o channel t).output) no_part
opened_moves n None channel t c c2 sound here there =
    let same : Some c2 ≡ Some c = sym there ∙ here in
    moves_is c c c2 [] [] no_part (cc) refl (still_moves c sound)
opened_moves n (Some m) channel t c c2 sound here there =
    let same : Some c2 ≡ Some c = sym there ∙ append_found n t.channels (channel m ∷ []) c here in
    moves_is c c c2 [] [] no_part (cc) refl (still_moves c sound)

-- each call does its part to a channel that is there after it
pub step_moves : (n : ℕ) (call : Call) (t : TableState) (c c2 : ChannelState) → Apart (numbers t.channels) → IsSound c → channel_of n t.channels ≡ Some c → channel_of n (called call t).table.channels ≡ Some c2 →
    Moves c c2 (packets_by n (called call t).output) (part n call c)
step_moves n (OpenUser window packet ticket) t c c2 apart sound here there = opened_moves n (next_number t) (λ m. opened_by_user m window packet ticket) t c c2 sound here there
step_moves n (ReserveServer recipient window packet own) t c c2 apart sound here there = opened_moves n (next_number t) (λ m. reserved_by_server m recipient window packet own) t c c2 sound here there
step_moves n (SettleServer id true) t c c2 apart sound here there =
    by_name n id c c2 (accept_turn c).channel (packets_by n (turn_at id accept_turn t).output) [] (accept_part c) (turn_outcome n id accept_turn t c c2 accept_number here there) sound (λ e. accept_moves c sound)
step_moves n (SettleServer id false) t c c2 apart sound here there =
    quietly n id c c2 c (packets_by n (take_at id is_reserved no_packets_of t).output) [] (take_outcome n id is_reserved no_packets_of t c c2 apart here there) sound (λ e. still_moves c sound)
step_moves n (Confirm id recipient window packet) t c c2 apart sound here there =
    let turn : ChannelState → Turn = confirm_turn recipient window packet in
    by_name n id c c2 (turn c).channel (packets_by n (turn_at id turn t).output) [] (confirm_part recipient window packet c) (turn_outcome n id turn t c c2 (confirm_number recipient window packet) here there) sound
    (λ e. confirm_moves recipient window packet c sound)
step_moves n (Fail id) t c c2 apart sound here there =
    quietly n id c c2 c (packets_by n (take_at id is_awaited no_packets_of t).output) [] (take_outcome n id is_awaited no_packets_of t c c2 apart here there) sound (λ e. still_moves c sound)
step_moves n (Bytes id stream bytes exchanging) t c c2 apart sound here there =
    let turn : ChannelState → Turn = data_turn stream bytes exchanging in
    by_name n id c c2 (turn c).channel (packets_by n (turn_at id turn t).output) (turn c).packets (bytes_part stream bytes exchanging c) (turn_outcome n id turn t c c2 (λ x. refl) here there) sound
    (λ e. data_moves stream bytes exchanging c sound)
step_moves n (AskEof id) t c c2 apart sound here there =
    by_name n id c c2 (eof_turn c).channel (packets_by n (turn_at id eof_turn t).output) (eof_turn c).packets (eof_part c) (turn_outcome n id eof_turn t c c2 (λ x. refl) here there) sound (λ e. eof_moves c sound)
step_moves n (AskClose id) t c c2 apart sound here there =
    by_name n id c c2 (close_turn c).channel (packets_by n (turn_at id close_turn t).output) (close_turn c).packets close_part (turn_outcome n id close_turn t c c2 (λ x. refl) here there) sound (λ e. close_moves c sound)
step_moves n (PeerClose id) t c c2 apart sound here there =
    quietly n id c c2 c (packets_by n (close_peer id t).output) [] (take_outcome n id is_up last_packets t c c2 apart here there) sound (λ e. still_moves c sound)
step_moves n (Grant id amount exchanging) t c c2 apart sound here there =
    let turn : ChannelState → Turn = grant_turn amount exchanging in
    by_name n id c c2 (turn c).channel (packets_by n (turn_at id turn t).output) (turn c).packets (grant_part amount exchanging c) (turn_outcome n id turn t c c2 (λ x. refl) here there) sound
    (λ e. grant_moves amount exchanging c sound)
step_moves n FlushAll t c c2 apart sound here there =
    let outcome = flush_outcome n t c c2 apart here there in
    moves_is c (flush_turn c).channel c2 (flush_turn c).packets (packets_by n (flush t).output) flush_part outcome.0 outcome.1 (flush_turn_moves c sound)
step_moves n (Received id len target) t c c2 apart sound here there =
    let turn : ChannelState → Turn = received_turn len target in
    by_name n id c c2 (turn c).channel (packets_by n (turn_at id turn t).output) (turn c).packets (received_part len target c) (turn_outcome n id turn t c c2 (λ x. refl) here there) sound (λ e. received_moves len target c sound)
