-- What the moves of methods keep of each channel.
use Rattle.std.proofs.Common.{◌≡◌, inl, inr, ℕ, ◌+◌, ◌-◌, sum, Bool, true, false, not, ◌&&◌, List, [], ◌∷◌, ◌++◌, length, eqb, if◌then◌else◌, Option, Some, None, refl, ap, sym, subst, ◌∙◌, append_assoc, length-append, arith}
use Rattle.std.proofs.lemmas.List.{append-nil}
use Rattle.std.specs.List.{AllByRecursion}
use Rattle.std.proofs.lemmas.Bool.Decides.{eqb_tells}
use Rattle.sshc_wire.specs.declared.ticket.Ticket.{Ticket}
use Rattle.sshc_mux.specs.declared.chunk.Stream.{Stream}
use Rattle.sshc_mux.specs.ChannelState.{ChannelState, Head, TableState, channel_of, with_channel}
use Rattle.sshc_mux.specs.Packets.{Packet, Piece, Eof, Close, Adjust}
use Rattle.sshc_mux.specs.ChannelTable.{ChannelPacket, Turn, close_turn, data_turn, eof_turn, turned}
use Rattle.sshc_mux.specs.ChannelTable.Ends.{takes}
use Rattle.sshc_mux.specs.ChannelTable.Opens.{next_number, opened_by_user}
use Rattle.sshc_mux.specs.ChannelAccount.{AskClose, AskEof, Bytes, Call, answered, EachCallDoesItsPart, EachCallKeepsTheRules, ExchangesAreQuiet, IsLegal, LegalStays, Moves, OpenUser, CallPart, bytes_in, bytes_part, called, close_part, eof_part, marked, may_send, no_part, opened, packets_by, packets_in, part, pending}
use Rattle.sshc_auth.specs.OpeningState.{OpeningState}
use Rattle.sshc_client_table.specs.SessionState.{SessionState, exchanging, is_running}
use Rattle.sshc_client_table.specs.Moves as m
use Rattle.sshc_client_table.specs.Moves.{Deed, Move, after, deed, deed_of, did, done, done_if, may_go, still, with_deed}
use Rattle.sshc_client_table.specs.Grown.{May}
use Rattle.sshc_client_table.specs.Keeps.{SameOrBegun}
use Rattle.sshc_client_table.specs.KeptChannels.{ChannelKeeps, GrownSessionsKeepChannels, IsKept}
use Rattle.sshc_mux.proofs.NumbersLemmas.{number_of, with_other, with_same}
use Rattle.sshc_client_table.specs.KeepLaws.{keeps_move}

-- ---- calls of methods, which know whether an exchange runs

abbrev Sending : Bool → Option Call → Type 0
Sending running None = Unit {0}
Sending running (Some (OpenUser window packet ticket)) = Unit {0}
Sending running (Some (Bytes id stream bytes exchanging)) = exchanging ≡ running
Sending running (Some (AskEof id)) = Unit {0}
Sending running (Some (AskClose id)) = Unit {0}
Sending running call = ⊥

-- ---- the channel stays

append_found : (n : ℕ) (cs more : List ChannelState) (c : ChannelState) → channel_of n cs ≡ Some c → channel_of n (cs ++ more) ≡ Some c
append_found n [] more c found = absurd cc
append_found n (x ∷ cs) more c found = elim (eqb_tells x.head.number n) [
  | inl w ↦ ap (λ (b : Bool). if b then Some x else channel_of n (cs ++ more)) w.0 ∙ ap (λ (b : Bool). if b then Some x else channel_of n cs) (sym w.0) ∙ found
  | inr w ↦ ap (λ (b : Bool). if b then Some x else channel_of n (cs ++ more)) w.0 ∙ append_found n cs more c (ap (λ (b : Bool). if b then Some x else channel_of n cs) (sym w.0) ∙ found)
]

abbrev Found : ℕ → TableState → Type 0
Found n t = (d : ChannelState) × (channel_of n t.channels ≡ Some d)

turned_found : (o : Option ChannelState) (n k : ℕ) (turn : ChannelState → Turn) (t : TableState) (c : ChannelState) → ((x : ChannelState) → (turn x).channel.head.number ≡ x.head.number)
    → channel_of k t.channels ≡ o → channel_of n t.channels ≡ Some c → Found n (turned k o turn t).table
turned_found None n k turn t c number there found = (c, found)
turned_found (Some x) n k turn t c number there found = elim (eqb_tells k n) [
  | inl w ↦ (
    (turn x).channel,
    ap (λ (j : ℕ). channel_of n (with_channel j (turn x).channel t.channels)) w.1
        ∙ with_same n (turn x).channel t.channels c found (number x ∙ number_of k t.channels x there ∙ w.1),
  )
  | inr w ↦ (c, with_other n k (turn x).channel t.channels w.1 (number x ∙ number_of k t.channels x there) ∙ found)
]

opened_found : (o : Option ℕ) (n window packet : ℕ) (ticket : Option Ticket) (t : TableState) (c : ChannelState) → channel_of n t.channels ≡ Some c
    → Found n (opened o (λ k. opened_by_user k window packet ticket) t).table
opened_found None n window packet ticket t c found = (c, found)
opened_found (Some k) n window packet ticket t c found = (c, append_found n t.channels _ c found)

call_found : (running : Bool) (n : ℕ) (call : Call) (t : TableState) (c : ChannelState) → Sending running (Some call) → channel_of n t.channels ≡ Some c → Found n (called call t).table
call_found running n (OpenUser window packet ticket) t c may found = opened_found (next_number t) n window packet ticket t c found
call_found running n (Bytes k stream bytes exchanging) t c may found = turned_found (channel_of k t.channels) n k (data_turn stream bytes exchanging) t c (λ x. refl) refl found
call_found running n (AskEof k) t c may found = turned_found (channel_of k t.channels) n k eof_turn t c (λ x. refl) refl found
call_found running n (AskClose k) t c may found = turned_found (channel_of k t.channels) n k close_turn t c (λ x. refl) refl found
call_found running n call t c may found = absurd may

-- ---- what the call's part is

record IsPlain (p : CallPart) : Type 0 where
  answer : p.answer ≡ None
  used : p.used ≡ 0
  returned : p.returned ≡ []
  gain : p.gain ≡ 0

plain_if : (b : Bool) (p q : CallPart) → IsPlain p → IsPlain q → IsPlain (if b then p else q)
plain_if true p q first second = first
plain_if false p q first second = second

nothing : IsPlain no_part
nothing = record { answer = refl; used = refl; returned = refl; gain = refl }

plain_bytes : (stream : Stream) (bytes : List ℕ) (exchanging : Bool) (c : ChannelState) → IsPlain (bytes_part stream bytes exchanging c)
plain_bytes stream bytes exchanging c =
    plain_if (takes c.flow && not (eqb (length bytes) 0)) (record no_part { more = record { stream = stream; bytes = bytes } ∷ []; sends = not exchanging; ends = true }) no_part
    (record { answer = refl; used = refl; returned = refl; gain = refl }) nothing

plain_part : (running : Bool) (n : ℕ) (call : Call) (c : ChannelState) → Sending running (Some call) → IsPlain (part n call c)
plain_part running n (OpenUser window packet ticket) c may = nothing
plain_part running n (Bytes id stream bytes exchanging) c may = plain_if (eqb id n) (bytes_part stream bytes exchanging c) no_part (plain_bytes stream bytes exchanging c) nothing
plain_part running n (AskEof id) c may = plain_if (eqb id n) (eof_part c) no_part (record { answer = refl; used = refl; returned = refl; gain = refl }) nothing
plain_part running n (AskClose id) c may = plain_if (eqb id n) close_part no_part (record { answer = refl; used = refl; returned = refl; gain = refl }) nothing
plain_part running n call c may = absurd may

-- ---- no bytes while an exchange runs

both_empty : {A : Type 0} (a b : List A) → a ++ b ≡ [] → (a ≡ []) × (b ≡ [])
both_empty [] b e = (refl, e)
both_empty (x ∷ a) b e = absurd cc

if_empty : (b : Bool) (p : Packet) (ps qs : List Packet) → bytes_in (p ∷ qs) ≡ [] → bytes_in ps ≡ [] → bytes_in (if b then p ∷ ps else ps) ≡ []
if_empty false p ps qs all rest = rest
if_empty true (Piece stream bytes) ps qs all rest =
    ap (λ (bs : List (Stream × ℕ)). bs ++ bytes_in ps) (both_empty (marked stream bytes) (bytes_in qs) all).0 ∙ rest
if_empty true Eof ps qs all rest = rest
if_empty true Close ps qs all rest = rest
if_empty true (Adjust amount) ps qs all rest = rest

rest_empty : (p : Packet) (qs : List Packet) → bytes_in (p ∷ qs) ≡ [] → bytes_in qs ≡ []
rest_empty (Piece stream bytes) qs all = (both_empty (marked stream bytes) (bytes_in qs) all).1
rest_empty Eof qs all = all
rest_empty Close qs all = all
rest_empty (Adjust amount) qs all = all

none_by : (n : ℕ) (output : List ChannelPacket) → bytes_in (packets_in output) ≡ [] → bytes_in (packets_by n output) ≡ []
none_by n [] all = refl
none_by n (s ∷ output) all =
    if_empty (eqb s.number n) s.packet (packets_by n output) (packets_in output) all (none_by n output (rest_empty s.packet (packets_in output) all))

silent : (running : Bool) (call : Call) → Sending running (Some call) → running ≡ true → may_send call ≡ false
silent running (OpenUser window packet ticket) may is = refl
silent running (Bytes id stream bytes exchanging) may is = ap not (may ∙ is)
silent running (AskEof id) may is = refl
silent running (AskClose id) may is = refl
silent running call may is = absurd may

-- ---- one call

none_used : (n : ℕ) → (n - 0) + 0 ≡ n
none_used n = omega arith

nothing_before : (n : ℕ) → 0 + n ≡ n
nothing_before n = omega arith

nothing_more : (n : ℕ) → n + 0 ≡ n
nothing_more n = omega arith

from_moves : (running : Bool) (c d : ChannelState) (packets : List Packet) (p : CallPart) → IsPlain p → Moves c d packets p → (running ≡ true → bytes_in packets ≡ []) → ChannelKeeps running c d
from_moves running c d packets p plain moves quiet = record {
  head = moves.head ∙ ap (λ (o : Option Head). answered o c.head) plain.answer;
  own_window =
      moves.own ∙ ap (λ (k : ℕ). (c.own_window - k) + sum p.returned) plain.used ∙ ap (λ (l : List ℕ). (c.own_window - 0) + sum l) plain.returned ∙ none_used c.own_window;
  gone = bytes_in packets;
  more = pending p.more;
  waits = moves.flow.balance;
  window = moves.flow.window ∙ ap (λ (k : ℕ). c.flow.window + k) plain.gain ∙ nothing_more c.flow.window;
  quiet = quiet;
  eof = λ e. moves.flow.eof ∙ ap (λ (b : Bool). b && not p.eof) e;
  close = λ e. moves.flow.close ∙ ap (λ (b : Bool). b && not p.close) e;
}

keeps_same : (running : Bool) (c : ChannelState) → ChannelKeeps running c c
keeps_same running c = record {
  head = refl;
  own_window = refl;
  gone = [];
  more = [];
  waits = sym (append-nil (pending c.flow.pending));
  window = nothing_before c.flow.window;
  quiet = λ e. refl;
  eof = λ e. e;
  close = λ e. e;
}

kept_by : EachCallDoesItsPart → ExchangesAreQuiet → (o : Option Call) (running : Bool) (n : ℕ) (t : TableState) (c : ChannelState) → IsLegal t → Sending running o
    → channel_of n t.channels ≡ Some c → IsKept running n c (did o t).table
kept_by law quiet None running n t c legal may found = record { new = c; there = found; keeps = keeps_same running c }
kept_by law quiet (Some call) running n t c legal may found =
    let after_it = call_found running n call t c may found in
    record {
      new = after_it.0;
      there = after_it.1;
      keeps =
          from_moves running c after_it.0 (packets_by n (called call t).output) (part n call c) (plain_part running n call c may)
          (law n call t c after_it.0 legal found after_it.1) (λ is. none_by n (called call t).output (quiet call t (silent running call may is)));
    }

-- ---- one after another

keeps_then : (running later : Bool) (c d e : ChannelState) → (running ≡ true → later ≡ true) → ChannelKeeps running c d → ChannelKeeps later d e → ChannelKeeps running c e
keeps_then running later c d e on first second = record {
  head = second.head ∙ first.head;
  own_window = second.own_window ∙ first.own_window;
  gone = first.gone ++ second.gone;
  more = first.more ++ second.more;
  waits =
      append_assoc first.gone second.gone (pending e.flow.pending)
      ∙ ap (λ (bs : List (Stream × ℕ)). first.gone ++ bs) second.waits
      ∙ sym (append_assoc first.gone (pending d.flow.pending) second.more)
      ∙ ap (λ (bs : List (Stream × ℕ)). bs ++ second.more) first.waits
      ∙ append_assoc (pending c.flow.pending) first.more second.more;
  window = let one : length first.gone + d.flow.window ≡ c.flow.window = first.window in
      let two : length second.gone + e.flow.window ≡ d.flow.window = second.window in
      omega (arith, length-append first.gone second.gone);
  quiet = λ is. ap (λ (bs : List (Stream × ℕ)). bs ++ second.gone) (first.quiet is) ∙ second.quiet (on is);
  eof = λ u. second.eof (first.eof u);
  close = λ u. second.close (first.close u);
}

-- ---- the moves of methods

sends : (move : Move) (s : SessionState) → May move → Sending (exchanging s) (deed move s).call
sends (m.Sends id stream bytes) s may = refl
sends (m.EndsBytes id) s may = tt
sends (m.Closes id) s may = tt
sends (m.Opens asked None) s may = tt
sends (m.RequestsOn id request) s may = tt
sends (m.Asks ask) s may = tt
sends (m.Disconnects reason description language) s may = tt
sends (m.DeniesTicket ticket) s may = tt
sends m.Begins s may = tt
sends m.Leaves s may = tt
sends move s may = absurd may

sends_if : (b : Bool) (d : Deed) (s : SessionState) → Sending (exchanging s) d.call → Sending (exchanging s) (done_if b d s).call
sends_if true d s may = may
sends_if false d s may = tt

move_keeps : EachCallDoesItsPart → ExchangesAreQuiet → (move : Move) (s : SessionState) (n : ℕ) (c : ChannelState) → IsLegal s.table → May move → channel_of n s.table.channels ≡ Some c
    → IsKept (exchanging s) n c (after move s).table
unfolding after
move_keeps law quiet move s n c legal may found =
    kept_by law quiet (deed_of move s).call (exchanging s) n s.table c legal (sends_if (may_go move s) (deed move s) s (sends move s may)) found

legal_did : LegalStays → (o : Option Call) (t : TableState) → IsLegal t → IsLegal (did o t).table
legal_did stays None t legal = legal
legal_did stays (Some call) t legal = stays.1 call t legal

legal_after : LegalStays → (move : Move) (s : SessionState) → IsLegal s.table → IsLegal (after move s).table
unfolding after
legal_after stays move s legal = legal_did stays (deed_of move s).call s.table legal

still_running : (old new : OpeningState) → SameOrBegun old new → is_running old.flag ≡ true → is_running new.flag ≡ true
still_running old new (inl same) is = ap (λ (o : OpeningState). is_running o.flag) same ∙ is
still_running old new (inr begun) is = ap (λ (o : OpeningState). is_running o.flag) begun.1

pub moves_keep : EachCallDoesItsPart → ExchangesAreQuiet → LegalStays → (moves : List Move) (s : SessionState) (n : ℕ) (c : ChannelState) → IsLegal s.table → AllByRecursion May moves
    → channel_of n s.table.channels ≡ Some c → IsKept (exchanging s) n c (done moves s).table
moves_keep law quiet stays [] s n c legal may found = record { new = c; there = found; keeps = keeps_same (exchanging s) c }
moves_keep law quiet stays (move ∷ moves) s n c legal (here, rest) found =
    let first = move_keeps law quiet move s n c legal here found in
    let second = moves_keep law quiet stays moves (after move s) n first.new (legal_after stays move s legal) rest first.there in
    record {
      new = second.new;
      there = second.there;
      keeps =
          keeps_then (exchanging s) (exchanging (after move s)) c first.new second.new
          (still_running s.opening (after move s).opening (keeps_move move s here).opening) first.keeps second.keeps;
    }

pub grown_keeps_channels : EachCallDoesItsPart → EachCallKeepsTheRules → LegalStays → GrownSessionsKeepChannels
grown_keeps_channels law rules stays old new n c legal grown found =
    subst (λ (s : SessionState). IsKept (exchanging old) n c s.table) (sym grown.is) (moves_keep law rules.quiet stays grown.moves old n c legal grown.may found)
