-- What a flow's turn does to its account.
use Rattle.std.proofs.Common.{◌≡◌, ℕ, zero, suc, ◌+◌, ◌-◌, ◌<◌, ◌≤◌, min, Bool, true, false, List, [], ◌∷◌, ◌++◌, length, take, drop, if◌then◌else◌, refl, ap, sym, subst, ◌∙◌, arith, inl, inr, length-append, length-take, length-drop, append_assoc}
use Rattle.std.proofs.lemmas.List.{take-append-drop}
use Rattle.std.proofs.lemmas.Bool.{cases_lt}
use Rattle.sshc_mux.specs.declared.chunk.Stream.{Stream}
use Rattle.sshc_mux.specs.declared.channel.Stage.{Stage}
use Rattle.sshc_mux.specs.declared.channel.Stage.TheVariants as Stages
use Rattle.sshc_mux.specs.ChannelState.{ChannelFlow, Waiting}
use Rattle.sshc_mux.specs.Packets.{Packet, Piece, Eof, Close, Adjust}
use Rattle.sshc_mux.specs.ChannelTable.Sending.{cut, cut_up_to, pieces_of, count_of, sent_of, left_of, emptied, is_due, done, due_of, ended_if}
use Rattle.sshc_mux.specs.ChannelTable.Ends.{is_sent, is_unasked}
use Rattle.sshc_mux.specs.ChannelAccount.{marked, bytes_in, pending, AllFilled, IsOrdered, Orderly}
use Rattle.sshc_mux.proofs.SendingLemmas.{left-whole, left-part, sent-whole, sent-part}

-- bytes with their marks

pub marked-append : (s : Stream) (a b : List ℕ) → marked s (a ++ b) ≡ marked s a ++ marked s b
marked-append s [] b = refl
marked-append s (x ∷ a) b = ap (λ (ms : List (Stream × ℕ)). (s, x) ∷ ms) (marked-append s a b)

length-marked : (s : Stream) (a : List ℕ) → length (marked s a) ≡ length a
length-marked s [] = refl
length-marked s (x ∷ a) = omega (arith, length-marked s a)

pub bytes-append : (a b : List Packet) → bytes_in (a ++ b) ≡ bytes_in a ++ bytes_in b
bytes-append [] b = refl
bytes-append (Piece s bytes ∷ a) b = ap (λ (ms : List (Stream × ℕ)). marked s bytes ++ ms) (bytes-append a b) ∙ sym (append_assoc (marked s bytes) (bytes_in a) (bytes_in b))
bytes-append (Eof ∷ a) b = bytes-append a b
bytes-append (Close ∷ a) b = bytes-append a b
bytes-append (Adjust amount ∷ a) b = bytes-append a b

pub pending-append : (a b : List Waiting) → pending (a ++ b) ≡ pending a ++ pending b
pending-append [] b = refl
pending-append (w ∷ a) b = ap (λ (ms : List (Stream × ℕ)). marked w.stream w.bytes ++ ms) (pending-append a b) ∙ sym (append_assoc (marked w.stream w.bytes) (pending a) (pending b))

-- the pieces of a call's bytes are these bytes
cut_bytes : (s : Stream) (n size : ℕ) (bytes : List ℕ) → (0 < length bytes → 0 < size) → length bytes ≤ n → bytes_in (pieces_of s (cut_up_to n size bytes)) ≡ marked s bytes
cut_bytes s zero size [] some fits = refl
cut_bytes s zero size (b ∷ bytes) some fits = absurd (omega arith)
cut_bytes s (suc n) size [] some fits = refl
cut_bytes s (suc n) size (b ∷ bytes) some fits =
    let positive : 0 < size = some (omega arith) in
    ap (λ (ms : List (Stream × ℕ)). marked s (take size (b ∷ bytes)) ++ ms) (cut_bytes s n size (drop size (b ∷ bytes)) (λ _. positive) (omega (arith, length-drop size (b ∷ bytes))))
    ∙ sym (marked-append s (take size (b ∷ bytes)) (drop size (b ∷ bytes)))
    ∙ ap (λ (bs : List ℕ). marked s bs) (take-append-drop size (b ∷ bytes))

pub pieces_bytes : (s : Stream) (size : ℕ) (bytes : List ℕ) → (0 < length bytes → 0 < size) → bytes_in (pieces_of s (cut size bytes)) ≡ marked s bytes
unfolding cut
pieces_bytes s size bytes some = cut_bytes s (length bytes) size bytes some (omega arith)

-- what is sent, followed by what remains, is what waited
pub sent_left : (size room : ℕ) (ws : List Waiting) → (0 < room → 0 < size) → bytes_in (sent_of size room ws) ++ pending (left_of room ws) ≡ pending ws
sent_left size room [] some = refl
sent_left size room (w ∷ ws) some = elim (cases_lt room (length w.bytes)) [
  | inl short ↦
      ap (λ (ps : List Packet). bytes_in ps ++ pending (left_of room (w ∷ ws))) (sent-part size room w ws short)
      ∙ ap (λ (ms : List (Stream × ℕ)). ms ++ pending (left_of room (w ∷ ws))) (pieces_bytes w.stream size (take room w.bytes) (λ h. some (omega (arith, length-take room w.bytes))))
      ∙ ap (λ (l : List Waiting). marked w.stream (take room w.bytes) ++ pending l) (left-part room w ws short)
      ∙ sym (append_assoc (marked w.stream (take room w.bytes)) (marked w.stream (drop room w.bytes)) (pending ws))
      ∙ ap (λ (ms : List (Stream × ℕ)). ms ++ pending ws) (sym (marked-append w.stream (take room w.bytes) (drop room w.bytes)) ∙ ap (λ (bs : List ℕ). marked w.stream bs) (take-append-drop room w.bytes))
  | inr fits ↦
      ap (λ (ps : List Packet). bytes_in ps ++ pending (left_of room (w ∷ ws))) (sent-whole size room w ws fits)
      ∙ ap (λ (l : List Waiting). bytes_in (pieces_of w.stream (cut size w.bytes) ++ sent_of size (room - length w.bytes) ws) ++ pending l) (left-whole room w ws fits)
      ∙ ap (λ (ms : List (Stream × ℕ)). ms ++ pending (left_of (room - length w.bytes) ws)) (bytes-append (pieces_of w.stream (cut size w.bytes)) (sent_of size (room - length w.bytes) ws))
      ∙ ap (λ (ms : List (Stream × ℕ)). ms ++ bytes_in (sent_of size (room - length w.bytes) ws) ++ pending (left_of (room - length w.bytes) ws)) (pieces_bytes w.stream size w.bytes (λ h. some (omega arith)))
      ∙ append_assoc (marked w.stream w.bytes) (bytes_in (sent_of size (room - length w.bytes) ws)) (pending (left_of (room - length w.bytes) ws))
      ∙ ap (λ (ms : List (Stream × ℕ)). marked w.stream w.bytes ++ ms) (sent_left size (room - length w.bytes) ws (λ h. some (omega arith)))
]

-- as many bytes are sent as there is room for
length-sent : (size room : ℕ) (ws : List Waiting) → (0 < room → 0 < size) → length (bytes_in (sent_of size room ws)) ≡ min room (count_of ws)
length-sent size room [] some = omega arith
length-sent size room (w ∷ ws) some = elim (cases_lt room (length w.bytes)) [
  | inl short ↦
      let bytes : bytes_in (sent_of size room (w ∷ ws)) ≡ marked w.stream (take room w.bytes) =
      ap bytes_in (sent-part size room w ws short) ∙ pieces_bytes w.stream size (take room w.bytes) (λ h. some (omega (arith, length-take room w.bytes))) in
      omega (arith, ap length bytes, length-marked w.stream (take room w.bytes), length-take room w.bytes)
  | inr fits ↦
      let bytes : bytes_in (sent_of size room (w ∷ ws)) ≡ marked w.stream w.bytes ++ bytes_in (sent_of size (room - length w.bytes) ws) =
      ap bytes_in (sent-whole size room w ws fits) ∙ bytes-append (pieces_of w.stream (cut size w.bytes)) (sent_of size (room - length w.bytes) ws)
      ∙ ap (λ (ms : List (Stream × ℕ)). ms ++ bytes_in (sent_of size (room - length w.bytes) ws)) (pieces_bytes w.stream size w.bytes (λ h. some (omega arith))) in
      omega (arith, ap length bytes, length-append (marked w.stream w.bytes) (bytes_in (sent_of size (room - length w.bytes) ws)), length-marked w.stream w.bytes, length-sent size (room - length w.bytes) ws (λ h. some (omega arith)))
]

-- the order of what is written

pub orderly_then : (e c e1 c1 e2 c2 : Bool) (a b : List Packet) → Orderly e c a e1 c1 → Orderly e1 c1 b e2 c2 → Orderly e c (a ++ b) e2 c2
orderly_then e c e1 c1 e2 c2 [] b first second =
    let P : Bool → Type 0 = λ x. Orderly x c b e2 c2 in
    let Q : Bool → Type 0 = λ x. Orderly e1 x b e2 c2 in
    subst P (sym first.0) (subst Q (sym first.1) second)
orderly_then e c e1 c1 e2 c2 (Piece s bytes ∷ a) b first second = (first.0, first.1, orderly_then e c e1 c1 e2 c2 a b first.2 second)
orderly_then e c e1 c1 e2 c2 (Eof ∷ a) b first second = (first.0, first.1, orderly_then true c e1 c1 e2 c2 a b first.2 second)
orderly_then e c e1 c1 e2 c2 (Close ∷ a) b first second = (first.0, orderly_then e true e1 c1 e2 c2 a b first.1 second)
orderly_then e c e1 c1 e2 c2 (Adjust amount ∷ a) b first second = orderly_then e c e1 c1 e2 c2 a b first second

pieces_orderly : (s : Stream) (pieces : List (List ℕ)) → Orderly false false (pieces_of s pieces) false false
pieces_orderly s [] = (refl, refl)
pieces_orderly s (p ∷ pieces) = (refl, refl, pieces_orderly s pieces)

all_pieces : (size room : ℕ) (ws : List Waiting) → Orderly false false (sent_of size room ws) false false
all_pieces size room [] = (refl, refl)
all_pieces size room (w ∷ ws) = orderly_then false false false false false false (pieces_of w.stream (cut size (take room w.bytes))) (sent_of size (room - length w.bytes) ws) (pieces_orderly w.stream (cut size (take room w.bytes))) (all_pieces size (room - length w.bytes) ws)

-- bytes are sent only before EOF and close, since none wait after they were sent
sent_orderly : (e c : Bool) (size room : ℕ) (ws : List Waiting) → (e ≡ true → ws ≡ []) → (c ≡ true → ws ≡ []) → Orderly e c (sent_of size room ws) e c
sent_orderly true c size room ws eof close = let P : List Waiting → Type 0 = λ l. Orderly true c (sent_of size room l) true c in subst P (sym (eof refl)) (refl, refl)
sent_orderly false true size room ws eof close = let P : List Waiting → Type 0 = λ l. Orderly false true (sent_of size room l) false true in subst P (sym (close refl)) (refl, refl)
sent_orderly false false size room ws eof close = all_pieces size room ws

pub due_bytes : (e c : Bool) → bytes_in ((if e then Eof ∷ [] else []) ++ (if c then Close ∷ [] else [])) ≡ []
due_bytes true true = refl
due_bytes true false = refl
due_bytes false true = refl
due_bytes false false = refl

due_orderly : (e c : Stage) → (is_sent c ≡ true → is_due e ≡ false) → Orderly (is_sent e) (is_sent c) ((if is_due e then Eof ∷ [] else []) ++ (if is_due c then Close ∷ [] else [])) (is_sent (done e)) (is_sent (done c))
due_orderly Stages.Unasked Stages.Unasked last = (refl, refl)
due_orderly Stages.Unasked Stages.Asked last = (refl, (refl, refl))
due_orderly Stages.Unasked Stages.Sent last = (refl, refl)
due_orderly Stages.Asked Stages.Unasked last = (refl, refl, (refl, refl))
due_orderly Stages.Asked Stages.Asked last = (refl, refl, (refl, (refl, refl)))
due_orderly Stages.Asked Stages.Sent last = let no = last refl in absurd (cc)
due_orderly Stages.Sent Stages.Unasked last = (refl, refl)
due_orderly Stages.Sent Stages.Asked last = (refl, (refl, refl))
due_orderly Stages.Sent Stages.Sent last = (refl, refl)

pub done_due : (e : Stage) → is_due (done e) ≡ false
done_due Stages.Unasked = refl
done_due Stages.Asked = refl
done_due Stages.Sent = refl

pub done_unasked : (e : Stage) → is_unasked (done e) ≡ is_unasked e
done_unasked Stages.Unasked = refl
done_unasked Stages.Asked = refl
done_unasked Stages.Sent = refl

-- no empty entry waits

left_filled : (room : ℕ) (ws : List Waiting) → AllFilled ws → AllFilled (left_of room ws)
left_filled room [] filled = tt
left_filled room (w ∷ ws) filled =
    let P : List Waiting → Type 0 = λ l. AllFilled l in
    elim (cases_lt room (length w.bytes)) [
      | inl short ↦ subst P (sym (left-part room w ws short)) (omega (arith, length-drop room w.bytes), filled.1)
      | inr fits ↦ subst P (sym (left-whole room w ws fits)) (left_filled (room - length w.bytes) ws filled.1)
    ]

pub filled_append : (a b : List Waiting) → AllFilled a → AllFilled b → AllFilled (a ++ b)
filled_append [] b first second = second
filled_append (w ∷ a) b first second = (first.0, filled_append a b first.1 second)

-- a flow sends, and keeps what its account is about
pub record Kept (f after : ChannelFlow) (packets : List Packet) : Type 0 where
  pub balance : bytes_in packets ++ pending after.pending ≡ pending f.pending
  pub window : length (bytes_in packets) + after.window ≡ f.window
  pub order : Orderly (is_sent f.eof) (is_sent f.close) packets (is_sent after.eof) (is_sent after.close)
  pub eof : is_unasked after.eof ≡ is_unasked f.eof
  pub close : is_unasked after.close ≡ is_unasked f.close
  pub ordered : IsOrdered after

pub kept_then : (f f1 f2 : ChannelFlow) (a b : List Packet) → Kept f f1 a → Kept f1 f2 b → Kept f f2 (a ++ b)
kept_then f f1 f2 a b first second = record {
  balance =
      ap (λ (ms : List (Stream × ℕ)). ms ++ pending f2.pending) (bytes-append a b)
      ∙ append_assoc (bytes_in a) (bytes_in b) (pending f2.pending)
      ∙ ap (λ (ms : List (Stream × ℕ)). bytes_in a ++ ms) second.balance
      ∙ first.balance;
  window = omega (arith, first.window, second.window, ap length (bytes-append a b), length-append (bytes_in a) (bytes_in b));
  order = orderly_then _ _ _ _ _ _ a b first.order second.order;
  eof = second.eof ∙ first.eof;
  close = second.close ∙ first.close;
  ordered = second.ordered;
}

-- bytes are sent
pub emptied_kept : (size room : ℕ) (f : ChannelFlow) → (0 < room → 0 < size) → room ≤ f.window → IsOrdered f → Kept f (emptied room f) (sent_of size room f.pending)
emptied_kept size room f some fits ordered = record {
  balance = sent_left size room f.pending some;
  window = omega (arith, length-sent size room f.pending some);
  order = sent_orderly (is_sent f.eof) (is_sent f.close) size room f.pending ordered.eof ordered.close;
  eof = refl;
  close = refl;
  ordered = record {
    filled = left_filled room f.pending ordered.filled;
    eof = λ h. ap (λ (l : List Waiting). left_of room l) (ordered.eof h);
    close = λ h. ap (λ (l : List Waiting). left_of room l) (ordered.close h);
    last = ordered.last;
  };
}

-- EOF and close are sent
pub ended_kept : (may : Bool) (f : ChannelFlow) → (may ≡ true → f.pending ≡ []) → IsOrdered f → Kept f (ended_if may f) (if may then due_of f else [])
ended_kept true f none ordered = record {
  balance = ap (λ (ms : List (Stream × ℕ)). ms ++ pending f.pending) (due_bytes (is_due f.eof) (is_due f.close));
  window = omega (arith, ap length (due_bytes (is_due f.eof) (is_due f.close)));
  order = due_orderly f.eof f.close ordered.last;
  eof = done_unasked f.eof;
  close = done_unasked f.close;
  ordered = record { filled = ordered.filled; eof = λ h. none refl; close = λ h. none refl; last = λ h. done_due f.eof };
}
ended_kept false f none ordered = record { balance = refl; window = omega arith; order = (refl, refl); eof = refl; close = refl; ordered = ordered }
