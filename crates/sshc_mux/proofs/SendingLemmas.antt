-- What is sent of the bytes that wait, and what remains, one call's bytes after the other.
use Rattle.std.proofs.Common.{◌≡◌, ℕ, ◌+◌, ◌-◌, ◌<◌, ◌≤◌, Bool, false, List, [], ◌∷◌, ◌++◌, length, take, drop, get_or, eqb, if◌then◌else◌, refl, ap, sym, ◌∙◌, arith}
use Rattle.std.proofs.lemmas.List.{append-nil, drop_more}
use Rattle.std.proofs.lemmas.Bool.{le-leb, lt-leb}
use Rattle.std.proofs.Math.Dec.{eqb-suc-zero}
use Rattle.sshc_wire.specs.Outgoing.{Outgoing}
use Rattle.sshc_wire.specs.declared.record.Record.{Record}
use Rattle.sshc_mux.specs.declared.chunk.Stream.{Stream}
use Rattle.sshc_mux.specs.ChannelState.{Waiting}
use Rattle.sshc_mux.specs.Packets.{Packet, adding, payloads}
use Rattle.sshc_mux.specs.ChannelTable.Sending.{cut, pieces_of, sent_of, left_of}
use Rattle.sshc_mux.proofs.AddingLemmas.{adding-append}
use Rattle.sshc_mux.proofs.PieceLemmas.{payloads-append, take-past, cut-nothing}

pub left-whole : (room : ℕ) (w : Waiting) (ws : List Waiting) → length w.bytes ≤ room → left_of room (w ∷ ws) ≡ left_of (room - length w.bytes) ws
left-whole room w ws fits =
    ap (λ (b : Bool). if b then left_of (room - length w.bytes) ws else record { stream = w.stream; bytes = drop room w.bytes } ∷ ws) (le-leb (length w.bytes) room fits)

pub left-part : (room : ℕ) (w : Waiting) (ws : List Waiting) → room < length w.bytes → left_of room (w ∷ ws) ≡ record { stream = w.stream; bytes = drop room w.bytes } ∷ ws
left-part room w ws short =
    ap (λ (b : Bool). if b then left_of (room - length w.bytes) ws else record { stream = w.stream; bytes = drop room w.bytes } ∷ ws) (lt-leb (length w.bytes) room short)

-- without room nothing is sent
pub sent-nothing : (size : ℕ) (ws : List Waiting) → sent_of size 0 ws ≡ []
sent-nothing size [] = refl
sent-nothing size (w ∷ ws) =
    let none : 0 - length w.bytes ≡ 0 = omega arith in
    ap (λ (ps : List (List ℕ)). pieces_of w.stream ps ++ sent_of size (0 - length w.bytes) ws) (cut-nothing size)
    ∙ ap (λ (r : ℕ). sent_of size r ws) none
    ∙ sent-nothing size ws

pub sent-whole : (size room : ℕ) (w : Waiting) (ws : List Waiting) → length w.bytes ≤ room → sent_of size room (w ∷ ws) ≡ pieces_of w.stream (cut size w.bytes) ++ sent_of size (room - length w.bytes) ws
sent-whole size room w ws fits = ap (λ (bs : List ℕ). pieces_of w.stream (cut size bs) ++ sent_of size (room - length w.bytes) ws) (take-past room w.bytes fits)

pub sent-part : (size room : ℕ) (w : Waiting) (ws : List Waiting) → room < length w.bytes → sent_of size room (w ∷ ws) ≡ pieces_of w.stream (cut size (take room w.bytes))
sent-part size room w ws short =
    let none : room - length w.bytes ≡ 0 = omega arith in
    ap (λ (r : ℕ). pieces_of w.stream (cut size (take room w.bytes)) ++ sent_of size r ws) none
    ∙ ap (λ (ps : List Packet). pieces_of w.stream (cut size (take room w.bytes)) ++ ps) (sent-nothing size ws)
    ∙ append-nil (pieces_of w.stream (cut size (take room w.bytes)))

-- all bytes of one more call are written
pub whole_more : (recipient size room : ℕ) (w : Waiting) (left ws : List Waiting) (before after whole : Outgoing) →
    left ≡ w ∷ ws → length w.bytes ≤ room →
    after ≡ adding before (payloads recipient (pieces_of w.stream (cut size w.bytes))) →
    adding before (payloads recipient (sent_of size room left)) ≡ whole →
    adding after (payloads recipient (sent_of size (room - length w.bytes) ws)) ≡ whole
whole_more recipient size room w left ws before after whole place fits pushed so_far =
    ap (λ (o : Outgoing). adding o (payloads recipient (sent_of size (room - length w.bytes) ws))) pushed
    ∙ adding-append before (payloads recipient (pieces_of w.stream (cut size w.bytes))) (payloads recipient (sent_of size (room - length w.bytes) ws))
    ∙ ap (λ (rs : List Record). adding before rs)
    (sym (payloads-append recipient (pieces_of w.stream (cut size w.bytes)) (sent_of size (room - length w.bytes) ws))
    ∙ ap (λ (ps : List Packet). payloads recipient ps) (sym (sent-whole size room w ws fits) ∙ ap (λ (l : List Waiting). sent_of size room l) (sym place)))
    ∙ so_far

-- the front of one call's bytes is the last piece that is written
pub part_done : (recipient size room : ℕ) (w : Waiting) (left ws : List Waiting) (before after whole : Outgoing) →
    left ≡ w ∷ ws → room < length w.bytes →
    after ≡ adding before (payloads recipient (pieces_of w.stream (cut size (take room w.bytes)))) →
    adding before (payloads recipient (sent_of size room left)) ≡ whole → after ≡ whole
part_done recipient size room w left ws before after whole place short pushed so_far =
    pushed
    ∙ ap (λ (ps : List Packet). adding before (payloads recipient ps)) (sym (sent-part size room w ws short) ∙ ap (λ (l : List Waiting). sent_of size room l) (sym place))
    ∙ so_far

-- whether some bytes remain
pub left_some : (room : ℕ) (w : Waiting) (left ws all : List Waiting) → left ≡ w ∷ ws → room < length w.bytes → left_of room left ≡ all → eqb (length all) 0 ≡ false
left_some room w left ws all place short is =
    ap (λ (l : List Waiting). eqb (length l) 0) (sym is ∙ ap (λ (l : List Waiting). left_of room l) place ∙ left-part room w ws short)
    ∙ eqb-suc-zero (length ws)

-- if nothing is sent, no bytes are

pub append_none : (a b : List Packet) → a ++ b ≡ [] → (a ≡ []) × (b ≡ [])
append_none [] b none = (refl, none)
append_none (p ∷ a) b none = absurd (cc)

pieces_none : (stream : Stream) (size : ℕ) (bytes : List ℕ) → pieces_of stream (cut size bytes) ≡ [] → bytes ≡ []
unfolding cut
pieces_none stream size [] none = refl
pieces_none stream size (b ∷ bytes) none = absurd (cc)

-- The same at a place in the queue.
module _ (recipient size room at : ℕ) (stream : Stream) (bytes : List ℕ) (w : Waiting) (ws : List Waiting)
    (within : at < length ws) (place : w ≡ get_or ws at w) (stream_is : stream ≡ w.stream) (bytes_is : bytes ≡ w.bytes) where
  next : drop at ws ≡ w ∷ drop (at + 1) ws
  next = drop_more ws at w within ∙ ap (λ (v : Waiting). v ∷ drop (at + 1) ws) (sym place)

  pub whole_at : (before after whole : Outgoing) → length bytes ≤ room →
      after ≡ adding before (payloads recipient (pieces_of stream (cut size bytes))) →
      adding before (payloads recipient (sent_of size room (drop at ws))) ≡ whole →
      adding after (payloads recipient (sent_of size (room - length bytes) (drop (at + 1) ws))) ≡ whole
  whole_at before after whole fits pushed so_far =
      let fit : length w.bytes ≤ room = omega (arith, ap length bytes_is) in
      let output : after ≡ adding before (payloads recipient (pieces_of w.stream (cut size w.bytes))) =
      pushed ∙ ap (λ (s : Stream). adding before (payloads recipient (pieces_of s (cut size bytes)))) stream_is ∙ ap (λ (bs : List ℕ). adding before (payloads recipient (pieces_of w.stream (cut size bs)))) bytes_is in
      ap (λ (bs : List ℕ). adding after (payloads recipient (sent_of size (room - length bs) (drop (at + 1) ws)))) bytes_is
      ∙ whole_more recipient size room w (drop at ws) (drop (at + 1) ws) before after whole next fit output so_far

  pub rest_at : (all : List Waiting) → length bytes ≤ room → left_of room (drop at ws) ≡ all → left_of (room - length bytes) (drop (at + 1) ws) ≡ all
  rest_at all fits is =
      let fit : length w.bytes ≤ room = omega (arith, ap length bytes_is) in
      ap (λ (bs : List ℕ). left_of (room - length bs) (drop (at + 1) ws)) bytes_is
      ∙ sym (left-whole room w (drop (at + 1) ws) fit) ∙ ap (λ (l : List Waiting). left_of room l) (sym next) ∙ is

  pub part_at : (part : List ℕ) (before after whole : Outgoing) → room < length bytes → part ≡ take room bytes →
      after ≡ adding before (payloads recipient (pieces_of stream (cut size part))) →
      adding before (payloads recipient (sent_of size room (drop at ws))) ≡ whole → after ≡ whole
  part_at part before after whole short front pushed so_far =
      let shorter : room < length w.bytes = omega (arith, ap length bytes_is) in
      let output : after ≡ adding before (payloads recipient (pieces_of w.stream (cut size (take room w.bytes)))) =
      pushed ∙ ap (λ (bs : List ℕ). adding before (payloads recipient (pieces_of stream (cut size bs)))) front ∙ ap (λ (s : Stream). adding before (payloads recipient (pieces_of s (cut size (take room bytes))))) stream_is ∙ ap (λ (bs : List ℕ). adding before (payloads recipient (pieces_of w.stream (cut size (take room bs))))) bytes_is in
      part_done recipient size room w (drop at ws) (drop (at + 1) ws) before after whole next shorter output so_far

  pub some_at : (all : List Waiting) → room < length bytes → left_of room (drop at ws) ≡ all → eqb (length all) 0 ≡ false
  some_at all short is =
      let shorter : room < length w.bytes = omega (arith, ap length bytes_is) in
      left_some room w (drop at ws) (drop (at + 1) ws) all next shorter is

  -- if nothing of what waits is sent, there are no bytes here, and nothing after them is sent
  pub whole_none : length bytes ≤ room → sent_of size room (drop at ws) ≡ [] → (bytes ≡ []) × (sent_of size (room - length bytes) (drop (at + 1) ws) ≡ [])
  whole_none fits none =
      let fit : length w.bytes ≤ room = omega (arith, ap length bytes_is) in
      let parts =
      append_none (pieces_of w.stream (cut size w.bytes)) (sent_of size (room - length w.bytes) (drop (at + 1) ws)) (sym (sent-whole size room w (drop (at + 1) ws) fit) ∙ ap (λ (l : List Waiting). sent_of size room l) (sym next) ∙ none) in (
        bytes_is ∙ pieces_none w.stream size w.bytes parts.0,
        ap (λ (bs : List ℕ). sent_of size (room - length bs) (drop (at + 1) ws)) bytes_is ∙ parts.1,
      )

  pub part_none : (part : List ℕ) → room < length bytes → part ≡ take room bytes → sent_of size room (drop at ws) ≡ [] → part ≡ []
  part_none part short front none =
      let shorter : room < length w.bytes = omega (arith, ap length bytes_is) in
      front ∙ ap (λ (bs : List ℕ). take room bs) bytes_is
      ∙ pieces_none w.stream size (take room w.bytes) (sym (sent-part size room w (drop (at + 1) ws) shorter) ∙ ap (λ (l : List Waiting). sent_of size room l) (sym next) ∙ none)
