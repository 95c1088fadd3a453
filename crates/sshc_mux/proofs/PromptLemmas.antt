-- Pieces fit into packets, and nothing waits that may be sent.
use Rattle.std.proofs.Common.{◌≡◌, ℕ, zero, suc, ◌-◌, ◌<◌, ◌≤◌, min, Bool, true, false, not, ◌&&◌, List, [], ◌∷◌, ◌++◌, length, take, drop, ltb, if◌then◌else◌, refl, ap, sym, subst, ◌∙◌, inl, inr, arith, length-take, length-drop}
use Rattle.std.proofs.lemmas.Bool.{ltb-true, lt-ltb, cases_lt}
use Rattle.sshc_mux.specs.declared.chunk.Stream.{Stream}
use Rattle.sshc_mux.specs.ChannelState.{Head, ChannelFlow, Waiting}
use Rattle.sshc_mux.specs.Packets.{Packet, Piece, Eof, Close, Adjust}
use Rattle.sshc_mux.specs.ChannelTable.Sending.{cut, cut_up_to, pieces_of, count_of, sent_of, left_of, room_of, emptied, may_end, is_due, ends_of, flushed}
use Rattle.sshc_mux.specs.ChannelAccount.{AllFilled, AreLongest}
use Rattle.sshc_mux.proofs.SendingLemmas.{left-whole, left-part, sent-whole, sent-part, sent-nothing}
use Rattle.sshc_mux.proofs.PieceLemmas.{drop-past}
use Rattle.sshc_mux.proofs.TestLemmas.{and_right}

-- whatever room remains, these packets hold no bytes
abbrev AreEnds : List Packet → Type 0
AreEnds ps = (size window : ℕ) (waiting : List Waiting) → AreLongest size window waiting ps

longest_then : (size window : ℕ) (waiting : List Waiting) (a b : List Packet) → AreLongest size window waiting a → AreEnds b → AreLongest size window waiting (a ++ b)
longest_then size window waiting [] b first ends = ends size window waiting
longest_then size window waiting (Piece s bytes ∷ a) b first ends = (first.0, first.1, longest_then size (window - length bytes) (left_of (length bytes) waiting) a b first.2 ends)
longest_then size window waiting (Eof ∷ a) b first ends = longest_then size window waiting a b first ends
longest_then size window waiting (Close ∷ a) b first ends = longest_then size window waiting a b first ends
longest_then size window waiting (Adjust amount ∷ a) b first ends = longest_then size window waiting a b first ends

-- no empty entry waits, so nothing is sent without room
left_nothing : (ws : List Waiting) → AllFilled ws → left_of 0 ws ≡ ws
left_nothing [] filled = refl
left_nothing (w ∷ ws) filled = left-part 0 w ws filled.0

cut_none : (n size : ℕ) → cut_up_to n size [] ≡ []
cut_none zero size = refl
cut_none (suc n) size = refl

take_none : (n : ℕ) → let none : List ℕ = [] in none ≡ take n []
take_none zero = refl
take_none (suc n) = refl

-- a front without its own front
drop_take : (k n : ℕ) (bytes : List ℕ) → drop k (take n bytes) ≡ take (n - k) (drop k bytes)
drop_take zero n bytes = let same : n ≡ n - 0 = omega arith in ap (λ (j : ℕ). take j bytes) same
drop_take (suc k) zero bytes = let none : 0 ≡ 0 - suc k = omega arith in ap (λ (j : ℕ). take j (drop (suc k) bytes)) none
drop_take (suc k) (suc n) [] = take_none (suc n - suc k)
drop_take (suc k) (suc n) (b ∷ bytes) = let same : n - k ≡ suc n - suc k = omega arith in drop_take k n bytes ∙ ap (λ (j : ℕ). take j (drop k bytes)) same

front_behind : (size room k : ℕ) (bytes : List ℕ) → k ≡ min size (length (take room bytes)) → room ≤ length bytes → drop size (take room bytes) ≡ take (room - k) (drop k bytes)
front_behind size room k bytes is fits =
    let front_is : length (take room bytes) ≡ min room (length bytes) = length-take room bytes in
    elim (cases_lt size room) [
      | inl short ↦ let same : size ≡ k = omega arith in drop_take size room bytes ∙ ap (λ (j : ℕ). take (room - j) (drop j bytes)) same
      | inr long ↦ let none : 0 ≡ room - k = omega arith in drop-past size (take room bytes) (omega arith) ∙ ap (λ (j : ℕ). take j (drop k bytes)) none
    ]

-- the pieces of one call's bytes, where there is room for them all
longest_whole : (s : Stream) (n size room : ℕ) (bytes : List ℕ) (ws : List Waiting) (more : List Packet) → 0 < size → length bytes ≤ n → 0 < length bytes → length bytes ≤ room → AllFilled ws →
    AreLongest size (room - length bytes) ws more → AreLongest size room (record { stream = s; bytes = bytes } ∷ ws) (pieces_of s (cut_up_to n size bytes) ++ more)
longest_whole s zero size room bytes ws more positive enough some fits filled rest = absurd (omega arith)
longest_whole s (suc n) size room [] ws more positive enough some fits filled rest = absurd (omega arith)
longest_whole s (suc n) size room (b ∷ bytes) ws more positive enough some fits filled rest =
    let all : List ℕ = b ∷ bytes in
    let w : Waiting = record { stream = s; bytes = all } in
    let piece : List ℕ = take size all in
    let is : length piece ≡ min size (length all) = length-take size all in
    let left_is : length (drop size all) ≡ length all - size = length-drop size all in
    let P : List Waiting → Type 0 = λ l. AreLongest size (room - length piece) l (pieces_of s (cut_up_to n size (drop size all)) ++ more) in
    let Q : ℕ → Type 0 = λ k. AreLongest size k ws more in (
      omega arith,
      omega arith,
      elim (cases_lt size (length all)) [
        | inl short ↦
            let same : size ≡ length piece = omega arith in
            let next : left_of (length piece) (w ∷ ws) ≡ record { stream = s; bytes = drop size all } ∷ ws =
            left-part (length piece) w ws (omega arith) ∙ ap (λ (k : ℕ). let v : Waiting = record { stream = s; bytes = drop k all } in v ∷ ws) (sym same) in
            let count : room - length all ≡ (room - length piece) - length (drop size all) = omega arith in
            subst P (sym next) (longest_whole s n size (room - length piece) (drop size all) ws more positive (omega arith) (omega arith) (omega arith) filled (subst Q count rest))
        | inr long ↦
            let whole : length piece ≡ length all = omega arith in
            let zero_left : length piece - length all ≡ 0 = omega arith in
            let next : left_of (length piece) (w ∷ ws) ≡ ws =
            left-whole (length piece) w ws (omega arith) ∙ ap (λ (k : ℕ). left_of k ws) zero_left ∙ left_nothing ws filled in
            let count : room - length all ≡ room - length piece = omega arith in
            let none : cut_up_to n size (drop size all) ≡ [] = ap (λ (bs : List ℕ). cut_up_to n size bs) (drop-past size all (omega arith)) ∙ cut_none n size in
            subst P (sym next)
            (let R : List (List ℕ) → Type 0 = λ ps. AreLongest size (room - length piece) ws (pieces_of s ps ++ more) in
            subst R (sym none) (subst Q count rest))
      ],
    )

-- there is room only for a front
longest_front : (s : Stream) (n size room : ℕ) (bytes : List ℕ) (ws : List Waiting) → 0 < size → length (take room bytes) ≤ n → room < length bytes →
    AreLongest size room (record { stream = s; bytes = bytes } ∷ ws) (pieces_of s (cut_up_to n size (take room bytes)))
longest_front s zero size room bytes ws positive enough short = tt
longest_front s (suc n) size zero bytes ws positive enough short = tt
longest_front s (suc n) size (suc room) [] ws positive enough short = absurd (omega arith)
longest_front s (suc n) size (suc room) (b ∷ bytes) ws positive enough short =
    let all : List ℕ = b ∷ bytes in
    let w : Waiting = record { stream = s; bytes = all } in
    let front : List ℕ = take (suc room) all in
    let piece : List ℕ = take size front in
    let front_is : length front ≡ min (suc room) (length all) = length-take (suc room) all in
    let is : length piece ≡ min size (length front) = length-take size front in
    let P : List Waiting → Type 0 = λ l. AreLongest size (suc room - length piece) l (pieces_of s (cut_up_to n size (drop size front))) in
    let Q : List ℕ → Type 0 = λ bs. AreLongest size (suc room - length piece) (record { stream = s; bytes = drop (length piece) all } ∷ ws) (pieces_of s (cut_up_to n size bs)) in
    let next : left_of (length piece) (w ∷ ws) ≡ record { stream = s; bytes = drop (length piece) all } ∷ ws = left-part (length piece) w ws (omega arith) in
    let left_is : length (drop (length piece) all) ≡ length all - length piece = length-drop (length piece) all in
    let rest_is : length (take (suc room - length piece) (drop (length piece) all)) ≡ min (suc room - length piece) (length (drop (length piece) all)) = length-take (suc room - length piece) (drop (length piece) all) in (
      omega arith,
      omega arith,
      subst P (sym next) (subst Q (sym (front_behind size (suc room) (length piece) all (omega (arith, is)) (omega arith)))
          (longest_front s n size (suc room - length piece) (drop (length piece) all) ws positive (omega arith) (omega arith))),
    )

front_of : (size room : ℕ) (w : Waiting) (ws : List Waiting) → (0 < room → 0 < size) → room < length w.bytes → AreLongest size room (w ∷ ws) (pieces_of w.stream (cut size (take room w.bytes)))
unfolding cut
front_of size zero w ws some short = tt
front_of size (suc room) w ws some short = longest_front w.stream (length (take (suc room) w.bytes)) size (suc room) w.bytes ws (some (omega arith)) (omega arith) short

longest_sent : (size room : ℕ) (ws : List Waiting) → (0 < room → 0 < size) → AllFilled ws → AreLongest size room ws (sent_of size room ws)
unfolding cut
longest_sent size room [] some filled = tt
longest_sent size room (w ∷ ws) some filled =
    let P : List Packet → Type 0 = λ ps. AreLongest size room (w ∷ ws) ps in
    elim (cases_lt room (length w.bytes)) [
      | inl short ↦ subst P (sym (sent-part size room w ws short)) (front_of size room w ws some short)
      | inr fits ↦ subst P (sym (sent-whole size room w ws fits))
          (longest_whole w.stream (length w.bytes) size room w.bytes ws (sent_of size (room - length w.bytes) ws) (some (omega (arith, filled.0))) (omega arith) filled.0 fits filled.1
          (longest_sent size (room - length w.bytes) ws (λ h. some (omega (arith, filled.0))) filled.1))
    ]

ends_longest : (b e k : Bool) → AreEnds (if b then ((if e then Eof ∷ [] else []) ++ (if k then Close ∷ [] else [])) else [])
ends_longest true true true size window waiting = tt
ends_longest true true false size window waiting = tt
ends_longest true false true size window waiting = tt
ends_longest true false false size window waiting = tt
ends_longest false e k size window waiting = tt

longest_room : (b : Bool) (size window : ℕ) (ws : List Waiting) → (b ≡ true → 0 < size) → AllFilled ws → AreLongest size window ws (sent_of size (if b then window else 0) ws)
longest_room true size window ws some filled = longest_sent size window ws (λ _. some refl) filled
longest_room false size window ws some filled = let P : List Packet → Type 0 = λ ps. AreLongest size window ws ps in subst P (sym (sent-nothing size ws)) tt

pub flush_longest : (exchanging : Bool) (h : Head) (f : ChannelFlow) → AllFilled f.pending → AreLongest h.packet_size f.window f.pending (flushed exchanging h f).packets
unfolding flushed
flush_longest exchanging h f filled =
    longest_then h.packet_size f.window f.pending (sent_of h.packet_size (room_of exchanging h f) f.pending) (ends_of h (emptied (room_of exchanging h f) f))
    (longest_room (h.established && not exchanging && ltb 0 h.packet_size) h.packet_size f.window f.pending (λ yes. ltb-true 0 h.packet_size (and_right (h.established && not exchanging) (ltb 0 h.packet_size) yes)) filled)
    (ends_longest (may_end h (emptied (room_of exchanging h f) f)) (is_due f.eof) (is_due f.close))

left_all : (room : ℕ) (ws : List Waiting) → count_of ws ≤ room → left_of room ws ≡ []
left_all room [] fits = refl
left_all room (w ∷ ws) fits = left-whole room w ws (omega arith) ∙ left_all (room - length w.bytes) ws (omega arith)

whole_room : (h : Head) (f : ChannelFlow) → h.established ≡ true → 0 < h.packet_size → room_of false h f ≡ f.window
whole_room h f up some =
    ap (λ (b : Bool). if b && true && ltb 0 h.packet_size then f.window else 0) up
    ∙ ap (λ (b : Bool). if b then f.window else 0) (lt-ltb 0 h.packet_size some)

-- if no exchange runs, nothing waits that may be sent
pub flush_empties : (exchanging : Bool) (h : Head) (f : ChannelFlow) → exchanging ≡ false → h.established ≡ true → 0 < h.packet_size → 0 < (flushed exchanging h f).flow.window → (flushed exchanging h f).flow.pending ≡ []
unfolding flushed
flush_empties true h f quiet up some window = absurd (cc)
flush_empties false h f quiet up some window =
    let room : room_of false h f ≡ f.window = whole_room h f up some in
    let kept : 0 < f.window - min (room_of false h f) (count_of f.pending) = window in
    ap (λ (r : ℕ). left_of r f.pending) room ∙ left_all f.window f.pending (omega (arith, kept, room))
