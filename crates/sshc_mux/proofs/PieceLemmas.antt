-- Pieces of one call's bytes, one after the other.
use Rattle.std.proofs.Common.{◌≡◌, ℕ, zero, suc, ◌<◌, ◌≤◌, min, List, [], ◌∷◌, ◌++◌, length, take, drop, refl, ap, sym, ◌∙◌, arith, length-drop, inl, inr}
use Rattle.std.proofs.lemmas.Bool.{cases_lt}
use Rattle.sshc_wire.specs.Outgoing.{Outgoing}
use Rattle.sshc_wire.specs.declared.record.Record.{Record}
use Rattle.sshc_wire.specs.declared.record.Record.TheVariants.{Payload}
use Rattle.sshc_mux.specs.declared.chunk.Stream.{Stream}
use Rattle.sshc_mux.specs.Packets.{Packet, Piece, adding, packet_text, payloads}
use Rattle.sshc_mux.specs.ChannelTable.Sending.{cut, cut_up_to, pieces_of}
use Rattle.sshc_mux.proofs.AddingLemmas.{adding-append, adding-nil}

-- more pieces than bytes aren't needed
enough : (n m size : ℕ) (bytes : List ℕ) → 0 < size → length bytes ≤ n → length bytes ≤ m → cut_up_to n size bytes ≡ cut_up_to m size bytes
enough zero zero size bytes some fits within = refl
enough zero (suc m) size [] some fits within = refl
enough zero (suc m) size (b ∷ bytes) some fits within = absurd (omega arith)
enough (suc n) zero size [] some fits within = refl
enough (suc n) zero size (b ∷ bytes) some fits within = absurd (omega arith)
enough (suc n) (suc m) size [] some fits within = refl
enough (suc n) (suc m) size (b ∷ bytes) some fits within =
    ap (λ (ps : List (List ℕ)). take size (b ∷ bytes) ∷ ps)
    (enough n m size (drop size (b ∷ bytes)) some (omega (arith, length-drop size (b ∷ bytes))) (omega (arith, length-drop size (b ∷ bytes))))

pub cut-nothing : (size : ℕ) → cut size [] ≡ []
unfolding cut
cut-nothing size = refl

-- the first piece, and those after it
pub cut-more : (size : ℕ) (bytes : List ℕ) → 0 < size → 0 < length bytes → cut size bytes ≡ take size bytes ∷ cut size (drop size bytes)
unfolding cut
cut-more size [] some more = absurd (omega arith)
cut-more size (b ∷ bytes) some more =
    ap (λ (ps : List (List ℕ)). take size (b ∷ bytes) ∷ ps)
    (enough (length bytes) (length (drop size (b ∷ bytes))) size (drop size (b ∷ bytes)) some (omega (arith, length-drop size (b ∷ bytes))) (omega arith))

pub payloads-append : (recipient : ℕ) (a b : List Packet) → payloads recipient (a ++ b) ≡ payloads recipient a ++ payloads recipient b
payloads-append recipient [] b = refl
payloads-append recipient (p ∷ a) b = ap (λ (rs : List Record). Payload (packet_text recipient p) ∷ rs) (payloads-append recipient a b)

pub take-past : (n : ℕ) (bytes : List ℕ) → length bytes ≤ n → take n bytes ≡ bytes
take-past zero [] h = refl
take-past zero (b ∷ bytes) h = absurd (omega arith)
take-past (suc n) [] h = refl
take-past (suc n) (b ∷ bytes) h = ap (λ (bs : List ℕ). b ∷ bs) (take-past n bytes (omega arith))

pub drop-past : (n : ℕ) (bytes : List ℕ) → length bytes ≤ n → drop n bytes ≡ []
drop-past zero [] h = refl
drop-past zero (b ∷ bytes) h = absurd (omega arith)
drop-past (suc n) [] h = refl
drop-past (suc n) (b ∷ bytes) h = drop-past n bytes (omega arith)

-- taking `n` of the bytes is taking the smaller of `n` and their number
pub take-min : (n count : ℕ) (bytes : List ℕ) → count ≡ min (length bytes) n → take n bytes ≡ take count bytes
take-min n count bytes is =
    elim (cases_lt n (length bytes)) [
      | inl h ↦ let same : count ≡ n = omega arith in ap (λ (k : ℕ). take k bytes) (sym same)
      | inr h ↦ let fits : length bytes ≤ n = omega arith in let past : length bytes ≤ count = omega arith in take-past n bytes fits ∙ sym (take-past count bytes past)
    ]

drop-min : (n count : ℕ) (bytes : List ℕ) → count ≡ min (length bytes) n → drop n bytes ≡ drop count bytes
drop-min n count bytes is =
    elim (cases_lt n (length bytes)) [
      | inl h ↦ let same : count ≡ n = omega arith in ap (λ (k : ℕ). drop k bytes) (sym same)
      | inr h ↦ let fits : length bytes ≤ n = omega arith in let past : length bytes ≤ count = omega arith in drop-past n bytes fits ∙ sym (drop-past count bytes past)
    ]

-- one more piece, and the records that were written so far
pub piece_more : (recipient size count : ℕ) (stream : Stream) (bytes piece rest : List ℕ) (before after whole : Outgoing) →
    0 < length bytes → (0 < length bytes → 0 < size) → count ≡ min (length bytes) size → piece ≡ take count bytes → rest ≡ drop count bytes →
    after ≡ adding before (payloads recipient (Piece stream piece ∷ [])) →
    adding before (payloads recipient (pieces_of stream (cut size bytes))) ≡ whole →
    adding after (payloads recipient (pieces_of stream (cut size rest))) ≡ whole
piece_more recipient size count stream bytes piece rest before after whole more some is first behind pushed so_far =
    let front : take size bytes ≡ piece = take-min size count bytes is ∙ sym first in
    let back : drop size bytes ≡ rest = drop-min size count bytes is ∙ sym behind in
    let next : cut size bytes ≡ piece ∷ cut size rest =
    cut-more size bytes (some more) more ∙ ap (λ (p : List ℕ). p ∷ cut size (drop size bytes)) front ∙ ap (λ (r : List ℕ). piece ∷ cut size r) back in
    ap (λ (o : Outgoing). adding o (payloads recipient (pieces_of stream (cut size rest)))) pushed
    ∙ adding-append before (payloads recipient (Piece stream piece ∷ [])) (payloads recipient (pieces_of stream (cut size rest)))
    ∙ ap (λ (ps : List (List ℕ)). adding before (payloads recipient (pieces_of stream ps))) (sym next)
    ∙ so_far

-- no more pieces
pub pieces_done : (recipient size : ℕ) (stream : Stream) (bytes : List ℕ) (before whole : Outgoing) → length bytes ≡ 0 →
    adding before (payloads recipient (pieces_of stream (cut size bytes))) ≡ whole → before ≡ whole
unfolding cut
pieces_done recipient size stream [] before whole none so_far = sym (adding-nil before) ∙ so_far
pieces_done recipient size stream (b ∷ bytes) before whole none so_far = absurd (omega arith)
