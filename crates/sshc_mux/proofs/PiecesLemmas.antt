-- The pieces that wait on a channel are not empty, and joined they are the bytes that wait.
use Rattle.std.proofs.Common.{◌≡◌, ℕ, List, [], ◌∷◌, ◌++◌, map, Option, Some, None, refl, ap, sym, ◌∙◌}
use Rattle.std.specs.List.{concat}
use Rattle.std.proofs.lemmas.List.{map-append}
use Rattle.sshc_mux.specs.declared.chunk.Stream.{Stream}
use Rattle.sshc_mux.specs.ChannelState.{ChannelState, TableState, Waiting, channel_of}
use Rattle.sshc_mux.specs.ChannelAccount.{AllFilled, IsLegal, marked, pending}
use Rattle.sshc_mux.specs.WaitingPieces.{AreFull, bytes_of, bytes_waiting, pieces_in, unmarked}

filled_row : (ws : List Waiting) → AllFilled ws → AreFull (map bytes_of ws)
filled_row [] h = tt
filled_row (w ∷ ws) h = (h.0, filled_row ws h.1)

unmark : (s : Stream) (bytes : List ℕ) → map unmarked (marked s bytes) ≡ bytes
unmark s [] = refl
unmark s (b ∷ bytes) = ap (λ (bs : List ℕ). b ∷ bs) (unmark s bytes)

joined_row : (ws : List Waiting) → concat (map bytes_of ws) ≡ map unmarked (pending ws)
joined_row [] = refl
joined_row (w ∷ ws) =
    ap (λ (bs : List ℕ). w.bytes ++ bs) (joined_row ws)
    ∙ ap (λ (bs : List ℕ). bs ++ map unmarked (pending ws)) (sym (unmark w.stream w.bytes))
    ∙ sym (map-append unmarked (marked w.stream w.bytes) (pending ws))

filled_by : (n : ℕ) (t : TableState) (o : Option ChannelState) → channel_of n t.channels ≡ o → IsLegal t → AreFull (pieces_in o)
filled_by n t None is legal = tt
filled_by n t (Some c) is legal = filled_row c.flow.pending (legal.sound n c is).flow.filled

pub filled_in : (n : ℕ) (t : TableState) → IsLegal t → AreFull (pieces_in (channel_of n t.channels))
filled_in n t legal = filled_by n t (channel_of n t.channels) refl legal

joined_by : (o : Option ChannelState) → concat (pieces_in o) ≡ bytes_waiting o
joined_by None = refl
joined_by (Some c) = joined_row c.flow.pending

pub joined_in : (n : ℕ) (cs : List ChannelState) → concat (pieces_in (channel_of n cs)) ≡ bytes_waiting (channel_of n cs)
joined_in n cs = joined_by (channel_of n cs)
