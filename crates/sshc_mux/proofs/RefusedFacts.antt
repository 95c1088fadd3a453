-- Wrong calls that the laws exclude, worked on a channel of ours that the peer confirmed as its number 5.
use Rattle.std.proofs.Common.{◌≡◌, ℕ, ◌+◌, true, false, [], ◌∷◌, None, refl, ap, arith}
use Rattle.sshc_mux.specs.declared.chunk.Stream.TheVariants as Streams
use Rattle.sshc_mux.specs.declared.channel.Stage.TheVariants as Stages
use Rattle.sshc_mux.specs.ChannelState.{Head, ChannelFlow, ChannelState}
use Rattle.sshc_mux.specs.Packets.{Piece, Eof, Close}
use Rattle.sshc_mux.specs.ChannelTable.Opens.{opened_by_user, confirmed}
use Rattle.sshc_mux.specs.ChannelAccount.{Moves, bytes_part, eof_part, close_part, grant_part, AllAddressed}

abbrev opened : ℕ → ChannelState
opened window = confirmed 5 window 100 (opened_by_user 1 100 0 None)

abbrev with_flow : ChannelState → ChannelFlow → ChannelState
with_flow c f = record c { flow = f }

abbrev with_head : ChannelState → Head → ChannelState
with_head c h = record c { head = h }

-- a byte waits for the window
abbrev held_up : ChannelState
held_up = with_flow (opened 0) (record (opened 0).flow { pending = record { stream = Streams.Data; bytes = 97 ∷ [] } ∷ [] })

-- EOF is asked for although no bytes wait, and isn't sent
never_ends : Moves (opened 4) (with_flow (opened 4) (record (opened 4).flow { eof = Stages.Asked })) [] (eof_part (opened 4)) → ⊥
never_ends m = let due : true ≡ false = (m.flow.ends refl refl refl).eof in absurd (cc)

never_closes : Moves (opened 4) (with_flow (opened 4) (record (opened 4).flow { close = Stages.Asked })) [] close_part → ⊥
never_closes m = let due : true ≡ false = (m.flow.ends refl refl refl).close in absurd (cc)

-- EOF is counted as sent, and isn't written
counted_alone : Moves (opened 4) (with_flow (opened 4) (record (opened 4).flow { eof = Stages.Sent })) [] (eof_part (opened 4)) → ⊥
counted_alone m = let same : false ≡ true = m.flow.order.0 in absurd (cc)

-- what was asked for is forgotten
forgets : Moves (opened 4) (opened 4) [] (eof_part (opened 4)) → ⊥
forgets m = let same : true ≡ false = m.flow.eof in absurd (cc)

-- our close is sent before bytes that wait
closes_early : Moves held_up (with_flow held_up (record held_up.flow { close = Stages.Sent })) (Close ∷ []) close_part → ⊥
closes_early m = let none : held_up.flow.pending ≡ [] = m.sound.flow.close refl in absurd (cc)

-- two bytes are sent in two pieces
single_bytes : Moves (opened 4) (with_flow (opened 4) (record (opened 4).flow { window = 2 })) (Piece Streams.Data (97 ∷ []) ∷ Piece Streams.Data (98 ∷ []) ∷ []) (bytes_part Streams.Data (97 ∷ 98 ∷ []) false (opened 4)) → ⊥
single_bytes m = let same : 1 ≡ 2 = m.flow.longest.1 in absurd (omega (arith, same))

-- a grant after which nothing is sent
grants_alone : Moves held_up (with_flow held_up (record held_up.flow { window = 3 })) [] (grant_part 3 false held_up) → ⊥
grants_alone m = let none : held_up.flow.pending ≡ [] = m.flow.prompt refl refl (omega arith) (omega arith) in absurd (cc)

-- bytes wait although they may be sent
abbrev in_vain : ChannelState
in_vain = with_flow (opened 4) (record (opened 4).flow { pending = record { stream = Streams.Data; bytes = 97 ∷ [] } ∷ [] })

waits_in_vain : Moves (opened 4) in_vain [] (bytes_part Streams.Data (97 ∷ []) false (opened 4)) → ⊥
waits_in_vain m = let none : in_vain.flow.pending ≡ [] = m.flow.prompt refl refl (omega arith) (omega arith) in absurd (cc)

-- bytes are sent, and the window stays
window_stays : Moves (opened 4) (opened 4) (Piece Streams.Data (97 ∷ []) ∷ []) (bytes_part Streams.Data (97 ∷ []) false (opened 4)) → ⊥
window_stays m = let same : 1 + 4 ≡ 4 + 0 = m.flow.window in absurd (omega (arith, same))

-- a grant is ignored
drops_a_grant : Moves (opened 4) (opened 4) [] (grant_part 3 true (opened 4)) → ⊥
drops_a_grant m = let same : 0 + 4 ≡ 4 + 3 = m.flow.window in absurd (omega (arith, same))

-- a packet goes to number 0
to_nobody : AllAddressed (opened 4 ∷ []) (record { number = 1; recipient = 0; packet = Eof } ∷ []) → ⊥
to_nobody all = absurd (cc all.0)

-- the peer's number changes
moves_away : Moves (opened 4) (with_head (opened 4) (record (opened 4).head { recipient = 6 })) [] close_part → ⊥
moves_away m = let same : 6 ≡ 5 = ap (λ (h : Head). h.recipient) m.head in absurd (omega (arith, same))
