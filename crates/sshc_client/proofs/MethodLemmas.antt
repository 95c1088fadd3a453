-- After a method of one move the session is grown.
use Rattle.std.proofs.Common.{◌≡◌, List, [], ◌∷◌, None, Result, Ok, Err, refl, sym, subst}
use Rattle.sshc_wire.specs.declared.disconnect.Disconnect.{Disconnect}
use Rattle.sshc_wire.specs.declared.error.NoMemory.{NoMemory as RanOut}
use Rattle.sshc_client_packets.specs.ChannelOpens.{ChannelOpen}
use Rattle.sshc_client_table.specs.SessionState.{SessionState}
use Rattle.sshc_client_table.specs.Moves.{Disconnects, Leaves, Move, Moved, Opens, after, done}
use Rattle.sshc_client_table.specs.Grown.{Grown, May}
use Rattle.sshc_client_table.specs.GrownLaws.{grown_by, grown_same}
use Rattle.sshc_client.specs.Methods.{Acts, acted}

pub moved_acts : (m : Move) (old new : SessionState) (moved : Result (Unit {0}) RanOut) → Moved m old new moved → Acts (m ∷ []) old new (acted moved)
moved_acts m old new (Ok u) is = is
moved_acts m old new (Err e) same = (refl, same)

pub moved_grown : (m : Move) (old new : SessionState) (moved : Result (Unit {0}) RanOut) → May m → Moved m old new moved → Grown old new
moved_grown m old new (Ok u) may is = subst (Grown old) (sym is) (grown_by m old may)
moved_grown m old new (Err e) may same = subst (Grown old) (sym same) (grown_same old)

pub same_grown : (old new : SessionState) → new ≡ old → Grown old new
same_grown old new same = subst (Grown old) (sym same) (grown_same old)

pub grown_by_open : (asked : ChannelOpen) (old new : SessionState) → new ≡ after (Opens asked None) old → Grown old new
grown_by_open asked old new is = subst (Grown old) (sym is) (grown_by (Opens asked None) old tt)

-- the user disconnects: the packet, and then the session is left
pub left_grown : (reason : Disconnect) (description language : List _) (old mid new : SessionState) → mid ≡ after (Disconnects reason description language) old → new ≡ after Leaves mid → Grown old new
left_grown reason description language old mid new first second = record { moves = Disconnects reason description language ∷ Leaves ∷ []; may = (tt, (tt, tt)); is = rw (second, first) refl }
