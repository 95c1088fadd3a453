-- Records that were added before stay first, and change nothing.
use Rattle.std.proofs.Common.{◌≡◌, Bool, true, false, List, [], ◌∷◌, refl, ap, ◌∙◌}
use Rattle.sshc_wire.specs.declared.record.Record.{Record}
use Rattle.sshc_mux.specs.ChannelTable.{records_of}
use Rattle.sshc_client_table.specs.SessionState.{SessionState}
use Rattle.sshc_client_table.specs.Moves as m
use Rattle.sshc_client_table.specs.Moves.{Deed, Move, after, deed, deed_of, did, done, done_if, may_go, onto, still, with_deed}
use Rattle.sshc_client_table.specs.RecordsTaken.{with_earlier}
use Rattle.sshc_client_table.specs.ListLaws.{onto-behind}

same_deed : (before : List Record) (move : Move) (s : SessionState) → deed move (with_earlier before s) ≡ deed move s
same_deed before (m.Reserves sender) s = refl
same_deed before (m.Sends id stream bytes) s = refl
same_deed before (m.EndsBytes id) s = refl
same_deed before (m.Closes id) s = refl
same_deed before (m.PeerCloses id) s = refl
same_deed before (m.Grants id amount) s = refl
same_deed before (m.Receives id len) s = refl
same_deed before (m.Opens asked ticket) s = refl
same_deed before (m.Confirms c) s = refl
same_deed before (m.Fails id reason) s = refl
same_deed before (m.Accepts id) s = refl
same_deed before (m.Rejects id reason) s = refl
same_deed before (m.RequestsOn id request) s = refl
same_deed before (m.AnswersOn id done) s = refl
same_deed before (m.Answers done) s = refl
same_deed before (m.Asks ask) s = refl
same_deed before (m.Disconnects reason description language) s = refl
same_deed before (m.Replied resolution) s = refl
same_deed before (m.Resolves ticket resolution) s = refl
same_deed before (m.DeniesTicket ticket) s = refl
same_deed before (m.Tells output) s = refl
same_deed before move s = refl

same_may : (before : List Record) (move : Move) (s : SessionState) → may_go move (with_earlier before s) ≡ may_go move s
same_may before (m.DeniesTicket ticket) s = refl
same_may before (m.Tells output) s = refl
same_may before m.Begins s = refl
same_may before m.Leaves s = refl
same_may before m.Stops s = refl
same_may before move s = refl

same_if : (b c : Bool) (d e : Deed) (before : List Record) (s : SessionState) → b ≡ c → d ≡ e → done_if b d (with_earlier before s) ≡ done_if c e s
same_if true true d e before s is same = same
same_if false false d e before s is same = refl
same_if true false d e before s is same = absurd cc
same_if false true d e before s is same = absurd cc

same_deed_of : (before : List Record) (move : Move) (s : SessionState) → deed_of move (with_earlier before s) ≡ deed_of move s
same_deed_of before move s =
    same_if (may_go move (with_earlier before s)) (may_go move s) (deed move (with_earlier before s)) (deed move s) before s (same_may before move s) (same_deed before move s)

behind_deed : (before : List Record) (d : Deed) (s : SessionState) → with_deed d (with_earlier before s) ≡ with_earlier before (with_deed d s)
behind_deed before d s =
    let output : List Record = records_of (did d.call s.table).output in
    ap (λ (rs : List Record). record (with_deed d s) { records = rs })
    (ap (λ (rs : List Record). onto rs d.says) (onto-behind before s.records output) ∙ onto-behind before (onto s.records output) d.says)

behind_move : (before : List Record) (move : Move) (s : SessionState) → after move (with_earlier before s) ≡ with_earlier before (after move s)
unfolding after
behind_move before move s = ap (λ (d : Deed). with_deed d (with_earlier before s)) (same_deed_of before move s) ∙ behind_deed before (deed_of move s) s

pub only_added : (before : List Record) (moves : List Move) (s : SessionState) → done moves (with_earlier before s) ≡ with_earlier before (done moves s)
only_added before [] s = refl
only_added before (move ∷ moves) s = ap (λ (t : SessionState). done moves t) (behind_move before move s) ∙ only_added before moves (after move s)
