-- No exchange runs after a move in which bytes may be sent.
use Rattle.std.proofs.Common.{Bool, true, false, refl}
use Rattle.sshc_wire.specs.CasesLaws.{not_true}
use Rattle.sshc_wire.specs.Outgoing.{listed}
use Rattle.sshc_client_table.specs.SessionState.{SessionState, exchanging, is_running}
use Rattle.sshc_client_table.specs.Moves as m
use Rattle.sshc_client_table.specs.Moves.{Deed, Move, after, calls_of, deed, deed_of, done_if, may_go, still, with_deed}
use Rattle.sshc_client_table.specs.SessionAccount.{AllIdle}

-- bytes are sent only if no exchange runs
abbrev IsQuiet : Deed → Type 0
IsQuiet d = AllIdle (is_running d.opening.flag) (listed d.call)

quiet_deed : (move : Move) (s : SessionState) → IsQuiet (deed move s)
quiet_deed (m.Reserves sender) s = ((λ h. absurd cc), tt)
quiet_deed (m.Sends id stream bytes) s = ((λ h. not_true (exchanging s) h), tt)
quiet_deed (m.EndsBytes id) s = ((λ h. absurd cc), tt)
quiet_deed (m.Closes id) s = ((λ h. absurd cc), tt)
quiet_deed (m.PeerCloses id) s = ((λ h. absurd cc), tt)
quiet_deed (m.Grants id amount) s = ((λ h. not_true (exchanging s) h), tt)
quiet_deed (m.Receives id len) s = ((λ h. absurd cc), tt)
quiet_deed (m.Opens asked ticket) s = ((λ h. absurd cc), tt)
quiet_deed (m.Confirms c) s = ((λ h. absurd cc), tt)
quiet_deed (m.Fails id reason) s = ((λ h. absurd cc), tt)
quiet_deed (m.Accepts id) s = ((λ h. absurd cc), tt)
quiet_deed (m.Rejects id reason) s = ((λ h. absurd cc), tt)
quiet_deed m.Resumes s = ((λ h. refl), tt)
quiet_deed move s = tt

quiet_done : (b : Bool) (d : Deed) (s : SessionState) → IsQuiet d → IsQuiet (done_if b d s)
quiet_done true d s quiet = quiet
quiet_done false d s quiet = tt

pub idle : (move : Move) (s : SessionState) → AllIdle (exchanging (after move s)) (calls_of move s)
unfolding after
idle move s = quiet_done (may_go move s) (deed move s) s (quiet_deed move s)
