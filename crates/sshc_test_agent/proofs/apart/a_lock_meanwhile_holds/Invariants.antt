use Rattle.std.specs.Prelude.{false}
use Rattle.sshc_test_agent.proofs.apart.a_lock_meanwhile_holds.Given as goal

abbrev pub ghosts-answered_beside-L-Settings : goal.ghosts-answered_beside-L-Settings
ghosts-answered_beside-L-Settings g a = record { asks = false; limit = 100000 }

abbrev pub ghosts-answered_beside-L-Ledger : goal.ghosts-answered_beside-L-Ledger
ghosts-answered_beside-L-Ledger g a = record { name = a.blank.name; parts = a.blank.parts }
