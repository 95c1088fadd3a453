use Rattle.std.specs.Prelude.{false}
use Rattle.sshc_test_agent.proofs.lasting.a_seam_keeps_keys_deadlines_lock_and_questions.Given as goal

abbrev pub ghosts-first_wrong-L-Settings : goal.ghosts-first_wrong-L-Settings
ghosts-first_wrong-L-Settings g a = record { asks = false; limit = 1000000 }

abbrev pub ghosts-first_wrong-L-Ledger : goal.ghosts-first_wrong-L-Ledger
ghosts-first_wrong-L-Ledger g a = record { name = a.blank.name; parts = a.blank.parts }
