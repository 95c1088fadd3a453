use Rattle.std.specs.Prelude.{false}
use Rattle.sshc_test_agent.proofs.sharing.the_journal_is_full.Given as goal

abbrev pub ghosts-one_of_two-L-Settings : goal.ghosts-one_of_two-L-Settings
ghosts-one_of_two-L-Settings g a = record { asks = false; limit = 193 }

abbrev pub ghosts-one_of_two-L-Ledger : goal.ghosts-one_of_two-L-Ledger
ghosts-one_of_two-L-Ledger g a = record { name = a.blank.name; parts = a.blank.parts }
