use Rattle.std.specs.Prelude.{false}
use Rattle.sshc_test_agent.proofs.lasting.a_full_journal_is_followed_by_the_next.Given as goal

abbrev pub ghosts-few_at_once-L-Settings : goal.ghosts-few_at_once-L-Settings
ghosts-few_at_once-L-Settings g a = record { asks = false; limit = 519 }

abbrev pub ghosts-few_at_once-L-Ledger : goal.ghosts-few_at_once-L-Ledger
ghosts-few_at_once-L-Ledger g a = record { name = a.blank.name; parts = a.blank.parts }
