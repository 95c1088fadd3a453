use Rattle.std.specs.Prelude.{false}
use Rattle.sshc_test_agent.proofs.sharing.a_lock_of_one_seat_is_a_lock_of_the_other.Given as goal

abbrev pub ghosts-four_calls-L-Settings : goal.ghosts-four_calls-L-Settings
ghosts-four_calls-L-Settings g a = record { asks = false; limit = 1000000 }

abbrev pub ghosts-four_calls-L-Ledger : goal.ghosts-four_calls-L-Ledger
ghosts-four_calls-L-Ledger g a = record { name = a.blank.name; parts = a.blank.parts }
