use Rattle.std.specs.Prelude.{false}
use Rattle.sshc_test_agent.proofs.sharing.seats_weigh_too.Given as goal

abbrev pub ghosts-second_seat-L-Settings : goal.ghosts-second_seat-L-Settings
ghosts-second_seat-L-Settings g a = record { asks = false; limit = 64 }

abbrev pub ghosts-second_seat-L-Ledger : goal.ghosts-second_seat-L-Ledger
ghosts-second_seat-L-Ledger g a = record { name = a.blank.name; parts = a.blank.parts }
