use Rattle.std.specs.Prelude.{false}
use Rattle.sshc_test_agent.proofs.sharing.a_seat_is_out.Given as goal

abbrev pub ghosts-seat_out-L-Settings : goal.ghosts-seat_out-L-Settings
ghosts-seat_out-L-Settings g a = record { asks = false; limit = 1000000 }

abbrev pub ghosts-seat_out-L-Ledger : goal.ghosts-seat_out-L-Ledger
ghosts-seat_out-L-Ledger g a = record { name = a.blank.name; parts = a.blank.parts }
