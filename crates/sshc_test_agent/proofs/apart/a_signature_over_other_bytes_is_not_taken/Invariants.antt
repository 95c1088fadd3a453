use Rattle.std.specs.Prelude.{false}
use Rattle.sshc_test_agent.proofs.apart.a_signature_over_other_bytes_is_not_taken.Given as goal

abbrev pub ghosts-closed_by_another-L-Settings : goal.ghosts-closed_by_another-L-Settings
ghosts-closed_by_another-L-Settings g a = record { asks = false; limit = 100000 }

abbrev pub ghosts-closed_by_another-L-Ledger : goal.ghosts-closed_by_another-L-Ledger
ghosts-closed_by_another-L-Ledger g a = record { name = a.blank.name; parts = a.blank.parts }
