use Rattle.std.specs.Prelude.{false}
use Rattle.sshc_test_agent.proofs.serving.threads.two_threads_have_one_history.Given as goal

abbrev pub ghosts-two_threads-L-Settings : goal.ghosts-two_threads-L-Settings
ghosts-two_threads-L-Settings g a = record { asks = false; limit = 1000000 }

abbrev pub ghosts-two_threads-L-Ledger : goal.ghosts-two_threads-L-Ledger
ghosts-two_threads-L-Ledger g a = record { name = a.blank.name; parts = a.blank.parts }
