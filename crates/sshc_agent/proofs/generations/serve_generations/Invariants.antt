use Rattle.std.specs.Prelude.{true}
use Rattle.sshc_agent.proofs.generations.serve_generations.Given as goal

abbrev pub ghosts-serve_generations_by-L-Settings : goal.ghosts-serve_generations_by-L-Settings
ghosts-serve_generations_by-L-Settings g a = record { asks = true; limit = a.journal_limit }

abbrev pub ghosts-serve_generations_by-L-Ledger : goal.ghosts-serve_generations_by-L-Ledger
ghosts-serve_generations_by-L-Ledger g a = record { name = a.blank.name; parts = a.blank.parts }
