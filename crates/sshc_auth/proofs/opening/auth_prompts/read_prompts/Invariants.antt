use Rattle.std.proofs.Common.{◌≡◌, ◌-◌}
use Rattle.sshc_auth.specs.OpeningTable.AuthPrompts.{prompts_at}
use Rattle.sshc_auth.proofs.PromptLemmas.{behind_all}
use Rattle.sshc_auth.proofs.opening.auth_prompts.read_prompts.Given as goal

abbrev pub invariant-loop : goal.invariant-loop
invariant-loop l = prompts_at l.n l.initial.packet ≡ behind_all l.prompts (prompts_at (l.n - l.counter) l.packet)
