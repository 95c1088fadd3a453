-- When an acceptor counts a failure: only one that no later call can mend (accept(2): EBADF, EINVAL and the like; not
-- ECONNABORTED, EMFILE or ENOMEM).
use Rattle.std.specs.Prelude.{◌≡◌, ◌≤◌, ℕ, Result, Ok, Err}
use Rattle.sshc_wire.specs.Faults.{Rose}
use Rattle.sshc_agent.specs.declared.accepting.NotAccepted.{NotAccepted}
use Rattle.sshc_agent.specs.declared.accepting.NotAccepted.TheVariants.{NotNow, Over}

-- the count rises where no later stream can be accepted, and stays as it was with every other result
abbrev pub CountsOver : {T : Type 0} → ℕ → ℕ → Result T NotAccepted → Type 0
CountsOver before now (Ok stream) = now ≡ before
CountsOver before now (Err Over) = (before ≤ now) × Rose before now
CountsOver before now (Err NotNow) = now ≡ before
