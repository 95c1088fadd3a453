-- Events that are handed to a run one by one.
use Rattle.std.specs.Prelude.{◌≡◌, ℕ, List, ◌++◌, Result}
use Rattle.std.specs.List.{flat_map}
use Rattle.sshc_key.specs.Signers.{SignCall}
use Rattle.sshc_auth.specs.declared.ended.Ended.{Ended}
use Rattle.sshc_client_packets.specs.HostKeyProof.{Accepts}
use Rattle.sshc_run_script.specs.declared.error.RunError.{RunError}
use Rattle.sshc_run_script.specs.Paused.{Paused}
use Rattle.sshc_run_script.specs.PausedRuns.{History, followed_by, HasRun, IsRun}
use Rattle.sshc_run_script.specs.RunPromises.{RunAsked}

-- whatever the run was handed before: the first of these events were handed to it, and with them, these calls and these
-- lines it has the guarantees of a run that returned this
abbrev pub Hands : Accepts → Paused → List (List ℕ) → List SignCall → List ℕ → Result Ended RunError → Type 0
Hands accepts old events calls text answer =
    (asked : RunAsked) (h : History) → asked.accepts ≡ accepts → IsRun asked h old →
    (handed later : List (List ℕ)) × (left : List ℕ) × (events ≡ handed ++ later) × HasRun asked (followed_by h (flat_map (λ event. event) handed) calls text) left answer
