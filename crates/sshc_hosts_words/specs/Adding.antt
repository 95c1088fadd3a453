-- A line that the program writes to a sink.
use Rattle.std.specs.Prelude.{◌≡◌, ◌⊎◌, ℕ, List, Option}
use Rattle.sshc_wire.specs.Contents.{append, WroteFront}
use Rattle.sshc_wire.specs.Faults.{Rose}

-- the line was written and the status is its own; or it was cut, and the status is 22 if the sink failed, else 20. The
-- sink's count of faults rises only with 22
abbrev pub Adds : List ℕ → ℕ → Option (List ℕ) → Option (List ℕ) → ℕ → ℕ → ℕ → Type 0
Adds line own held now faults faults' status =
    ((status ≡ own) × (now ≡ append held line) × (faults' ≡ faults))
    ⊎ (WroteFront held now line × (((status ≡ 22) × Rose faults faults') ⊎ ((status ≡ 20) × (faults' ≡ faults))))
