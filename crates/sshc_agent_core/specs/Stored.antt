-- How the keys are stored: by their blobs, in the order of their adding.
use Rattle.std.specs.Prelude.{◌≡◌, ℕ, List, [], ◌∷◌}
use Rattle.std.specs.Global.{Vec}
use Rattle.sshc_agent_core.specs.declared.key_list.HeldKey.{HeldKey}

-- each key is stored by its blob
abbrev pub AreKeyed : List (Vec ℕ × HeldKey) → Type 0
AreKeyed [] = Unit {0}
AreKeyed (e ∷ es) = (e.0.items ≡ e.1.blob) × AreKeyed es
