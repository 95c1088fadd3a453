-- How a stream to an agent is opened: what an opener counts, and which paths it is asked to open.
use Rattle.std.specs.Prelude.{◌≡◌, ◌≤◌, ℕ, List, [], ◌∷◌, ◌++◌, Option, Some, None, Result, IsErrOf}
use Rattle.std.specs.Option.{option_map}
use Rattle.sshc_wire.specs.Faults.{Rose}

-- a count of one fault never falls; the result is that fault only if the count rose, and with any other result the
-- count stays the same
pub record Counts {T E : Type 0} (fault : E) (before after : ℕ) (result : Result T E) : Type 0 where
  pub later : before ≤ after
  pub rose : IsErrOf result fault → Rose before after
  pub same : (IsErrOf result fault → ⊥) → after ≡ before

-- the same for the error itself
pub record CountsFault {E : Type 0} (fault : E) (before after : ℕ) (e : E) : Type 0 where
  pub later : before ≤ after
  pub rose : e ≡ fault → Rose before after
  pub same : (e ≡ fault → ⊥) → after ≡ before

-- one more path, if contracts see the paths that the opener was asked to open
abbrev pub and_path : Option (List (List ℕ)) → List ℕ → Option (List (List ℕ))
and_path paths path = option_map (λ earlier. earlier ++ path ∷ []) paths

-- the path that a variable holds, if there is one
abbrev pub and_path_in : Option (List (List ℕ)) → Option (List ℕ) → Option (List (List ℕ))
and_path_in paths None = paths
and_path_in paths (Some path) = and_path paths path

-- what contracts see of an opener of the system's sockets
pub record CountedOpens : Type 0 where
  pub missing : ℕ
  pub failures : ℕ
