-- How the code matches a pattern: up to a `*`, and then at the first place where what follows the `*` fits up to the
-- next one.
use Rattle.std.specs.Prelude.{◌<◌, ℕ, ◌+◌, Bool, true, false, ◌==◌, if◌then◌else◌, List, [], ◌∷◌, length}
use Rattle.std.specs.List.{list_any}
use Rattle.sshc_hosts_openssh.specs.declared.pattern.Reach.{Reach}
use Rattle.sshc_hosts_openssh.specs.declared.pattern.Reach.TheVariants.{Fails, Ends, Star}
use Rattle.sshc_hosts_openssh.specs.Patterns.{endings, fits, matches}

-- how far a pattern goes
pub data Stop : Type 0 where
  fails : Stop
  ends : Stop
  -- what follows the `*`, and the rest of the name
  star : List ℕ → List ℕ → Stop

abbrev pub stop_seen : Reach → Stop
stop_seen Fails = fails
stop_seen Ends = ends
stop_seen (Star pattern name) = star pattern.now name.now

-- byte by byte, up to the first `*`
abbrev pub front : List ℕ → List ℕ → Stop
front [] [] = ends
front [] (c ∷ name) = fails
front (p ∷ pattern) [] = if p == 42 then star pattern [] else fails
front (p ∷ pattern) (c ∷ name) =
    if p == 42 then star pattern (c ∷ name) else if fits p c then front pattern name else fails

-- the same at the first ending of the name at which the pattern doesn't fail
abbrev pub or_later : Stop → Stop → Stop
or_later fails later = later
or_later ends later = ends
or_later (star pattern name) later = star pattern name

abbrev pub seek : List ℕ → List ℕ → Stop
seek pattern [] = front pattern []
seek pattern (c ∷ name) = or_later (front pattern (c ∷ name)) (seek pattern name)

-- whether a pattern that goes so far matches
abbrev pub stop_matches : Stop → Bool
stop_matches fails = false
stop_matches ends = true
stop_matches (star pattern name) = list_any (λ rest. matches pattern rest) (endings name)

-- what follows a `*` is shorter than the pattern
abbrev pub IsShorter : Stop → List ℕ → Type 0
IsShorter fails pattern = Unit {0}
IsShorter ends pattern = Unit {0}
IsShorter (star later name) pattern = length later < length pattern

-- how much of a pattern is left
abbrev pub left_size : Stop → ℕ
left_size fails = 0
left_size ends = 0
left_size (star pattern name) = length pattern + 1
