-- The connections that an agent has seen, ordered by number, and the state of each: plain data.
use Rattle.std.specs.Prelude.{ℕ, Bool, true, false, not, List, Option, Some, if◌then◌else◌}
use Rattle.std.specs.Option.{is_some}
use Rattle.std.specs.Ordering.{nat_cmp}
use Rattle.std.specs.BTreeMap.{insert_entry, is_at}
use Rattle.std.specs.Map.{lookup, remove_entry}
use Rattle.sshc_agent_core.specs.declared.connections.Standing.{Standing}
use Rattle.sshc_agent_core.specs.declared.connections.Standing.TheVariants.{Open, RequestAsked, KeyAsked}

-- the state of the connection, if it was seen
abbrev pub standing_of : List (ℕ × Standing) → ℕ → Option Standing
standing_of conns conn = lookup (is_at (nat_cmp conn)) conns

-- the connection gets this state
abbrev pub with_standing : List (ℕ × Standing) → ℕ → Standing → List (ℕ × Standing)
with_standing conns conn standing = insert_entry nat_cmp conns conn standing

abbrev pub without : List (ℕ × Standing) → ℕ → List (ℕ × Standing)
without conns conn = remove_entry (is_at (nat_cmp conn)) conns

abbrev pub is_new : List (ℕ × Standing) → ℕ → Bool
is_new conns conn = not (is_some (standing_of conns conn))

-- a connection that wasn't seen yet is open
abbrev pub seen_in : List (ℕ × Standing) → ℕ → List (ℕ × Standing)
seen_in conns conn = if is_new conns conn then with_standing conns conn Open else conns

-- a question is open
abbrev pub awaits_in : Option Standing → Bool
awaits_in (Some (RequestAsked whole)) = true
awaits_in (Some (KeyAsked whole)) = true
awaits_in stands = false
