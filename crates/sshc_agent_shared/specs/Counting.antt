-- A count for each connection, which is 0 for a connection without one. The code keeps a map.
use Rattle.std.specs.Prelude.{ℕ, unwrap_or}
use Rattle.std.specs.BTreeMap.{get}
use Rattle.std.specs.Ordering.{nat_cmp}
use Rattle.sshc_agent_shared.specs.declared.counts.Counts.{Counts}

abbrev pub count_in : Counts → ℕ → ℕ
count_in counts conn = unwrap_or (get nat_cmp counts.of conn) 0
