-- The entries of a connection in a map of all connections' entries.
use Rattle.std.specs.Prelude.{ℕ, List, [], map, option_map, unwrap_or}
use Rattle.std.specs.BTreeMap.{get}
use Rattle.std.specs.Ordering.{nat_cmp}
use Rattle.sshc_agent_core.specs.declared.entry.Entry.{Entry}
use Rattle.sshc_agent_shared.specs.declared.groups.Groups.{Groups}

abbrev pub entries_at : Groups → ℕ → List Entry
entries_at groups conn = unwrap_or (option_map (λ v. map (λ r. r.now) v.items) (get nat_cmp groups.of conn)) []
