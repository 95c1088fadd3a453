-- 18 and 19, REMOVE_IDENTITY and REMOVE_ALL_IDENTITIES (draft-miller-ssh-agent, section 3.4).
use Rattle.std.specs.Prelude.{List, ℕ, [], Result, Ok, Err, if◌then◌else◌}
use Rattle.std.specs.Option.{is_some}
use Rattle.sshc_wire.specs.declared.error.WireError.{WireError}
use Rattle.sshc_wire.specs.Reads.{string_at}
use Rattle.sshc_agent_core.specs.AgentList.{AgentList}
use Rattle.sshc_agent_core.specs.KeyList.{held, without_key}
use Rattle.sshc_agent_core.specs.Turn.{Turn, fails, succeeds}

abbrev pub remove_in : Result (List ℕ × List ℕ) WireError → AgentList → Turn
remove_in (Err e) l = fails l
remove_in (Ok blob) l = if is_some (held l.keys blob.0) then succeeds (record l { keys = without_key l.keys blob.0 }) else fails l

-- the key with this blob is removed, if it is held
unfoldable pub remove_turn : List ℕ → AgentList → Turn
remove_turn body l = remove_in (string_at body) l

abbrev pub remove_all_turn : AgentList → Turn
remove_all_turn l = succeeds (record l { keys = [] })
