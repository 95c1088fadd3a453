-- 22 and 23, LOCK and UNLOCK (draft-miller-ssh-agent, section 3.7). An empty passphrase locks too.
use Rattle.std.specs.Prelude.{ℕ, Bool, false, List, Option, Some, None, Result, Ok, Err, bytes_eq, if◌then◌else◌}
use Rattle.sshc_wire.specs.declared.error.WireError.{WireError}
use Rattle.sshc_wire.specs.Reads.{string_at}
use Rattle.sshc_agent_core.specs.AgentList.{AgentList}
use Rattle.sshc_agent_core.specs.Turn.{Turn, fails, succeeds}

abbrev pub lock_in : Result (List ℕ × List ℕ) WireError → AgentList → Turn
lock_in (Err e) l = fails l
lock_in (Ok passphrase) l = succeeds (record l { passphrase = Some passphrase.0 })

unfoldable pub lock_turn : List ℕ → AgentList → Turn
lock_turn body l = lock_in (string_at body) l

abbrev pub is_passphrase : Option (List ℕ) → List ℕ → Bool
is_passphrase None word = false
is_passphrase (Some own) word = bytes_eq own word

abbrev pub unlock_in : Result (List ℕ × List ℕ) WireError → AgentList → Turn
unlock_in (Err e) l = fails l
unlock_in (Ok word) l = if is_passphrase l.passphrase word.0 then succeeds (record l { passphrase = None }) else fails l

-- the passphrase of the lock takes it off
unfoldable pub unlock_turn : List ℕ → AgentList → Turn
unlock_turn body l = unlock_in (string_at body) l
