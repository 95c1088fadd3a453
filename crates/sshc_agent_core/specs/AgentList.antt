-- What an agent keeps between two inputs: plain data. How keys, deadlines and connections are stored is up to the code.
use Rattle.std.specs.Prelude.{ℕ, max, Bool, List, [], Option, None, if◌then◌else◌}
use Rattle.sshc_agent_core.specs.declared.connections.Standing.{Standing}
use Rattle.sshc_agent_core.specs.declared.connections.Standing.TheVariants.{Closed}
use Rattle.sshc_agent_core.specs.declared.key_list.HeldKey.{HeldKey}
use Rattle.sshc_agent_core.specs.Connections.{is_new, seen_in, with_standing, without}
use Rattle.sshc_agent_core.specs.KeyList.{unexpired}

pub record AgentList : Type 0 where
  -- the user is asked about each request
  pub asks : Bool
  -- the greatest moment so far, in milliseconds
  pub latest : ℕ
  -- in the order in which they were added
  pub keys : List HeldKey
  -- Some if the agent is locked; the passphrase may be empty
  pub passphrase : Option (List ℕ)
  pub conns : List (ℕ × Standing)

-- no keys, no lock, no connection
abbrev pub empty_list : Bool → AgentList
empty_list asks = record { asks = asks; latest = 0; keys = []; passphrase = None; conns = [] }

-- a moment below an earlier one counts as the earlier one; keys whose deadline has come are gone
abbrev pub aged : ℕ → AgentList → AgentList
aged now l = record l { latest = max l.latest now; keys = unexpired (max l.latest now) l.keys }

-- the connection is seen
abbrev pub seen : ℕ → AgentList → AgentList
seen conn l = record l { conns = seen_in l.conns conn }

-- the connection gets this state
abbrev pub standing : ℕ → Standing → AgentList → AgentList
standing conn s l = record l { conns = with_standing l.conns conn s }

-- the connection is as if it had never been seen
abbrev pub forgotten : ℕ → AgentList → AgentList
forgotten conn l = record l { conns = without l.conns conn }

-- memory ran out during an input: a connection seen before is closed, and nothing is kept of a new one
abbrev pub starved : ℕ → ℕ → AgentList → AgentList
starved now conn l = if is_new l.conns conn then aged now l else standing conn Closed (aged now l)
