-- Generations of an agent's history. When a journal is full, its history is closed, and the next one begins with the
-- agent as it is; only connections that ended are forgotten.
-- The code keeps the agent itself across the seam, and of the past nothing.
use Rattle.std.specs.Prelude.{◌≡◌, ℕ, Bool, List, [], ◌∷◌, map}
use Rattle.sshc_key.specs.Signers.{SignCall}
use Rattle.sshc_agent_core.specs.declared.entry.Entry.{Entry}
use Rattle.sshc_agent_core.specs.AgentHistory.{AreNumbered, KeepsOthers, Leads}
use Rattle.sshc_agent_core.specs.AgentList.{AgentList, empty_list, forgotten}
use Rattle.sshc_agent_core.specs.AgentTable.{Steps}
use Rattle.sshc_agent_core.specs.Connections.{standing_of}
use Rattle.sshc_agent_shared.specs.declared.call.Call.{Call}
use Rattle.sshc_agent_shared.specs.Kept.{GenerationState, SeatState, new_seat}

-- the connections are forgotten one after the other
abbrev pub forgotten_all : List ℕ → AgentList → AgentList
forgotten_all [] l = l
forgotten_all (conn ∷ conns) l = forgotten_all conns (forgotten conn l)

-- the connection is none of these
abbrev pub IsNone : ℕ → List ℕ → Type 0
IsNone conn [] = Unit {0}
IsNone conn (other ∷ others) = (conn ≡ other → ⊥) × IsNone conn others

-- ---- the seam

-- the agent goes on as it is: keys with their deadlines and constraints, the lock, the clock; and each connection that
-- isn't gone, with its question
pub record CarriesOn (gone : List ℕ) (last start : AgentList) : Type 0 where
  pub asks : start.asks ≡ last.asks
  pub latest : start.latest ≡ last.latest
  pub keys : start.keys ≡ last.keys
  pub passphrase : start.passphrase ≡ last.passphrase
  pub questions : (conn : ℕ) → IsNone conn gone → standing_of start.conns conn ≡ standing_of last.conns conn

-- the connections of these seats
abbrev pub conns_of : List SeatState → List ℕ
conns_of seats = map (λ seat. seat.conn) seats

-- the next generation: an empty journal, which begins with the agent as it is but for the connections that are gone, and
-- one seat for each connection that goes on
abbrev pub next_of : GenerationState → List ℕ → ℕ → GenerationState
next_of s gone seats =
    record {
      start = forgotten_all gone s.of.list;
      last = s.last;
      of = record s.of { list = forgotten_all gone s.of.list; journal = []; made = seats };
    }

-- each connection that goes on has a seat without calls
abbrev pub renewed : List SeatState → List SeatState
renewed seats = map (λ seat. new_seat seat.conn) seats

-- a generation that was closed, as it is handed on: the agent at its begin and at its end, and its history
pub record PastState : Type 0 where
  pub start : AgentList
  pub last : AgentList
  pub entries : List Entry

-- ---- all generations

-- a generation that was closed: its history, and the connections that were forgotten then
pub record Past : Type 0 where
  pub entries : List Entry
  pub gone : List ℕ

-- generations lead from one agent state to another
abbrev pub LeadOn : AgentList → List Past → AgentList → Type 0
LeadOn before [] after = before ≡ after
LeadOn before (past ∷ more) after = (last : AgentList) × Leads before past.entries last × AreNumbered [] past.entries × LeadOn (forgotten_all past.gone last) more after

-- generations lead to this agent state from an agent that holds nothing
pub record IsReached (asks : Bool) (l : AgentList) : Type 0 where
  pub past : List Past
  pub leads : LeadOn (empty_list asks) past l

-- a call is a step of an agent to which generations lead, and the signer gets the calls of that step; it leaves every
-- other connection as it was
pub record IsLastingStep (asks : Bool) (conn : ℕ) (call : Call) (gained : List SignCall) : Type 0 where
  pub before : AgentList
  pub reached : IsReached asks before
  pub next : AgentList
  pub step : Steps call.moment conn call.input before next gained call.output
  pub others : KeepsOthers conn before next

-- an agent that lasts: its generation, the seats of the connections that go on, and those of the ones that ended
pub record LastingView : Type 0 where
  pub generation : GenerationState
  pub live : List SeatState
  pub ended : List SeatState
