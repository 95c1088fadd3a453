-- When a shared agent can be closed, and why not; and what a caller knows about a call.
use Rattle.std.specs.Prelude.{◌≡◌, ◌≢◌, ◌≤◌, ℕ, Bool, List, [], length, Option, slice_get, All, Contains, sum_by}
use Rattle.sshc_agent_core.specs.declared.entry.Entry.{Entry}
use Rattle.sshc_agent_core.specs.AgentHistory.{AreNumbered, IsLegal, KeepsOthers, Leads, count_of}
use Rattle.sshc_agent_core.specs.AgentList.{AgentList}
use Rattle.sshc_agent_core.specs.AgentTable.{Steps}
use Rattle.sshc_key.specs.Signers.{SignCall}
use Rattle.sshc_agent_shared.specs.declared.call.Call.{Call}
use Rattle.sshc_agent_shared.specs.declared.error.CallRefused.{CallRefused}
use Rattle.sshc_agent_shared.specs.declared.error.CallRefused.TheVariants.{JournalFull, NoMemory, Miscounted}
use Rattle.sshc_agent_shared.specs.declared.error.CloseError.{CloseError}
use Rattle.sshc_agent_shared.specs.declared.error.CloseError.TheVariants.{NoMemory as NoRoom, SeatsOut, Torn}
use Rattle.sshc_agent_shared.specs.Calls.{calls_of, journal_weight}
use Rattle.sshc_agent_shared.specs.Kept.{SeatState, SharedState, with_call}

-- the history is a legal one of an agent that asks, or of one that doesn't
pub record IsLegalBy (asks : Bool) (history : List Entry) : Type 0 where
  pub legal : IsLegal history
  pub asks_is : legal.asks ≡ asks

-- the history is legal, has each seat's calls in their order, each once, and no others, and weighs no more than the
-- limit
pub record Accounts (asks : Bool) (limit : ℕ) (history : List Entry) (seats : List SeatState) : Type 0 where
  pub legal : IsLegalBy asks history
  pub each : All (λ seat. calls_of seat.conn history ≡ seat.calls) seats
  pub together : length history ≡ sum_by (λ seat. length seat.calls) seats
  pub within : journal_weight (length seats) history ≤ limit

-- the same of a history that leads from one agent state to another
pub record AccountsFrom (start last : AgentList) (limit : ℕ) (history : List Entry) (seats : List SeatState) : Type 0 where
  pub leads : Leads start history last
  pub numbers : AreNumbered [] history
  pub each : All (λ seat. calls_of seat.conn history ≡ seat.calls) seats
  pub together : length history ≡ sum_by (λ seat. length seat.calls) seats
  pub within : journal_weight (length seats) history ≤ limit

-- the seat's call at an index differs from the journal's
pub record IsTorn (seat : SeatState) (conn at : ℕ) (got kept : Option Call) : Type 0 where
  pub whose : seat.conn ≡ conn
  pub got_is : got ≡ slice_get seat.calls at
  pub differ : got ≢ kept

-- why it isn't closed, as far as the caller can see
abbrev pub CloseCause : List SeatState → CloseError → Type 0
CloseCause seats NoRoom = Unit {0}
CloseCause seats (SeatsOut made given) = (made ≢ given) × (given ≡ length seats)
CloseCause seats (Torn conn at got kept) = (seat : SeatState) × Contains seats seat × IsTorn seat conn at got kept

-- a seat's call and the journal's differ
abbrev pub TornCause : SharedState → List SeatState → CloseError → Type 0
TornCause s seats (Torn conn at got kept) =
    ((seat : SeatState) × Contains seats seat × IsTorn seat conn at got kept) × (kept ≡ slice_get (calls_of conn s.journal) at)
TornCause s seats other = ⊥

-- the same, with what the state behind the mutex shows
abbrev pub LockedCause : SharedState → List SeatState → CloseError → Type 0
LockedCause s seats NoRoom = Unit {0}
LockedCause s seats (SeatsOut made given) = (made ≡ s.made) × (made ≢ given) × (given ≡ length seats)
LockedCause s seats (Torn conn at got kept) =
    ((seat : SeatState) × Contains seats seat × IsTorn seat conn at got kept) × (kept ≡ slice_get (calls_of conn s.journal) at)

-- a call is a step of an agent to which some legal history leads, and the signer gets the calls of that step; it leaves
-- every other connection as it was
pub record IsStep (conn : ℕ) (call : Call) (gained : List SignCall) : Type 0 where
  pub earlier : List Entry
  pub legal : IsLegal earlier
  pub next : AgentList
  pub step : Steps call.moment conn call.input legal.last next gained call.output
  pub others : KeepsOthers conn legal.last next

-- the call is such a step, after exactly as many entries of its connection as the seat has earlier calls, and the seat
-- has the call afterwards
pub record Tells (before after : SeatState) (call : Call) (gained : List SignCall) : Type 0 where
  pub step : IsStep before.conn call gained
  pub numbered : length before.calls ≡ count_of before.conn step.earlier
  pub added : after ≡ with_call before call

-- what the caller can see of a refusal
abbrev pub RefusalSeen : SeatState → CallRefused → Type 0
RefusalSeen seat JournalFull = Unit {0}
RefusalSeen seat NoMemory = Unit {0}
RefusalSeen seat (Miscounted own kept) = (own ≡ length seat.calls) × (own ≢ kept)
