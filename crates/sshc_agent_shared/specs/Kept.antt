-- The state behind the mutex of a shared agent, what each of its calls does, and what a seat keeps: plain data.
-- In addition, the code keeps a map of counts, a ledger's book and a weight.
use Rattle.std.specs.Prelude.{◌≡◌, ℕ, ◌+◌, ◌-◌, ◌^◌, ◌<◌, ◌≤◌, min, nat_lt, Bool, List, [], ◌∷◌, ◌++◌, length, Option, Some, None, ◌==◌, if◌then◌else◌}
use Rattle.sshc_key.specs.Signers.{SignCall}
use Rattle.sshc_agent_core.specs.declared.entry.Entry.{Entry}
use Rattle.sshc_agent_core.specs.declared.input.AgentInput.{AgentInput}
use Rattle.sshc_agent_core.specs.declared.input.AgentOutput.{AgentOutput}
use Rattle.sshc_agent_core.specs.AgentHistory.{AreNumbered, Leads, count_of}
use Rattle.sshc_agent_core.specs.AgentList.{AgentList, empty_list}
use Rattle.sshc_agent_core.specs.AgentTable.{Steps}
use Rattle.sshc_agent_shared.specs.declared.call.Call.{Call}
use Rattle.sshc_agent_shared.specs.declared.counts.Counts.{Counts}
use Rattle.sshc_agent_shared.specs.declared.error.CallRefused.{CallRefused}
use Rattle.sshc_agent_shared.specs.declared.error.CallRefused.TheVariants.{JournalFull, Miscounted}
use Rattle.sshc_agent_shared.specs.Calls.{call_of, entry_of, entry_weight, journal_weight}
use Rattle.sshc_agent_shared.specs.Counting.{count_in}

-- the agent, its history so far, how many seats were made, and the greatest weight of the journal
pub record SharedState : Type 0 where
  pub asks : Bool
  pub list : AgentList
  pub journal : List Entry
  pub made : ℕ
  pub limit : ℕ

-- the same of a generation: besides, the agent at which its journal begins, and the greatest number of a connection so far
pub record GenerationState : Type 0 where
  pub start : AgentList
  pub last : ℕ
  pub of : SharedState

-- a seat: its connection, its calls, how many calls were refused, and its part of the ledger with the amount on it
pub record SeatState : Type 0 where
  pub conn : ℕ
  pub calls : List Call
  pub refused : ℕ
  pub parts : ℕ
  pub amount : ℕ

-- a history leads from one agent state to another
pub record IsHistoryFrom (start : AgentList) (journal : List Entry) (list : AgentList) : Type 0 where
  pub leads : Leads start journal list
  pub numbers : AreNumbered [] journal

-- a history leads from an agent that holds nothing to this agent state
abbrev pub IsHistoryOf : Bool → List Entry → AgentList → Type 0
IsHistoryOf asks journal list = IsHistoryFrom (empty_list asks) journal list

-- the journal is legal and leads to the agent state; counts, ledger and weight agree with it
pub record IsKept (start : AgentList) (list : AgentList) (journal : List Entry) (counts : Counts) (total amount parts made weight limit : ℕ) : Type 0 where
  pub history : IsHistoryFrom start journal list
  pub counted : (conn : ℕ) → count_in counts conn ≡ count_of conn journal
  pub book : total ≡ length journal
  pub spare : amount ≡ 0
  pub parted : parts + made ≡ 67108864
  pub weighs : weight ≡ journal_weight made journal
  pub within : weight ≤ limit
  pub small : limit < 4294967296

abbrev pub weight_of : SharedState → ℕ
weight_of s = journal_weight s.made s.journal

-- ---- seats

abbrev pub new_seat : ℕ → SeatState
new_seat conn = record { conn = conn; calls = []; refused = 0; parts = 1; amount = 0 }

-- a seat with one more call
abbrev pub with_call : SeatState → Call → SeatState
with_call seat call = record seat { calls = seat.calls ++ call ∷ []; amount = seat.amount + 1 }

-- a seat with one more refused call; the count saturates at its type's greatest number
abbrev pub refused_once : SeatState → SeatState
refused_once seat = record seat { refused = min (seat.refused + 1) (2 ^ 64 - 1) }

-- ---- calls

abbrev pub next_entry : SeatState → ℕ → AgentInput → AgentOutput → Entry
next_entry seat now input output = entry_of seat.conn (length seat.calls) now input output

-- one step and its one entry, which the seat has too; with the calls that were added to the signer's list
pub record Adds (old new : SharedState) (before after : SeatState) (now : ℕ) (input : AgentInput) (gained : List SignCall) (output : AgentOutput) : Type 0 where
  pub numbered : length before.calls ≡ count_of before.conn old.journal
  pub step : Steps now before.conn input old.list new.list gained output
  pub journal : new.journal ≡ old.journal ++ next_entry before now input output ∷ []
  pub asks : new.asks ≡ old.asks
  pub made : new.made ≡ old.made
  pub limit : new.limit ≡ old.limit
  pub seat : after ≡ with_call before (call_of now input output)

-- the refusal that is tested before anything else: first whether the numbers differ, then the weight
abbrev pub due : SharedState → SeatState → AgentInput → Option CallRefused
due s seat input =
    if (length seat.calls == count_of seat.conn s.journal)
    then (if nat_lt s.limit (weight_of s + entry_weight input) then Some JournalFull else None)
    else Some (Miscounted (length seat.calls) (count_of seat.conn s.journal))
