-- What each call of an agent that lasts does to the agent, its journal and the seats of its connections: plain data.
-- The definitions are about whole lists of seats; the code looks a connection's seat up by its number.
use Rattle.std.specs.Prelude.{◌≡◌, ◌≢◌, ◌⊎◌, ℕ, ◌+◌, ◌≤◌, List, [], ◌∷◌, ◌++◌, length, Option, Some, None, Result, Ok, Err, slice_get, slice_set, remove}
use Rattle.sshc_key.specs.Signers.{SignCall}
use Rattle.sshc_agent_core.specs.declared.input.AgentInput.{AgentInput}
use Rattle.sshc_agent_core.specs.declared.input.AgentOutput.{AgentOutput}
use Rattle.sshc_key.specs.declared.signer.Asker.{Asker}
use Rattle.sshc_key.specs.PairCode.{KeyPair}
use Rattle.sshc_agent_core.specs.AgentHistory.{IsPermitted, KeepsLock}
use Rattle.sshc_agent_core.specs.AgentList.{AgentList}
use Rattle.sshc_agent_shared.specs.declared.error.CloseError.{CloseError}
use Rattle.sshc_agent_shared.specs.declared.error.CallRefused.TheVariants as why
use Rattle.sshc_agent_shared.specs.declared.error.LastingRefused.{LastingRefused}
use Rattle.sshc_agent_shared.specs.declared.error.LastingRefused.TheVariants.{NotConnected, Call}
use Rattle.sshc_agent_shared.specs.Calls.{entry_weight}
use Rattle.sshc_agent_shared.specs.Closing.{AccountsFrom, LockedCause}
use Rattle.sshc_agent_shared.specs.Generations.{CarriesOn, LastingView, PastState, conns_of, next_of, renewed}
use Rattle.sshc_agent_shared.specs.Kept.{Adds, SeatState, new_seat, weight_of}

-- the journal has room for this weight
abbrev pub HasRoom : ℕ → LastingView → Type 0
HasRoom heavy s = weight_of s.generation.of + heavy ≤ s.generation.of.limit

-- the seat at this place is that of this connection
pub record HasSeat (seats : List SeatState) (conn at : ℕ) : Type 0 where
  pub seat : SeatState
  pub there : slice_get seats at ≡ Some seat
  pub whose : seat.conn ≡ conn

-- ---- connections

-- one more connection, whose number is above all others; all else stays
abbrev pub connected : LastingView → LastingView
connected s =
    record {
      generation = record s.generation { last = s.generation.last + 1; of = record s.generation.of { made = s.generation.of.made + 1 } };
      live = s.live ++ new_seat (s.generation.last + 1) ∷ [];
      ended = s.ended;
    }

abbrev pub Connects : LastingView → LastingView → Result ℕ LastingRefused → Type 0
Connects old new (Ok conn) = (conn ≡ old.generation.last + 1) × (new ≡ connected old)
Connects old new (Err e) = new ≡ old

-- why a connection is refused: the journal is full, or memory ran out
abbrev pub RefusesSeat : LastingView → LastingRefused → Type 0
RefusesSeat s (Call why.JournalFull) = HasRoom 64 s → ⊥
RefusesSeat s (Call why.NoMemory) = Unit {0}
RefusesSeat s other = ⊥

-- the connection's seat is the last of the ended ones; all else stays
pub record Leaves (old new : LastingView) (conn : ℕ) : Type 0 where
  pub at : ℕ
  pub seat : SeatState
  pub there : slice_get old.live at ≡ Some seat
  pub whose : seat.conn ≡ conn
  pub generation : new.generation ≡ old.generation
  pub live : new.live ≡ remove old.live at
  pub ended : new.ended ≡ old.ended ++ seat ∷ []

-- ---- calls

-- one step of the agent, with its entry in the journal and its call in the connection's seat; all other seats stay
pub record Takes (old new : LastingView) (conn now : ℕ) (input : AgentInput) (gained : List SignCall) (output : AgentOutput) : Type 0 where
  pub at : ℕ
  pub before : SeatState
  pub after : SeatState
  pub there : slice_get old.live at ≡ Some before
  pub whose : before.conn ≡ conn
  pub adds : Adds old.generation.of new.generation.of before after now input gained output
  pub live : new.live ≡ slice_set old.live at after
  pub ended : new.ended ≡ old.ended
  pub start : new.generation.start ≡ old.generation.start
  pub last : new.generation.last ≡ old.generation.last

abbrev pub Called : LastingView → LastingView → ℕ → ℕ → AgentInput → List SignCall → Result AgentOutput LastingRefused → Type 0
Called old new conn now input gained (Ok output) = Takes old new conn now input gained output
Called old new conn now input gained (Err e) = new ≡ old

-- ---- seams

-- a generation is closed, and the next one begins
pub record IsSeam (limit : ℕ) (old new : LastingView) (past : PastState) : Type 0 where
  -- what is handed on is the generation: where it began, where it ended, and its history
  pub past_is : past ≡ record { start = old.generation.start; last = old.generation.of.list; entries = old.generation.of.journal }
  -- its entries are the calls of all seats, each once, in their order
  pub accounts : AccountsFrom old.generation.start old.generation.of.list limit old.generation.of.journal (old.live ++ old.ended)
  -- keys, deadlines, constraints, the lock and the questions of the connections that go on are the same
  pub carries : CarriesOn (conns_of old.ended) old.generation.of.list new.generation.of.list
  pub next : new.generation ≡ next_of old.generation (conns_of old.ended) (length old.live)
  pub live : new.live ≡ renewed old.live
  pub ended : new.ended ≡ []

abbrev pub Renews : ℕ → LastingView → LastingView → Result PastState CloseError → Type 0
Renews limit old new (Ok past) = IsSeam limit old new past
Renews limit old new (Err why) = (new ≡ old) × LockedCause old.generation.of (old.live ++ old.ended) why

-- a journal without room for this weight is closed first, if it can be; one that has room isn't
abbrev pub MakesRoom : ℕ → ℕ → LastingView → LastingView → Option (Result PastState CloseError) → Type 0
MakesRoom limit heavy old new None = HasRoom heavy old × (new ≡ old)
MakesRoom limit heavy old new (Some closed) = (HasRoom heavy old → ⊥) × Renews limit old new closed

-- a connection is made, after the seam if one was due
pub record ConnectsOn (limit : ℕ) (old new : LastingView) (result : Result ℕ LastingRefused) (seam : Option (Result PastState CloseError)) : Type 0 where
  pub mid : LastingView
  pub room : MakesRoom limit 64 old mid seam
  pub connects : Connects mid new result

-- a call is taken, after the seam if one was due
pub record TakesOn (limit : ℕ) (old new : LastingView) (conn now : ℕ) (input : AgentInput) (gained : List SignCall) (result : Result AgentOutput LastingRefused) (seam : Option (Result PastState CloseError)) : Type 0 where
  pub mid : LastingView
  pub room : MakesRoom limit (entry_weight input) old mid seam
  pub takes : Called mid new conn now input gained result

-- ---- the lock and signatures

-- the same keys with their deadlines and constraints, the same clock and the same lock
pub record KeepsKeysAndLock (old new : AgentList) : Type 0 where
  pub latest : new.latest ≡ old.latest
  pub keys : new.keys ≡ old.keys
  pub passphrase : new.passphrase ≡ old.passphrase

-- a locked agent signs nothing and lists nothing, and stays locked except for an unlock with its passphrase, also where a
-- seam comes before the call; `mid` is the agent after the seam
pub record KeepsLockOn (p : List ℕ) (now conn : ℕ) (input : AgentInput) (old new : AgentList) (gained : List SignCall) (output : AgentOutput) : Type 0 where
  pub mid : AgentList
  pub keeps : KeepsKeysAndLock old mid
  pub lock : KeepsLock p now conn input mid new gained output

-- the signer was asked for a key that may sign, also where a seam comes before the call
pub record IsPermittedOn (now conn : ℕ) (input : AgentInput) (old : AgentList) (by : Asker) (key : KeyPair) : Type 0 where
  pub mid : AgentList
  pub keeps : KeepsKeysAndLock old mid
  pub permitted : IsPermitted now conn input mid by key
