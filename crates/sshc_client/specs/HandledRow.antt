-- What a call does that follows a row of an open session with any handler: the moves before the handler's call, what
-- the handler does to the session that it is lent, and the moves by what it returns. What the handler does is a list of
-- moves too, of those that the session's methods make. Stated by relations between states; the code does one move after
-- the other.
use Rattle.std.specs.Prelude.{◌≡◌, ◌⊎◌, ℕ, nat_lt, Bool, true, false, if◌then◌else◌, List, [], ◌∷◌, Option, Some, None, IsSome, Result, Ok, Err}
use Rattle.sshc_wire.specs.Faults.{Rose}
use Rattle.sshc_wire.specs.declared.channel_open_failure.ChannelOpenFailure.TheVariants.{AdministrativelyProhibited}
use Rattle.sshc_wire.specs.declared.channel_record.ServerOpen.{ServerOpen}
use Rattle.sshc_wire.specs.declared.channel_record.ServerOpen.TheVariants as opens
use Rattle.sshc_wire.specs.declared.error.NoMemory.{NoMemory as RanOut}
use Rattle.sshc_wire.specs.declared.record.Record.TheVariants.{ServerOpened as ServerOpenedRecord}
use Rattle.sshc_auth.specs.declared.error.Error.{Error}
use Rattle.sshc_auth.specs.declared.error.Error.TheVariants.{NoMemory}
use Rattle.sshc_client_table.specs.declared.open_answer.OpenAnswer.{OpenAnswer}
use Rattle.sshc_client_table.specs.declared.open_answer.OpenAnswer.TheVariants.{Accept, Reject}
use Rattle.sshc_client_table.specs.SessionState.{SessionState}
use Rattle.sshc_client_table.specs.Moves.{Fronts, Move, Targets, Tells, done}
use Rattle.sshc_client_table.specs.SessionRow.{Callback, Opinions, ServerOpened, SessionRow, WindowRefilled, calls_of, ends, goes, refuses}
use Rattle.sshc_client_table.specs.SessionTable.Opens.{settled}
use Rattle.sshc_client_table.specs.Grown.{Grown}
use Rattle.sshc_client_rows.specs.declared.flow.RowFlow.{RowFlow}
use Rattle.sshc_client_rows.specs.declared.flow.RowFlow.TheVariants as flows
use Rattle.sshc_client_rows.specs.Follows.{default_opinions}
use Rattle.sshc_client.specs.declared.stop.Stop.{Stop}
use Rattle.sshc_client.specs.declared.stop.Stop.TheVariants.{Own, Handler}
use Rattle.sshc_client.specs.Handling.{HandlerAt, HandlerHeard, Handles, Opines}

-- if a row makes no call, the session doesn't change; else the session afterwards is grown from the one before, and a
-- handler that keeps its defaults doesn't change it and accepts
abbrev pub LetGo : Type 0 → Option Callback → SessionState → SessionState → OpenAnswer → Type 0
LetGo defaults None lent mid answer = (mid ≡ lent) × (answer ≡ Accept)
LetGo defaults (Some callback) lent mid answer = Grown lent mid × (defaults → (mid ≡ lent) × (answer ≡ Accept))

-- the whole row was followed
pub record Handled (defaults : Type 0) (row : SessionRow) (old new : SessionState) : Type 0 where
  pub mid : SessionState
  pub answer : OpenAnswer
  pub let_go : LetGo defaults row.asks (done row.front old) mid answer
  pub is : new ≡ done (row.back answer) mid

-- memory ran out after some of the moves that follow the handler's call
pub record CutBehind (defaults : Type 0) (row : SessionRow) (old new : SessionState) : Type 0 where
  pub mid : SessionState
  pub answer : OpenAnswer
  pub let_go : LetGo defaults row.asks (done row.front old) mid answer
  pub is : Fronts (row.back answer) mid new

abbrev pub Cut : Type 0 → SessionRow → SessionState → SessionState → Type 0
Cut defaults row old new = Fronts row.front old new ⊎ CutBehind defaults row old new

-- the handler refused, from the callback that the row asks
pub record HandlerRefused (defaults : Type 0) (was is : HandlerAt) (row : SessionRow) (old new : SessionState) : Type 0 where
  pub asked : IsSome row.asks
  pub grown : Grown (done row.front old) new
  pub rose : Rose was.refusals is.refusals
  pub changed : defaults → ⊥

abbrev pub FollowsRow : {E : Type 0} → Type 0 → HandlerAt → HandlerAt → SessionRow → SessionState → SessionState → Result RowFlow (Stop E) → Type 0
FollowsRow defaults was is row old new (Ok flows.Went) = (row.next ≡ goes) × Handled defaults row old new
FollowsRow defaults was is row old new (Ok (flows.Ended e)) = (row.next ≡ ends e) × Handled defaults row old new
FollowsRow defaults was is row old new (Err (Own e)) =
    ((e ≡ NoMemory) × Cut defaults row old new) ⊎ ((row.next ≡ refuses e) × Handled defaults row old new)
FollowsRow defaults was is row old new (Err (Handler e)) = HandlerRefused defaults was is row old new

-- a call that follows the row chosen by what the handler returns from a callback that isn't lent the session; the handler
-- hears what the row asks, and nothing else
pub record FollowsWith {E : Type 0} (defaults : Type 0) (was is : HandlerAt) (row : Opinions → SessionRow) (old new : SessionState) (result : Result RowFlow (Stop E)) : Type 0 where
  pub opinions : Opinions
  pub default : defaults → opinions ≡ default_opinions old
  pub follows : FollowsRow defaults was is (row opinions) old new result
  pub keeps : HandlerHeard (calls_of (row opinions)) was is

-- a call that follows one row
abbrev pub FollowsOne : {E : Type 0} → Type 0 → HandlerAt → HandlerAt → SessionRow → SessionState → SessionState → Result RowFlow (Stop E) → Type 0
FollowsOne defaults was is row old new result = FollowsWith defaults was is (λ opinions. row) old new result

-- the result of a call that calls no handler, as one of a row with a handler
abbrev pub own_result : {E : Type 0} → Result RowFlow Error → Result RowFlow (Stop E)
own_result (Ok flow) = Ok flow
own_result (Err e) = Err (Own e)

-- moves at the end of a row
abbrev pub went_result : {E : Type 0} → Result (Unit {0}) RanOut → Result RowFlow (Stop E)
went_result (Ok u) = Ok flows.Went
went_result (Err e) = Err (Own NoMemory)

-- a call of the handler, or memory ran out before it
abbrev pub Calls : {T E : Type 0} → Type 0 → Callback → Result T E → HandlerAt → HandlerAt → SessionState → SessionState → Result T (Stop E) → Type 0
Calls defaults call default was is old new (Ok x) = Handles defaults call default was is old new (Ok x)
Calls defaults call default was is old new (Err (Handler e)) = Handles defaults call default was is old new (Err e)
Calls defaults call default was is old new (Err (Own e)) = (e ≡ NoMemory) × (new ≡ old) × (is ≡ was)

-- the result of a callback, as one of a row
abbrev pub lent_result : {T E : Type 0} → Result T E → Result T (Stop E)
lent_result (Ok x) = Ok x
lent_result (Err e) = Err (Handler e)

-- the handler is called for an open of the peer's under this number
unfoldable pub served : ℕ → ServerOpen → SessionRow
served id opened = record {
  opinion = None;
  front = [];
  asks = Some (ServerOpened id opened);
  back = λ answer. Tells (ServerOpenedRecord (record { 0 = id }) opened) ∷ settled id answer;
  next = goes;
}

abbrev pub is_unknown : ServerOpen → Bool
is_unknown opens.Unknown = true
is_unknown opened = false

-- what a handler returns that keeps its defaults
abbrev pub default_answer : ServerOpen → OpenAnswer
default_answer opens.Unknown = Reject AdministrativelyProhibited
default_answer opened = Accept

-- the result is to accept, or the handler doesn't keep its defaults
abbrev pub Accepts : Type 0 → OpenAnswer → Type 0
Accepts defaults answer = (answer ≡ Accept) ⊎ (defaults → ⊥)

-- the window target of the next call, by the handler's result; with 0 it doesn't change
abbrev pub target_moves : ℕ → List Move
target_moves window = if nat_lt 0 window then Targets window ∷ [] else []

-- the handler was called with a window target, and its result is the next one
pub record Retargets (defaults : Type 0) (id target : ℕ) (was is : HandlerAt) (old new : SessionState) : Type 0 where
  pub window : ℕ
  pub opines : Opines defaults (WindowRefilled id target) target was is window
  pub left : new ≡ done (target_moves window) old
