-- What a call of a handler does: what it may do to a session that it is lent, how often it refused, what it heard, and
-- what its default body returns. Stated by relations between two moments; the code is any handler's.
use Rattle.std.specs.Prelude.{◌≡◌, ◌≤◌, ◌⊎◌, ℕ, List, [], ◌∷◌, Result, Ok, Err, OnErr}
use Rattle.sshc_wire.specs.Faults.{Rose}
use Rattle.sshc_client_table.specs.SessionState.{SessionState}
use Rattle.sshc_client_table.specs.SessionRow.{Callback}
use Rattle.sshc_client_table.specs.Grown.{Grown}
use Rattle.sshc_client.specs.declared.answers.DisconnectReason.{DisconnectReason}
use Rattle.sshc_client.specs.declared.answers.DisconnectReason.TheVariants as reasons

-- what is known of a handler at one moment: how often it refused, what it judges host keys by, and the calls of it that
-- it keeps, newest first
pub record HandlerAt : Type 0 where
  pub refusals : ℕ
  pub setting : List (List ℕ)
  pub heard : List Callback

abbrev pub handler_at : ℕ → List (List ℕ) → List Callback → HandlerAt
handler_at refusals setting heard = record { refusals = refusals; setting = setting; heard = heard }

-- these calls were made of the handler at most, each once and in this order, and it keeps a call or doesn't
abbrev pub Hears : List Callback → List Callback → List Callback → Type 0
Hears [] was is = is ≡ was
Hears (call ∷ calls) was is = Hears calls was is ⊎ Hears calls (call ∷ was) is

-- its count of refusals never falls, and what it judges by doesn't change
pub record HandlerKept (was is : HandlerAt) : Type 0 where
  pub later : was.refusals ≤ is.refusals
  pub kept : is.setting ≡ was.setting

-- the same, and these calls were made of it at most
pub record HandlerHeard (calls : List Callback) (was is : HandlerAt) : Type 0 where
  pub later : was.refusals ≤ is.refusals
  pub kept : is.setting ≡ was.setting
  pub heard : Hears calls was.heard is.heard

-- After a call that is lent the session, the session is grown from the one before, the handler has heard this call and
-- no other, and the call returns an error only if the count of refusals rose. A handler that keeps its defaults returns
-- the default, and does nothing to the session.
pub record Handles {T E : Type 0} (defaults : Type 0) (call : Callback) (default : Result T E) (was is : HandlerAt) (old new : SessionState) (result : Result T E) : Type 0 where
  pub grown : Grown old new
  pub keeps : HandlerHeard (call ∷ []) was is
  pub cause : OnErr result (Rose was.refusals is.refusals)
  pub default_body : defaults → (result ≡ default) × (new ≡ old)

-- the same of a call that isn't lent the session and can't refuse
pub record Opines {T : Type 0} (defaults : Type 0) (call : Callback) (default : T) (was is : HandlerAt) (answer : T) : Type 0 where
  pub keeps : HandlerHeard (call ∷ []) was is
  pub default_body : defaults → answer ≡ default

-- what a handler returns by default at the end of a session: the error by which it ended, if it was one
abbrev pub ended_by : {E : Type 0} → DisconnectReason E → Result (Unit {0}) E
ended_by (reasons.ReceivedDisconnect info) = Ok tt
ended_by (reasons.Error e) = Err e
