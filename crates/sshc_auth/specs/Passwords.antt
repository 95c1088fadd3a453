-- How often a password is written (RFC 4252, section 8): a packet that asks for a user by a password is written at most
-- as often as events asked for it. No row of the table is named, so that an error made both in the table and in the
-- code shows.
use Rattle.std.specs.Prelude.{◌≡◌, ◌≤◌, ◌+◌, ℕ, Bool, true, false, List, [], ◌∷◌, ◌++◌, Option, Some, None, bytes_eq}
use Rattle.sshc_wire.specs.Wire.{IsShort}
use Rattle.sshc_wire.specs.declared.hash_alg.HashAlg.{HashAlg}
use Rattle.sshc_wire.specs.declared.record.Record.{Record}
use Rattle.sshc_wire.specs.declared.record.Record.TheVariants.{Payload}
use Rattle.sshc_key.specs.KeyGrammar.{Key}
use Rattle.sshc_auth_event.specs.declared.event.Event.{Event}
use Rattle.sshc_auth_event.specs.declared.event.Event.TheVariants.{Authenticate}
use Rattle.sshc_auth_event.specs.declared.method.Method.{Method}
use Rattle.sshc_auth_event.specs.declared.method.Method.TheVariants.{Password}
use Rattle.sshc_auth_request.specs.RequestTexts.{request, signed}
use Rattle.sshc_auth.specs.declared.opening.Phase.{Phase}
use Rattle.sshc_auth.specs.declared.opening.Phase.TheVariants as phases
use Rattle.sshc_auth.specs.OpeningState.{OpeningState}
use Rattle.sshc_auth.specs.Stepping.{Lent}

-- ---- how often

-- the packet that asks for a user by a password
abbrev pub password_packet : List ℕ → List ℕ → List ℕ
password_packet user password = request user (Password password)

abbrev pub once_if : Bool → ℕ
once_if true = 1
once_if false = 0

-- how many of the records are this packet
abbrev pub times_written : List ℕ → List Record → ℕ
times_written packet [] = 0
times_written packet (Payload body ∷ output) = once_if (bytes_eq body packet) + times_written packet output
times_written packet (other ∷ output) = times_written packet output

-- once where the event asks for it
abbrev pub times_asked : List ℕ → Event → ℕ
times_asked packet (Authenticate ticket user method) = once_if (bytes_eq (request user method) packet)
times_asked packet event = 0

-- once where it is stored until the service is there
abbrev pub times_waiting_in : Phase → List ℕ → List ℕ → Option Method → ℕ
times_waiting_in phases.Service packet user (Some method) = once_if (bytes_eq (request user method) packet)
times_waiting_in phase packet user method = 0

abbrev pub times_waiting : List ℕ → OpeningState → ℕ
times_waiting packet s = times_waiting_in s.phase packet s.user s.method

-- ---- what holds in every state that a session reaches

-- what is handed out to be signed is the signed text of a key, and before the first exchange is done no request is
-- stored
pub record FitsIn (phase : Phase) (session_id user : List ℕ) (method : Option Method) (bytes : List ℕ) : Type 0 where
  pub short : IsShort user
  pub handed : phase ≡ phases.AwaitSignature → (key : Key) × (hash : Option HashAlg) × (bytes ≡ signed session_id user key hash)
  pub fresh : phase ≡ phases.Exchanging → method ≡ None

abbrev pub FitsRequest : OpeningState → Type 0
FitsRequest s = FitsIn s.phase s.session_id s.user s.method s.handed

-- an event's user is a string of the wire
abbrev pub HasShortUser : Event → Type 0
HasShortUser (Authenticate ticket user method) = IsShort user
HasShortUser event = Unit {0}

-- ---- what a step satisfies

-- the packet was added at most as often as it waited before, plus as often as the event asked for it, minus as often as
-- it waits now
abbrev pub WritesAsAsked : List ℕ → Event → Lent → Lent → Type 0
WritesAsAsked packet event was is =
    (more : List Record) × (is.outbox.records ≡ was.outbox.records ++ more)
    × (times_written packet more + times_waiting packet is.opening ≤ times_waiting packet was.opening + times_asked packet event)

pub record KeepsPasswords (event : Event) (was is : Lent) : Type 0 where
  pub fits : FitsRequest was.opening → HasShortUser event → FitsRequest is.opening
  -- for every user and password
  pub written : FitsRequest was.opening → HasShortUser event → (user password : List ℕ) → IsShort user → WritesAsAsked (password_packet user password) event was is
