-- An open session writes no request to authenticate (RFC 4252, section 5.1: 50, USERAUTH_REQUEST), and keeps what is
-- stored of the last one: what its moves write are packets of the connection protocol (RFC 4254), and disconnections.
use Rattle.std.proofs.Common.{◌≡◌, ℕ, List, ◌∷◌, ◌++◌}
use Rattle.sshc_wire.specs.MessageNumbers.{USERAUTH_REQUEST}
use Rattle.sshc_wire.specs.declared.record.Record.{Record}
use Rattle.sshc_auth.specs.OpeningState.{OpeningState}
use Rattle.sshc_auth.specs.Passwords.{times_written}

-- a request to authenticate, whatever follows its number
abbrev pub request_with : List ℕ → List ℕ
request_with rest = USERAUTH_REQUEST ∷ rest

-- none of these is such a request
abbrev pub WritesNone : List Record → Type 0
WritesNone output = (rest : List ℕ) → times_written (request_with rest) output ≡ 0

-- after the first records there is no such request
abbrev pub AddsNone : List Record → List Record → Type 0
AddsNone first all = (more : List Record) × (all ≡ first ++ more) × WritesNone more

-- ---- what is stored of the last request

-- its user, its method, the bytes that were handed out to be signed, the phase, the session id and the host key are as
-- they were
pub record IsSameRequest (old new : OpeningState) : Type 0 where
  pub phase : new.phase ≡ old.phase
  pub session_id : new.session_id ≡ old.session_id
  pub host_key : new.host_key ≡ old.host_key
  pub user : new.user ≡ old.user
  pub method : new.method ≡ old.method
  pub handed : new.handed ≡ old.handed
