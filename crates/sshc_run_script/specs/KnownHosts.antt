-- The verdict of the known hosts gate on a host key: plain keys are judged, and no certificate is accepted.
use Rattle.std.specs.Prelude.{◌≡◌, ◌⊎◌, ℕ, Bool, false, List, [], ◌∷◌, Result, Ok, Err}
use Rattle.sshc_key.specs.declared.error.Error.{Error as KeyError}
use Rattle.sshc_key.specs.declared.error.Error.TheVariants as key_errors
use Rattle.sshc_key.specs.declared.identity.PublicKeyOrCertificate.{PublicKeyOrCertificate}
use Rattle.sshc_key.specs.declared.identity.PublicKeyOrCertificate.TheVariants.{PublicKey, Certificate}
use Rattle.sshc_hosts.specs.Judgement.{judged}
use Rattle.sshc_run_script.specs.declared.known_hosts_handler.HandlerError.{HandlerError}
use Rattle.sshc_run_script.specs.declared.known_hosts_handler.HandlerError.TheVariants.{Key}

-- the text that names the host, and the known hosts text
pub record Hosts : Type 0 where
  pub host : List ℕ
  pub known : List ℕ

abbrev pub as_handler : Result Bool KeyError → Result Bool HandlerError
as_handler (Ok accepted) = Ok accepted
as_handler (Err e) = Err (Key e)

-- the verdict of the known hosts text on a host key
unfoldable pub verdict : Hosts → PublicKeyOrCertificate → Result Bool HandlerError
verdict hosts (PublicKey key hash) = as_handler (judged hosts.known hosts.host key.0)
verdict hosts (Certificate key) = Ok false

-- what the gate judges by
abbrev pub setting_of : Hosts → List (List ℕ)
setting_of hosts = hosts.host ∷ hosts.known ∷ []

-- the gate returns its verdict, or that memory ran out
abbrev pub Judges : Hosts → PublicKeyOrCertificate → Result Bool HandlerError → Type 0
Judges hosts key answer = (answer ≡ verdict hosts key) ⊎ (answer ≡ Err (Key key_errors.NoMemory))

-- the gate is called for exchanges and banners, adds nothing and refuses nothing
abbrev pub AddsNothing : {R : Type 0} → Result (Unit {0}) HandlerError → List R → Type 0
AddsNothing answer more = (answer ≡ Ok tt) × (more ≡ [])
