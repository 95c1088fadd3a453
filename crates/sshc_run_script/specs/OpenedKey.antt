-- By which host key a session is opened, by the meaning of the known hosts text (sshd(8), SSH_KNOWN_HOSTS FILE FORMAT)
-- and not by the judgement's definition: its lines for the host can all be read, none revokes the key or has another
-- key of the same algorithm, and one records the key.
use Rattle.std.specs.Prelude.{◌≡◌, ℕ, List, [], ◌∷◌, Option, Some, None, Result, Ok}
use Rattle.sshc_key.specs.Signers.{SignCall}
use Rattle.sshc_key.specs.declared.identity.PublicKeyOrCertificate.{PublicKeyOrCertificate}
use Rattle.sshc_key.specs.declared.identity.PublicKeyOrCertificate.TheVariants.{PublicKey, Certificate}
use Rattle.sshc_hosts.specs.Acceptance.{IsAcceptedBy}
use Rattle.sshc_auth_event.specs.HostKey.{host_key}
use Rattle.sshc_auth_event.specs.declared.event.Event.{Event}
use Rattle.sshc_auth_event.specs.declared.event.Event.TheVariants as events
use Rattle.sshc_run_reader.specs.declared.error.EventError.{EventError}
use Rattle.sshc_run_reader.specs.declared.event_kind.EventKind.{EventKind}
use Rattle.sshc_run_reader.specs.declared.event_kind.EventKind.TheVariants as kinds
use Rattle.sshc_run_reader.specs.EventReading.{event_of}
use Rattle.sshc_run_reader.specs.Script.{Frame, taken}
use Rattle.sshc_run_script.specs.KnownHosts.{Hosts}
use Rattle.sshc_run_script.specs.Machine.{Machine}
use Rattle.sshc_run_script.specs.OpeningFirst.{opening_of}
use Rattle.sshc_run_script.specs.OpeningRun.{OpeningStop, opens_before, stops_with, through}
use Rattle.sshc_run_script.specs.Part.{Own}

-- the host key of an exchange that can be read
abbrev pub key_by : Result Event EventError → Option PublicKeyOrCertificate
key_by (Ok (events.ExchangeDone x)) = host_key x.key
key_by read = None

-- the host key of an event that is an exchange, or else of the events after it
abbrev pub key_at : EventKind → List ℕ → Option PublicKeyOrCertificate → Option PublicKeyOrCertificate
key_at kinds.ExchangeDone fields later = key_by (event_of kinds.ExchangeDone fields)
key_at kind fields later = later

-- the host key of the first exchange among these events; `None` if there is no exchange, or it has no host key
unfoldable pub first_key : List Frame → Option PublicKeyOrCertificate
first_key [] = None
first_key (frame ∷ frames) = key_at frame.kind frame.fields (first_key frames)

-- it is a plain key that the known hosts text accepts
abbrev pub HasAcceptedKey : Hosts → Option PublicKeyOrCertificate → Type 0
HasAcceptedKey hosts (Some (PublicKey key hash)) = IsAcceptedBy hosts.known hosts.host key.0
HasAcceptedKey hosts (Some (Certificate key)) = ⊥
HasAcceptedKey hosts None = ⊥

-- the opening run opens the session
abbrev pub OpensIt : {S : Type 0} → OpeningStop S → Type 0
OpensIt (opens_before s frames left) = Unit {0}
OpensIt (stops_with stop) = ⊥
OpensIt through = ⊥

-- if the table opens the session, the host key of the script's first exchange is accepted in this sense
abbrev pub IsOpenedByAccepted : {S : Type 0} → Hosts → Machine S → Own → ℕ → List SignCall → Option (List ℕ) → Type 0
IsOpenedByAccepted hosts m own max calls script =
    (bytes : List ℕ) → script ≡ Some bytes → OpensIt (opening_of m own max calls bytes).stop → HasAcceptedKey hosts (first_key (taken max bytes))
