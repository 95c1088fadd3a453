-- A session is opened only by a host key that the known hosts text accepts.
use Rattle.std.proofs.Common.{◌≡◌, ℕ, Bool, true, false, List, [], ◌∷◌, Option, Some, Result, Ok, refl, ap, ◌∙◌}
use Rattle.sshc_key.specs.KeyGrammar.{Key}
use Rattle.sshc_key.specs.declared.error.Error.{Error as KeyError}
use Rattle.sshc_key.specs.declared.identity.PublicKeyOrCertificate.{PublicKeyOrCertificate}
use Rattle.sshc_key.specs.declared.identity.PublicKeyOrCertificate.TheVariants.{PublicKey}
use Rattle.sshc_hosts.specs.Acceptance.{IsAcceptedBy}
use Rattle.sshc_hosts.specs.AcceptanceLaws.{accepted_just}
use Rattle.sshc_hosts.specs.Judgement.{judged}
use Rattle.sshc_auth_event.specs.HostKey.{host_key}
use Rattle.sshc_auth_event.specs.declared.event.Event.TheVariants as events
use Rattle.sshc_auth.specs.declared.opening.Settings.{Settings}
use Rattle.sshc_auth.specs.SessionWords.{IsFirst}
use Rattle.sshc_run_reader.specs.declared.event_kind.EventKind.{EventKind}
use Rattle.sshc_run_reader.specs.declared.event_kind.EventKind.TheVariants as kinds
use Rattle.sshc_run_script.specs.Headline.{said_of_key, said_by, said_at, said_of_first, is_yes, is_accepted}
use Rattle.sshc_run_script.specs.OpenedKey.{key_by, key_at, first_key, HasAcceptedKey, IsOpenedByAccepted}
use Rattle.sshc_run_script.specs.Turn.{opening_machine}
use Rattle.sshc_run_script.proofs.RunNames.{SignCall, Event, EventError, event_of, Frame, taken, HandlerError, Hosts, as_handler, verdict, own_answers, own_events, session_own}
use Rattle.sshc_run_script.proofs.HostKeyGate.{opening_shut, said_of_own}

-- ---- what an accepting judgement means

by_judgement : (hosts : Hosts) (key : Key) (r : Result Bool KeyError) → judged hosts.known hosts.host key ≡ r → is_yes (Some (as_handler r)) ≡ true → IsAcceptedBy hosts.known hosts.host key
by_judgement hosts key (Ok true) is agreed = (accepted_just hosts.known hosts.host key).0 is
by_judgement hosts key r is agreed = absurd cc

by_key : (hosts : Hosts) (key : Option PublicKeyOrCertificate) → is_yes (Some (said_of_key hosts key)) ≡ true → HasAcceptedKey hosts key
unfolding verdict
by_key hosts (Some (PublicKey key hash)) agreed = by_judgement hosts key.0 (judged hosts.known hosts.host key.0) refl agreed
by_key hosts key agreed = absurd cc

by_read : (hosts : Hosts) (read : Result Event EventError) → is_yes (said_by hosts read) ≡ true → HasAcceptedKey hosts (key_by read)
by_read hosts (Ok (events.ExchangeDone x)) agreed = by_key hosts (host_key x.key) agreed
by_read hosts read agreed = absurd cc

by_kind : (hosts : Hosts) (kind : EventKind) (fields : List ℕ) (output : Option (Result Bool HandlerError)) (key : Option PublicKeyOrCertificate) → (is_yes output ≡ true → HasAcceptedKey hosts key) → is_yes (said_at kind hosts fields output) ≡ true → HasAcceptedKey hosts (key_at kind fields key)
by_kind hosts kinds.ExchangeDone fields output key later agreed = by_read hosts (event_of kinds.ExchangeDone fields) agreed
by_kind hosts kind fields output key later agreed = later agreed

-- if the first exchange is accepted, the text accepts its key
pub accepted_key : (hosts : Hosts) (frames : List Frame) → is_accepted hosts frames ≡ true → HasAcceptedKey hosts (first_key frames)
unfolding said_of_first first_key
accepted_key hosts [] agreed = absurd cc
accepted_key hosts (frame ∷ frames) agreed = by_kind hosts frame.kind frame.fields (said_of_first hosts frames) (first_key frames) (accepted_key hosts frames) agreed

-- ---- the law

by_gate : (hosts : Hosts) (frames own : List Frame) (b : Bool) → is_accepted hosts frames ≡ b → said_of_first hosts own ≡ said_of_first hosts frames → (is_accepted hosts own ≡ false → ⊥) → HasAcceptedKey hosts (first_key frames)
by_gate hosts frames own true is same opens = accepted_key hosts frames is
by_gate hosts frames own false is same opens = absurd (opens (ap is_yes same ∙ is))

pub opened_by_accepted : (hosts : Hosts) (settings : Settings) (max : ℕ) (calls : List SignCall) (script : Option (List ℕ)) → IsOpenedByAccepted hosts (opening_machine hosts settings) session_own max calls script
opened_by_accepted hosts settings max calls script = λ bytes output opens.
    let first : IsFirst (opening_machine hosts settings).first = record { exchanging = refl; runs = λ same. absurd cc; fresh = refl } in
    by_gate hosts (taken max bytes) (own_events session_own (taken max bytes)) (is_accepted hosts (taken max bytes)) refl (said_of_own hosts (taken max bytes))
    (λ none. opening_shut hosts (own_events session_own (taken max bytes)) (opening_machine hosts settings).first (own_answers session_own calls) first none opens)
