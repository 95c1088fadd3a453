-- The table of a connection whose signatures are tied to its sessions: what is answered to an input, by the sessions that
-- are bound on the connection, the answer that is awaited there and the policy (draft-miller-ssh-agent, sections 3.5 and
-- 3.6; session-bind@openssh.com of OpenSSH's PROTOCOL.agent).
-- Rows by cases on plain data; each has a function of the same name in the code.
use Rattle.std.specs.Prelude.{◌≡◌, ◌⊎◌, ℕ, Bool, true, false, not, ◌&&◌, List, [], ◌∷◌, ◌++◌, length, Option, Some, None, Result, Ok, Err, bytes_eq, filter, nat_lt, ◌==◌, if◌then◌else◌}
use Rattle.std.specs.List.{list_any}
use Rattle.sshc_wire.specs.declared.error.NoMemory.{NoMemory}
use Rattle.sshc_wire.specs.Wire.{string_text}
use Rattle.sshc_key.specs.declared.error.Error.{Error}
use Rattle.sshc_key.specs.AgentNumbers.{EXTENSION, IDENTITIES_ANSWER, REQUEST_IDENTITIES, SIGN_REQUEST, SIGN_RESPONSE}
use Rattle.sshc_proxy.specs.declared.waiting.Awaited.{Awaited}
use Rattle.sshc_proxy.specs.declared.waiting.Awaited.TheVariants as awaited
use Rattle.sshc_proxy.specs.Binding.{Accepts, Binding, binding_in, binding_of, is_signed}
use Rattle.sshc_proxy.specs.Listing.{Listed, listed_keys, listing}
use Rattle.sshc_proxy.specs.ProxyTable.{asked_by}
use Rattle.sshc_proxy_session.specs.declared.bound.Bound.{Bound}
use Rattle.sshc_proxy_session.specs.declared.event.SessionInput.{SessionInput}
use Rattle.sshc_proxy_session.specs.declared.event.SessionInput.TheVariants as inputs
use Rattle.sshc_proxy_session.specs.declared.event.SessionOutput.{SessionOutput}
use Rattle.sshc_proxy_session.specs.declared.event.SessionOutput.TheVariants as outputs
use Rattle.sshc_proxy_session.specs.declared.refusal.Refusal.{Refusal}
use Rattle.sshc_proxy_session.specs.declared.refusal.Refusal.TheVariants as refusals
use Rattle.sshc_proxy_session.specs.declared.session_policy.SessionRule.{SessionRule}
use Rattle.sshc_proxy_session.specs.Userauth.{Signing, Userauth, signing_of, userauth_of}

-- ---- bindings

abbrev pub bound_of : Binding → Bound
bound_of binding = record { host_key = binding.host_key; session_id = binding.session_id; is_forwarding = binding.is_forwarding }

abbrev pub onto : {A : Type 0} → A → Option (List A × A) → Option (List A × A)
onto x None = Some ([], x)
onto x (Some parts) = Some (x ∷ parts.0, parts.1)

-- those before the last, and the last
abbrev pub parted : {A : Type 0} → List A → Option (List A × A)
parted [] = None
parted (x ∷ xs) = onto x (parted xs)

-- the session is bound already
abbrev pub is_known : List Bound → List ℕ → Bool
is_known bindings session_id = list_any (λ bound. bytes_eq bound.session_id session_id) bindings

-- ---- what a policy permits

-- one of a host's keys
abbrev pub has_key : List (List ℕ) → List ℕ → Bool
has_key keys key = list_any (λ known. bytes_eq known key) keys

-- the hops are over hosts with these keys, in order
abbrev pub is_way : List (List (List ℕ)) → List Bound → Bool
is_way [] [] = true
is_way [] (hop ∷ hops) = false
is_way (keys ∷ via) [] = false
is_way (keys ∷ via) (hop ∷ hops) = has_key keys hop.host_key && is_way via hops

-- the rule is one for the key, the last binding's host and the hops before it
abbrev pub is_towards : List Bound → Bound → List ℕ → SessionRule → Bool
is_towards hops last key rule = bytes_eq rule.key key && (has_key rule.host last.host_key && is_way rule.via hops)

-- the rule's user is this one, or anybody
abbrev pub is_user : Option (List ℕ) → List ℕ → Bool
is_user None user = true
is_user (Some name) user = bytes_eq name user

abbrev pub permits : List SessionRule → List Bound → Bound → List ℕ → List ℕ → Bool
permits policy hops last key user = list_any (λ rule. is_towards hops last key rule && is_user rule.user user) policy

abbrev pub names : List SessionRule → List Bound → Bound → List ℕ → Bool
names policy hops last key = list_any (is_towards hops last key) policy

-- some user could log in with the key in the session that was bound last
abbrev pub is_usable : List SessionRule → Option (List Bound × Bound) → List ℕ → Bool
is_usable policy None key = false
is_usable policy (Some parts) key = not parts.1.is_forwarding && names policy parts.0 parts.1 key

-- ---- a request to sign

abbrev pub is_direct : List Bound → Bool
is_direct [] = true
is_direct (hop ∷ hops) = false

-- the login names the last binding's host key; over a hop it has to, and else it may name none
abbrev pub names_host : List Bound → Bound → Option (List ℕ) → Bool
names_host hops last None = is_direct hops
names_host hops last (Some host_key) = bytes_eq host_key last.host_key

abbrev pub login_refusal : List SessionRule → List Bound → Bound → List ℕ → Userauth → Option Refusal
login_refusal policy hops last key login =
    if bytes_eq login.key key then (if bytes_eq login.session_id last.session_id then (if names_host hops last login.host_key then (if permits policy hops last key login.user then None else Some refusals.NotAllowed)
    else Some refusals.OtherHost)
    else Some refusals.OtherSession)
    else Some refusals.OtherKey

abbrev pub bytes_refusal : List SessionRule → List Bound → Bound → List ℕ → Option Userauth → Option Refusal
bytes_refusal policy hops last key None = Some refusals.NoLogin
bytes_refusal policy hops last key (Some login) = login_refusal policy hops last key login

abbrev pub place_refusal : List SessionRule → Option (List Bound × Bound) → Signing → Option Refusal
place_refusal policy None signing = Some refusals.NothingBound
place_refusal policy (Some parts) signing =
    if parts.1.is_forwarding then Some refusals.Forwarding else bytes_refusal policy parts.0 parts.1 signing.key (userauth_of signing.bytes)

abbrev pub sign_refusal : List SessionRule → List Bound → Option Signing → Option Refusal
sign_refusal policy bindings None = Some refusals.Malformed
sign_refusal policy bindings (Some signing) = place_refusal policy (parted bindings) signing

-- ---- a binding

-- a session in which the user logs in was bound last
abbrev pub is_login_bound : Option (List Bound × Bound) → Bool
is_login_bound None = false
is_login_bound (Some parts) = not parts.1.is_forwarding

abbrev pub bind_refusal : Bool → List Bound → Binding → Option Refusal
bind_refusal verified bindings binding =
    if is_login_bound (parted bindings) then Some refusals.LoggedIn
    else (if is_known bindings binding.session_id then Some refusals.SameSession
    else (if nat_lt (length bindings) 16 then (if verified then None else Some refusals.NotSigned)
    else Some refusals.TooMany))

-- ---- rows of a frame

abbrev pub unless : Option Refusal → SessionOutput → SessionOutput
unless None output = output
unless (Some reason) output = outputs.Refused reason

-- the client's frame as it stands
abbrev pub forwards : List ℕ → SessionOutput
forwards whole = outputs.Forward (string_text whole)

-- 13, SIGN_REQUEST: forwarded for a login that the policy permits
unfoldable pub sign_request_row : List SessionRule → List Bound → List ℕ → List ℕ → SessionOutput
sign_request_row policy bindings body whole = unless (sign_refusal policy bindings (signing_of body)) (forwards whole)

-- 27, EXTENSION: a binding; there is no other extension
abbrev pub binding_row : Bool → List Bound → Option Binding → SessionOutput
binding_row verified bindings None = outputs.Refused refusals.NotSupported
binding_row verified bindings (Some binding) = unless (bind_refusal verified bindings binding) outputs.Bound

-- a frame on a connection on which no answer is awaited, where a binding in it is signed or not; 11, REQUEST_IDENTITIES,
-- is forwarded
unfoldable pub frame_row : Bool → List SessionRule → List Bound → List ℕ → SessionOutput
frame_row verified policy bindings [] = outputs.Refused refusals.Malformed
frame_row verified policy bindings (number ∷ body) =
    if number == REQUEST_IDENTITIES then forwards (number ∷ body)
    else (if number == SIGN_REQUEST then sign_request_row policy bindings body (number ∷ body)
    else (if number == EXTENSION then binding_row verified bindings (binding_in body)
    else outputs.Refused refusals.NotSupported))

-- ---- rows of an answer

abbrev pub answers : List ℕ → SessionOutput
answers body = outputs.Answer (string_text body)

abbrev pub agent_refused : SessionOutput
agent_refused = outputs.Refused refusals.AgentRefused

-- the keys that could be used
abbrev pub usable_keys : List SessionRule → List Bound → List Listed → List Listed
usable_keys policy bindings keys = filter (λ key. is_usable policy (parted bindings) key.0) keys

abbrev pub listing_by : List SessionRule → List Bound → Result (List Listed) Error → SessionOutput
listing_by policy bindings (Ok keys) = answers (listing (usable_keys policy bindings keys))
listing_by policy bindings (Err e) = agent_refused

-- 12, IDENTITIES_ANSWER, if it can be read: the keys that could be used
unfoldable pub listing_row : List SessionRule → List Bound → List ℕ → SessionOutput
listing_row policy bindings [] = agent_refused
listing_row policy bindings (number ∷ body) = if number == IDENTITIES_ANSWER then listing_by policy bindings (listed_keys body) else agent_refused

-- 14, SIGN_RESPONSE: passed on as it stands
unfoldable pub signature_row : List ℕ → SessionOutput
signature_row [] = agent_refused
signature_row (number ∷ body) = if number == SIGN_RESPONSE then answers (number ∷ body) else agent_refused

abbrev pub answer_row : List SessionRule → List Bound → Awaited → List ℕ → SessionOutput
answer_row policy bindings awaited.Listing answer = listing_row policy bindings answer
answer_row policy bindings awaited.Signature answer = signature_row answer

-- ---- the row of an input

-- what a connection keeps: the sessions that are bound, and the answer that is awaited
pub record Standing : Type 0 where
  pub bindings : List Bound
  pub awaits : Option Awaited

-- a frame while an answer is awaited is ignored
abbrev pub frame_in : Bool → List SessionRule → List Bound → Option Awaited → List ℕ → SessionOutput
frame_in verified policy bindings None whole = frame_row verified policy bindings whole
frame_in verified policy bindings (Some kind) whole = outputs.Nothing

-- and so is an answer that isn't awaited
abbrev pub answer_in : List SessionRule → List Bound → Option Awaited → List ℕ → SessionOutput
answer_in policy bindings None answer = outputs.Nothing
answer_in policy bindings (Some kind) answer = answer_row policy bindings kind answer

abbrev pub session_row : Bool → List SessionRule → Standing → SessionInput → SessionOutput
session_row verified policy now (inputs.Frame whole) = frame_in verified policy now.bindings now.awaits whole
session_row verified policy now (inputs.Upstream answer) = answer_in policy now.bindings now.awaits answer

-- ---- what follows an input and its output

-- the binding of a frame that is answered with SUCCESS
abbrev pub binding_by : SessionInput → SessionOutput → Option Binding
binding_by (inputs.Frame whole) outputs.Bound = binding_of whole
binding_by input output = None

abbrev pub with_binding : {A B : Type 0} → (A → B) → List B → Option A → List B
with_binding f xs None = xs
with_binding f xs (Some x) = xs ++ f x ∷ []

-- the answer that is awaited
abbrev pub next_awaited : Option Awaited → SessionInput → SessionOutput → Option Awaited
next_awaited last input outputs.NoMemory = last
next_awaited last (inputs.Upstream answer) output = None
next_awaited last (inputs.Frame whole) (outputs.Forward frame) = Some (asked_by whole)
next_awaited last (inputs.Frame whole) output = last

abbrev pub moved : Standing → SessionInput → SessionOutput → Standing
moved now input output = record { bindings = with_binding bound_of now.bindings (binding_by input output); awaits = next_awaited now.awaits input output }

-- what a call does that follows a row; if memory ran out, it changed nothing
abbrev pub Follows : SessionOutput → SessionInput → Standing → Standing → Result SessionOutput NoMemory → Type 0
Follows row input before after (Ok output) = (output ≡ row) × (after ≡ moved before input output)
Follows row input before after (Err e) = after ≡ before

-- a step does the row of its input
pub record Takes (verified : Bool) (policy : List SessionRule) (input : SessionInput) (before after : Standing) (output : SessionOutput) : Type 0 where
  pub row : output ≡ session_row verified policy before input
  pub moves : after ≡ moved before input output

-- memory ran out, and nothing changed
pub record Starves (before after : Standing) (output : SessionOutput) : Type 0 where
  pub nothing : output ≡ outputs.NoMemory
  pub unchanged : after ≡ before

abbrev pub Steps : Bool → List SessionRule → SessionInput → Standing → Standing → SessionOutput → Type 0
Steps verified policy input before after output = Takes verified policy input before after output ⊎ Starves before after output

-- ---- what is asked

abbrev pub question_by : Option Awaited → List ℕ → Option Binding
question_by None whole = binding_of whole
question_by (Some kind) whole = None

-- the binding of which a step has to know whether it is signed
abbrev pub question_in : Standing → SessionInput → Option Binding
question_in now (inputs.Frame whole) = question_by now.awaits whole
question_in now (inputs.Upstream answer) = None

abbrev pub verdict : Accepts → Option Binding → Bool
verdict accepts None = false
verdict accepts (Some binding) = is_signed accepts binding
