-- What happened on a connection whose signatures are tied to its sessions: which sessions are bound and which request isn't
-- answered, read off the list of its steps, and what each step of such a list keeps. The code keeps no list.
use Rattle.std.specs.Prelude.{◌≡◌, ◌⊎◌, ℕ, Bool, true, false, List, [], ◌∷◌, ◌++◌, All, Contains, Option, Some, None, Ok, fold, map, option_map}
use Rattle.std.specs.List.{filter_map}
use Rattle.sshc_wire.specs.Wire.{IsBytes, string_text}
use Rattle.sshc_key.specs.AgentNumbers.{IDENTITIES_ANSWER, REQUEST_IDENTITIES, SIGN_REQUEST, SIGN_RESPONSE}
use Rattle.sshc_proxy.specs.Binding.{Accepts, Binding, binding_of, is_signed}
use Rattle.sshc_proxy.specs.Listing.{Listed, listed_keys, listing}
use Rattle.sshc_proxy.specs.ProxyTable.{asked_by}
use Rattle.sshc_proxy_session.specs.declared.event.SessionInput.{SessionInput}
use Rattle.sshc_proxy_session.specs.declared.event.SessionInput.TheVariants as inputs
use Rattle.sshc_proxy_session.specs.declared.event.SessionOutput.{SessionOutput}
use Rattle.sshc_proxy_session.specs.declared.event.SessionOutput.TheVariants as outputs
use Rattle.sshc_proxy_session.specs.declared.session_policy.SessionRule.{SessionRule}
use Rattle.sshc_proxy_session.specs.Userauth.{hostbound_text, publickey_text, signing_text}
use Rattle.sshc_proxy_session.specs.SessionTable.{Standing, bound_of, usable_keys}

pub record Step : Type 0 where
  pub input : SessionInput
  pub output : SessionOutput

abbrev pub AreBytes : SessionInput → Type 0
AreBytes (inputs.Frame whole) = IsBytes whole
AreBytes (inputs.Upstream answer) = Unit {0}

-- ---- what is bound, and what is unanswered

-- the binding of a frame that was answered with SUCCESS
abbrev pub bound_in : SessionInput → SessionOutput → Option Binding
bound_in (inputs.Frame whole) outputs.Bound = binding_of whole
bound_in input output = None

-- the bindings that were answered with SUCCESS, in order
abbrev pub bound : List Step → List Binding
bound steps = filter_map (λ step. bound_in step.input step.output) steps

abbrev pub forwarded_by : Option (List ℕ) → SessionInput → SessionOutput → Option (List ℕ)
forwarded_by last input outputs.NoMemory = last
forwarded_by last (inputs.Upstream answer) output = None
forwarded_by last (inputs.Frame whole) (outputs.Forward frame) = Some whole
forwarded_by last (inputs.Frame whole) output = last

-- the frame that was forwarded last, if it isn't answered yet
abbrev pub forwarded : List Step → Option (List ℕ)
forwarded steps = fold (λ last step. forwarded_by last step.input step.output) None steps

-- ---- what a step keeps

-- the hops are over hosts with these keys, in order
abbrev pub AreOver : List (List (List ℕ)) → List Binding → Type 0
AreOver [] [] = Unit {0}
AreOver [] (hop ∷ hops) = ⊥
AreOver (keys ∷ via) [] = ⊥
AreOver (keys ∷ via) (hop ∷ hops) = Contains keys hop.host_key × AreOver via hops

-- The way of a login: the session that was bound last is one in which the user logs in, those before it forward the agent,
-- and a rule names the key for a host that has the last one's host key and, in order, hosts that have the others'.
pub record IsWay (policy : List SessionRule) (bindings : List Binding) (used : List ℕ) : Type 0 where
  pub hops : List Binding
  pub last : Binding
  pub bound : bindings ≡ hops ++ last ∷ []
  pub login : last.is_forwarding ≡ false
  pub forwarding : All (λ hop. hop.is_forwarding ≡ true) hops
  pub rule : SessionRule
  pub named : Contains policy rule
  pub key : rule.key ≡ used
  pub host : Contains rule.host last.host_key
  pub via : AreOver rule.via hops

-- anybody, or this user
abbrev pub NamesUser : Option (List ℕ) → List ℕ → Type 0
NamesUser None user = Unit {0}
NamesUser (Some name) user = name ≡ user

-- The bytes are a login by public key in the last session (RFC 4252, section 7). It names the host key that was bound with
-- the session (publickey-hostbound-v00@openssh.com), or none where the agent isn't forwarded.
abbrev pub IsLogin : List Binding → Binding → List ℕ → List ℕ → List ℕ → List ℕ → Type 0
IsLogin hops last user algorithm key bytes =
    ((hops ≡ []) × (bytes ≡ publickey_text last.session_id user algorithm key)) ⊎ (bytes ≡ hostbound_text last.session_id user algorithm key last.host_key)

-- the frame asks for a signature over a login that the policy permits
pub record AsksLogin (policy : List SessionRule) (bindings : List Binding) (whole : List ℕ) : Type 0 where
  pub key : List ℕ
  pub bytes : List ℕ
  pub flags : ℕ
  pub frame : whole ≡ SIGN_REQUEST ∷ signing_text key bytes flags
  pub way : IsWay policy bindings key
  pub user : List ℕ
  pub algorithm : List ℕ
  pub login : IsLogin way.hops way.last user algorithm key bytes
  pub permitted : NamesUser way.rule.user user

-- the frame asks for the agent's keys
abbrev pub AsksListing : List ℕ → Type 0
AsksListing whole = (body : List ℕ) × (whole ≡ REQUEST_IDENTITIES ∷ body)

-- the client's frame, byte for byte, which asks for the agent's keys or for a signature that the policy permits
pub record IsForwarded (policy : List SessionRule) (bindings : List Binding) (input : SessionInput) (frame : List ℕ) : Type 0 where
  pub whole : List ℕ
  pub client : input ≡ inputs.Frame whole
  pub same : frame ≡ string_text whole
  pub asks : AsksListing whole ⊎ AsksLogin policy bindings whole

-- a binding that is signed, where each session that was bound before forwards the agent
pub record IsBinding (accepts : Accepts) (bindings : List Binding) (input : SessionInput) : Type 0 where
  pub whole : List ℕ
  pub binding : Binding
  pub client : input ≡ inputs.Frame whole
  pub binds : binding_of whole ≡ Some binding
  pub signed : is_signed accepts binding ≡ true
  pub hops : All (λ hop. hop.is_forwarding ≡ true) bindings

-- the keys that could be used, in order, of the agent's answer to the request for its keys that was forwarded last
pub record IsListing (policy : List SessionRule) (steps : List Step) (input : SessionInput) (frame : List ℕ) : Type 0 where
  pub asked : List ℕ
  pub body : List ℕ
  pub keys : List Listed
  pub request : forwarded steps ≡ Some (REQUEST_IDENTITIES ∷ asked)
  pub agent : input ≡ inputs.Upstream (IDENTITIES_ANSWER ∷ body)
  pub read : listed_keys body ≡ Ok keys
  pub listed : frame ≡ string_text (listing (usable_keys policy (map bound_of (bound steps)) keys))
  pub usable : All (λ key. IsWay policy (bound steps) key.0) (usable_keys policy (map bound_of (bound steps)) keys)

-- the agent's own answer to the request to sign that was forwarded last
pub record IsSignature (steps : List Step) (input : SessionInput) (frame : List ℕ) : Type 0 where
  pub asked : List ℕ
  pub body : List ℕ
  pub request : forwarded steps ≡ Some (SIGN_REQUEST ∷ asked)
  pub agent : input ≡ inputs.Upstream (SIGN_RESPONSE ∷ body)
  pub same : frame ≡ string_text (SIGN_RESPONSE ∷ body)

-- this output of a step after these keeps the policy
abbrev pub Says : Accepts → List SessionRule → List Step → SessionInput → SessionOutput → Type 0
Says accepts policy steps input (outputs.Forward frame) = IsForwarded policy (bound steps) input frame
Says accepts policy steps input (outputs.Answer frame) = IsListing policy steps input frame ⊎ IsSignature steps input frame
Says accepts policy steps input outputs.Bound = IsBinding accepts (bound steps) input
Says accepts policy steps input output = Unit {0}

-- ---- a connection and its history

-- each step keeps the policy after the earlier ones
abbrev pub AllKeep : Accepts → List SessionRule → List Step → List Step → Type 0
AllKeep accepts policy earlier [] = Unit {0}
AllKeep accepts policy earlier (step ∷ steps) = Says accepts policy earlier step.input step.output × AllKeep accepts policy (earlier ++ step ∷ []) steps

-- every binding but the last is of a session that forwards the agent
abbrev pub AreHops : List Binding → Type 0
AreHops bindings = (hops : List Binding) (last : Binding) → bindings ≡ hops ++ last ∷ [] → All (λ hop. hop.is_forwarding ≡ true) hops

abbrev pub IsRequest : List ℕ → Type 0
IsRequest whole = AsksListing whole ⊎ ((body : List ℕ) × (whole ≡ SIGN_REQUEST ∷ body))

-- What a connection keeps is what its steps say. Each of them keeps the policy, and each session that is bound has a host
-- key that signed its identifier.
pub record Remembers (accepts : Accepts) (policy : List SessionRule) (now : Standing) (steps : List Step) : Type 0 where
  pub kept : AllKeep accepts policy [] steps
  pub signed : All (λ binding. is_signed accepts binding ≡ true) (bound steps)
  pub hops : AreHops (bound steps)
  pub bindings : now.bindings ≡ map bound_of (bound steps)
  pub awaits : now.awaits ≡ option_map asked_by (forwarded steps)
  pub requests : (whole : List ℕ) → forwarded steps ≡ Some whole → IsRequest whole
