-- What happened on a proxy's connections, in one order: which hosts are bound and which request isn't answered, as folds
-- over the list of steps, and what each step of such a list keeps. The code keeps no list, but a table.
use Rattle.std.specs.Prelude.{◌≡◌, ◌≢◌, ◌⊎◌, ◌==◌, ℕ, List, [], ◌∷◌, ◌++◌, All, Contains, Option, Some, None, Ok, fold, option_map, if◌then◌else◌, true}
use Rattle.sshc_wire.specs.Reads.{string_at}
use Rattle.sshc_wire.specs.Wire.{string_text}
use Rattle.sshc_key.specs.AgentNumbers.{FAILURE, IDENTITIES_ANSWER, REQUEST_IDENTITIES, SIGN_REQUEST, SIGN_RESPONSE, SUCCESS}
use Rattle.sshc_proxy.specs.declared.input.ProxyInput.{ProxyInput}
use Rattle.sshc_proxy.specs.declared.input.ProxyInput.TheVariants as inputs
use Rattle.sshc_proxy.specs.declared.input.ProxyOutput.{ProxyOutput}
use Rattle.sshc_proxy.specs.declared.input.ProxyOutput.TheVariants as outputs
use Rattle.sshc_proxy.specs.Policy.{Rule}
use Rattle.sshc_proxy.specs.Listing.{Listed, listed_keys, listing}
use Rattle.sshc_proxy.specs.Binding.{Accepts, Binding, binding_of, is_signed}
use Rattle.sshc_proxy.specs.ProxyTable.{Proxy, allowed_keys, asked_by, awaited_at, bound_at, next_bound, next_forwarded, proxy_row}

pub record Step : Type 0 where
  pub conn : ℕ
  pub input : ProxyInput
  pub output : ProxyOutput

-- ---- what is bound, and what is unanswered

abbrev pub bound_with : ℕ → List (List ℕ) → Step → List (List ℕ)
bound_with conn hosts step = if step.conn == conn then next_bound hosts step.input step.output else hosts

-- the host keys of the connection's bindings that were answered SUCCESS since it began
abbrev pub bound : ℕ → List Step → List (List ℕ)
bound conn steps = fold (bound_with conn) [] steps

abbrev pub forwarded_with : ℕ → Option (List ℕ) → Step → Option (List ℕ)
forwarded_with conn last step = if step.conn == conn then next_forwarded last step.input step.output else last

-- the frame that was forwarded last on the connection, if it isn't answered yet
abbrev pub forwarded : ℕ → List Step → Option (List ℕ)
forwarded conn steps = fold (forwarded_with conn) None steps

-- ---- histories

-- after these steps the output is the row of the input, or memory ran out
abbrev pub MayFollow : Accepts → List Rule → List Step → Step → Type 0
MayFollow accepts policy steps step =
    (step.output ≡ proxy_row accepts policy (bound step.conn steps) (option_map asked_by (forwarded step.conn steps)) step.input) ⊎ (step.output ≡ outputs.NoMemory)

-- each step is as it must be after the earlier ones
abbrev pub AllFollow : (List Step → Step → Type 0) → List Step → List Step → Type 0
AllFollow Follows earlier [] = Unit {0}
AllFollow Follows earlier (step ∷ steps) = Follows earlier step × AllFollow Follows (earlier ++ step ∷ []) steps

-- ---- what a step keeps

-- a host is bound, and the policy names the key for each bound host
pub record IsAllowed (policy : List Rule) (hosts : List (List ℕ)) (key : List ℕ) : Type 0 where
  pub bound : hosts ≢ []
  pub named : All (λ host. Contains policy (key, host)) hosts

-- the frame asks for a signature with a key that is allowed
pub record AsksAllowed (policy : List Rule) (hosts : List (List ℕ)) (whole : List ℕ) : Type 0 where
  pub body : List ℕ
  pub key : List ℕ
  pub rest : List ℕ
  pub number : whole ≡ SIGN_REQUEST ∷ body
  pub names : string_at body ≡ Ok (key, rest)
  pub allowed : IsAllowed policy hosts key

-- the frame asks for the agent's keys
abbrev pub AsksListing : List ℕ → Type 0
AsksListing whole = (body : List ℕ) × (whole ≡ REQUEST_IDENTITIES ∷ body)

-- the client's frame, byte for byte, which asks for the agent's keys or for a signature with a key that is allowed
pub record IsForwarded (policy : List Rule) (hosts : List (List ℕ)) (input : ProxyInput) (frame : List ℕ) : Type 0 where
  pub whole : List ℕ
  pub client : input ≡ inputs.Frame whole
  pub same : frame ≡ string_text whole
  pub asks : AsksListing whole ⊎ AsksAllowed policy hosts whole

-- SUCCESS, to a binding that is signed
pub record IsBinding (accepts : Accepts) (input : ProxyInput) (frame : List ℕ) : Type 0 where
  pub whole : List ℕ
  pub binding : Binding
  pub client : input ≡ inputs.Frame whole
  pub binds : binding_of whole ≡ Some binding
  pub signed : is_signed accepts binding ≡ true
  pub success : frame ≡ string_text (SUCCESS ∷ [])

-- the allowed keys, in order, of the agent's answer to the request for its keys that was forwarded last
pub record IsListing (policy : List Rule) (steps : List Step) (conn : ℕ) (input : ProxyInput) (frame : List ℕ) : Type 0 where
  pub asked : List ℕ
  pub body : List ℕ
  pub keys : List Listed
  pub request : forwarded conn steps ≡ Some (REQUEST_IDENTITIES ∷ asked)
  pub agent : input ≡ inputs.Upstream (IDENTITIES_ANSWER ∷ body)
  pub read : listed_keys body ≡ Ok keys
  pub listed : frame ≡ string_text (listing (allowed_keys policy (bound conn steps) keys))

-- the agent's own answer to the sign request that was forwarded last
pub record IsSignature (steps : List Step) (conn : ℕ) (input : ProxyInput) (frame : List ℕ) : Type 0 where
  pub asked : List ℕ
  pub body : List ℕ
  pub request : forwarded conn steps ≡ Some (SIGN_REQUEST ∷ asked)
  pub agent : input ≡ inputs.Upstream (SIGN_RESPONSE ∷ body)
  pub same : frame ≡ string_text (SIGN_RESPONSE ∷ body)

-- an answer is FAILURE, or one of these
abbrev pub IsAnswer : Accepts → List Rule → List Step → Step → List ℕ → Type 0
IsAnswer accepts policy steps step frame =
    (frame ≡ string_text (FAILURE ∷ []))
    ⊎ (IsBinding accepts step.input frame ⊎ (IsListing policy steps step.conn step.input frame ⊎ IsSignature steps step.conn step.input frame))

-- this output keeps the policy
abbrev pub Says : Accepts → List Rule → List Step → Step → ProxyOutput → Type 0
Says accepts policy steps step (outputs.Forward frame) = IsForwarded policy (bound step.conn steps) step.input frame
Says accepts policy steps step (outputs.Answer frame) = IsAnswer accepts policy steps step frame
Says accepts policy steps step outputs.Nothing = Unit {0}
Says accepts policy steps step outputs.NoMemory = Unit {0}

-- an allowed sign request is forwarded, byte for byte, where no answer is awaited
abbrev pub ForwardsAllowed : List Rule → List Step → Step → Type 0
ForwardsAllowed policy steps step =
    (whole : List ℕ) → step.input ≡ inputs.Frame whole → forwarded step.conn steps ≡ None → AsksAllowed policy (bound step.conn steps) whole
    → (step.output ≡ outputs.Forward (string_text whole)) ⊎ (step.output ≡ outputs.NoMemory)

-- a step after these keeps the policy: nothing else reaches the agent or the client, and what is allowed reaches the agent
pub record Keeps (accepts : Accepts) (policy : List Rule) (steps : List Step) (step : Step) : Type 0 where
  pub says : Says accepts policy steps step step.output
  pub allowed : ForwardsAllowed policy steps step

-- ---- a core and its history

-- each frame that isn't answered yet asks for the agent's keys or for a signature
abbrev pub IsRequest : List ℕ → Type 0
IsRequest whole = AsksListing whole ⊎ ((body : List ℕ) × (whole ≡ SIGN_REQUEST ∷ body))

abbrev pub AreRequests : List Step → Type 0
AreRequests steps = (conn : ℕ) (whole : List ℕ) → forwarded conn steps ≡ Some whole → IsRequest whole

-- what a core keeps is what these steps, which are a history, say; and each of them keeps the policy
pub record Remembers (accepts : Accepts) (core : Proxy) (steps : List Step) : Type 0 where
  pub history : AllFollow (MayFollow accepts core.policy) [] steps
  pub kept : AllFollow (Keeps accepts core.policy) [] steps
  pub bound : (conn : ℕ) → bound_at core.bound conn ≡ bound conn steps
  pub awaits : (conn : ℕ) → awaited_at core.awaits conn ≡ option_map asked_by (forwarded conn steps)
  pub requests : AreRequests steps
