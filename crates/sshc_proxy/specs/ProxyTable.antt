-- The proxy's table: what is answered to an input of a connection, by the hosts that are bound on it and the answer that
-- is awaited there (draft-miller-ssh-agent, sections 3.5 and 3.6; OpenSSH's PROTOCOL.agent, section 1).
-- Rows by cases on plain data; each has a function of the same name in the code.
use Rattle.std.specs.Prelude.{◌≡◌, ℕ, List, [], ◌∷◌, ◌++◌, Option, Some, None, Result, Ok, Err, bytes_eq, filter, unwrap_or, ◌==◌, if◌then◌else◌}
use Rattle.std.specs.BTreeMap.{is_at}
use Rattle.std.specs.Map.{lookup}
use Rattle.std.specs.Ordering.{nat_cmp}
use Rattle.sshc_wire.specs.declared.error.NoMemory.{NoMemory}
use Rattle.sshc_wire.specs.declared.error.WireError.{WireError}
use Rattle.sshc_wire.specs.Reads.{string_at}
use Rattle.sshc_wire.specs.Wire.{string_text}
use Rattle.sshc_key.specs.declared.error.Error.{Error}
use Rattle.sshc_key.specs.AgentNumbers.{EXTENSION, FAILURE, IDENTITIES_ANSWER, REQUEST_IDENTITIES, SIGN_REQUEST, SIGN_RESPONSE, SUCCESS}
use Rattle.sshc_proxy.specs.declared.input.ProxyInput.{ProxyInput}
use Rattle.sshc_proxy.specs.declared.input.ProxyInput.TheVariants as inputs
use Rattle.sshc_proxy.specs.declared.input.ProxyOutput.{ProxyOutput}
use Rattle.sshc_proxy.specs.declared.input.ProxyOutput.TheVariants as outputs
use Rattle.sshc_proxy.specs.declared.waiting.Awaited.{Awaited}
use Rattle.sshc_proxy.specs.declared.waiting.Awaited.TheVariants as awaited
use Rattle.sshc_proxy.specs.Policy.{Rule, allowed}
use Rattle.sshc_proxy.specs.Listing.{Listed, listed_keys, listing}
use Rattle.sshc_proxy.specs.Binding.{Accepts, Binding, binding_in, binding_of, is_signed}

-- ---- terms that the table uses

-- a frame with its length (draft-miller-ssh-agent, section 3)
abbrev pub answers : List ℕ → ProxyOutput
answers body = outputs.Answer (string_text body)

abbrev pub fails : ProxyOutput
fails = answers (FAILURE ∷ [])

abbrev pub succeeds : ProxyOutput
succeeds = answers (SUCCESS ∷ [])

-- the client's frame as it stands
abbrev pub forwards : List ℕ → ProxyOutput
forwards whole = outputs.Forward (string_text whole)

-- ---- rows of a frame

abbrev pub sign_request_by : List Rule → List (List ℕ) → Result (List ℕ × List ℕ) WireError → List ℕ → ProxyOutput
sign_request_by policy hosts (Ok blob) whole = if allowed policy hosts blob.0 then forwards whole else fails
sign_request_by policy hosts (Err e) whole = fails

-- 13, SIGN_REQUEST: forwarded for a key that is allowed
unfoldable pub sign_request_row : List Rule → List (List ℕ) → List ℕ → List ℕ → ProxyOutput
sign_request_row policy hosts body whole = sign_request_by policy hosts (string_at body) whole

abbrev pub binding_by : Accepts → Option Binding → ProxyOutput
binding_by accepts (Some binding) = if is_signed accepts binding then succeeds else fails
binding_by accepts None = fails

-- 27, EXTENSION: a binding is accepted if it is signed; there is no other extension
unfoldable pub extension_row : Accepts → List ℕ → ProxyOutput
extension_row accepts body = binding_by accepts (binding_in body)

-- a frame on a connection on which no answer is awaited; 11, REQUEST_IDENTITIES, is forwarded
unfoldable pub frame_row : Accepts → List Rule → List (List ℕ) → List ℕ → ProxyOutput
frame_row accepts policy hosts [] = fails
frame_row accepts policy hosts (number ∷ body) =
    if number == REQUEST_IDENTITIES then forwards (number ∷ body)
    else (if number == SIGN_REQUEST then sign_request_row policy hosts body (number ∷ body)
    else (if number == EXTENSION then extension_row accepts body
    else fails))

-- ---- rows of an answer

-- the keys that are allowed
abbrev pub allowed_keys : List Rule → List (List ℕ) → List Listed → List Listed
allowed_keys policy hosts keys = filter (λ key. allowed policy hosts key.0) keys

abbrev pub listing_by : List Rule → List (List ℕ) → Result (List Listed) Error → ProxyOutput
listing_by policy hosts (Ok keys) = answers (listing (allowed_keys policy hosts keys))
listing_by policy hosts (Err e) = fails

-- 12, IDENTITIES_ANSWER, if it can be read: the keys that are allowed
unfoldable pub listing_row : List Rule → List (List ℕ) → List ℕ → ProxyOutput
listing_row policy hosts [] = fails
listing_row policy hosts (number ∷ body) = if number == IDENTITIES_ANSWER then listing_by policy hosts (listed_keys body) else fails

-- 14, SIGN_RESPONSE: passed on as it stands
unfoldable pub signature_row : List ℕ → ProxyOutput
signature_row [] = fails
signature_row (number ∷ body) = if number == SIGN_RESPONSE then answers (number ∷ body) else fails

abbrev pub answer_row : List Rule → List (List ℕ) → Awaited → List ℕ → ProxyOutput
answer_row policy hosts awaited.Listing answer = listing_row policy hosts answer
answer_row policy hosts awaited.Signature answer = signature_row answer

-- ---- the row of an input

-- a frame while an answer is awaited is ignored
abbrev pub frame_in : Accepts → List Rule → List (List ℕ) → Option Awaited → List ℕ → ProxyOutput
frame_in accepts policy hosts None whole = frame_row accepts policy hosts whole
frame_in accepts policy hosts (Some kind) whole = outputs.Nothing

-- and so is an answer that isn't awaited
abbrev pub answer_in : List Rule → List (List ℕ) → Option Awaited → List ℕ → ProxyOutput
answer_in policy hosts None answer = outputs.Nothing
answer_in policy hosts (Some kind) answer = answer_row policy hosts kind answer

abbrev pub proxy_row : Accepts → List Rule → List (List ℕ) → Option Awaited → ProxyInput → ProxyOutput
proxy_row accepts policy hosts waits (inputs.Frame whole) = frame_in accepts policy hosts waits whole
proxy_row accepts policy hosts waits (inputs.Upstream answer) = answer_in policy hosts waits answer
proxy_row accepts policy hosts waits inputs.Close = outputs.Nothing

-- ---- what follows an input and its output

-- the host key of a binding
abbrev pub host_of : Option Binding → List (List ℕ)
host_of None = []
host_of (Some binding) = binding.host_key ∷ []

-- a frame that is answered with SUCCESS binds its host
unfoldable pub bound_after : List (List ℕ) → List ℕ → List ℕ → List (List ℕ)
bound_after hosts whole answer = if bytes_eq answer (string_text (SUCCESS ∷ [])) then hosts ++ host_of (binding_of whole) else hosts

-- the hosts that are bound on a connection after an input and its output
abbrev pub next_bound : List (List ℕ) → ProxyInput → ProxyOutput → List (List ℕ)
next_bound hosts input outputs.NoMemory = hosts
next_bound hosts inputs.Close output = []
next_bound hosts (inputs.Frame whole) (outputs.Answer answer) = bound_after hosts whole answer
next_bound hosts input output = hosts

-- the frame that was forwarded last and isn't answered yet
abbrev pub next_forwarded : Option (List ℕ) → ProxyInput → ProxyOutput → Option (List ℕ)
next_forwarded last input outputs.NoMemory = last
next_forwarded last inputs.Close output = None
next_forwarded last (inputs.Upstream answer) output = None
next_forwarded last (inputs.Frame whole) (outputs.Forward frame) = Some whole
next_forwarded last (inputs.Frame whole) output = last

-- what a forwarded frame asks for
abbrev pub asked_by : List ℕ → Awaited
asked_by [] = awaited.Signature
asked_by (number ∷ body) = if number == REQUEST_IDENTITIES then awaited.Listing else awaited.Signature

-- the answer that is awaited
abbrev pub next_awaited : Option Awaited → ProxyInput → ProxyOutput → Option Awaited
next_awaited last input outputs.NoMemory = last
next_awaited last inputs.Close output = None
next_awaited last (inputs.Upstream answer) output = None
next_awaited last (inputs.Frame whole) (outputs.Forward frame) = Some (asked_by whole)
next_awaited last (inputs.Frame whole) output = last

-- ---- the core

-- what a core keeps: a policy, and for each connection the hosts that are bound and the answer that is awaited
pub record Proxy : Type 0 where
  pub policy : List Rule
  pub bound : List (ℕ × List (List ℕ))
  pub awaits : List (ℕ × Awaited)

abbrev pub bound_at : List (ℕ × List (List ℕ)) → ℕ → List (List ℕ)
bound_at bound conn = unwrap_or (lookup (is_at (nat_cmp conn)) bound) []

abbrev pub awaited_at : List (ℕ × Awaited) → ℕ → Option Awaited
awaited_at awaits conn = lookup (is_at (nat_cmp conn)) awaits

-- an input of a connection and its output change what is kept of this connection
pub record Moves (conn : ℕ) (input : ProxyInput) (output : ProxyOutput) (before after : Proxy) : Type 0 where
  pub policy : after.policy ≡ before.policy
  pub bound : (c : ℕ) → bound_at after.bound c ≡ (if conn == c then next_bound (bound_at before.bound conn) input output else bound_at before.bound c)
  pub awaits : (c : ℕ) → awaited_at after.awaits c ≡ (if conn == c then next_awaited (awaited_at before.awaits conn) input output else awaited_at before.awaits c)

-- what a call does that follows a row; if memory ran out, it changed nothing
abbrev pub Follows : ProxyOutput → ℕ → ProxyInput → Proxy → Proxy → Result ProxyOutput NoMemory → Type 0
Follows row conn input before after (Ok output) = (output ≡ row) × Moves conn input output before after
Follows row conn input before after (Err e) = after ≡ before

-- the row of an input in a core's state
abbrev pub row_in : Accepts → Proxy → ℕ → ProxyInput → ProxyOutput
row_in accepts before conn input = proxy_row accepts before.policy (bound_at before.bound conn) (awaited_at before.awaits conn) input

-- memory ran out, and nothing changed
pub record Starves (before after : Proxy) (output : ProxyOutput) : Type 0 where
  pub nothing : output ≡ outputs.NoMemory
  pub unchanged : after ≡ before

pub record Takes (accepts : Accepts) (conn : ℕ) (input : ProxyInput) (before after : Proxy) (output : ProxyOutput) : Type 0 where
  pub row : output ≡ row_in accepts before conn input
  pub moves : Moves conn input output before after
