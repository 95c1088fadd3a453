-- A session that is bound to a connection of an agent: the extension `session-bind@openssh.com` (OpenSSH's
-- PROTOCOL.agent, section 1).
-- Its reading is a function of the whole frame; the code moves a cursor.
use Rattle.std.specs.Prelude.{ℕ, Bool, false, List, [], ◌∷◌, Option, Some, None, Result, Ok, Err, codes, bytes_eq, ◌==◌, if◌then◌else◌}
use Rattle.sshc_wire.specs.declared.error.WireError.{WireError}
use Rattle.sshc_wire.specs.Reads.{Reader, boolean_at, string_at, ◌>>=◌}
use Rattle.sshc_key.specs.AgentNumbers.{EXTENSION}
use Rattle.sshc_key.specs.declared.signature.Signature.{Signature}
use Rattle.sshc_key.specs.Algorithms.{is_accepted, whole_signature}
use Rattle.sshc_key.specs.KeyGrammar.{Key, plain}
use Rattle.sshc_key.specs.Nesting.{whole_blob_key}
use Rattle.sshc_proxy.specs.declared.binding.Binding.{Binding as Lent}

-- which signatures are a key's over bytes
abbrev pub Accepts : Type 0
Accepts = Key → List ℕ → Signature → Bool

-- the host key's blob, the session's identifier, the host key's signature over it, and whether the session forwards the
-- agent
pub record Binding : Type 0 where
  pub host_key : List ℕ
  pub session_id : List ℕ
  pub signature : List ℕ
  pub is_forwarding : Bool

-- ---- reading

-- three strings, and whether the session forwards the agent
unfoldable pub fields_at : Reader WireError Binding
fields_at bytes =
    string_at bytes >>= λ host_key. string_at host_key.1 >>= λ session_id. string_at session_id.1 >>= λ signature. boolean_at signature.1 >>= λ forwarding.
    Ok (record { host_key = host_key.0; session_id = session_id.0; signature = signature.0; is_forwarding = forwarding.0 }, forwarding.1)

-- nothing follows the fields
abbrev pub ended : Result (Binding × List ℕ) WireError → Option Binding
ended (Ok (binding, [])) = Some binding
ended (Ok (binding, (b ∷ rest))) = None
ended (Err e) = None

abbrev pub named : Result (List ℕ × List ℕ) WireError → Option Binding
named (Ok name) = if bytes_eq name.0 (codes "session-bind@openssh.com") then ended (fields_at name.1) else None
named (Err e) = None

-- the binding in an extension's message, after its number
unfoldable pub binding_in : List ℕ → Option Binding
binding_in body = named (string_at body)

-- the binding in a frame
abbrev pub binding_of : List ℕ → Option Binding
binding_of [] = None
binding_of (number ∷ body) = if number == EXTENSION then binding_in body else None

-- ---- judging

-- the key is plain, and these bytes are one whole signature of it over the identifier
abbrev pub signed_by : Accepts → Option Key → List ℕ → List ℕ → Bool
signed_by accepts (Some (plain k)) session_id signature = is_accepted (accepts (plain k) session_id) (whole_signature signature)
signed_by accepts key session_id signature = false

-- the host key is one plain key, and the signature is its own
unfoldable pub is_signed : Accepts → Binding → Bool
is_signed accepts binding = signed_by accepts (whole_blob_key binding.host_key) binding.session_id binding.signature

-- ---- the binding that a value of the code's type represents

abbrev pub binding_seen : Lent → Binding
binding_seen lent = record { host_key = lent.host_key.now; session_id = lent.session_id.now; signature = lent.signature.now; is_forwarding = lent.is_forwarding }
