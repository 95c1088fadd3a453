-- What each call writes (draft-miller-ssh-agent, section 3; OpenSSH's PROTOCOL.agent, section 1).
-- Each frame is one whole text; the code appends part by part, and puts the length in front at the end.
-- In three places the layout isn't the draft's, but that of the russh crate: a number or a length comes first before
-- the constraints of message 26, before the contents of an extension, and before the details of a constraint extension.
use Rattle.std.specs.Prelude.{ℕ, Bool, List, [], ◌∷◌, ◌++◌, Option, Some, None, codes}
use Rattle.std.specs.List.{flat_map}
use Rattle.sshc_wire.specs.Wire.{bool_text, counted_text, string_text, u32_text}
use Rattle.sshc_wire.specs.declared.hash_alg.HashAlg.{HashAlg}
use Rattle.sshc_wire.specs.declared.hash_alg.HashAlg.TheVariants.{Sha256, Sha512}
use Rattle.sshc_key.specs.declared.agent.AgentIdentity.{AgentIdentity}
use Rattle.sshc_key.specs.declared.agent.AgentIdentity.TheVariants as identities
use Rattle.sshc_key.specs.declared.agent.AgentSessionBinding.{AgentSessionBinding}
use Rattle.sshc_key.specs.declared.agent.Constraint.{Constraint}
use Rattle.sshc_key.specs.declared.agent.Constraint.TheVariants.{KeyLifetime, Confirm, Extensions}
use Rattle.sshc_key.specs.AgentKeys.{certified_key}
use Rattle.sshc_key.specs.Algorithms.{kept_hash}
use Rattle.sshc_key.specs.KeyGrammar.{Key, key_text}
use Rattle.sshc_key.specs.PairCode.{KeyPair}
use Rattle.sshc_key.specs.PairGrammar.{key_pair_text}
use Rattle.sshc_key.specs.AgentNumbers.{REQUEST_IDENTITIES, SIGN_REQUEST, ADD_IDENTITY, REMOVE_IDENTITY, REMOVE_ALL_IDENTITIES, ADD_SMARTCARD_KEY, REMOVE_SMARTCARD_KEY, LOCK, UNLOCK, ADD_ID_CONSTRAINED, ADD_SMARTCARD_KEY_CONSTRAINED, EXTENSION, CONSTRAIN_LIFETIME, CONSTRAIN_CONFIRM, CONSTRAIN_EXTENSION, SSH_AGENT_RSA_SHA2_256, SSH_AGENT_RSA_SHA2_512}

-- the requests to an agent
pub data Call : Type 0 where
  bind_session : AgentSessionBinding → Bool → Call
  add_identity : KeyPair → List Constraint → Call
  -- the card's name, the PIN, constraints
  add_smartcard_key : List ℕ → List ℕ → List Constraint → Call
  remove_smartcard_key : List ℕ → List ℕ → Call
  lock : List ℕ → Call
  unlock : List ℕ → Call
  request_identities : Call
  -- the key or certificate, the hash that is wanted, the bytes to sign
  sign_request : Key → Option HashAlg → List ℕ → Call
  remove_identity : Key → Call
  remove_all_identities : Call
  -- the extension's name and contents
  extension : List ℕ → List ℕ → Call
  query_extension : List ℕ → Call

-- ---- constraints (draft-miller-ssh-agent, section 3.2.7)

abbrev pub constraint_text : Constraint → List ℕ
constraint_text (KeyLifetime seconds) = CONSTRAIN_LIFETIME ∷ u32_text seconds
constraint_text Confirm = CONSTRAIN_CONFIRM ∷ []
constraint_text (Extensions name details) = CONSTRAIN_EXTENSION ∷ (string_text name ++ string_text details)

abbrev pub constraints_text : List Constraint → List ℕ
constraints_text constraints = flat_map constraint_text constraints

abbrev pub add_number : List Constraint → ℕ
add_number [] = ADD_IDENTITY
add_number (c ∷ more) = ADD_ID_CONSTRAINED

-- with constraints, their number comes before them
abbrev pub smartcard_message : List ℕ → List ℕ → List Constraint → List ℕ
smartcard_message id pin [] = ADD_SMARTCARD_KEY ∷ (string_text id ++ string_text pin)
smartcard_message id pin (c ∷ more) = ADD_SMARTCARD_KEY_CONSTRAINED ∷ (string_text id ++ (string_text pin ++ counted_text constraint_text (c ∷ more)))

-- ---- sign requests (draft-miller-ssh-agent, section 3.6; RFC 8332)

-- the hash that a sign request asks for: only an RSA key, or a certificate for one, has any
abbrev pub sent_hash : Key → Option HashAlg → Option HashAlg
sent_hash key hash = kept_hash (certified_key key) hash

abbrev pub hash_flag : Option HashAlg → ℕ
hash_flag None = 0
hash_flag (Some Sha256) = SSH_AGENT_RSA_SHA2_256
hash_flag (Some Sha512) = SSH_AGENT_RSA_SHA2_512

-- the key or certificate that an identity is
abbrev pub signing_key : AgentIdentity → Key
signing_key (identities.PublicKey key comment) = key.0
signing_key (identities.Certificate c comment) = c

-- ---- messages and frames

-- a call's message: its number and its fields
abbrev pub message : Call → List ℕ
message (bind_session binding forwarding) =
    EXTENSION ∷ (string_text (codes "session-bind@openssh.com") ++ (string_text binding.host_key ++ (string_text binding.session_id ++ (string_text binding.signature ++ bool_text forwarding))))
message (add_identity pair constraints) = add_number constraints ∷ (key_pair_text pair ++ (string_text [] ++ constraints_text constraints))
message (add_smartcard_key id pin constraints) = smartcard_message id pin constraints
message (remove_smartcard_key id pin) = REMOVE_SMARTCARD_KEY ∷ (string_text id ++ string_text pin)
message (lock passphrase) = LOCK ∷ string_text passphrase
message (unlock passphrase) = UNLOCK ∷ string_text passphrase
message request_identities = REQUEST_IDENTITIES ∷ []
message (sign_request key hash bytes) = SIGN_REQUEST ∷ (string_text (key_text key) ++ (string_text bytes ++ u32_text (hash_flag (sent_hash key hash))))
message (remove_identity key) = REMOVE_IDENTITY ∷ string_text (key_text key)
message remove_all_identities = REMOVE_ALL_IDENTITIES ∷ []
message (extension name contents) = EXTENSION ∷ (string_text name ++ string_text contents)
message (query_extension name) = EXTENSION ∷ string_text name

-- a call's frame: the length of its message in four bytes, and the message
abbrev pub frame : Call → List ℕ
frame call = string_text (message call)
