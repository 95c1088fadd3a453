-- Keys that an agent holds: a key or certificate and its comment.
use Rattle.std.specs.Prelude.{ℕ, List, []}
use Rattle.sshc_key.specs.declared.agent.AgentIdentity.{AgentIdentity}
use Rattle.sshc_key.specs.declared.agent.AgentIdentity.TheVariants.{PublicKey, Certificate}
use Rattle.sshc_key.specs.declared.agent.KeyRef.{KeyRef}
use Rattle.sshc_key.specs.declared.agent.KeyRef.TheVariants.{Borrowed, Owned}
use Rattle.sshc_key.specs.KeyGrammar.{Key, plain, certificate}

abbrev pub comment_of : AgentIdentity → List ℕ
comment_of (PublicKey key comment) = comment
comment_of (Certificate c comment) = comment

-- the key that a certificate speaks of; of a plain key the key itself
abbrev pub certified_key : Key → Key
certified_key (plain k) = plain k
certified_key (certificate nonce key says signer signature) = key

-- the key and its comment; the key in a certificate has no comment
abbrev pub identity_key : AgentIdentity → Key × List ℕ
identity_key (PublicKey key comment) = key
identity_key (Certificate c comment) = (certified_key c, [])

-- the borrowed or owned key
abbrev pub referred : KeyRef → Key × List ℕ
referred (Borrowed key) = key.now
referred (Owned key) = key
