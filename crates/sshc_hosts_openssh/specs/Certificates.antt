-- What a host certificate is worth (OpenSSH's PROTOCOL.certkeys; ssh_config(5), "CASignatureAlgorithms").
-- Each is a statement about the whole certificate; who judges its signature is handed in.
use Rattle.std.specs.Prelude.{ℕ, Bool, true, false, ◌&&◌, ◌||◌, nat_le, nat_lt, List, [], ◌∷◌, ◌++◌, codes, bytes_eq}
use Rattle.std.specs.List.{list_any}
use Rattle.sshc_wire.specs.Wire.{string_text}
use Rattle.sshc_key.specs.KeyGrammar.{Key, plain, certificate, key_name, key_text, fields_text, statement_text}
use Rattle.sshc_key.specs.KeyEq.{key_eq}
use Rattle.sshc_key.specs.declared.key_data.CertType.{CertType}
use Rattle.sshc_key.specs.declared.key_data.CertType.TheVariants.{User, Host}
use Rattle.sshc_key.specs.declared.signature.Signature.{Signature}
use Rattle.sshc_key.specs.declared.statement.Statement.{Statement}

-- a certificate of a host, and not of a user
abbrev pub is_of_host : CertType → Bool
is_of_host User = false
is_of_host Host = true

-- an empty list of principals stands for every host; no pattern is one
abbrev pub is_principal : List ℕ → List (List ℕ) → Bool
is_principal host [] = true
is_principal host (first ∷ others) = list_any (λ principal. bytes_eq principal host) (first ∷ others)

-- no critical option is known
abbrev pub has_no_options : List (List ℕ × List ℕ) → Bool
has_no_options [] = true
has_no_options (option ∷ options) = false

-- the certificate is a host's, of this host, at this moment (seconds since 1970)
abbrev pub is_valid : ℕ → List ℕ → Statement → Bool
is_valid now host says =
    is_of_host says.cert_type && nat_le says.valid_after now && nat_lt now says.valid_before
    && has_no_options says.critical_options && is_principal host says.valid_principals

-- the algorithms with which an authority may sign
abbrev pub is_signing_name : List ℕ → Bool
is_signing_name name =
    bytes_eq name (codes "ssh-ed25519") || bytes_eq name (codes "ecdsa-sha2-nistp256")
    || bytes_eq name (codes "ecdsa-sha2-nistp384") || bytes_eq name (codes "ecdsa-sha2-nistp521")
    || bytes_eq name (codes "sk-ssh-ed25519@openssh.com") || bytes_eq name (codes "sk-ecdsa-sha2-nistp256@openssh.com")
    || bytes_eq name (codes "rsa-sha2-512") || bytes_eq name (codes "rsa-sha2-256")

-- what an authority signs: all of a certificate's fields but the signature
abbrev pub signed_text : Key → List ℕ
signed_text (plain k) = []
signed_text (certificate nonce key says signer signature) =
    string_text (key_name (certificate nonce key says signer signature))
    ++ (string_text nonce ++ (fields_text key ++ (statement_text says ++ string_text (key_text signer))))

-- the certificate is valid, and its signature is accepted as its signer's
abbrev pub is_good : (Key → List ℕ → Signature → Bool) → ℕ → List ℕ → Key → Bool
is_good accepts now host (plain k) = false
is_good accepts now host (certificate nonce key says signer signature) =
    is_valid now host says && is_signing_name signature.name
    && accepts signer (signed_text (certificate nonce key says signer signature)) signature

-- the other key signed it
abbrev pub is_signed_by : Key → Key → Bool
is_signed_by (plain k) other = false
is_signed_by (certificate nonce key says signer signature) other = key_eq signer other
