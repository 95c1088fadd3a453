-- The algorithm that a request names for a key (RFC 8332, section 3; OpenSSH's PROTOCOL.certkeys): of RSA by the hash of its
-- signatures, of every other key and certificate the name with which its blob begins.
-- A name for each kind of key; the code writes it part by part.
use Rattle.std.specs.Prelude.{ℕ, Bool, true, false, List, ◌++◌, Option, Some, None, codes}
use Rattle.sshc_wire.specs.declared.hash_alg.HashAlg.{HashAlg}
use Rattle.sshc_wire.specs.declared.hash_alg.HashAlg.TheVariants.{Sha256, Sha512}
use Rattle.sshc_key.specs.AlgorithmNames.{certificate_name}
use Rattle.sshc_key.specs.KeyGrammar.{Key, rsa, plain, certificate, key_name, kind_of}

abbrev pub is_plain_rsa : Key → Bool
is_plain_rsa (plain (rsa e n)) = true
is_plain_rsa key = false

abbrev pub rsa_name : Option HashAlg → List ℕ
rsa_name None = codes "ssh-rsa"
rsa_name (Some Sha256) = codes "rsa-sha2-256"
rsa_name (Some Sha512) = codes "rsa-sha2-512"

-- of a certificate for this key
abbrev pub certified_name : Key → Option HashAlg → List ℕ
certified_name (plain (rsa e n)) hash = rsa_name hash ++ codes "-cert-v01@openssh.com"
certified_name key hash = certificate_name (kind_of key)

-- of a key or a certificate
unfoldable pub request_name : Key → Option HashAlg → List ℕ
request_name (plain (rsa e n)) hash = rsa_name hash
request_name (plain k) hash = key_name (plain k)
request_name (certificate nonce key says signer signature) hash = certified_name key hash
