-- The algorithm of a key, and the text of a key in OpenSSH's files.
use Rattle.std.specs.Prelude.{ℕ, Bool, false, List, [], ◌∷◌, ◌++◌, Option, Some, None, Result, Ok, Err}
use Rattle.base64.specs.Engines.{standard}
use Rattle.base64.specs.GeneralPurpose.{encode_of}
use Rattle.sshc_wire.specs.Whole.{whole_at}
use Rattle.sshc_key.specs.declared.algorithm.Algorithm.{Algorithm}
use Rattle.sshc_key.specs.declared.algorithm.Algorithm.TheVariants as algorithms
use Rattle.sshc_wire.specs.declared.hash_alg.HashAlg.{HashAlg}
use Rattle.sshc_key.specs.declared.error.Error.{Error}
use Rattle.sshc_key.specs.declared.error.Error.TheVariants.{SshKey}
use Rattle.sshc_key.specs.declared.signature.Signature.{Signature}
use Rattle.sshc_key.specs.KeyGrammar.{Plain, Key, dsa, ecdsa, ed25519, rsa, sk_ecdsa, sk_ed25519, opaque, plain, certificate, key_name, key_text}
use Rattle.sshc_key.specs.KeyReading.{signature_at}

-- RSA with the hash of its signatures
abbrev pub plain_algorithm : Plain → Option HashAlg → Algorithm
plain_algorithm (dsa p q g y) hash = algorithms.Dsa
plain_algorithm (ecdsa curve point) hash = algorithms.Ecdsa curve
plain_algorithm (ed25519 public) hash = algorithms.Ed25519
plain_algorithm (rsa e n) hash = algorithms.Rsa hash
plain_algorithm (sk_ecdsa point application) hash = algorithms.SkEcdsaSha2NistP256
plain_algorithm (sk_ed25519 public application) hash = algorithms.SkEd25519
plain_algorithm (opaque name body) hash = algorithms.Other name

-- of a certificate the name that its blob begins with
abbrev pub algorithm_of : Key → Algorithm
algorithm_of (plain k) = plain_algorithm k None
algorithm_of (certificate nonce key says signer signature) = algorithms.Other (key_name (certificate nonce key says signer signature))

-- only an RSA key has a hash
abbrev pub kept_hash : Key → Option HashAlg → Option HashAlg
kept_hash (plain (rsa e n)) hash = hash
kept_hash (plain (dsa p q g y)) hash = None
kept_hash (plain (ecdsa curve point)) hash = None
kept_hash (plain (ed25519 public)) hash = None
kept_hash (plain (sk_ecdsa point application)) hash = None
kept_hash (plain (sk_ed25519 public application)) hash = None
kept_hash (plain (opaque name body)) hash = None
kept_hash (certificate nonce key says signer signature) hash = None

-- the algorithm of a pair; keys of an algorithm with a domain and certificates have no algorithm, and the empty name
abbrev pub pair_algorithm : Key → Option HashAlg → Algorithm
pair_algorithm (plain (opaque name body)) hash = algorithms.Other []
pair_algorithm (plain (dsa p q g y)) hash = algorithms.Dsa
pair_algorithm (plain (ecdsa curve point)) hash = algorithms.Ecdsa curve
pair_algorithm (plain (ed25519 public)) hash = algorithms.Ed25519
pair_algorithm (plain (rsa e n)) hash = algorithms.Rsa hash
pair_algorithm (plain (sk_ecdsa point application)) hash = algorithms.SkEcdsaSha2NistP256
pair_algorithm (plain (sk_ed25519 public application)) hash = algorithms.SkEd25519
pair_algorithm (certificate nonce key says signer signature) hash = algorithms.Other []

-- the padded base64 of a key's blob
abbrev pub key_base64 : Key → List ℕ
key_base64 key = encode_of standard (key_text key)

abbrev pub commented_text : List ℕ → List ℕ
commented_text [] = []
commented_text (b ∷ comment) = 32 ∷ (b ∷ comment)

-- a line of a key file: the algorithm's name, the base64 of the blob and the comment, with single spaces between them
abbrev pub openssh_text : Key → List ℕ → List ℕ
openssh_text key comment = key_name key ++ (32 ∷ key_base64 key) ++ commented_text comment

-- the signature that the whole bytes are
abbrev pub signature_of : Result Signature Error → Option Signature
signature_of (Ok s) = Some s
signature_of (Err e) = None

unfoldable pub whole_signature : List ℕ → Option Signature
whole_signature bytes = signature_of (whole_at SshKey signature_at bytes)

abbrev pub is_accepted : (Signature → Bool) → Option Signature → Bool
is_accepted accepts None = false
is_accepted accepts (Some s) = accepts s
