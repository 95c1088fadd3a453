-- What a request has of a key.
use Rattle.std.specs.Prelude.{◌≡◌, Option}
use Rattle.sshc_key.specs.KeyGrammar.{Key}
use Rattle.sshc_key.specs.LentNames.{spelled}
use Rattle.sshc_key.specs.RequestNames.{request_name}
use Rattle.sshc_key.specs.View.{view}
use Rattle.sshc_wire.specs.declared.hash_alg.HashAlg.{HashAlg}
use Rattle.sshc_auth_request.specs.declared.parts.KeyPart.{KeyPart}
use Rattle.sshc_auth_request.specs.declared.parts.LentKey.{LentKey}
use Rattle.sshc_auth_request.specs.declared.parts.LentKey.TheVariants as lent

-- the key that a call borrows
abbrev pub key_lent : LentKey → Key
key_lent (lent.Key key) = view key.now
key_lent (lent.Certificate certificate) = certificate.now

pub record IsKeyPart (part : KeyPart) (key : Key) (hash : Option HashAlg) : Type 0 where
  pub algorithm : spelled part.algorithm ≡ request_name key hash
  pub blob : key_lent part.key ≡ key
