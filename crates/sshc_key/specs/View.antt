-- What the types of the code represent.
use Rattle.sshc_key.specs.declared.key_data.KeyData.{KeyData}
use Rattle.sshc_key.specs.declared.key_data.KeyData.TheVariants.{Dsa, Ecdsa, Ed25519, Rsa, SkEcdsaSha2NistP256, SkEd25519, Other, Certificate}
use Rattle.sshc_key.specs.declared.key_data.Certificate.TheInside.{Inside}
use Rattle.sshc_key.specs.declared.statement.Statement.{Statement}
use Rattle.sshc_key.specs.KeyGrammar.{Key, dsa, ecdsa, ed25519, rsa, sk_ecdsa, sk_ed25519, opaque, plain, certificate}

-- a certificate is seen as the key that it is
abbrev pub view : KeyData → Key
view (Dsa p q g y) = plain (dsa p q g y)
view (Ecdsa curve point) = plain (ecdsa curve point)
view (Ed25519 public) = plain (ed25519 public)
view (Rsa e n) = plain (rsa e n)
view (SkEcdsaSha2NistP256 point application) = plain (sk_ecdsa point application)
view (SkEd25519 public application) = plain (sk_ed25519 public application)
view (Other name body) = plain (opaque name body)
view (Certificate c) = c.value

abbrev pub statement_of : Inside → Statement
statement_of c = record {
  serial = c.serial;
  cert_type = c.cert_type;
  key_id = c.key_id;
  valid_principals = c.valid_principals;
  valid_after = c.valid_after;
  valid_before = c.valid_before;
  critical_options = c.critical_options;
  extensions = c.extensions;
  reserved = c.reserved;
}

abbrev pub certified : Inside → Key
certified c = certificate c.nonce (view c.public_key) (statement_of c) (view c.signature_key) c.signature
