-- A certificate is larger than the keys in it.
use Rattle.std.specs.Prelude.{◌+◌, ◌≤◌}
use Rattle.std.proofs.Common.{arith}
use Rattle.sshc_key.specs.declared.key_data.KeyData.{KeyData}
use Rattle.sshc_key.specs.declared.key_data.KeyData.TheVariants.{Dsa, Ecdsa, Ed25519, Rsa, SkEcdsaSha2NistP256, SkEd25519, Other, Certificate}
use Rattle.sshc_key.specs.declared.key_data.Certificate.TheInside.{Inside}
use Rattle.sshc_key.specs.declared.key_data.Certificate.TheDeep.{deep-KeyData, deep-Certificate}
use Rattle.sshc_key.specs.KeyCode.{key_size}
use Rattle.sshc_key.specs.View.{view, certified}

pub deep_le : (k : KeyData) → deep-KeyData k ≤ key_size (view k) + 1
deep_le (Dsa p q g y) = omega arith
deep_le (Ecdsa curve point) = omega arith
deep_le (Ed25519 public) = omega arith
deep_le (Rsa e n) = omega arith
deep_le (SkEcdsaSha2NistP256 point application) = omega arith
deep_le (SkEd25519 public application) = omega arith
deep_le (Other name body) = omega arith
deep_le (Certificate c) = omega arith

pub certificate_falls : (a : Inside) → deep-Certificate a ≤ key_size (certified a)
certificate_falls a =
    let p : deep-KeyData a.public_key ≤ key_size (view a.public_key) + 1 = deep_le a.public_key in
    let q : deep-KeyData a.signature_key ≤ key_size (view a.signature_key) + 1 = deep_le a.signature_key in
    omega (arith, p, q)
