-- The key grammar: keys, certificates and signatures as plain data, the text of each, and which are in the grammar
-- (RFC 4253, section 6.6; RFC 5656, section 3.1; RFC 8709; OpenSSH's PROTOCOL.certkeys and PROTOCOL.u2f).
-- Each value has one text, written whole; the code reads field by field.
use Rattle.std.specs.Prelude.{◌≡◌, ℕ, zero, suc, ◌+◌, ◌<◌, ◌^◌, Bool, true, false, ◌&&◌, nat_lt, nat_eq, ◌==◌, List, [], ◌∷◌, ◌++◌, length, codes, Option, Some, None}
use Rattle.std.specs.List.{flat_map, AllByRecursion, starts_with}
use Rattle.std.specs.Str.{is_utf8}
use Rattle.sshc_wire.specs.Wire.{string_text, u32_text, u64_text, IsShort}
use Rattle.sshc_key.specs.declared.algorithm.EcdsaCurve.{EcdsaCurve}
use Rattle.sshc_key.specs.declared.algorithm.EcdsaCurve.TheVariants.{NistP256}
use Rattle.sshc_key.specs.declared.key_data.CertType.{CertType}
use Rattle.sshc_key.specs.declared.key_data.CertType.TheVariants.{User, Host}
use Rattle.sshc_key.specs.declared.signature.Signature.{Signature}
use Rattle.sshc_key.specs.declared.signature.SkFields.{SkFields}
use Rattle.sshc_key.specs.declared.statement.Statement.{Statement}
use Rattle.sshc_key.specs.declared.kind.Known.TheVariants as known
use Rattle.sshc_key.specs.declared.kind.Kind.{Kind}
use Rattle.sshc_key.specs.declared.kind.Kind.TheVariants as kinds
use Rattle.sshc_key.specs.declared.kind.Tag.{Tag}
use Rattle.sshc_key.specs.declared.kind.Tag.TheVariants as tags
use Rattle.sshc_key.specs.AlgorithmNames.{curve_name, point_length, tag_name, IsTag}

-- ---- values

-- a key that is no certificate
pub data Plain : Type 0 where
  -- p, q, g and y
  dsa : List ℕ → List ℕ → List ℕ → List ℕ → Plain
  -- the point
  ecdsa : EcdsaCurve → List ℕ → Plain
  ed25519 : List ℕ → Plain
  -- e and n
  rsa : List ℕ → List ℕ → Plain
  -- the point and the application
  sk_ecdsa : List ℕ → List ℕ → Plain
  -- the key and the application
  sk_ed25519 : List ℕ → List ℕ → Plain
  -- an algorithm's name, and a string
  opaque : List ℕ → List ℕ → Plain

-- a key; a certificate has a nonce, its key, what it says of that key, who signed it, and the signature
pub data Key : Type 0 where
  plain : Plain → Key
  certificate : List ℕ → Key → Statement → Key → Signature → Key

-- the key is a certificate of these parts
pub record IsCertificate (key : Key) : Type 0 where
  pub nonce : List ℕ
  pub certified : Key
  pub says : Statement
  pub signer : Key
  pub signature : Signature
  pub is : key ≡ certificate nonce certified says signer signature

-- what a certificate says
abbrev pub statement_in : Key → Option Statement
statement_in (plain k) = None
statement_in (certificate nonce key says signer signature) = Some says

-- how many certificates are nested
abbrev pub depth : Key → ℕ
depth (plain k) = 0
depth (certificate nonce key says signer signature) = depth signer + 1

-- ---- names

abbrev pub plain_kind : Plain → Kind
plain_kind (dsa p q g y) = kinds.Known known.Dsa
plain_kind (ecdsa curve point) = kinds.Known (known.Ecdsa curve)
plain_kind (ed25519 public) = kinds.Known known.Ed25519
plain_kind (rsa e n) = kinds.Known known.Rsa
plain_kind (sk_ecdsa point application) = kinds.Known known.SkEcdsaSha2NistP256
plain_kind (sk_ed25519 public application) = kinds.Known known.SkEd25519
plain_kind (opaque name body) = kinds.Opaque name

-- a certificate is of the kind of its key
abbrev pub kind_of : Key → Kind
kind_of (plain k) = plain_kind k
kind_of (certificate nonce key says signer signature) = kind_of key

abbrev pub tag_of : Key → Tag
tag_of (plain k) = tags.Plain (plain_kind k)
tag_of (certificate nonce key says signer signature) = tags.Certified (kind_of key)

-- the algorithm that a key's blob names first
abbrev pub key_name : Key → List ℕ
key_name k = tag_name (tag_of k)

-- ---- fields

-- positive, most significant byte first, with no unneeded leading byte (RFC 4251, section 5)
abbrev pub is_mpint : List ℕ → Bool
is_mpint [] = false
is_mpint (b ∷ []) = nat_lt 0 b && nat_lt b 128
is_mpint (zero ∷ c ∷ bytes) = nat_lt 127 c
is_mpint (suc b ∷ c ∷ bytes) = nat_lt (suc b) 128

-- the byte 4, and the coordinates (RFC 5656, section 3.1)
abbrev pub is_point : EcdsaCurve → List ℕ → Bool
is_point curve [] = false
is_point curve (b ∷ bytes) = (b == 4) && (length bytes + 1 == point_length curve)

abbrev pub type_number : CertType → ℕ
type_number User = 1
type_number Host = 2

-- ---- texts

-- the fields of a plain key, after its name
abbrev pub plain_text : Plain → List ℕ
plain_text (dsa p q g y) = string_text p ++ (string_text q ++ (string_text g ++ string_text y))
plain_text (ecdsa curve point) = string_text (curve_name curve) ++ string_text point
plain_text (ed25519 public) = string_text public
plain_text (rsa e n) = string_text e ++ string_text n
plain_text (sk_ecdsa point application) = string_text (curve_name NistP256) ++ (string_text point ++ string_text application)
plain_text (sk_ed25519 public application) = string_text public ++ string_text application
plain_text (opaque name body) = string_text body

-- the fields of the key that a certificate speaks of; it is no certificate itself
abbrev pub fields_text : Key → List ℕ
fields_text (plain k) = plain_text k
fields_text (certificate nonce key says signer signature) = []

abbrev pub option_text : List ℕ × List ℕ → List ℕ
option_text o = string_text o.0 ++ string_text o.1

abbrev pub statement_text : Statement → List ℕ
statement_text s =
    u64_text s.serial ++ (u32_text (type_number s.cert_type) ++ (string_text s.key_id ++ (string_text (flat_map string_text s.valid_principals)
    ++ (u64_text s.valid_after ++ (u64_text s.valid_before
    ++ (string_text (flat_map option_text s.critical_options) ++ (string_text (flat_map option_text s.extensions) ++ string_text s.reserved)))))))

abbrev pub sk_text : Option SkFields → List ℕ
sk_text None = []
sk_text (Some sk) = (sk.flags ∷ []) ++ u32_text sk.counter

abbrev pub signature_text : Signature → List ℕ
signature_text s = string_text s.name ++ (string_text s.body ++ sk_text s.sk)

-- what follows the name
abbrev pub body_text : Key → List ℕ
body_text (plain k) = plain_text k
body_text (certificate nonce key says signer signature) =
    string_text nonce ++ (fields_text key ++ (statement_text says
    ++ (string_text (string_text (key_name signer) ++ body_text signer) ++ string_text (signature_text signature))))

-- a blob
abbrev pub key_text : Key → List ℕ
key_text k = string_text (key_name k) ++ body_text k

-- ---- which values are in the grammar

abbrev pub IsText : List ℕ → Type 0
IsText t = IsShort t × (is_utf8 t ≡ true)

abbrev pub IsMpint : List ℕ → Type 0
IsMpint b = IsShort b × (is_mpint b ≡ true)

abbrev pub IsPoint : EcdsaCurve → List ℕ → Type 0
IsPoint curve b = IsShort b × (is_point curve b ≡ true)

abbrev pub IsOfLength : ℕ → List ℕ → Type 0
IsOfLength n b = IsShort b × ((length b == n) ≡ true)

abbrev pub PlainFits : Plain → Type 0
PlainFits (dsa p q g y) = IsMpint p × (IsMpint q × (IsMpint g × IsMpint y))
PlainFits (ecdsa curve point) = IsPoint curve point
PlainFits (ed25519 public) = IsOfLength 32 public
PlainFits (rsa e n) = IsMpint e × IsMpint n
PlainFits (sk_ecdsa point application) = IsPoint NistP256 point × IsText application
PlainFits (sk_ed25519 public application) = IsOfLength 32 public × IsText application
PlainFits (opaque name body) = IsShort body

abbrev pub FieldsFit : Key → Type 0
FieldsFit (plain k) = PlainFits k
FieldsFit (certificate nonce key says signer signature) = ⊥

abbrev pub begins_sk : List ℕ → Bool
begins_sk name = starts_with nat_eq name (codes "sk-")

-- the fields of a security key are there exactly where the name begins so
abbrev pub SkFits : List ℕ → Option SkFields → Type 0
SkFits name None = begins_sk name ≡ false
SkFits name (Some sk) = (begins_sk name ≡ true) × ((sk.flags < 256) × (sk.counter < 2 ^ 32))

pub record SignatureFits (s : Signature) : Type 0 where
  pub name : IsText s.name
  pub body : IsShort s.body
  pub sk : SkFits s.name s.sk

abbrev pub OptionsFit : List (List ℕ × List ℕ) → Type 0
OptionsFit os = IsShort (flat_map option_text os) × AllByRecursion (λ o. IsText o.0 × IsShort o.1) os

pub record StatementFits (s : Statement) : Type 0 where
  pub serial : s.serial < 2 ^ 64
  pub key_id : IsText s.key_id
  pub valid_principals : IsShort (flat_map string_text s.valid_principals) × AllByRecursion IsText s.valid_principals
  pub valid_after : s.valid_after < 2 ^ 64
  pub valid_before : s.valid_before < 2 ^ 64
  pub critical_options : OptionsFit s.critical_options
  pub extensions : OptionsFit s.extensions
  pub reserved : IsShort s.reserved

abbrev pub BodyFits : Key → Type 0
BodyFits (plain k) = PlainFits k
BodyFits (certificate nonce key says signer signature) =
    IsShort nonce × FieldsFit key × StatementFits says × (IsShort (key_text signer) × (IsTag (tag_of signer) × BodyFits signer)) × (IsShort (signature_text signature) × SignatureFits signature)

-- the key has a text in the grammar
abbrev pub Fits : Key → Type 0
Fits k = IsTag (tag_of k) × BodyFits k
