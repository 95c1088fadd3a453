-- Reading keys, certificates and signatures from the front of a list of bytes, part after part, up to the first fault.
-- Reading is a function on whole lists; the code moves a cursor. That it yields just the values of the key grammar is a
-- law, on which the clauses of `parse_public_key` depend.
use Rattle.std.specs.Prelude.{ℕ, zero, suc, List, [], ◌∷◌, length, Option, Some, None, Result, Ok, Err, ◌==◌, bytes_eq, find, cond}
use Rattle.std.specs.Int.{w32, w64}
use Rattle.sshc_wire.specs.declared.error.WireError.{WireError}
use Rattle.sshc_wire.specs.Reads.{Reader, byte_at, number_at, string_at, text_at}
use Rattle.sshc_wire.specs.Format.{part_at, both_at, made_at, tested_at, chosen_at, named_at, then_at}
use Rattle.sshc_wire.specs.Whole.{whole_at, framed_at, all_at}
use Rattle.sshc_key.specs.declared.algorithm.EcdsaCurve.{EcdsaCurve}
use Rattle.sshc_key.specs.declared.algorithm.EcdsaCurve.TheVariants.{NistP256}
use Rattle.sshc_key.specs.declared.error.Error.{Error}
use Rattle.sshc_key.specs.declared.error.Error.TheVariants.{SshKey, SshEncoding}
use Rattle.sshc_key.specs.declared.key_data.CertType.{CertType}
use Rattle.sshc_key.specs.declared.key_data.CertType.TheVariants.{User, Host}
use Rattle.sshc_key.specs.declared.kind.Known.TheVariants as known
use Rattle.sshc_key.specs.declared.kind.Kind.{Kind}
use Rattle.sshc_key.specs.declared.kind.Kind.TheVariants as kinds
use Rattle.sshc_key.specs.declared.kind.Tag.{Tag}
use Rattle.sshc_key.specs.declared.kind.Tag.TheVariants as tags
use Rattle.sshc_key.specs.declared.signature.Signature.{Signature}
use Rattle.sshc_key.specs.declared.signature.SkFields.{SkFields}
use Rattle.sshc_key.specs.declared.statement.Statement.{Statement}
use Rattle.sshc_key.specs.AlgorithmNames.{curve_name, tag_named}
use Rattle.sshc_key.specs.KeyGrammar.{Key, dsa, ecdsa, ed25519, rsa, sk_ecdsa, sk_ed25519, opaque, plain, certificate, type_number, begins_sk, is_mpint, is_point}

-- ---- parts

abbrev pub as_encoding : WireError → Error
as_encoding e = SshEncoding

unfoldable pub octets_at : Reader Error (List ℕ)
octets_at bytes = part_at as_encoding string_at bytes

unfoldable pub utf8_at : Reader Error (List ℕ)
utf8_at bytes = part_at as_encoding text_at bytes

unfoldable pub u64_at : Reader Error ℕ
u64_at bytes = part_at as_encoding (number_at w64) bytes

unfoldable pub u32_at : Reader Error ℕ
u32_at bytes = part_at as_encoding (number_at w32) bytes

unfoldable pub u8_at : Reader Error ℕ
u8_at bytes = part_at as_encoding byte_at bytes

unfoldable pub mpint_at : Reader Error (List ℕ)
mpint_at bytes = tested_at is_mpint SshKey octets_at bytes

unfoldable pub point_at : EcdsaCurve → Reader Error (List ℕ)
point_at curve bytes = tested_at (is_point curve) SshKey octets_at bytes

unfoldable pub curve_at : EcdsaCurve → Reader Error (List ℕ)
curve_at curve bytes = tested_at (λ name. bytes_eq name (curve_name curve)) SshKey octets_at bytes

-- a string of so many bytes
unfoldable pub sized_at : ℕ → Reader Error (List ℕ)
sized_at n bytes = tested_at (λ b. length b == n) SshKey octets_at bytes

-- ---- plain keys, after their name

unfoldable pub dsa_at : Reader Error Key
dsa_at bytes = made_at (λ x. plain (dsa x.0 x.1.0 x.1.1.0 x.1.1.1)) (both_at mpint_at (both_at mpint_at (both_at mpint_at mpint_at))) bytes

unfoldable pub ecdsa_at : EcdsaCurve → Reader Error Key
ecdsa_at curve bytes = made_at (λ x. plain (ecdsa curve x.1)) (both_at (curve_at curve) (point_at curve)) bytes

unfoldable pub ed25519_at : Reader Error Key
ed25519_at bytes = made_at (λ x. plain (ed25519 x)) (sized_at 32) bytes

unfoldable pub rsa_at : Reader Error Key
rsa_at bytes = made_at (λ x. plain (rsa x.0 x.1)) (both_at mpint_at mpint_at) bytes

unfoldable pub sk_ecdsa_at : Reader Error Key
sk_ecdsa_at bytes = made_at (λ x. plain (sk_ecdsa x.1.0 x.1.1)) (both_at (curve_at NistP256) (both_at (point_at NistP256) utf8_at)) bytes

unfoldable pub sk_ed25519_at : Reader Error Key
sk_ed25519_at bytes = made_at (λ x. plain (sk_ed25519 x.0 x.1)) (both_at (sized_at 32) utf8_at) bytes

unfoldable pub opaque_at : List ℕ → Reader Error Key
opaque_at name bytes = made_at (λ x. plain (opaque name x)) octets_at bytes

abbrev pub fields_at : Kind → Reader Error Key
fields_at (kinds.Known known.Dsa) bytes = dsa_at bytes
fields_at (kinds.Known (known.Ecdsa curve)) bytes = ecdsa_at curve bytes
fields_at (kinds.Known known.Ed25519) bytes = ed25519_at bytes
fields_at (kinds.Known known.Rsa) bytes = rsa_at bytes
fields_at (kinds.Known known.SkEcdsaSha2NistP256) bytes = sk_ecdsa_at bytes
fields_at (kinds.Known known.SkEd25519) bytes = sk_ed25519_at bytes
fields_at (kinds.Opaque name) bytes = opaque_at name bytes

-- ---- signatures

abbrev pub made_sk : ℕ × ℕ → Option SkFields
made_sk p = Some (record { flags = p.0; counter = p.1 })

unfoldable pub sk_at : List ℕ → Reader Error (Option SkFields)
sk_at name bytes = cond (begins_sk name) (made_at made_sk (both_at u8_at u32_at) bytes) (Ok (None, bytes))

abbrev pub made_signature : List ℕ × (List ℕ × Option SkFields) → Signature
made_signature p = record { name = p.0; body = p.1.0; sk = p.1.1 }

unfoldable pub signature_at : Reader Error Signature
signature_at bytes = made_at made_signature (then_at utf8_at (λ name. both_at octets_at (sk_at name))) bytes

-- ---- what a certificate says

abbrev pub type_numbered : ℕ → Option CertType
type_numbered n = find (λ t. type_number t == n) (User ∷ Host ∷ [])

unfoldable pub cert_type_at : Reader Error CertType
cert_type_at bytes = named_at type_numbered SshKey u32_at bytes

unfoldable pub texts_at : Reader Error (List (List ℕ))
texts_at bytes = framed_at octets_at (all_at utf8_at) bytes

unfoldable pub option_at : Reader Error (List ℕ × List ℕ)
option_at bytes = both_at utf8_at octets_at bytes

unfoldable pub options_at : Reader Error (List (List ℕ × List ℕ))
options_at bytes = framed_at octets_at (all_at option_at) bytes

abbrev pub made_statement : ℕ × (CertType × (List ℕ × (List (List ℕ) × (ℕ × (ℕ × (List (List ℕ × List ℕ) × (List (List ℕ × List ℕ) × List ℕ))))))) → Statement
made_statement q =
    let r = q.1.1.1 in let s = r.1.1.1 in
    record { serial = q.0; cert_type = q.1.0; key_id = q.1.1.0; valid_principals = r.0; valid_after = r.1.0; valid_before = r.1.1.0; critical_options = s.0; extensions = s.1.0; reserved = s.1.1 }

unfoldable pub statement_at : Reader Error Statement
statement_at bytes = made_at made_statement (both_at u64_at (both_at cert_type_at (both_at utf8_at (both_at texts_at (both_at u64_at (both_at u64_at (both_at options_at (both_at options_at octets_at)))))))) bytes

-- ---- keys and certificates

abbrev pub made_certificate : List ℕ × (Key × (Statement × (Key × Signature))) → Key
made_certificate p = certificate p.0 p.1.0 p.1.1.0 p.1.1.1.0 p.1.1.1.1

unfoldable pub certificate_at : Reader Error Key → Kind → Reader Error Key
certificate_at signer kind bytes =
    made_at made_certificate (both_at octets_at (both_at (fields_at kind) (both_at statement_at (both_at (framed_at octets_at (whole_at SshKey signer)) (framed_at octets_at (whole_at SshKey signature_at)))))) bytes

abbrev pub tag_or_fault : Option Tag → Result Tag Error
tag_or_fault None = Err SshKey
tag_or_fault (Some tag) = Ok tag

unfoldable pub tag_at : Reader Error Tag
tag_at bytes = named_at tag_named SshKey utf8_at bytes

abbrev pub tagged_at : Reader Error Key → Tag → Reader Error Key
tagged_at signer (tags.Plain kind) bytes = fields_at kind bytes
tagged_at signer (tags.Certified kind) bytes = certificate_at signer kind bytes

-- a key with fewer than so many certificates in one another
unfoldable pub key_at : ℕ → Reader Error Key
key_at zero bytes = Err SshKey
key_at (suc n) bytes = chosen_at tag_at (tagged_at (key_at n)) bytes
