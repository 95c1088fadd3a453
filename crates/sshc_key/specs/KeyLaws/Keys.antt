-- Signatures, certificates and keys are formats.
use Rattle.std.proofs.Common.{◌≡◌, ℕ, zero, suc, ◌<◌, ◌^◌, Bool, true, false, cond, eqb, List, [], ◌∷◌, ◌++◌, Option, Some, None, Ok, refl, sym, ap, arith, lit<}
use Rattle.std.specs.List.{flat_map, AllByRecursion}
use Rattle.std.proofs.lemmas.Bool.{eqb-true}
use Rattle.sshc_wire.specs.Wire.{string_text, u32_text, IsShort}
use Rattle.sshc_wire.specs.Reads.{Reader}
use Rattle.sshc_wire.specs.Format.{IsFormat, made_at, both_at}
use Rattle.sshc_wire.specs.FormatLaws.{both, partly, chosen, named, followed, told_as, nothing}
use Rattle.sshc_wire.specs.WholeLaws.{whole, framed, every}
use Rattle.sshc_wire.specs.LookupLaws.{found_passes}
use Rattle.sshc_key.specs.declared.error.Error.{Error}
use Rattle.sshc_key.specs.declared.error.Error.TheVariants.{SshKey}
use Rattle.sshc_key.specs.declared.key_data.CertType.{CertType}
use Rattle.sshc_key.specs.declared.key_data.CertType.TheVariants.{User, Host}
use Rattle.sshc_key.specs.declared.kind.Kind.{Kind}
use Rattle.sshc_key.specs.declared.kind.Tag.{Tag}
use Rattle.sshc_key.specs.declared.kind.Tag.TheVariants as tags
use Rattle.sshc_key.specs.declared.signature.Signature.{Signature}
use Rattle.sshc_key.specs.declared.signature.SkFields.{SkFields}
use Rattle.sshc_key.specs.declared.statement.Statement.{Statement}
use Rattle.sshc_key.specs.AlgorithmNames.{tag_name, tag_named, IsTag}
use Rattle.sshc_key.specs.KeyGrammar.{Key, plain, certificate, kind_of, tag_of, type_number, begins_sk, sk_text, signature_text, option_text, statement_text, fields_text, body_text, key_text, IsText, FieldsFit, SkFits, SignatureFits, StatementFits, BodyFits, Fits, depth}
use Rattle.sshc_key.specs.KeyReading.{u32_at, u8_at, made_sk, sk_at, made_signature, signature_at, type_numbered, cert_type_at, texts_at, option_at, options_at, made_statement, statement_at, made_certificate, certificate_at, tag_at, tagged_at, key_at}
use Rattle.sshc_key.specs.KeyLaws.Fields.{octets, utf8s, numbers64, numbers32, bytes8, fields}
use Rattle.sshc_key.specs.KeyLaws.Lists.{utf8_takes, option_takes}
use Rattle.sshc_key.specs.KeyLaws.Tags.{tag_back, tag_there, tag_text}

-- ---- names

pub tag_format : IsFormat (λ x. string_text (tag_name x)) (λ x. IsText (tag_name x) × IsTag x) tag_at
unfolding tag_at
tag_format = named tag_name IsTag tag_named SshKey tag_there tag_back utf8s

-- ---- what a certificate says

type_is : (n : ℕ) (x : CertType) → type_numbered n ≡ Some x → (n ≡ type_number x) × (type_number x < 2 ^ 32)
type_is n x e = (sym (eqb-true _ _ (found_passes (λ t. eqb (type_number t) n) (User ∷ Host ∷ []) x e)), type_small x)
  where
    type_small : (x : CertType) → type_number x < 2 ^ 32
    type_small User = lit< tt
    type_small Host = lit< tt

number_is : (x : CertType) → type_number x < 2 ^ 32 → type_numbered (type_number x) ≡ Some x
number_is User h = refl
number_is Host h = refl

cert_types : IsFormat (λ x. u32_text (type_number x)) (λ x. (type_number x < 2 ^ 32) × (type_number x < 2 ^ 32)) cert_type_at
unfolding cert_type_at
cert_types = named type_number (λ x. type_number x < 2 ^ 32) type_numbered SshKey type_is number_is numbers32

text_lists : IsFormat (λ ts. string_text (flat_map string_text ts)) (λ ts. IsShort (flat_map string_text ts) × AllByRecursion IsText ts) texts_at
unfolding texts_at
text_lists = framed octets (every utf8s utf8_takes)

options : IsFormat option_text (λ o. IsText o.0 × IsShort o.1) option_at
unfolding option_at
options = both utf8s octets

option_lists : IsFormat (λ os. string_text (flat_map option_text os)) (λ os. IsShort (flat_map option_text os) × AllByRecursion (λ o. IsText o.0 × IsShort o.1) os) options_at
unfolding options_at
option_lists = framed octets (every options option_takes)

type_small : (x : CertType) → (type_number x < 2 ^ 32) × (type_number x < 2 ^ 32)
type_small User = (lit< tt, lit< tt)
type_small Host = (lit< tt, lit< tt)

statements : IsFormat statement_text StatementFits statement_at
unfolding statement_at
statements = partly statement_text StatementFits made_statement
    (λ q h. (
      refl,
      let r = h.1.1.1 in let s = r.1.1.1 in
          record { serial = h.0; key_id = h.1.1.0; valid_principals = r.0; valid_after = r.1.0; valid_before = r.1.1.0; critical_options = s.0; extensions = s.1.0; reserved = s.1.1 },
    ))
    (λ s h. (
      (s.serial, (s.cert_type, (s.key_id, (s.valid_principals, (s.valid_after, (s.valid_before, (s.critical_options, (s.extensions, s.reserved)))))))),
      refl,
      (h.serial, (type_small s.cert_type, (h.key_id, (h.valid_principals, (h.valid_after, (h.valid_before, (h.critical_options, (h.extensions, h.reserved)))))))),
      refl,
    ))
    (both numbers64 (both cert_types (both utf8s (both text_lists (both numbers64 (both numbers64 (both option_lists (both option_lists octets))))))))

-- ---- signatures

sk_back : (name : List ℕ) (o : Option SkFields) → begins_sk name ≡ true → SkFits name o
    → (a : ℕ × ℕ) × (made_sk a ≡ o) × ((a.0 < 256) × (a.1 < 2 ^ 32)) × (sk_text o ≡ (a.0 ∷ []) ++ u32_text a.1)
sk_back name None e h = absurd cc
sk_back name (Some sk) e h = ((sk.flags, sk.counter), refl, h.1, refl)

none_there : (name : List ℕ) (o : Option SkFields) → begins_sk name ≡ false → o ≡ None → (sk_text o ≡ []) × SkFits name o
none_there name None e h = (refl, e)
none_there name (Some sk) e h = absurd cc

none_back : (name : List ℕ) (o : Option SkFields) → begins_sk name ≡ false → SkFits name o → (sk_text o ≡ []) × (o ≡ None)
none_back name None e h = (refl, refl)
none_back name (Some sk) e h = let both : begins_sk name ≡ true = h.0 in absurd cc

sk_choice : (name : List ℕ) (b : Bool) → begins_sk name ≡ b → IsFormat sk_text (SkFits name) (λ bytes. cond b (made_at made_sk (both_at u8_at u32_at) bytes) (Ok (None, bytes)))
sk_choice name true e = partly sk_text (SkFits name) made_sk (λ a h. (refl, (e, h))) (λ o h. sk_back name o e h) (both bytes8 numbers32)
sk_choice name false e = told_as sk_text (SkFits name) (λ o h. none_there name o e h) (λ o h. none_back name o e h) (nothing None)

sk_format : (name : List ℕ) → IsFormat sk_text (SkFits name) (sk_at name)
unfolding sk_at
sk_format name = sk_choice name (begins_sk name) refl

pub signatures : IsFormat signature_text SignatureFits signature_at
unfolding signature_at
signatures = partly signature_text SignatureFits made_signature
    (λ a h. (refl, record { name = h.0; body = h.1.0; sk = h.1.1 }))
    (λ s h. ((s.name, (s.body, s.sk)), refl, (h.name, (h.body, h.sk)), refl))
    (followed utf8s (λ name. both octets (sk_format name)))

-- ---- certificates

-- a key with fewer than n certificates in one another
abbrev pub FitsBelow : ℕ → Key → Type 0
FitsBelow n k = Fits k × (depth k < n)

-- the same of what follows its name
abbrev BodyBelow : ℕ → Key → Type 0
BodyBelow n k = BodyFits k × (depth k < n)

abbrev Parts : Type 0
Parts = List ℕ × (Key × (Statement × (Key × Signature)))

abbrev PartsFit : ℕ → Kind → Parts → Type 0
PartsFit n kind p =
    IsShort p.0 × (((kind_of p.1.0 ≡ kind) × FieldsFit p.1.0) × (StatementFits p.1.1.0 × ((IsShort (key_text p.1.1.1.0) × FitsBelow n p.1.1.1.0) × (IsShort (signature_text p.1.1.1.1) × SignatureFits p.1.1.1.1))))

parts_text : Parts → List ℕ
parts_text p = string_text p.0 ++ (fields_text p.1.0 ++ (statement_text p.1.1.0 ++ (string_text (key_text p.1.1.1.0) ++ string_text (signature_text p.1.1.1.1))))

certificate_there : (n : ℕ) (kind : Kind) (p : Parts) → PartsFit n kind p → (tag_of (made_certificate p) ≡ tags.Certified kind) × BodyBelow (suc n) (made_certificate p)
certificate_there n kind p h =
    let s = h.1.1 in
    (ap (λ (k : Kind). tags.Certified k) h.1.0.0, ((h.0, h.1.0.1, s.0, (s.1.0.0, (s.1.0.1.0.0, s.1.0.1.0.1)), s.1.1), omega (arith, s.1.0.1.1)))

certificate_back : (n : ℕ) (kind : Kind) (b : Key) → tag_of b ≡ tags.Certified kind → BodyBelow (suc n) b → (p : Parts) × (made_certificate p ≡ b) × PartsFit n kind p × (body_text b ≡ parts_text p)
unfolding parts_text
certificate_back n kind (plain k) is h = absurd cc
certificate_back n kind (certificate nonce key says signer signature) is h =
    let same : kind_of key ≡ kind = cc in
    let f = h.0 in
    let below : depth signer < n = omega (arith, h.1) in
    ((nonce, (key, (says, (signer, signature)))), refl, (f.0, ((same, f.1), (f.2, ((f.3.0, ((f.3.1.0, f.3.1.1), below)), f.4)))), refl)

certificates : (signer_at : Reader Error Key) (n : ℕ) (kind : Kind) → IsFormat key_text (FitsBelow n) signer_at
    → IsFormat body_text (λ k. (tag_of k ≡ tags.Certified kind) × BodyBelow (suc n) k) (certificate_at signer_at kind)
unfolding certificate_at parts_text
certificates signer_at n kind signers = partly body_text (λ k. (tag_of k ≡ tags.Certified kind) × BodyBelow (suc n) k) made_certificate
    (λ p h. (refl, certificate_there n kind p h))
    (λ b h. certificate_back n kind b h.0 h.1)
    (both octets (both (fields kind) (both statements (both (framed octets (whole SshKey signers)) (framed octets (whole SshKey signatures))))))

-- ---- keys

plain_there : (n : ℕ) (kind : Kind) (a : Key) → kind_of a ≡ kind → FieldsFit a → (body_text a ≡ fields_text a) × ((tag_of a ≡ tags.Plain kind) × BodyBelow (suc n) a)
plain_there n kind (plain k) is h = (refl, (ap (λ (k : Kind). tags.Plain k) is, (h, omega arith)))
plain_there n kind (certificate nonce key says signer signature) is h = absurd h

plain_back : (n : ℕ) (kind : Kind) (a : Key) → tag_of a ≡ tags.Plain kind → BodyBelow (suc n) a → (body_text a ≡ fields_text a) × ((kind_of a ≡ kind) × FieldsFit a)
plain_back n kind (plain k) is h = (refl, (cc, h.0))
plain_back n kind (certificate nonce key says signer signature) is h = absurd cc

tagged : (signer_at : Reader Error Key) (n : ℕ) (tag : Tag) → IsFormat key_text (FitsBelow n) signer_at
    → IsFormat body_text (λ k. (tag_of k ≡ tag) × BodyBelow (suc n) k) (tagged_at signer_at tag)
tagged signer_at n (tags.Plain kind) signers =
    told_as body_text (λ k. (tag_of k ≡ tags.Plain kind) × BodyBelow (suc n) k) (λ a h. plain_there n kind a h.0 h.1) (λ a h. plain_back n kind a h.0 h.1) (fields kind)
tagged signer_at n (tags.Certified kind) signers = certificates signer_at n kind signers

pub keys : (n : ℕ) → IsFormat key_text (FitsBelow n) (key_at n)
unfolding key_at
keys zero = record {
  takes = λ bytes x rest fits e. absurd cc;
  again = λ x rest fits. absurd (omega (arith, fits.1));
}
keys (suc n) =
    told_as key_text (FitsBelow (suc n)) (λ k h. (refl, ((h.0.1, h.1.0), h.1.1))) (λ k h. (refl, ((tag_text (tag_of k) h.0.0, h.0.0), (h.0.1, h.1))))
    (chosen tag_of tag_format (λ tag. tagged (key_at n) n tag (keys n)))
