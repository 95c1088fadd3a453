-- The fields of plain keys are formats.
use Rattle.std.proofs.Common.{◌≡◌, ℕ, ◌<◌, ◌^◌, true, eqb, List, [], ◌∷◌, ◌++◌, length, refl, sym, ap, subst, lit<}
use Rattle.std.specs.Prelude.{bytes_eq}
use Rattle.sshc_wire.specs.Wire.{string_text, u32_text, u64_text, IsShort}
use Rattle.sshc_wire.specs.Reads.{Reader}
use Rattle.sshc_wire.specs.Format.{IsFormat, made_at}
use Rattle.sshc_wire.specs.FormatLaws.{part, both, tested, partly}
use Rattle.sshc_wire.specs.PartsLaws.{strings, texts, number32, number64, a_byte}
use Rattle.sshc_wire.specs.LookupLaws.{same_bytes}
use Rattle.sshc_key.specs.declared.algorithm.EcdsaCurve.{EcdsaCurve}
use Rattle.sshc_key.specs.declared.algorithm.EcdsaCurve.TheVariants.{NistP256, NistP384, NistP521}
use Rattle.sshc_key.specs.declared.error.Error.{Error}
use Rattle.sshc_key.specs.declared.error.Error.TheVariants.{SshKey}
use Rattle.sshc_key.specs.declared.kind.Known.TheVariants as known
use Rattle.sshc_key.specs.declared.kind.Kind.{Kind}
use Rattle.sshc_key.specs.declared.kind.Kind.TheVariants as kinds
use Rattle.sshc_key.specs.AlgorithmNames.{curve_name}
use Rattle.sshc_key.specs.KeyGrammar.{Plain, Key, dsa, ecdsa, ed25519, rsa, sk_ecdsa, sk_ed25519, opaque, plain, certificate, plain_kind, kind_of, is_mpint, is_point, plain_text, fields_text, IsText, IsMpint, IsPoint, IsOfLength, PlainFits, FieldsFit}
use Rattle.sshc_key.specs.KeyReading.{as_encoding, octets_at, utf8_at, u64_at, u32_at, u8_at, mpint_at, point_at, curve_at, sized_at, dsa_at, ecdsa_at, ed25519_at, rsa_at, sk_ecdsa_at, sk_ed25519_at, opaque_at, fields_at}

-- ---- parts

pub octets : IsFormat string_text IsShort octets_at
unfolding octets_at
octets = part as_encoding strings

pub utf8s : IsFormat string_text IsText utf8_at
unfolding utf8_at
utf8s = part as_encoding texts

pub numbers64 : IsFormat u64_text (λ n. n < 2 ^ 64) u64_at
unfolding u64_at
numbers64 = part as_encoding number64

pub numbers32 : IsFormat u32_text (λ n. n < 2 ^ 32) u32_at
unfolding u32_at
numbers32 = part as_encoding number32

pub bytes8 : IsFormat (λ b. b ∷ []) (λ b. b < 256) u8_at
unfolding u8_at
bytes8 = part as_encoding a_byte

pub mpints : IsFormat string_text IsMpint mpint_at
unfolding mpint_at
mpints = tested is_mpint SshKey octets

pub points : (curve : EcdsaCurve) → IsFormat string_text (IsPoint curve) (point_at curve)
unfolding point_at
points curve = tested (is_point curve) SshKey octets

pub sized : (n : ℕ) → IsFormat string_text (IsOfLength n) (sized_at n)
unfolding sized_at
sized n = tested (λ b. eqb (length b) n) SshKey octets

abbrev pub IsCurveName : EcdsaCurve → List ℕ → Type 0
IsCurveName curve b = IsShort b × (bytes_eq b (curve_name curve) ≡ true)

pub curves : (curve : EcdsaCurve) → IsFormat string_text (IsCurveName curve) (curve_at curve)
unfolding curve_at
curves curve = tested (λ name. bytes_eq name (curve_name curve)) SshKey octets

pub name_fits : (curve : EcdsaCurve) → IsCurveName curve (curve_name curve)
name_fits NistP256 = (lit< tt, refl)
name_fits NistP384 = (lit< tt, refl)
name_fits NistP521 = (lit< tt, refl)

pub named_so : (curve : EcdsaCurve) (b : List ℕ) → IsCurveName curve b → curve_name curve ≡ b
named_so curve b h = sym (same_bytes _ _ h.1)

-- ---- plain keys of one kind

abbrev pub Two : Type 0
Two = List ℕ × List ℕ

abbrev pub Three : Type 0
Three = List ℕ × (List ℕ × List ℕ)

abbrev pub Four : Type 0
Four = List ℕ × (List ℕ × (List ℕ × List ℕ))

-- the plain keys of a kind, made of their parts
abbrev IsMade : {A : Type 0} → (A → List ℕ) → (A → Type 0) → Kind → (A → Plain) → Type 0
IsMade {A} t F kind make = (a : A) → F a → (plain_text (make a) ≡ t a) × ((plain_kind (make a) ≡ kind) × PlainFits (make a))

abbrev HasParts : {A : Type 0} → (A → List ℕ) → (A → Type 0) → (A → Plain) → Plain → Type 0
HasParts {A} t F make p = (a : A) × (make a ≡ p) × F a × (plain_text p ≡ t a)

abbrev OfKind : Kind → Key → Type 0
OfKind kind k = (kind_of k ≡ kind) × FieldsFit k

over_keys : {A : Type 0} {t : A → List ℕ} {F : A → Type 0} {f : Reader Error A} (kind : Kind) (make : A → Plain) → IsMade t F kind make
    → ((p : Plain) → plain_kind p ≡ kind → PlainFits p → HasParts t F make p) → IsFormat t F f → IsFormat fields_text (OfKind kind) (made_at (λ a. plain (make a)) f)
over_keys {A} {t} {F} kind make there back f = partly fields_text (OfKind kind) (λ a. plain (make a)) there (λ b h. lifted b h.0 h.1) f
  where
    lifted : (b : Key) → kind_of b ≡ kind → FieldsFit b → (a : A) × (plain (make a) ≡ b) × F a × (fields_text b ≡ t a)
    lifted (plain p) is h = let r = back p is h in (r.0, ap (λ (x : Plain). plain x) r.1, r.2, r.3)
    lifted (certificate nonce key says signer signature) is h = absurd h

dsa_parts : (p : Plain) → plain_kind p ≡ kinds.Known known.Dsa → PlainFits p
    → HasParts {A = Four} (λ x. string_text x.0 ++ (string_text x.1.0 ++ (string_text x.1.1.0 ++ string_text x.1.1.1))) (λ x. IsMpint x.0 × (IsMpint x.1.0 × (IsMpint x.1.1.0 × IsMpint x.1.1.1))) (λ x. dsa x.0 x.1.0 x.1.1.0 x.1.1.1) p
dsa_parts (dsa p q g y) is h = ((p, (q, (g, y))), refl, h, refl)
dsa_parts (ecdsa other point) is h = absurd cc
dsa_parts (ed25519 public) is h = absurd cc
dsa_parts (rsa e n) is h = absurd cc
dsa_parts (sk_ecdsa point application) is h = absurd cc
dsa_parts (sk_ed25519 public application) is h = absurd cc
dsa_parts (opaque name body) is h = absurd cc

ecdsa_parts : (curve : EcdsaCurve) (p : Plain) → plain_kind p ≡ kinds.Known (known.Ecdsa curve) → PlainFits p
    → HasParts {A = Two} (λ x. string_text x.0 ++ string_text x.1) (λ x. IsCurveName curve x.0 × IsPoint curve x.1) (λ x. ecdsa curve x.1) p
ecdsa_parts curve (dsa p q g y) is h = absurd cc
ecdsa_parts curve (ecdsa other point) is h =
    let same : other ≡ curve = cc in
    ((curve_name curve, point), ap (λ (c : EcdsaCurve). ecdsa c point) (sym same), (name_fits curve, subst (λ (c : EcdsaCurve). IsPoint c point) same h), ap (λ (c : EcdsaCurve). string_text (curve_name c) ++ string_text point) same)
ecdsa_parts curve (ed25519 public) is h = absurd cc
ecdsa_parts curve (rsa e n) is h = absurd cc
ecdsa_parts curve (sk_ecdsa point application) is h = absurd cc
ecdsa_parts curve (sk_ed25519 public application) is h = absurd cc
ecdsa_parts curve (opaque name body) is h = absurd cc

ed25519_parts : (p : Plain) → plain_kind p ≡ kinds.Known known.Ed25519 → PlainFits p → HasParts string_text (IsOfLength 32) (λ x. ed25519 x) p
ed25519_parts (dsa p q g y) is h = absurd cc
ed25519_parts (ecdsa other point) is h = absurd cc
ed25519_parts (ed25519 public) is h = (public, refl, h, refl)
ed25519_parts (rsa e n) is h = absurd cc
ed25519_parts (sk_ecdsa point application) is h = absurd cc
ed25519_parts (sk_ed25519 public application) is h = absurd cc
ed25519_parts (opaque name body) is h = absurd cc

rsa_parts : (p : Plain) → plain_kind p ≡ kinds.Known known.Rsa → PlainFits p → HasParts {A = Two} (λ x. string_text x.0 ++ string_text x.1) (λ x. IsMpint x.0 × IsMpint x.1) (λ x. rsa x.0 x.1) p
rsa_parts (dsa p q g y) is h = absurd cc
rsa_parts (ecdsa other point) is h = absurd cc
rsa_parts (ed25519 public) is h = absurd cc
rsa_parts (rsa e n) is h = ((e, n), refl, h, refl)
rsa_parts (sk_ecdsa point application) is h = absurd cc
rsa_parts (sk_ed25519 public application) is h = absurd cc
rsa_parts (opaque name body) is h = absurd cc

sk_ecdsa_parts : (p : Plain) → plain_kind p ≡ kinds.Known known.SkEcdsaSha2NistP256 → PlainFits p
    → HasParts {A = Three} (λ x. string_text x.0 ++ (string_text x.1.0 ++ string_text x.1.1)) (λ x. IsCurveName NistP256 x.0 × (IsPoint NistP256 x.1.0 × IsText x.1.1)) (λ x. sk_ecdsa x.1.0 x.1.1) p
sk_ecdsa_parts (dsa p q g y) is h = absurd cc
sk_ecdsa_parts (ecdsa other point) is h = absurd cc
sk_ecdsa_parts (ed25519 public) is h = absurd cc
sk_ecdsa_parts (rsa e n) is h = absurd cc
sk_ecdsa_parts (sk_ecdsa point application) is h = ((curve_name NistP256, (point, application)), refl, (name_fits NistP256, h), refl)
sk_ecdsa_parts (sk_ed25519 public application) is h = absurd cc
sk_ecdsa_parts (opaque name body) is h = absurd cc

sk_ed25519_parts : (p : Plain) → plain_kind p ≡ kinds.Known known.SkEd25519 → PlainFits p
    → HasParts {A = Two} (λ x. string_text x.0 ++ string_text x.1) (λ x. IsOfLength 32 x.0 × IsText x.1) (λ x. sk_ed25519 x.0 x.1) p
sk_ed25519_parts (dsa p q g y) is h = absurd cc
sk_ed25519_parts (ecdsa other point) is h = absurd cc
sk_ed25519_parts (ed25519 public) is h = absurd cc
sk_ed25519_parts (rsa e n) is h = absurd cc
sk_ed25519_parts (sk_ecdsa point application) is h = absurd cc
sk_ed25519_parts (sk_ed25519 public application) is h = ((public, application), refl, h, refl)
sk_ed25519_parts (opaque name body) is h = absurd cc

opaque_parts : (name : List ℕ) (p : Plain) → plain_kind p ≡ kinds.Opaque name → PlainFits p → HasParts string_text IsShort (λ x. opaque name x) p
opaque_parts name (dsa p q g y) is h = absurd cc
opaque_parts name (ecdsa other point) is h = absurd cc
opaque_parts name (ed25519 public) is h = absurd cc
opaque_parts name (rsa e n) is h = absurd cc
opaque_parts name (sk_ecdsa point application) is h = absurd cc
opaque_parts name (sk_ed25519 public application) is h = absurd cc
opaque_parts name (opaque own body) is h =
    let same : own ≡ name = cc in
    (body, ap (λ (n : List ℕ). opaque n body) (sym same), h, refl)

-- ---- the fields of each kind

dsas : IsFormat fields_text (OfKind (kinds.Known known.Dsa)) dsa_at
unfolding dsa_at
dsas = over_keys {A = Four} (kinds.Known known.Dsa) (λ x. dsa x.0 x.1.0 x.1.1.0 x.1.1.1) (λ a h. (refl, (refl, h))) dsa_parts (both mpints (both mpints (both mpints mpints)))

ecdsas : (curve : EcdsaCurve) → IsFormat fields_text (OfKind (kinds.Known (known.Ecdsa curve))) (ecdsa_at curve)
unfolding ecdsa_at
ecdsas curve =
    over_keys {A = Two} (kinds.Known (known.Ecdsa curve)) (λ x. ecdsa curve x.1) (λ a h. (ap (λ (n : List ℕ). string_text n ++ string_text a.1) (named_so curve a.0 h.0), (refl, h.1))) (ecdsa_parts curve)
    (both (curves curve) (points curve))

ed25519s : IsFormat fields_text (OfKind (kinds.Known known.Ed25519)) ed25519_at
unfolding ed25519_at
ed25519s = over_keys (kinds.Known known.Ed25519) (λ x. ed25519 x) (λ a h. (refl, (refl, h))) ed25519_parts (sized 32)

rsas : IsFormat fields_text (OfKind (kinds.Known known.Rsa)) rsa_at
unfolding rsa_at
rsas = over_keys {A = Two} (kinds.Known known.Rsa) (λ x. rsa x.0 x.1) (λ a h. (refl, (refl, h))) rsa_parts (both mpints mpints)

sk_ecdsas : IsFormat fields_text (OfKind (kinds.Known known.SkEcdsaSha2NistP256)) sk_ecdsa_at
unfolding sk_ecdsa_at
sk_ecdsas =
    over_keys {A = Three} (kinds.Known known.SkEcdsaSha2NistP256) (λ x. sk_ecdsa x.1.0 x.1.1)
    (λ a h. (ap (λ (n : List ℕ). string_text n ++ (string_text a.1.0 ++ string_text a.1.1)) (named_so NistP256 a.0 h.0), (refl, h.1))) sk_ecdsa_parts
    (both (curves NistP256) (both (points NistP256) utf8s))

sk_ed25519s : IsFormat fields_text (OfKind (kinds.Known known.SkEd25519)) sk_ed25519_at
unfolding sk_ed25519_at
sk_ed25519s = over_keys {A = Two} (kinds.Known known.SkEd25519) (λ x. sk_ed25519 x.0 x.1) (λ a h. (refl, (refl, h))) sk_ed25519_parts (both (sized 32) utf8s)

opaques : (name : List ℕ) → IsFormat fields_text (OfKind (kinds.Opaque name)) (opaque_at name)
unfolding opaque_at
opaques name = over_keys (kinds.Opaque name) (λ x. opaque name x) (λ a h. (refl, (refl, h))) (opaque_parts name) octets

pub fields : (kind : Kind) → IsFormat fields_text (λ k. (kind_of k ≡ kind) × FieldsFit k) (fields_at kind)
fields (kinds.Known known.Dsa) = dsas
fields (kinds.Known (known.Ecdsa curve)) = ecdsas curve
fields (kinds.Known known.Ed25519) = ed25519s
fields (kinds.Known known.Rsa) = rsas
fields (kinds.Known known.SkEcdsaSha2NistP256) = sk_ecdsas
fields (kinds.Known known.SkEd25519) = sk_ed25519s
fields (kinds.Opaque name) = opaques name
