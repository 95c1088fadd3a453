-- Key pairs are formats.
use Rattle.std.proofs.Common.{◌≡◌, ℕ, true, List, ◌++◌, length, drop, Option, Some, None, Ok, Err, refl, sym, ap, subst, ◌∙◌}
use Rattle.std.proofs.Math.Seq.{drop-append_seam}
use Rattle.sshc_wire.specs.Wire.{string_text, IsShort}
use Rattle.sshc_wire.specs.Reads.{Reader}
use Rattle.sshc_wire.specs.Format.{IsFormat}
use Rattle.sshc_wire.specs.FormatLaws.{both, tested, partly, chosen, named, told_as}
use Rattle.sshc_key.specs.declared.algorithm.EcdsaCurve.{EcdsaCurve}
use Rattle.sshc_key.specs.declared.error.Error.{Error}
use Rattle.sshc_key.specs.declared.error.Error.TheVariants.{SshKey}
use Rattle.sshc_key.specs.declared.kind.Known.{Known}
use Rattle.sshc_key.specs.declared.kind.Known.TheVariants.{Dsa, Ecdsa, Ed25519, Rsa, SkEcdsaSha2NistP256, SkEd25519}
use Rattle.sshc_key.specs.AlgorithmNames.{curve_name, known_name, known_named}
use Rattle.sshc_key.specs.KeyGrammar.{IsMpint, IsPoint, IsOfLength}
use Rattle.sshc_key.specs.PairCode.{KeyPair}
use Rattle.sshc_key.specs.PairGrammar.{Pair, dsa_pair, ecdsa_pair, ed25519_pair, rsa_pair, pair_in, pair_kind, pair_fields_text, pair_text, text_or_nothing, key_pair_text, ends_public, PairFits, dsa_pair_at, ecdsa_pair_at, ed25519_pair_at, rsa_pair_at, with_pair, pair_named, pair_name_at, pair_fields_at, pair_at}
use Rattle.sshc_key.specs.KeyLaws.Fields.{octets, mpints, points, sized, curves, IsCurveName, name_fits, named_so, Two, Three}
use Rattle.sshc_key.specs.KeyLaws.Names.{some, some_is}
use Rattle.sshc_key.specs.KeyLaws.Tags.{known_is, stands}

-- the pairs of a kind
abbrev OfKind : Known → Pair → Type 0
OfKind kind p = (pair_kind p ≡ kind) × PairFits p

abbrev HasParts : {A : Type 0} → (A → List ℕ) → (A → Type 0) → (A → Pair) → Pair → Type 0
HasParts {A} t F make p = (a : A) × (make a ≡ p) × F a × (pair_fields_text p ≡ t a)

abbrev Five : Type 0
Five = List ℕ × (List ℕ × (List ℕ × (List ℕ × List ℕ)))

abbrev Six : Type 0
Six = List ℕ × Five

dsa_parts : (p : Pair) → pair_kind p ≡ Dsa → PairFits p
    → HasParts {A = Five} (λ x. string_text x.0 ++ (string_text x.1.0 ++ (string_text x.1.1.0 ++ (string_text x.1.1.1.0 ++ string_text x.1.1.1.1))))
    (λ x. IsMpint x.0 × (IsMpint x.1.0 × (IsMpint x.1.1.0 × (IsMpint x.1.1.1.0 × IsMpint x.1.1.1.1)))) (λ x. dsa_pair x.0 x.1.0 x.1.1.0 x.1.1.1.0 x.1.1.1.1) p
dsa_parts (dsa_pair p q g y x) is h = ((p, (q, (g, (y, x)))), refl, h, refl)
dsa_parts (ecdsa_pair curve point d) is h = absurd cc
dsa_parts (ed25519_pair public private) is h = absurd cc
dsa_parts (rsa_pair n e d iqmp p q) is h = absurd cc

dsas : IsFormat pair_fields_text (OfKind Dsa) dsa_pair_at
unfolding dsa_pair_at
dsas =
    partly {A = Five} pair_fields_text (OfKind Dsa) (λ x. dsa_pair x.0 x.1.0 x.1.1.0 x.1.1.1.0 x.1.1.1.1) (λ a h. (refl, (refl, h))) (λ b h. dsa_parts b h.0 h.1)
    (both mpints (both mpints (both mpints (both mpints mpints))))

ecdsa_parts : (curve : EcdsaCurve) (p : Pair) → pair_kind p ≡ Ecdsa curve → PairFits p
    → HasParts {A = Three} (λ x. string_text x.0 ++ (string_text x.1.0 ++ string_text x.1.1)) (λ x. IsCurveName curve x.0 × (IsPoint curve x.1.0 × IsMpint x.1.1)) (λ x. ecdsa_pair curve x.1.0 x.1.1) p
ecdsa_parts curve (dsa_pair p q g y x) is h = absurd cc
ecdsa_parts curve (ecdsa_pair own point d) is h =
    let same : own ≡ curve = cc in (
      (curve_name curve, (point, d)),
      ap (λ (c : EcdsaCurve). ecdsa_pair c point d) (sym same),
      (name_fits curve, (subst (λ (c : EcdsaCurve). IsPoint c point) same h.0, h.1)),
      ap (λ (c : EcdsaCurve). string_text (curve_name c) ++ (string_text point ++ string_text d)) same,
    )
ecdsa_parts curve (ed25519_pair public private) is h = absurd cc
ecdsa_parts curve (rsa_pair n e d iqmp p q) is h = absurd cc

ecdsas : (curve : EcdsaCurve) → IsFormat pair_fields_text (OfKind (Ecdsa curve)) (ecdsa_pair_at curve)
unfolding ecdsa_pair_at
ecdsas curve =
    partly {A = Three} pair_fields_text (OfKind (Ecdsa curve)) (λ x. ecdsa_pair curve x.1.0 x.1.1)
    (λ a h. (ap (λ (n : List ℕ). string_text n ++ (string_text a.1.0 ++ string_text a.1.1)) (named_so curve a.0 h.0), (refl, h.1))) (λ b h. ecdsa_parts curve b h.0 h.1)
    (both (curves curve) (both (points curve) mpints))

ed25519_parts : (p : Pair) → pair_kind p ≡ Ed25519 → PairFits p
    → HasParts {A = Two} (λ x. string_text x.0 ++ string_text x.1) (λ x. (IsOfLength 32 x.0 × IsOfLength 64 x.1) × (ends_public x.0 x.1 ≡ true)) (λ x. ed25519_pair x.0 x.1) p
ed25519_parts (dsa_pair p q g y x) is h = absurd cc
ed25519_parts (ecdsa_pair curve point d) is h = absurd cc
ed25519_parts (ed25519_pair public private) is h = ((public, private), refl, h, refl)
ed25519_parts (rsa_pair n e d iqmp p q) is h = absurd cc

ed25519s : IsFormat pair_fields_text (OfKind Ed25519) ed25519_pair_at
unfolding ed25519_pair_at
ed25519s =
    partly {A = Two} pair_fields_text (OfKind Ed25519) (λ x. ed25519_pair x.0 x.1) (λ a h. (refl, (refl, h))) (λ b h. ed25519_parts b h.0 h.1)
    (tested (λ x. ends_public x.0 x.1) SshKey (both (sized 32) (sized 64)))

rsa_parts : (p : Pair) → pair_kind p ≡ Rsa → PairFits p
    → HasParts {A = Six} (λ x. string_text x.0 ++ (string_text x.1.0 ++ (string_text x.1.1.0 ++ (string_text x.1.1.1.0 ++ (string_text x.1.1.1.1.0 ++ string_text x.1.1.1.1.1)))))
    (λ x. IsMpint x.0 × (IsMpint x.1.0 × (IsMpint x.1.1.0 × (IsMpint x.1.1.1.0 × (IsMpint x.1.1.1.1.0 × IsMpint x.1.1.1.1.1)))))
    (λ x. rsa_pair x.0 x.1.0 x.1.1.0 x.1.1.1.0 x.1.1.1.1.0 x.1.1.1.1.1) p
rsa_parts (dsa_pair p q g y x) is h = absurd cc
rsa_parts (ecdsa_pair curve point d) is h = absurd cc
rsa_parts (ed25519_pair public private) is h = absurd cc
rsa_parts (rsa_pair n e d iqmp p q) is h = ((n, (e, (d, (iqmp, (p, q))))), refl, h, refl)

rsas : IsFormat pair_fields_text (OfKind Rsa) rsa_pair_at
unfolding rsa_pair_at
rsas =
    partly {A = Six} pair_fields_text (OfKind Rsa) (λ x. rsa_pair x.0 x.1.0 x.1.1.0 x.1.1.1.0 x.1.1.1.1.0 x.1.1.1.1.1) (λ a h. (refl, (refl, h))) (λ b h. rsa_parts b h.0 h.1)
    (both mpints (both mpints (both mpints (both mpints (both mpints mpints)))))

-- ---- security keys have no pair

abbrev refused : Reader Error Pair
refused bytes = Err SshKey

no_pair : (kind : Known) → ((p : Pair) → pair_kind p ≡ kind → ⊥) → IsFormat pair_fields_text (OfKind kind) refused
no_pair kind none = record {
  takes = λ bytes x rest fits e. absurd cc;
  again = λ x rest h. absurd (none x h.0);
}

no_sk_ecdsa : (p : Pair) → pair_kind p ≡ SkEcdsaSha2NistP256 → ⊥
no_sk_ecdsa (dsa_pair p q g y x) is = cc
no_sk_ecdsa (ecdsa_pair curve point d) is = cc
no_sk_ecdsa (ed25519_pair public private) is = cc
no_sk_ecdsa (rsa_pair n e d iqmp p q) is = cc

no_sk_ed25519 : (p : Pair) → pair_kind p ≡ SkEd25519 → ⊥
no_sk_ed25519 (dsa_pair p q g y x) is = cc
no_sk_ed25519 (ecdsa_pair curve point d) is = cc
no_sk_ed25519 (ed25519_pair public private) is = cc
no_sk_ed25519 (rsa_pair n e d iqmp p q) is = cc

pair_fields : (kind : Known) → IsFormat pair_fields_text (OfKind kind) (pair_fields_at kind)
pair_fields Dsa = dsas
pair_fields (Ecdsa curve) = ecdsas curve
pair_fields Ed25519 = ed25519s
pair_fields Rsa = rsas
pair_fields SkEcdsaSha2NistP256 = no_pair SkEcdsaSha2NistP256 no_sk_ecdsa
pair_fields SkEd25519 = no_pair SkEd25519 no_sk_ed25519

-- ---- names

abbrev HasPair : Known → Type 0
HasPair k = with_pair (Some k) ≡ some k

with_pair_is : (j k : Known) → with_pair (Some j) ≡ some k → (j ≡ k) × HasPair k
with_pair_is Dsa k e = let is = some_is _ _ e in (is, subst HasPair is refl)
with_pair_is (Ecdsa curve) k e = let is = some_is _ _ e in (is, subst HasPair is refl)
with_pair_is Ed25519 k e = let is = some_is _ _ e in (is, subst HasPair is refl)
with_pair_is Rsa k e = let is = some_is _ _ e in (is, subst HasPair is refl)
with_pair_is SkEcdsaSha2NistP256 k e = absurd cc
with_pair_is SkEd25519 k e = absurd cc

named_there : (s : List ℕ) (o : Option Known) (k : Known) → known_named s ≡ o → with_pair o ≡ some k → (s ≡ known_name k) × HasPair k
named_there s None k is e = absurd cc
named_there s (Some j) k is e = let h = with_pair_is j k e in (known_is s j is ∙ ap known_name h.0, h.1)

name_there : (s : List ℕ) (k : Known) → pair_named s ≡ Some k → (s ≡ known_name k) × HasPair k
unfolding pair_named
name_there s k e = named_there s (known_named s) k refl e

name_back : (k : Known) → HasPair k → pair_named (known_name k) ≡ Some k
unfolding pair_named
name_back k h = rw (stands k).named h

names : IsFormat (λ k. string_text (known_name k)) (λ k. IsShort (known_name k) × HasPair k) pair_name_at
unfolding pair_name_at
names = named known_name HasPair pair_named SshKey name_there name_back octets

has_pair : (p : Pair) → HasPair (pair_kind p)
has_pair (dsa_pair p q g y x) = refl
has_pair (ecdsa_pair curve point d) = refl
has_pair (ed25519_pair public private) = refl
has_pair (rsa_pair n e d iqmp p q) = refl

pub pairs : IsFormat pair_text PairFits pair_at
unfolding pair_at
pairs = told_as pair_text PairFits (λ p h. (refl, h.1)) (λ p h. (refl, (((stands (pair_kind p)).text.0, has_pair p), h))) (chosen pair_kind names pair_fields)

-- what was written behind other bytes is read again
pub written_pair_is_read : (old new : List ℕ) (k : KeyPair) → new ≡ old ++ key_pair_text k → (p : Pair) (rest : List ℕ) → pair_in k.public.0 k.pair ≡ Some p → PairFits p → pair_at (drop (length old) new ++ rest) ≡ Ok (p, rest)
written_pair_is_read old new k written p rest is fits =
    let behind : drop (length old) new ≡ pair_text p = ap (drop (length old)) written ∙ (drop-append_seam old (key_pair_text k) ∙ ap text_or_nothing is) in
    ap (λ (t : List ℕ). pair_at (t ++ rest)) behind ∙ pairs.again p rest fits
