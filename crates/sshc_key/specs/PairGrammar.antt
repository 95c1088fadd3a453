-- The grammar of key pairs (OpenSSH's PROTOCOL.agent; draft-miller-ssh-agent, section 3.2): the text of each pair, which pairs are in
-- the grammar, and reading one from the front of a list of bytes.
-- Each pair has one text, written whole; the code reads part by part, up to the first fault.
use Rattle.std.specs.Prelude.{◌≡◌, ℕ, Bool, true, List, [], ◌++◌, drop, Option, Some, None, Err, bytes_eq}
use Rattle.sshc_wire.specs.Wire.{string_text}
use Rattle.sshc_wire.specs.Reads.{Reader}
use Rattle.sshc_wire.specs.Format.{both_at, made_at, tested_at, chosen_at, named_at}
use Rattle.sshc_key.specs.declared.algorithm.EcdsaCurve.{EcdsaCurve}
use Rattle.sshc_key.specs.declared.error.Error.{Error}
use Rattle.sshc_key.specs.declared.error.Error.TheVariants.{SshKey}
use Rattle.sshc_key.specs.declared.kind.Known.{Known}
use Rattle.sshc_key.specs.declared.kind.Known.TheVariants as known
use Rattle.sshc_key.specs.declared.pair.PairData.{PairData}
use Rattle.sshc_key.specs.declared.pair.PairData.TheVariants as pairs
use Rattle.sshc_key.specs.AlgorithmNames.{curve_name, known_name, known_named}
use Rattle.sshc_key.specs.KeyGrammar.{Key, dsa, ecdsa, ed25519, rsa, plain, IsMpint, IsPoint, IsOfLength}
use Rattle.sshc_key.specs.KeyReading.{octets_at, mpint_at, point_at, curve_at, sized_at}
use Rattle.sshc_key.specs.PairCode.{KeyPair}

-- ---- the pairs of the grammar

-- a pair without where its parts lie: of DSA p, q, g, y, x; of ECDSA the point and d; of Ed25519 the public key and the 64 private
-- bytes; of RSA n, e, d, iqmp, p, q
pub data Pair : Type 0 where
  dsa_pair : List ℕ → List ℕ → List ℕ → List ℕ → List ℕ → Pair
  ecdsa_pair : EcdsaCurve → List ℕ → List ℕ → Pair
  ed25519_pair : List ℕ → List ℕ → Pair
  rsa_pair : List ℕ → List ℕ → List ℕ → List ℕ → List ℕ → List ℕ → Pair

-- the same as a key without comment and its private part
abbrev pub key_pair : Pair → KeyPair
key_pair (dsa_pair p q g y x) = record { public = (plain (dsa p q g y), []); pair = pairs.Dsa x }
key_pair (ecdsa_pair curve point d) = record { public = (plain (ecdsa curve point), []); pair = pairs.Ecdsa d }
key_pair (ed25519_pair public private) = record { public = (plain (ed25519 public), []); pair = pairs.Ed25519 private }
key_pair (rsa_pair n e d iqmp p q) = record { public = (plain (rsa e n), []); pair = pairs.Rsa d iqmp p q }

abbrev pub pair_kind : Pair → Known
pair_kind (dsa_pair p q g y x) = known.Dsa
pair_kind (ecdsa_pair curve point d) = known.Ecdsa curve
pair_kind (ed25519_pair public private) = known.Ed25519
pair_kind (rsa_pair n e d iqmp p q) = known.Rsa

abbrev pub pair_fields_text : Pair → List ℕ
pair_fields_text (dsa_pair p q g y x) = string_text p ++ (string_text q ++ (string_text g ++ (string_text y ++ string_text x)))
pair_fields_text (ecdsa_pair curve point d) = string_text (curve_name curve) ++ (string_text point ++ string_text d)
pair_fields_text (ed25519_pair public private) = string_text public ++ string_text private
pair_fields_text (rsa_pair n e d iqmp p q) = string_text n ++ (string_text e ++ (string_text d ++ (string_text iqmp ++ (string_text p ++ string_text q))))

abbrev pub pair_text : Pair → List ℕ
pair_text p = string_text (known_name (pair_kind p)) ++ pair_fields_text p

-- the last 32 of the private bytes are the public key
abbrev pub ends_public : List ℕ → List ℕ → Bool
ends_public public private = bytes_eq (drop 32 private) public

abbrev pub PairFits : Pair → Type 0
PairFits (dsa_pair p q g y x) = IsMpint p × (IsMpint q × (IsMpint g × (IsMpint y × IsMpint x)))
PairFits (ecdsa_pair curve point d) = IsPoint curve point × IsMpint d
PairFits (ed25519_pair public private) = (IsOfLength 32 public × IsOfLength 64 private) × (ends_public public private ≡ true)
PairFits (rsa_pair n e d iqmp p q) = IsMpint n × (IsMpint e × (IsMpint d × (IsMpint iqmp × (IsMpint p × IsMpint q))))

-- the two parts of a key pair, where they are of one algorithm
abbrev pub pair_in : Key → PairData → Option Pair
pair_in (plain (dsa p q g y)) (pairs.Dsa x) = Some (dsa_pair p q g y x)
pair_in (plain (ecdsa curve point)) (pairs.Ecdsa d) = Some (ecdsa_pair curve point d)
pair_in (plain (ed25519 public)) (pairs.Ed25519 private) = Some (ed25519_pair public private)
pair_in (plain (rsa e n)) (pairs.Rsa d iqmp p q) = Some (rsa_pair n e d iqmp p q)
pair_in key pair = None

-- what is written of it; of parts that don't belong together, nothing
abbrev pub text_or_nothing : Option Pair → List ℕ
text_or_nothing None = []
text_or_nothing (Some p) = pair_text p

abbrev pub key_pair_text : KeyPair → List ℕ
key_pair_text k = text_or_nothing (pair_in k.public.0 k.pair)

-- ---- reading

unfoldable pub dsa_pair_at : Reader Error Pair
dsa_pair_at bytes = made_at (λ x. dsa_pair x.0 x.1.0 x.1.1.0 x.1.1.1.0 x.1.1.1.1) (both_at mpint_at (both_at mpint_at (both_at mpint_at (both_at mpint_at mpint_at)))) bytes

unfoldable pub ecdsa_pair_at : EcdsaCurve → Reader Error Pair
ecdsa_pair_at curve bytes = made_at (λ x. ecdsa_pair curve x.1.0 x.1.1) (both_at (curve_at curve) (both_at (point_at curve) mpint_at)) bytes

unfoldable pub ed25519_pair_at : Reader Error Pair
ed25519_pair_at bytes = made_at (λ x. ed25519_pair x.0 x.1) (tested_at (λ x. ends_public x.0 x.1) SshKey (both_at (sized_at 32) (sized_at 64))) bytes

unfoldable pub rsa_pair_at : Reader Error Pair
rsa_pair_at bytes =
    made_at (λ x. rsa_pair x.0 x.1.0 x.1.1.0 x.1.1.1.0 x.1.1.1.1.0 x.1.1.1.1.1)
    (both_at mpint_at (both_at mpint_at (both_at mpint_at (both_at mpint_at (both_at mpint_at mpint_at))))) bytes

-- security keys have no pair
abbrev pub with_pair : Option Known → Option Known
with_pair None = None
with_pair (Some known.SkEcdsaSha2NistP256) = None
with_pair (Some known.SkEd25519) = None
with_pair (Some k) = Some k

-- the kind of pair that has this name
unfoldable pub pair_named : List ℕ → Option Known
pair_named name = with_pair (known_named name)

unfoldable pub pair_name_at : Reader Error Known
pair_name_at bytes = named_at pair_named SshKey octets_at bytes

abbrev pub pair_fields_at : Known → Reader Error Pair
pair_fields_at known.Dsa bytes = dsa_pair_at bytes
pair_fields_at (known.Ecdsa curve) bytes = ecdsa_pair_at curve bytes
pair_fields_at known.Ed25519 bytes = ed25519_pair_at bytes
pair_fields_at known.Rsa bytes = rsa_pair_at bytes
pair_fields_at k bytes = Err SshKey

unfoldable pub pair_at : Reader Error Pair
pair_at bytes = chosen_at pair_name_at pair_fields_at bytes
