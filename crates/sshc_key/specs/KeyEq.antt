-- Whether two keys are one, as a test.
use Rattle.std.specs.Prelude.{◌≡◌, ℕ, zero, suc, Bool, List, [], Option, refl}
use Rattle.sshc_wire.specs.declared.hash_alg.HashAlg.{HashAlg}
use Rattle.sshc_wire.specs.declared.hash_alg.HashAlg.TheVariants.{Sha256, Sha512}
use Rattle.std.specs.Bool.{Decides}
use Rattle.std.specs.Cmp.{IsEquivalence, decided}
use Rattle.sshc_key.specs.declared.algorithm.EcdsaCurve.{EcdsaCurve}
use Rattle.sshc_key.specs.declared.key_data.CertType.{CertType}
use Rattle.sshc_key.specs.declared.pair.PairData.{PairData}
use Rattle.sshc_key.specs.declared.signature.Signature.{Signature}
use Rattle.sshc_key.specs.declared.signature.SkFields.{SkFields}
use Rattle.sshc_key.specs.declared.statement.Statement.{Statement}
use Rattle.sshc_key.specs.KeyGrammar.{Plain, Key, type_number}
use Rattle.sshc_key.specs.KeyCode.{curve_number, numbered_curve, curve_back, numbered_type, type_back, plain_mark, marked_plain, plain_back, Options, First, Second, parts_said, made_said, Mark, marks, build, first_key, key_back}
use Rattle.sshc_key.specs.PairCode.{KeyPair, pair_mark, marked_pair, pair_back}
use Rattle.sshc_key.specs.Tested.{Tested, tested_ℕ, tested_bytes, tested_list, tested×, tested⊎, tested_option, tested_by}

tested_curve : Tested EcdsaCurve
tested_curve = tested_by tested_ℕ curve_number numbered_curve curve_back

tested_type : Tested CertType
tested_type = tested_by tested_ℕ type_number numbered_type type_back

tested_two : Tested (List ℕ × List ℕ)
tested_two = tested× tested_bytes tested_bytes

tested_sk : Tested SkFields
tested_sk = tested_by (tested× tested_ℕ tested_ℕ) (λ s. (s.flags, s.counter)) (λ p. record { flags = p.0; counter = p.1 }) (λ _. refl)

tested_signature : Tested Signature
tested_signature =
    tested_by (tested× tested_bytes (tested× tested_bytes (tested_option tested_sk))) (λ s. (s.name, (s.body, s.sk)))
    (λ p. record { name = p.0; body = p.1.0; sk = p.1.1 }) (λ _. refl)

tested_plain : Tested Plain
tested_plain =
    tested_by
    (tested⊎ (tested× tested_two tested_two) (tested⊎ (tested× tested_curve tested_bytes) (tested⊎ tested_bytes (tested⊎ tested_two (tested⊎ tested_two (tested⊎ tested_two tested_two))))))
    plain_mark marked_plain plain_back

tested_options : Tested Options
tested_options = tested_list tested_two

tested_first : Tested First
tested_first = tested× tested_ℕ (tested× tested_type (tested× tested_bytes (tested_list tested_bytes)))

tested_second : Tested Second
tested_second = tested× tested_ℕ (tested× tested_ℕ (tested× tested_options (tested× tested_options tested_bytes)))

tested_statement : Tested Statement
tested_statement = tested_by (tested× tested_first tested_second) parts_said made_said (λ _. refl)

tested_mark : Tested Mark
tested_mark = tested⊎ tested_plain (tested× tested_bytes (tested× tested_statement tested_signature))

tested_key : Tested Key
tested_key = tested_by (tested_list tested_mark) marks (λ ms. first_key (build ms [])) key_back

tested_public : Tested (Key × List ℕ)
tested_public = tested× tested_key tested_bytes

tested_pair : Tested PairData
tested_pair = tested_by (tested⊎ tested_bytes (tested⊎ tested_bytes (tested⊎ tested_bytes (tested× tested_two tested_two)))) pair_mark marked_pair pair_back

tested_key_pair : Tested KeyPair
tested_key_pair = tested_by (tested× tested_public tested_pair) (λ k. (k.public, k.pair)) (λ p. record { public = p.0; pair = p.1 }) (λ _. refl)

abbrev hash_code : HashAlg → ℕ
hash_code Sha256 = 0
hash_code Sha512 = 1

abbrev coded_hash : ℕ → HashAlg
coded_hash zero = Sha256
coded_hash (suc n) = Sha512

hash_back : (h : HashAlg) → coded_hash (hash_code h) ≡ h
hash_back Sha256 = refl
hash_back Sha512 = refl

tested_hashed_pair : Tested (KeyPair × Option HashAlg)
tested_hashed_pair = tested× tested_key_pair (tested_option (tested_by tested_ℕ hash_code coded_hash hash_back))

pub key_eq : Key → Key → Bool
key_eq a b = tested_key.test a b

pub key_eq-Decides : (a b : Key) → Decides (key_eq a b) (a ≡ b)
unfolding key_eq tested_key
key_eq-Decides a b = tested_key.decides a b

pub key_eq_equiv : IsEquivalence key_eq
key_eq_equiv = decided key_eq key_eq-Decides

pub public_eq : Key × List ℕ → Key × List ℕ → Bool
public_eq a b = tested_public.test a b

pub public_eq-Decides : (a b : Key × List ℕ) → Decides (public_eq a b) (a ≡ b)
unfolding public_eq tested_public
public_eq-Decides a b = tested_public.decides a b

pub public_eq_equiv : IsEquivalence public_eq
public_eq_equiv = decided public_eq public_eq-Decides

pub key_pair_eq : KeyPair → KeyPair → Bool
key_pair_eq a b = tested_key_pair.test a b

pub key_pair_eq-Decides : (a b : KeyPair) → Decides (key_pair_eq a b) (a ≡ b)
unfolding key_pair_eq tested_key_pair
key_pair_eq-Decides a b = tested_key_pair.decides a b

pub key_pair_eq_equiv : IsEquivalence key_pair_eq
key_pair_eq_equiv = decided key_pair_eq key_pair_eq-Decides

pub hashed_pair_eq : KeyPair × Option HashAlg → KeyPair × Option HashAlg → Bool
hashed_pair_eq a b = tested_hashed_pair.test a b

pub hashed_pair_eq-Decides : (a b : KeyPair × Option HashAlg) → Decides (hashed_pair_eq a b) (a ≡ b)
unfolding hashed_pair_eq tested_hashed_pair
hashed_pair_eq-Decides a b = tested_hashed_pair.decides a b

pub hashed_pair_eq_equiv : IsEquivalence hashed_pair_eq
hashed_pair_eq_equiv = decided hashed_pair_eq hashed_pair_eq-Decides
