-- A key pair, and the code by which proofs compare key pairs.
use Rattle.std.specs.Prelude.{◌≡◌, ℕ, List, ◌⊎◌, refl}
use Rattle.std.specs.Coded.{Coded, code_by, coded×, coded⊎}
use Rattle.std.proofs.Common.{inl, inr}
use Rattle.sshc_key.specs.declared.pair.PairData.{PairData}
use Rattle.sshc_key.specs.declared.pair.PairData.TheVariants.{Dsa, Ecdsa, Ed25519, Rsa}
use Rattle.sshc_key.specs.KeyGrammar.{Key}
use Rattle.sshc_key.specs.KeyCode.{key_code, bytes_code, two_code}

-- a key and its comment, and the private part
pub record KeyPair : Type 0 where
  pub public : Key × List ℕ
  pub pair : PairData

abbrev pub PairMark : Type 0
PairMark = List ℕ ⊎ (List ℕ ⊎ (List ℕ ⊎ ((List ℕ × List ℕ) × (List ℕ × List ℕ))))

abbrev pub pair_mark : PairData → PairMark
pair_mark (Dsa x) = inl x
pair_mark (Ecdsa d) = inr (inl d)
pair_mark (Ed25519 private) = inr (inr (inl private))
pair_mark (Rsa d iqmp p q) = inr (inr (inr ((d, iqmp), (p, q))))

abbrev pub marked_pair : PairMark → PairData
marked_pair (inl x) = Dsa x
marked_pair (inr (inl d)) = Ecdsa d
marked_pair (inr (inr (inl private))) = Ed25519 private
marked_pair (inr (inr (inr m))) = Rsa m.0.0 m.0.1 m.1.0 m.1.1

pub pair_back : (p : PairData) → marked_pair (pair_mark p) ≡ p
pair_back (Dsa x) = refl
pair_back (Ecdsa d) = refl
pair_back (Ed25519 private) = refl
pair_back (Rsa d iqmp p q) = refl

abbrev pub pair_code : Coded PairData
pair_code = code_by PairMark (coded⊎ bytes_code (coded⊎ bytes_code (coded⊎ bytes_code (coded× two_code two_code)))) pair_mark marked_pair pair_back

abbrev pub key_pair_code : Coded KeyPair
key_pair_code = code_by ((Key × List ℕ) × PairData) (coded× (coded× key_code bytes_code) pair_code) (λ k. (k.public, k.pair)) (λ p. record { public = p.0; pair = p.1 }) (λ _. refl)
