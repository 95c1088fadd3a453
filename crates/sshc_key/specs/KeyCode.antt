-- A key as a list of marks from which it can be recovered, by which proofs compare keys.
use Rattle.std.specs.Prelude.{◌≡◌, ℕ, zero, suc, ◌+◌, List, [], ◌∷◌, ◌++◌, ◌⊎◌, Option, refl}
use Rattle.std.specs.Coded.{Coded, code_by, coded_ℕ, coded_list, coded×, coded⊎, coded_option}
use Rattle.std.proofs.Common.{append_assoc, append-nil, ◌∙◌, ap, subst, inl, inr}
use Rattle.sshc_key.specs.declared.algorithm.EcdsaCurve.{EcdsaCurve}
use Rattle.sshc_key.specs.declared.algorithm.EcdsaCurve.TheVariants.{NistP256, NistP384, NistP521}
use Rattle.sshc_key.specs.declared.key_data.CertType.{CertType}
use Rattle.sshc_key.specs.declared.key_data.CertType.TheVariants.{User, Host}
use Rattle.sshc_key.specs.declared.signature.Signature.{Signature}
use Rattle.sshc_key.specs.declared.signature.SkFields.{SkFields}
use Rattle.sshc_key.specs.declared.statement.Statement.{Statement}
use Rattle.sshc_key.specs.KeyGrammar.{Plain, Key, dsa, ecdsa, ed25519, rsa, sk_ecdsa, sk_ed25519, opaque, plain, certificate, type_number}

-- how many certificates are in a key
abbrev pub key_size : Key → ℕ
key_size (plain k) = 0
key_size (certificate nonce key says signer signature) = key_size key + key_size signer + 1

-- ---- the parts

abbrev pub curve_number : EcdsaCurve → ℕ
curve_number NistP256 = 0
curve_number NistP384 = 1
curve_number NistP521 = 2

abbrev pub numbered_curve : ℕ → EcdsaCurve
numbered_curve zero = NistP256
numbered_curve (suc zero) = NistP384
numbered_curve (suc (suc n)) = NistP521

pub curve_back : (c : EcdsaCurve) → numbered_curve (curve_number c) ≡ c
curve_back NistP256 = refl
curve_back NistP384 = refl
curve_back NistP521 = refl

abbrev pub curve_code : Coded EcdsaCurve
curve_code = code_by ℕ coded_ℕ curve_number numbered_curve curve_back

abbrev pub numbered_type : ℕ → CertType
numbered_type zero = Host
numbered_type (suc zero) = User
numbered_type (suc (suc n)) = Host

pub type_back : (t : CertType) → numbered_type (type_number t) ≡ t
type_back User = refl
type_back Host = refl

abbrev pub type_code : Coded CertType
type_code = code_by ℕ coded_ℕ type_number numbered_type type_back

abbrev pub bytes_code : Coded (List ℕ)
bytes_code = coded_list coded_ℕ

abbrev pub two_code : Coded (List ℕ × List ℕ)
two_code = coded× bytes_code bytes_code

abbrev pub sk_code : Coded SkFields
sk_code = code_by (ℕ × ℕ) (coded× coded_ℕ coded_ℕ) (λ s. (s.flags, s.counter)) (λ p. record { flags = p.0; counter = p.1 }) (λ _. refl)

abbrev pub signature_code : Coded Signature
signature_code =
    code_by (List ℕ × (List ℕ × Option SkFields)) (coded× bytes_code (coded× bytes_code (coded_option sk_code))) (λ s. (s.name, (s.body, s.sk)))
    (λ p. record { name = p.0; body = p.1.0; sk = p.1.1 }) (λ _. refl)

abbrev pub Options : Type 0
Options = List (List ℕ × List ℕ)

abbrev pub options_code : Coded Options
options_code = coded_list two_code

-- ---- plain keys

-- each with its fields
abbrev pub PlainMark : Type 0
PlainMark = ((List ℕ × List ℕ) × (List ℕ × List ℕ)) ⊎ ((EcdsaCurve × List ℕ) ⊎ (List ℕ ⊎ ((List ℕ × List ℕ) ⊎ ((List ℕ × List ℕ) ⊎ ((List ℕ × List ℕ) ⊎ (List ℕ × List ℕ))))))

abbrev pub plain_mark_code : Coded PlainMark
plain_mark_code = coded⊎ (coded× two_code two_code) (coded⊎ (coded× curve_code bytes_code) (coded⊎ bytes_code (coded⊎ two_code (coded⊎ two_code (coded⊎ two_code two_code)))))

abbrev pub plain_mark : Plain → PlainMark
plain_mark (dsa p q g y) = inl ((p, q), (g, y))
plain_mark (ecdsa curve point) = inr (inl (curve, point))
plain_mark (ed25519 public) = inr (inr (inl public))
plain_mark (rsa e n) = inr (inr (inr (inl (e, n))))
plain_mark (sk_ecdsa point application) = inr (inr (inr (inr (inl (point, application)))))
plain_mark (sk_ed25519 public application) = inr (inr (inr (inr (inr (inl (public, application))))))
plain_mark (opaque name body) = inr (inr (inr (inr (inr (inr (name, body))))))

abbrev pub marked_plain : PlainMark → Plain
marked_plain (inl p) = dsa p.0.0 p.0.1 p.1.0 p.1.1
marked_plain (inr (inl p)) = ecdsa p.0 p.1
marked_plain (inr (inr (inl public))) = ed25519 public
marked_plain (inr (inr (inr (inl p)))) = rsa p.0 p.1
marked_plain (inr (inr (inr (inr (inl p))))) = sk_ecdsa p.0 p.1
marked_plain (inr (inr (inr (inr (inr (inl p)))))) = sk_ed25519 p.0 p.1
marked_plain (inr (inr (inr (inr (inr (inr p)))))) = opaque p.0 p.1

pub plain_back : (k : Plain) → marked_plain (plain_mark k) ≡ k
plain_back (dsa p q g y) = refl
plain_back (ecdsa curve point) = refl
plain_back (ed25519 public) = refl
plain_back (rsa e n) = refl
plain_back (sk_ecdsa point application) = refl
plain_back (sk_ed25519 public application) = refl
plain_back (opaque name body) = refl

abbrev pub plain_code : Coded Plain
plain_code = code_by PlainMark plain_mark_code plain_mark marked_plain plain_back

-- ---- what a certificate says

abbrev pub First : Type 0
First = ℕ × (CertType × (List ℕ × List (List ℕ)))

abbrev pub Second : Type 0
Second = ℕ × (ℕ × (Options × (Options × List ℕ)))

abbrev pub parts_said : Statement → First × Second
parts_said s = ((s.serial, (s.cert_type, (s.key_id, s.valid_principals))), (s.valid_after, (s.valid_before, (s.critical_options, (s.extensions, s.reserved)))))

abbrev pub made_said : First × Second → Statement
made_said p = record {
  serial = p.0.0;
  cert_type = p.0.1.0;
  key_id = p.0.1.1.0;
  valid_principals = p.0.1.1.1;
  valid_after = p.1.0;
  valid_before = p.1.1.0;
  critical_options = p.1.1.1.0;
  extensions = p.1.1.1.1.0;
  reserved = p.1.1.1.1.1;
}

abbrev pub statement_code : Coded Statement
statement_code =
    code_by (First × Second)
    (coded× (coded× coded_ℕ (coded× type_code (coded× bytes_code (coded_list bytes_code)))) (coded× coded_ℕ (coded× coded_ℕ (coded× options_code (coded× options_code bytes_code)))))
    parts_said made_said (λ _. refl)

-- ---- keys

-- a certificate without the keys in it
abbrev pub Around : Type 0
Around = List ℕ × (Statement × Signature)

abbrev pub Mark : Type 0
Mark = Plain ⊎ Around

abbrev pub mark_code : Coded Mark
mark_code = coded⊎ plain_code (coded× bytes_code (coded× statement_code signature_code))

-- the keys in a certificate come before the fields around them
abbrev pub marks : Key → List Mark
marks (plain k) = inl k ∷ []
marks (certificate nonce key says signer signature) = marks key ++ (marks signer ++ (inr (nonce, (says, signature)) ∷ []))

abbrev pub joined : Around → List Key → List Key
joined around [] = []
joined around (signer ∷ []) = []
joined around (signer ∷ key ∷ keys) = certificate around.0 key around.1.0 signer around.1.1 ∷ keys

abbrev pub build : List Mark → List Key → List Key
build [] keys = keys
build (inl k ∷ ms) keys = build ms (plain k ∷ keys)
build (inr around ∷ ms) keys = build ms (joined around keys)

abbrev pub first_key : List Key → Key
first_key [] = plain (ed25519 [])
first_key (k ∷ keys) = k

-- marks of a key put it on top of the keys that were built before
pub built : (k : Key) (ms : List Mark) (keys : List Key) → build (marks k ++ ms) keys ≡ build ms (k ∷ keys)
built (plain k) ms keys = refl
built (certificate nonce key says signer signature) ms keys =
    let m : Mark = inr (nonce, (says, signature)) in
    rw (append_assoc (marks key) (marks signer ++ (m ∷ [])) ms, append_assoc (marks signer) (m ∷ []) ms)
    (built key (marks signer ++ (m ∷ ms)) keys ∙ built signer (m ∷ ms) (key ∷ keys))

pub key_back : (k : Key) → first_key (build (marks k) []) ≡ k
key_back k = ap first_key (subst (λ (ms : List Mark). build ms [] ≡ k ∷ []) (append-nil (marks k)) (built k [] []))

abbrev pub key_code : Coded Key
key_code = code_by (List Mark) (coded_list mark_code) marks (λ ms. first_key (build ms [])) key_back
