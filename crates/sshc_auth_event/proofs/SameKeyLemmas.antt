-- Two blobs that can be read have the same bytes exactly if they encode the same key.
use Rattle.std.proofs.Common.{◌≡◌, ℕ, false, List, [], Option, Some, None, refl, sym, ap, subst, ◌∙◌}
use Rattle.std.specs.Prelude.{bytes_eq}
use Rattle.std.proofs.lemmas.Slice.Eq.{bytes_eq-Decides}
use Rattle.sshc_wire.specs.Wire.{IsBytes}
use Rattle.sshc_key.specs.KeyGrammar.{Key, plain, certificate}
use Rattle.sshc_key.specs.KeyLaws.{whole_key_is}
use Rattle.sshc_key.specs.Nesting.{whole_blob_key}
use Rattle.sshc_key.specs.declared.identity.PublicKeyOrCertificate.{PublicKeyOrCertificate}
use Rattle.sshc_key.specs.declared.identity.PublicKeyOrCertificate.TheVariants as identities
use Rattle.sshc_transport.specs.declared.exchange.ExchangeKey.{ExchangeKey}
use Rattle.sshc_transport.specs.declared.exchange.ExchangeKey.TheVariants as keys
use Rattle.sshc_auth_event.specs.HostKey.{TellsKeysApart, bare, certificate_identity, host_key, plain_identity}

-- a key has one text
same_text : (a b : List ℕ) → IsBytes a → IsBytes b → (k : Key) → whole_blob_key a ≡ Some k → whole_blob_key b ≡ Some k → a ≡ b
same_text a b bytes others k one other = ((whole_key_is a bytes k).0 one).text ∙ sym ((whole_key_is b others k).0 other).text

-- ---- plain keys

plain_of : (found : Option Key) (identity : PublicKeyOrCertificate) → plain_identity (bare found) ≡ Some identity → (k : Key) × (found ≡ Some k) × (identity ≡ identities.PublicKey (k, []) None)
plain_of None identity is = absurd cc
plain_of (Some (plain k)) identity is = (plain k, refl, cc)
plain_of (Some (certificate nonce key says signer signature)) identity is = absurd cc

-- an identity has one key
same_plain : (k other : Key) → identities.PublicKey (k, []) None ≡ identities.PublicKey (other, []) None → k ≡ other
same_plain k other is = let both : (k, []) ≡ (other, []) = cc in ap (λ (p : Key × List ℕ). p.0) both

pub plain_apart : (a b : List ℕ) → IsBytes a → IsBytes b → TellsKeysApart (bytes_eq a b) (keys.Key a) (keys.Key b)
plain_apart a b bytes others identity is = (
  (λ same. subst (λ (blob : List ℕ). plain_identity (bare (whole_blob_key blob)) ≡ Some identity) ((bytes_eq-Decides a b).0 same) is),
  (λ other.
      let one = plain_of (whole_blob_key a) identity is in
      let two = plain_of (whole_blob_key b) identity other in
      let same : one.0 ≡ two.0 = same_plain one.0 two.0 (sym one.2 ∙ two.2) in
      (bytes_eq-Decides a b).1 (same_text a b bytes others one.0 one.1 (two.1 ∙ ap Some (sym same)))),
)

-- ---- certificates

certificate_of : (found : Option Key) (identity : PublicKeyOrCertificate) → certificate_identity (bare found) ≡ Some identity → (k : Key) × (found ≡ Some k) × (identity ≡ identities.Certificate k)
certificate_of None identity is = absurd cc
certificate_of (Some (plain k)) identity is = absurd cc
certificate_of (Some (certificate nonce key says signer signature)) identity is = (certificate nonce key says signer signature, refl, cc)

pub certificates_apart : (a b : List ℕ) → IsBytes a → IsBytes b → TellsKeysApart (bytes_eq a b) (keys.Certificate a) (keys.Certificate b)
certificates_apart a b bytes others identity is = (
  (λ same. subst (λ (blob : List ℕ). certificate_identity (bare (whole_blob_key blob)) ≡ Some identity) ((bytes_eq-Decides a b).0 same) is),
  (λ other.
      let one = certificate_of (whole_blob_key a) identity is in
      let two = certificate_of (whole_blob_key b) identity other in
      let same : one.0 ≡ two.0 = cc in
      (bytes_eq-Decides a b).1 (same_text a b bytes others one.0 one.1 (two.1 ∙ ap Some (sym same)))),
)

-- ---- keys of different sorts

never_by : (kept key : ExchangeKey) → ((identity : PublicKeyOrCertificate) → host_key kept ≡ Some identity → host_key key ≡ Some identity → ⊥) → TellsKeysApart false kept key
never_by kept key never identity is = ((λ same. absurd cc), (λ other. absurd (never identity is other)))

pub missing_kept : (key : ExchangeKey) → TellsKeysApart false keys.Missing key
missing_kept key = never_by keys.Missing key (λ identity is other. cc)

pub missing_key : (kept : ExchangeKey) → TellsKeysApart false kept keys.Missing
missing_key kept = never_by kept keys.Missing (λ identity is other. cc)

sorts_apart : (a b : List ℕ) (identity : PublicKeyOrCertificate) → host_key (keys.Key a) ≡ Some identity → host_key (keys.Certificate b) ≡ Some identity → ⊥
sorts_apart a b identity one other =
    let first = plain_of (whole_blob_key a) identity one in
    let second = certificate_of (whole_blob_key b) identity other in
    let clash : identities.PublicKey (first.0, []) None ≡ identities.Certificate second.0 = sym first.2 ∙ second.2 in cc

pub plain_other : (a b : List ℕ) → TellsKeysApart false (keys.Key a) (keys.Certificate b)
plain_other a b = never_by (keys.Key a) (keys.Certificate b) (λ identity one other. sorts_apart a b identity one other)

pub certificate_other : (a b : List ℕ) → TellsKeysApart false (keys.Certificate a) (keys.Key b)
certificate_other a b = never_by (keys.Certificate a) (keys.Key b) (λ identity one other. sorts_apart b a identity other one)
