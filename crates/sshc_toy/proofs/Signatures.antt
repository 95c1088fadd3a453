-- Two strings are a signature, if the name isn't a security key's, and short.
use Rattle.std.proofs.Common.{◌≡◌, ◌≤◌, ◌<◌, ◌+◌, ◌^◌, ◌&&◌, ℕ, Bool, true, false, not, List, [], ◌++◌, None, length, refl, sym, ap, ◌∙◌, subst, arith, lit<, length-append}
use Rattle.std.proofs.lemmas.Bool.{leb-true}
use Rattle.std.proofs.lemmas.List.{append-nil}
use Rattle.std.specs.Prelude.{IsUtf8}
use Rattle.std.proofs.lemmas.Str.{is_utf8-from_IsUtf8}
use Rattle.sshc_wire.specs.Wire.{u32_text, string_text}
use Rattle.sshc_key.specs.declared.signature.Signature.{Signature}
use Rattle.sshc_key.specs.KeyGrammar.{begins_sk, signature_text}
use Rattle.sshc_key.specs.Signers.{IsSignature}
use Rattle.sshc_toy.specs.ToyPair.{can_sign}

both_not : (b c : Bool) → (not b && c) ≡ true → b ≡ false
both_not false c e = refl
both_not true c e = absurd cc

both_then : (b c : Bool) → (not b && c) ≡ true → c ≡ true
both_then false c e = e
both_then true c e = absurd cc

abbrev plain_signature : List ℕ → List ℕ → Signature
plain_signature name body = record { name = name; body = body; sk = None }

four : (n : ℕ) → length (u32_text n) ≡ 4
unfolding u32_text
four n = refl

string_length : (s : List ℕ) → length (string_text s) ≡ 4 + length s
unfolding string_text
string_length s = length-append (u32_text (length s)) s ∙ ap (λ (k : ℕ). k + length s) (four (length s))

signature_length : (name body : List ℕ) → length (signature_text (plain_signature name body)) ≡ length (string_text name) + length (string_text body)
signature_length name body = length-append (string_text name) (string_text body ++ []) ∙ ap (λ (t : List ℕ). length (string_text name) + length t) (append-nil (string_text body))

pub is_signature : (name body bytes : List ℕ) → can_sign name ≡ true → IsUtf8 name → length name < 2 ^ 32 → length body ≡ 20 → bytes ≡ signature_text (plain_signature name body) → IsSignature bytes
is_signature name body bytes signs utf8 short twenty written =
    (plain_signature name body, record { name = (short, is_utf8-from_IsUtf8 name utf8); body = small; sk = both_not (begins_sk name) _ signs }, written)
  where
    small : length body < 2 ^ 32
    small = subst (λ (n : ℕ). n < 2 ^ 32) (sym twenty) (lit< tt)

pub is_short : (name body bytes : List ℕ) → can_sign name ≡ true → length body ≡ 20 → bytes ≡ signature_text (plain_signature name body) → length bytes ≤ 65536
is_short name body bytes signs twenty written =
    let few = leb-true (length name) 64 (both_then (begins_sk name) _ signs) in
    let size = ap (λ (t : List ℕ). length t) written ∙ signature_length name body in
    omega (arith, few, size, twenty, string_length name, string_length body)
