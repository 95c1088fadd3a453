-- A reply is judged to be a proof of host keys exactly if it is one.
use Rattle.std.proofs.Common.{◌≡◌, ℕ, Bool, true, false, cond, List, [], ◌∷◌, ◌++◌, Option, Some, None, Result, Ok, Err, length, refl, ap, subst, ◌∙◌}
use Rattle.sshc_wire.specs.FormatLaws.{behind_are_bytes}
use Rattle.sshc_wire.specs.PartsLaws.{strings}
use Rattle.sshc_wire.specs.Reads.{string_at}
use Rattle.sshc_wire.specs.Whole.{IsWhole, whole_at}
use Rattle.sshc_wire.specs.WholeLaws.{front_are_bytes, whole}
use Rattle.sshc_wire.specs.Wire.{IsBytes, IsShort, string_text, u32_text}
use Rattle.sshc_wire.specs.declared.error.WireError.{WireError}
use Rattle.sshc_wire.specs.declared.resolution.HostKeysFault.{HostKeysFault}
use Rattle.sshc_wire.specs.declared.resolution.HostKeysFault.TheVariants.{WrongServerSig}
use Rattle.sshc_key.specs.Algorithms.{signature_of, whole_signature}
use Rattle.sshc_key.specs.KeyGrammar.{Key, SignatureFits, signature_text}
use Rattle.sshc_key.specs.KeyLaws.Keys.{signatures}
use Rattle.sshc_key.specs.KeyReading.{signature_at}
use Rattle.sshc_key.specs.declared.error.Error.{Error}
use Rattle.sshc_key.specs.declared.error.Error.TheVariants.{SshKey}
use Rattle.sshc_key.specs.declared.signature.Signature.{Signature}
use Rattle.sshc_client_packets.specs.HostKeyProof.{Accepts, IsProof, JudgedIsProof, ends_judged, go_on, part_judged, proof_bytes, proof_judged, signature_judged}

-- ---- one signature

signature_whole : IsWhole signature_text SignatureFits (whole_at SshKey signature_at)
signature_whole = whole SshKey signatures

found : (r : Result Signature Error) (s : Signature) → signature_of r ≡ Some s → r ≡ Ok s
found (Ok t) s e = cc
found (Err d) s e = absurd cc

signature_is : (bytes : List ℕ) (s : Signature) → IsBytes bytes → whole_signature bytes ≡ Some s → (bytes ≡ signature_text s) × SignatureFits s
unfolding whole_signature
signature_is bytes s fits e = signature_whole.takes bytes s fits (found (whole_at SshKey signature_at bytes) s e)

signature_again : (s : Signature) → SignatureFits s → whole_signature (signature_text s) ≡ Some s
unfolding whole_signature
signature_again s fits = ap signature_of (signature_whole.again s fits)

-- a signature that is judged to be right
abbrev was_right : Bool → Result (Unit {0}) HostKeysFault
was_right b = cond b (Ok tt) (Err WrongServerSig)

accepted : (b : Bool) → was_right b ≡ Ok tt → b ≡ true
accepted true e = refl
accepted false e = absurd cc

right : (accepts : Signature → Bool) (o : Option Signature) → signature_judged accepts o ≡ Ok tt → (s : Signature) × (o ≡ Some s) × (accepts s ≡ true)
right accepts None e = absurd cc
right accepts (Some s) e = (s, refl, accepted (accepts s) e)

-- ---- the judgement of one part and what follows it

both_right : (a b : Result (Unit {0}) HostKeysFault) → go_on a b ≡ Ok tt → (a ≡ Ok tt) × (b ≡ Ok tt)
both_right (Ok u) b e = (refl, e)
both_right (Err f) b e = absurd cc

part_right : (r : Result (List ℕ × List ℕ) WireError) (judged rest : List ℕ → Result (Unit {0}) HostKeysFault) → part_judged r judged rest ≡ Ok tt
    → (part : List ℕ × List ℕ) × (r ≡ Ok part) × (judged part.0 ≡ Ok tt) × (rest part.1 ≡ Ok tt)
part_right (Ok part) judged rest e = let both = both_right (judged part.0) (rest part.1) e in (part, refl, both.0, both.1)
part_right (Err f) judged rest e = absurd cc

nothing_left : (reply : List ℕ) → ends_judged reply ≡ Ok tt → reply ≡ []
nothing_left [] e = refl
nothing_left (b ∷ reply) e = absurd cc

-- ---- both ways

string_bytes : (s rest : List ℕ) → IsBytes (string_text s ++ rest) → IsBytes s
unfolding string_text
string_bytes s rest fits = behind_are_bytes (u32_text (length s)) s (front_are_bytes (string_text s) rest fits)

is_proof : (accepts : Accepts) (session_id : List ℕ) (keys : List (Key × List ℕ)) (reply : List ℕ) → IsBytes reply → proof_judged accepts session_id keys reply ≡ Ok tt → IsProof accepts session_id keys reply
is_proof accepts session_id [] reply fits e = nothing_left reply e
is_proof accepts session_id (key ∷ keys) reply fits e =
    let p = part_right (string_at reply) _ _ e in
    let first = strings.takes reply p.0.0 p.0.1 fits p.1 in
    let all : IsBytes (string_text p.0.0 ++ p.0.1) = subst IsBytes first.0 fits in
    let s = right (accepts key.0 (proof_bytes session_id key.0)) (whole_signature p.0.0) p.2 in
    let sig = signature_is p.0.0 s.0 (string_bytes p.0.0 p.0.1 all) s.1 in (
      string_text p.0.0,
      p.0.1,
      first.0,
      (record {
        signature = s.0;
        fits = sig.1;
        short = subst IsShort sig.0 first.1;
        text = ap string_text sig.0;
        accepted = s.2;
      }),
      is_proof accepts session_id keys p.0.1 (behind_are_bytes (string_text p.0.0) p.0.1 all) p.3,
    )

is_judged : (accepts : Accepts) (session_id : List ℕ) (keys : List (Key × List ℕ)) (reply : List ℕ) → IsProof accepts session_id keys reply → proof_judged accepts session_id keys reply ≡ Ok tt
is_judged accepts session_id [] reply is = ap ends_judged is
is_judged accepts session_id (key ∷ keys) reply (part, rest, is, proves, more) =
    let read : string_at reply ≡ Ok (signature_text proves.signature, rest) =
    ap string_at (is ∙ ap (λ (p : List ℕ). p ++ rest) proves.text) ∙ strings.again (signature_text proves.signature) rest proves.short in
    rw (read, signature_again proves.signature proves.fits, proves.accepted) (is_judged accepts session_id keys rest more)

pub judged_is_proof : (accepts : Accepts) (session_id : List ℕ) (keys : List (Key × List ℕ)) (reply : List ℕ) → IsBytes reply → JudgedIsProof accepts session_id keys reply
judged_is_proof accepts session_id keys reply fits = ((λ e. is_proof accepts session_id keys reply fits e), (λ is. is_judged accepts session_id keys reply is))
