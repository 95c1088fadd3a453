-- Proof of host keys (OpenSSH's PROTOCOL, section 2.5): the reply to `hostkeys-prove-00@openssh.com` has one signature
-- for each key, in order, over the session id and the key's blob, and no bytes after them. A relation on the whole
-- reply, and the judgement of a reply: the first part that fails decides. The code reads and verifies key by key.
use Rattle.std.specs.Prelude.{◌≡◌, ◌↔◌, ℕ, Bool, true, List, [], ◌∷◌, ◌++◌, codes, Option, Some, None, Result, Ok, Err, if◌then◌else◌}
use Rattle.sshc_wire.specs.Reads.{string_at}
use Rattle.sshc_wire.specs.Wire.{IsShort, string_text}
use Rattle.sshc_wire.specs.declared.error.WireError.{WireError}
use Rattle.sshc_wire.specs.declared.resolution.HostKeysFault.{HostKeysFault}
use Rattle.sshc_wire.specs.declared.resolution.HostKeysFault.TheVariants.{SshEncoding, WrongServerSig}
use Rattle.sshc_key.specs.Algorithms.{whole_signature}
use Rattle.sshc_key.specs.KeyGrammar.{Key, SignatureFits, key_text, signature_text}
use Rattle.sshc_key.specs.declared.signature.Signature.{Signature}

-- which signatures are a key's over bytes
abbrev pub Accepts : Type 0
Accepts = Key → List ℕ → Signature → Bool

-- the bytes that each key signs: the request's name, the session id, the key's blob
unfoldable pub proof_bytes : List ℕ → Key → List ℕ
proof_bytes session_id key =
    string_text (codes "hostkeys-prove-00@openssh.com") ++ string_text session_id ++ string_text (key_text key)

-- ---- the relation

-- these bytes are a string that holds one whole signature, which is the key's
pub record Proves (accepts : Accepts) (session_id : List ℕ) (key : Key) (part : List ℕ) : Type 0 where
  pub signature : Signature
  pub fits : SignatureFits signature
  pub short : IsShort (signature_text signature)
  pub text : part ≡ string_text (signature_text signature)
  pub accepted : accepts key (proof_bytes session_id key) signature ≡ true

-- one such part for each key, in order, and no bytes after them
abbrev pub IsProof : Accepts → List ℕ → List (Key × List ℕ) → List ℕ → Type 0
IsProof accepts session_id [] reply = reply ≡ []
IsProof accepts session_id (key ∷ keys) reply =
    (part rest : List ℕ) × (reply ≡ part ++ rest) × Proves accepts session_id key.0 part × IsProof accepts session_id keys rest

-- ---- what a reply is judged to be

-- a signature that isn't the key's is WrongServerSig; bytes that aren't a signature are SshEncoding
abbrev pub signature_judged : (Signature → Bool) → Option Signature → Result (Unit {0}) HostKeysFault
signature_judged accepts None = Err SshEncoding
signature_judged accepts (Some signature) = if accepts signature then Ok tt else Err WrongServerSig

abbrev pub go_on : Result (Unit {0}) HostKeysFault → Result (Unit {0}) HostKeysFault → Result (Unit {0}) HostKeysFault
go_on (Ok u) rest = rest
go_on (Err e) rest = Err e

-- the string at the front, and then what follows it
abbrev pub part_judged :
    Result (List ℕ × List ℕ) WireError → (List ℕ → Result (Unit {0}) HostKeysFault) → (List ℕ → Result (Unit {0}) HostKeysFault) → Result (Unit {0}) HostKeysFault
part_judged (Ok part) judged rest = go_on (judged part.0) (rest part.1)
part_judged (Err e) judged rest = Err SshEncoding

abbrev pub ends_judged : List ℕ → Result (Unit {0}) HostKeysFault
ends_judged [] = Ok tt
ends_judged (b ∷ reply) = Err SshEncoding

abbrev pub proof_judged : Accepts → List ℕ → List (Key × List ℕ) → List ℕ → Result (Unit {0}) HostKeysFault
proof_judged accepts session_id [] reply = ends_judged reply
proof_judged accepts session_id (key ∷ keys) reply =
    part_judged (string_at reply)
    (λ part. signature_judged (accepts key.0 (proof_bytes session_id key.0)) (whole_signature part))
    (λ rest. proof_judged accepts session_id keys rest)

-- a reply is judged to be a proof exactly if it is one
abbrev pub JudgedIsProof : Accepts → List ℕ → List (Key × List ℕ) → List ℕ → Type 0
JudgedIsProof accepts session_id keys reply =
    (proof_judged accepts session_id keys reply ≡ Ok tt) ↔ IsProof accepts session_id keys reply
