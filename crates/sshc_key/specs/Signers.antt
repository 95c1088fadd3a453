-- What a signer's list of calls says.
use Rattle.std.specs.Prelude.{◌≡◌, ℕ, List, [], ◌∷◌, ◌++◌, length, drop, Option, Some, None, Result, Ok, Err, Vec}
use Rattle.std.specs.declared.alloc.Global.{Global}
use Rattle.sshc_wire.specs.declared.hash_alg.HashAlg.{HashAlg}
use Rattle.sshc_key.specs.declared.signer.Asker.{Asker}
use Rattle.sshc_key.specs.declared.signer.SignRefused.{SignRefused}
use Rattle.sshc_key.specs.declared.signer.SignRefused.TheVariants.{Refused, NoMemory}
use Rattle.sshc_key.specs.declared.signature.Signature.{Signature}
use Rattle.sshc_key.specs.KeyGrammar.{SignatureFits, signature_text}
use Rattle.sshc_key.specs.PairCode.{KeyPair}

-- the bytes are one signature of the grammar, with nothing after it
abbrev pub IsSignature : List ℕ → Type 0
IsSignature bytes = (s : Signature) × SignatureFits s × (bytes ≡ signature_text s)

-- a call of a signer that found memory: who asked, what was asked, and the answer, `None` where it refused
pub record SignCall : Type 0 where
  pub by : Asker
  pub key : KeyPair
  pub hash : Option HashAlg
  pub bytes : List ℕ
  pub answer : Option (List ℕ)

-- the call is kept behind those before it, with its answer; for out of memory nothing is kept
abbrev pub KeepsCall : List SignCall → List SignCall → Asker → KeyPair → Option HashAlg → List ℕ → Result (Vec ℕ Global) SignRefused → Type 0
KeepsCall old new by key hash bytes (Ok v) = new ≡ old ++ (record { by = by; key = key; hash = hash; bytes = bytes; answer = Some v.items }) ∷ []
KeepsCall old new by key hash bytes (Err Refused) = new ≡ old ++ (record { by = by; key = key; hash = hash; bytes = bytes; answer = None }) ∷ []
KeepsCall old new by key hash bytes (Err NoMemory) = new ≡ old

-- what the list gained
abbrev pub since : List SignCall → List SignCall → List SignCall
since old new = drop (length old) new
