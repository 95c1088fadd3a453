-- A computation that may ask the signer: it is done, or it asks and continues with the answer.
-- A tree of questions; the code calls the signer as it comes to each.
use Rattle.std.specs.Prelude.{◌≡◌, ℕ, List, [], ◌∷◌, Option}
use Rattle.sshc_key.specs.Signers.{SignCall}
use Rattle.sshc_wire.specs.declared.hash_alg.HashAlg.{HashAlg}
use Rattle.sshc_key.specs.declared.signer.Asker.{Asker}
use Rattle.sshc_key.specs.PairCode.{KeyPair}

-- what a signer is asked
pub record SignRequest : Type 0 where
  pub by : Asker
  pub key : KeyPair
  pub hash : Option HashAlg
  pub bytes : List ℕ

-- a signer's answer; `None` where it refused
abbrev pub Answer : Type 0
Answer = Option (List ℕ)

-- the entry of a call, once it has its answer
abbrev pub call_of : SignRequest → Answer → SignCall
call_of asked answer = record { by = asked.by; key = asked.key; hash = asked.hash; bytes = asked.bytes; answer = answer }

pub data Asking (A : Type 0) : Type 0 where
  done : A → Asking A
  asks : SignRequest → (Answer → Asking A) → Asking A

-- with these calls and their answers the computation has this result
abbrev pub Makes : {A : Type 0} → Asking A → List SignCall → A → Type 0
Makes (done y) [] x = y ≡ x
Makes (done y) (call ∷ calls) x = ⊥
Makes (asks asked on) [] x = ⊥
Makes (asks asked on) (call ∷ calls) x = (call ≡ call_of asked call.answer) × Makes (on call.answer) calls x

-- these are the first of the calls that it makes
abbrev pub MakesFirst : {A : Type 0} → Asking A → List SignCall → Type 0
MakesFirst (done y) [] = Unit {0}
MakesFirst (done y) (call ∷ calls) = ⊥
MakesFirst (asks asked on) [] = Unit {0}
MakesFirst (asks asked on) (call ∷ calls) = (call ≡ call_of asked call.answer) × MakesFirst (on call.answer) calls

-- it holds of whatever it comes to
abbrev pub Always : {A : Type 0} → (A → Type 0) → Asking A → Type 0
Always P (done x) = P x
Always P (asks asked on) = (answer : Answer) → Always P (on answer)

-- the same questions, and then this of what it comes to
abbrev pub asked_on : {A : Type 0} {B : Type 0} → (A → B) → Asking A → Asking B
asked_on f (done x) = done (f x)
asked_on f (asks asked on) = asks asked (λ answer. asked_on f (on answer))

-- the same questions, and then those of what it comes to
abbrev pub then_asks : {A : Type 0} {B : Type 0} → Asking A → (A → Asking B) → Asking B
then_asks (done x) f = f x
then_asks (asks asked on) f = asks asked (λ answer. then_asks (on answer) f)
