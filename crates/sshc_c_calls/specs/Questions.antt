-- What a step of an agent asks to be signed, as a caller in C gets it.
use Rattle.std.specs.Prelude.{◌≡◌, ◌⊎◌, ℕ, [], Option, Some, None}
use Rattle.sshc_wire.specs.declared.hash_alg.HashAlg.{HashAlg}
use Rattle.sshc_wire.specs.declared.hash_alg.HashAlg.TheVariants as hashes
use Rattle.sshc_key.specs.Asking.{SignRequest}
use Rattle.sshc_key.specs.KeyGrammar.{key_text}
use Rattle.sshc_key.specs.PairGrammar.{key_pair_text}
use Rattle.sshc_agent_core.specs.declared.input.AgentInput.{AgentInput}
use Rattle.sshc_agent_core.specs.AgentList.{AgentList}
use Rattle.sshc_agent_core.specs.Asked.{asked_of}
use Rattle.sshc_agent_core.specs.declared.signing.SignQuestion.{SignQuestion}
use Rattle.sshc_c_calls.specs.declared.question.Question.{Question}

-- no hash, SHA-256, SHA-512
abbrev pub hash_number : Option HashAlg → ℕ
hash_number None = 0
hash_number (Some hashes.Sha256) = 1
hash_number (Some hashes.Sha512) = 2

-- the question's parts are those of the request: the hash, the bytes to sign, the public key's blob, and the pair as
-- ADD_IDENTITY has it
pub record IsQuestion (asked : SignRequest) (question : Question) : Type 0 where
  pub hash : question.hash ≡ hash_number asked.hash
  pub bytes : question.bytes ≡ asked.bytes
  pub key : question.key ≡ key_text asked.key.public.0
  pub pair : question.pair ≡ key_pair_text asked.key

-- the same of what the core asks
pub record HasParts (asked : SignQuestion) (question : Question) : Type 0 where
  pub hash : question.hash ≡ hash_number asked.hash
  pub bytes : question.bytes ≡ asked.bytes.now
  pub key : question.key ≡ key_text asked.key.now.public.0
  pub pair : question.pair ≡ key_pair_text asked.key.now

-- no question
abbrev pub HasNoParts : Question → Type 0
HasNoParts question = (question.hash ≡ 0) × (question.bytes ≡ []) × (question.key ≡ []) × (question.pair ≡ [])

-- what a call returns that asks for the question of an input: 6 if there is none, 12 with its parts, 4 if the number names
-- no input, 20 if memory ran out; the question before is gone
abbrev pub AsksRequest : Option SignRequest → Question → ℕ → Type 0
AsksRequest None question status = (status ≡ 6) × HasNoParts question
AsksRequest (Some asked) question status = ((status ≡ 20) × HasNoParts question) ⊎ ((status ≡ 12) × IsQuestion asked question)

abbrev pub AsksNumber : ℕ → ℕ → Option AgentInput → AgentList → Question → ℕ → Type 0
AsksNumber now conn None list question status = (status ≡ 4) × HasNoParts question
AsksNumber now conn (Some input) list question status = ((status ≡ 20) × HasNoParts question) ⊎ AsksRequest (asked_of now conn input list) question status
