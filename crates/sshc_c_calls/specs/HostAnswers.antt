-- What the calls on known hosts return to a caller in C: a status, and the number of a line.
-- By cases on the judgement; the statuses are those of the program (docs/FORMATS.md).
use Rattle.std.specs.Prelude.{◌≡◌, ◌⊎◌, ℕ, Bool, true, false, List, [], Option, Some, None, Result, Ok, Err}
use Rattle.sshc_key.specs.KeyGrammar.{Key}
use Rattle.sshc_key.specs.Nesting.{whole_blob_key}
use Rattle.sshc_key.specs.declared.error.Error.{Error}
use Rattle.sshc_key.specs.declared.error.Error.TheVariants as errors
use Rattle.sshc_hosts.specs.Acceptance.{IsAcceptedBy}
use Rattle.sshc_hosts.specs.Judgement.{judged}
use Rattle.sshc_hosts.specs.Learning.{learned}
use Rattle.sshc_hosts_openssh.specs.declared.judgement.HostStatus.{HostStatus}
use Rattle.sshc_hosts_openssh.specs.declared.judgement.HostStatus.TheVariants.{Known, Certified, Changed, Revoked, Unknown}
use Rattle.sshc_hosts_openssh.specs.Acceptance.{IsUnrevoked}
use Rattle.sshc_hosts_openssh.specs.HostStatus.{status_at}
use Rattle.sshc_hosts_openssh.specs.HostsField.{name_of}
use Rattle.sshc_c_calls.specs.declared.hosts.HostAnswer.{HostAnswer}
use Rattle.sshc_c_calls.specs.CopiedOut.{CopiedOut}

abbrev pub host_answer : ℕ → ℕ → HostAnswer
host_answer status line = record { status = status; line = line }

-- the answer for a judgement
abbrev pub answer_of : Result Bool Error → HostAnswer
answer_of (Ok true) = host_answer 0 0
answer_of (Ok false) = host_answer 1 0
answer_of (Err (errors.KeyChanged line)) = host_answer 29 line
answer_of (Err (errors.Revoked line)) = host_answer 42 line
answer_of (Err errors.Decode) = host_answer 30 0
answer_of (Err errors.NoMemory) = host_answer 20 0
answer_of (Err e) = host_answer 31 0

-- the answer for a blob, which may be no key
abbrev pub answer_for : List ℕ → List ℕ → Option Key → HostAnswer
answer_for text host None = host_answer 5 0
answer_for text host (Some key) = answer_of (judged text host key)

-- the answer for a status by OpenSSH's reading of known hosts
abbrev pub answer_of_status : HostStatus → HostAnswer
answer_of_status (Known line) = host_answer 0 0
answer_of_status (Certified line) = host_answer 0 0
answer_of_status (Changed line) = host_answer 29 line
answer_of_status (Revoked line) = host_answer 42 line
answer_of_status Unknown = host_answer 1 0

-- the answer for a blob, which may be no key; a certificate is judged by the key that it certifies
abbrev pub openssh_answer : List ℕ → List ℕ → ℕ → Option Key → HostAnswer
openssh_answer text host port None = host_answer 5 0
openssh_answer text host port (Some key) = answer_of_status (status_at text host port key false)

-- memory ran out, or this is the answer
abbrev pub IsAnswer : HostAnswer → HostAnswer → Type 0
IsAnswer answer given = (given ≡ host_answer 20 0) ⊎ (given ≡ answer)

-- the blob is a key's, and the text accepts the key
pub record IsKnown (text host blob : List ℕ) : Type 0 where
  pub key : Key
  pub is : whole_blob_key blob ≡ Some key
  pub accepted : IsAcceptedBy text host key

-- the blob is a key's, and no line revokes the key by OpenSSH's reading
pub record IsUnrevokedBlob (text host : List ℕ) (port : ℕ) (blob : List ℕ) : Type 0 where
  pub key : Key
  pub is : whole_blob_key blob ≡ Some key
  pub unrevoked : IsUnrevoked text (name_of host port) key

-- what a call that learns the key of a blob does: the text to be added is copied out
abbrev pub LearnsFor : List ℕ → List ℕ → Option Key → List ℕ → List ℕ → ℕ → ℕ → Type 0
LearnsFor text host None before after size status = (status ≡ 5) × (after ≡ before)
LearnsFor text host (Some key) before after size status = CopiedOut (learned text host (key, [])) before after size status
