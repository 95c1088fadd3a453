-- The lines for the results of known hosts calls, and the status.
-- Each is one text and one number for a whole result; the code writes one line at a time.
use Rattle.std.specs.Prelude.{ℕ, Bool, true, false, List, [], ◌∷◌, ◌++◌, Result, Ok, Err, codes}
use Rattle.std.specs.List.{flat_map}
use Rattle.std.specs.Fmt.{decimal}
use Rattle.sshc_key.specs.Algorithms.{openssh_text}
use Rattle.sshc_key.specs.declared.error.Error.{Error}
use Rattle.sshc_key.specs.declared.error.Error.TheVariants.{CouldNotReadKey, NoHomeDir, KeyChanged, AgentProtocolError, AgentFailure, Decode, SshKey, SshEncoding, EnvVar, BadAuthSock, Utf8, ReadFault, WriteFault, UnexpectedEnd, NoMemory, Revoked}
use Rattle.sshc_hosts.specs.Judgement.{KnownKey}

-- the lines for a result, and the exit status
pub record Telling : Type 0 where
  pub lines : List ℕ
  pub status : ℕ

abbrev pub line_of : List ℕ → List ℕ
line_of text = text ++ 10 ∷ []

-- ---- errors

abbrev pub no_memory : List ℕ
no_memory = codes "no-memory"

-- the name of an error, with its line. The calls have none of the last eight errors; each is listed, so that a new error
-- has to be given a name
abbrev pub refusal_name : Error → List ℕ
refusal_name ReadFault = codes "known-file"
refusal_name Utf8 = codes "known-file"
refusal_name WriteFault = codes "known-write"
refusal_name (KeyChanged line) = codes "key-changed " ++ decimal line
refusal_name Decode = codes "decode"
refusal_name SshKey = codes "ssh-key"
refusal_name (Revoked line) = codes "revoked " ++ decimal line
refusal_name NoMemory = no_memory
refusal_name CouldNotReadKey = no_memory
refusal_name NoHomeDir = no_memory
refusal_name AgentProtocolError = no_memory
refusal_name AgentFailure = no_memory
refusal_name SshEncoding = no_memory
refusal_name EnvVar = no_memory
refusal_name BadAuthSock = no_memory
refusal_name UnexpectedEnd = no_memory

-- and its exit status
abbrev pub refusal_status : Error → ℕ
refusal_status ReadFault = 3
refusal_status Utf8 = 3
refusal_status WriteFault = 4
refusal_status (KeyChanged line) = 29
refusal_status Decode = 30
refusal_status SshKey = 31
refusal_status (Revoked line) = 42
refusal_status NoMemory = 20
refusal_status CouldNotReadKey = 20
refusal_status NoHomeDir = 20
refusal_status AgentProtocolError = 20
refusal_status AgentFailure = 20
refusal_status SshEncoding = 20
refusal_status EnvVar = 20
refusal_status BadAuthSock = 20
refusal_status UnexpectedEnd = 20

abbrev pub refusal_line : Error → List ℕ
refusal_line e = codes "error " ++ refusal_name e ++ 10 ∷ []

abbrev pub told_refusal : Error → Telling
told_refusal e = record { lines = refusal_line e; status = refusal_status e }

-- the argument KEY can't be read
abbrev pub told_key_fault : Telling
told_key_fault = record { lines = line_of (codes "error key"); status = 5 }

abbrev pub told_no_memory : Telling
told_no_memory = record { lines = line_of (codes "error no-memory"); status = 20 }

-- ---- results

-- of `hosts check`
abbrev pub told_verdict : Result Bool Error → Telling
told_verdict (Ok true) = record { lines = line_of (codes "known"); status = 0 }
told_verdict (Ok false) = record { lines = line_of (codes "unknown"); status = 1 }
told_verdict (Err e) = told_refusal e

-- the number of the line, a space, and the key as OpenSSH writes it with no comment: the algorithm's name, a space, the
-- base64 of the blob
abbrev pub key_line : KnownKey → List ℕ
key_line known = decimal known.0 ++ 32 ∷ openssh_text known.1.0 [] ++ 10 ∷ []

abbrev pub key_lines : List KnownKey → List ℕ
key_lines known = flat_map key_line known

-- of `hosts keys`: one line per key
abbrev pub told_keys : Result (List KnownKey) Error → Telling
told_keys (Ok known) = record { lines = key_lines known; status = 0 }
told_keys (Err e) = told_refusal e

-- of `hosts learn`
abbrev pub told_learning : Result (Unit {0}) Error → Telling
told_learning (Ok u) = record { lines = line_of (codes "learned"); status = 0 }
told_learning (Err e) = told_refusal e
