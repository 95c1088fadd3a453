-- How a method of a handle reads its answer from a record of its ticket. Whatever a method waits for, a session that
-- ends first reads as `Disconnect`; a record that isn't an answer to it is passed over.
use Rattle.std.specs.Prelude.{ℕ, Bool, true, false, List, Option, Some, None, Result, Ok, Err, bytes_eq, codes, if◌then◌else◌}
use Rattle.std.specs.List.{list_any}
use Rattle.sshc_wire.specs.declared.hash_alg.HashAlg.{HashAlg}
use Rattle.sshc_wire.specs.declared.hash_alg.HashAlg.TheVariants as hashes
use Rattle.sshc_wire.specs.declared.auth_record.AuthRecord.TheVariants.{AuthInfoRequest}
use Rattle.sshc_wire.specs.declared.channel_id.ChannelId.{ChannelId}
use Rattle.sshc_wire.specs.declared.record.Record.{Record}
use Rattle.sshc_wire.specs.declared.record.Record.TheVariants.{Resolved, Auth}
use Rattle.sshc_wire.specs.declared.resolution.HostKeysFault.{HostKeysFault}
use Rattle.sshc_wire.specs.declared.resolution.HostKeysFault.TheVariants as faults
use Rattle.sshc_wire.specs.declared.resolution.Resolution.{Resolution}
use Rattle.sshc_wire.specs.declared.resolution.Resolution.TheVariants as output
use Rattle.sshc_auth.specs.declared.error.Error.{Error}
use Rattle.sshc_auth.specs.declared.error.Error.TheVariants as errors
use Rattle.sshc_auth.specs.declared.auth_result.AuthResult.{AuthResult}
use Rattle.sshc_auth.specs.declared.auth_result.AuthResult.TheVariants as results
use Rattle.sshc_auth.specs.declared.keyboard_interactive.KeyboardInteractiveAuthResponse.{KeyboardInteractiveAuthResponse}
use Rattle.sshc_auth.specs.declared.keyboard_interactive.KeyboardInteractiveAuthResponse.TheVariants as responses

-- an answer, or `None` if the record isn't one of these
abbrev pub Answer : Type 0 → Type 0
Answer A = Option (Result A Error)

-- the resolution in a record, if it is one
abbrev pub resolution_in : Record → Option Resolution
resolution_in (Resolved ticket resolution) = Some resolution
resolution_in r = None

-- what is read of it
abbrev pub read_of : {A : Type 0} → (Resolution → Answer A) → Option Resolution → Answer A
read_of read None = None
read_of read (Some resolution) = read resolution

abbrev pub resolved : {A : Type 0} → (Resolution → Answer A) → Record → Answer A
resolved read r = read_of read (resolution_in r)

-- ---- logging in (RFC 4252, section 5.1)

abbrev pub auth_said : Resolution → Answer AuthResult
auth_said output.AuthSuccess = Some (Ok results.Success)
auth_said (output.AuthFailure remaining partial) = Some (Ok (results.Failure remaining partial))
auth_said output.Dropped = Some (Err errors.Disconnect)
auth_said resolution = None

abbrev pub auth_answer : Record → Answer AuthResult
auth_answer r = resolved auth_said r

abbrev pub prompt_said : Resolution → Answer KeyboardInteractiveAuthResponse
prompt_said output.AuthSuccess = Some (Ok responses.Success)
prompt_said (output.AuthFailure remaining partial) = Some (Ok (responses.Failure remaining partial))
prompt_said output.Dropped = Some (Err errors.Disconnect)
prompt_said resolution = None

-- prompts are an answer too (RFC 4256, section 3.2)
abbrev pub prompt_answer : Record → Answer KeyboardInteractiveAuthResponse
prompt_answer (Auth ticket (AuthInfoRequest name instructions prompts)) = Some (Ok (responses.InfoRequest name instructions prompts))
prompt_answer r = resolved prompt_said r

-- ---- channels and requests (RFC 4254)

abbrev pub open_said : Resolution → Answer ChannelId
open_said (output.ChannelOpened id) = Some (Ok id)
open_said (output.ChannelOpenFailed reason) = Some (Err (errors.ChannelOpenFailure reason))
open_said output.Dropped = Some (Err errors.Disconnect)
open_said resolution = None

abbrev pub open_answer : Record → Answer ChannelId
open_answer r = resolved open_said r

-- why host keys aren't proved
abbrev pub proof_error : HostKeysFault → Error
proof_error faults.SshEncoding = errors.SshEncoding
proof_error faults.WrongServerSig = errors.WrongServerSig

abbrev pub done_said : Resolution → Answer Unit
done_said output.Done = Some (Ok tt)
done_said output.Pong = Some (Ok tt)
done_said output.HostKeysProved = Some (Ok tt)
done_said output.Denied = Some (Err errors.RequestDenied)
done_said (output.HostKeysRefused fault) = Some (Err (proof_error fault))
done_said output.Dropped = Some (Err errors.Disconnect)
done_said resolution = None

abbrev pub done_answer : Record → Answer Unit
done_answer r = resolved done_said r

abbrev pub port_said : Resolution → Answer ℕ
port_said (output.ForwardPort port) = Some (Ok port)
port_said output.Denied = Some (Err errors.RequestDenied)
port_said output.Dropped = Some (Err errors.Disconnect)
port_said resolution = None

abbrev pub port_answer : Record → Answer ℕ
port_answer r = resolved port_said r

abbrev pub reply_said : Resolution → Answer (List ℕ)
reply_said (output.GlobalReply body) = Some (Ok body)
reply_said output.Denied = Some (Err errors.RequestDenied)
reply_said output.Dropped = Some (Err errors.Disconnect)
reply_said resolution = None

abbrev pub reply_answer : Record → Answer (List ℕ)
reply_answer r = resolved reply_said r

-- ---- the best hash for RSA (RFC 8332; RFC 8308, section 3.1)

abbrev pub has_name : List ℕ → List (List ℕ) → Bool
has_name name names = list_any (λ other. bytes_eq other name) names

-- by the list that the server announced: SHA-512 if it is named, else SHA-256, else `None`
abbrev pub best_hash : List (List ℕ) → Option HashAlg
best_hash names = if has_name (codes "rsa-sha2-512") names then Some hashes.Sha512 else if has_name (codes "rsa-sha2-256") names then Some hashes.Sha256 else None

-- without a list nothing is known
abbrev pub algs_said : Resolution → Answer (Option (Option HashAlg))
algs_said (output.SigAlgs true names) = Some (Ok (Some (best_hash names)))
algs_said (output.SigAlgs false names) = Some (Ok None)
algs_said output.Dropped = Some (Err errors.Disconnect)
algs_said resolution = None

abbrev pub algs_answer : Record → Answer (Option (Option HashAlg))
algs_answer r = resolved algs_said r
