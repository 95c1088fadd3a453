-- How a ticket is resolved is told by its record's text.
use Rattle.std.proofs.Common.{◌≡◌, ◌<◌, ◌^◌, [], Ok, refl}
use Rattle.sshc_wire.specs.CountedLaws.{boolean-again}
use Rattle.sshc_wire.specs.PartsLaws.{number32}
use Rattle.sshc_wire.specs.Reads.{byte_at}
use Rattle.sshc_wire.specs.Records.{resolution_text}
use Rattle.sshc_wire.specs.Wire.{bool_text, names_text}
use Rattle.sshc_wire.specs.declared.ticket.Ticket.{Ticket}
use Rattle.sshc_wire.specs.declared.resolution.HostKeysFault.TheVariants as proofs
use Rattle.sshc_wire.specs.declared.resolution.Resolution.{Resolution}
use Rattle.sshc_wire.specs.declared.resolution.Resolution.TheVariants as resolved
use Rattle.sshc_wire.specs.declared.record.Record.TheVariants.{Resolved}
use Rattle.sshc_wire.specs.Fitting.{FitsResolution}
use Rattle.sshc_wire.specs.RecordReads.{auth_failure_at, resolution_at, resolved_at, sig_algs_at}
use Rattle.sshc_wire.specs.Telling.{IsTold, record_of}
use Rattle.sshc_wire.proofs.TellingParts.{last_flag, last_number, last_reason, last_string}
use Rattle.sshc_wire.proofs.ToldNames.{again_methods, last_names}

resolution_told : (x : Resolution) → FitsResolution x → resolution_at (resolution_text x) ≡ Ok (x, [])
unfolding resolution_at byte_at auth_failure_at sig_algs_at
resolution_told resolved.AuthSuccess fits = refl
resolution_told (resolved.AuthFailure methods partial) fits = rw (again_methods methods (bool_text partial) fits, last_flag partial) refl
resolution_told resolved.ExtInfoSeen fits = refl
resolution_told (resolved.SigAlgs known names) fits = rw (boolean-again known (names_text names), last_names names fits) refl
resolution_told (resolved.ChannelOpened id) fits = rw (last_number id.0 fits) refl
resolution_told (resolved.ChannelOpenFailed reason) fits = rw (last_reason reason) refl
resolution_told (resolved.ForwardPort port) fits = rw (last_number port fits) refl
resolution_told resolved.Done fits = refl
resolution_told resolved.Denied fits = refl
resolution_told resolved.Pong fits = refl
resolution_told resolved.HostKeysProved fits = refl
resolution_told (resolved.HostKeysRefused proofs.SshEncoding) fits = refl
resolution_told (resolved.HostKeysRefused proofs.WrongServerSig) fits = refl
resolution_told (resolved.GlobalReply body) fits = rw (last_string body fits) refl
resolution_told resolved.Dropped fits = refl

pub resolved_told : (ticket : Ticket) (x : Resolution) → ticket.0 < 2 ^ 32 → FitsResolution x → IsTold (Resolved ticket x)
unfolding record_of resolved_at
resolved_told ticket x small fits = rw (number32.again ticket.0 (resolution_text x) small, resolution_told x fits) refl
