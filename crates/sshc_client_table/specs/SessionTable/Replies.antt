-- Rows of the replies to our global requests (RFC 4254, sections 4 and 7.1; OpenSSH's PROTOCOL, section 2.5). Each is
-- for the oldest request.
use Rattle.std.specs.Prelude.{ℕ, List, [], ◌∷◌, Option, Some, None, Result, Ok, Err}
use Rattle.sshc_wire.specs.declared.resolution.HostKeysFault.{HostKeysFault}
use Rattle.sshc_wire.specs.declared.resolution.Resolution.{Resolution}
use Rattle.sshc_wire.specs.declared.resolution.Resolution.TheVariants.{Denied, Done, ForwardPort, GlobalReply, HostKeysProved, HostKeysRefused, Pong}
use Rattle.sshc_key.specs.KeyGrammar.{Key}
use Rattle.sshc_client_packets.specs.HostKeyProof.{Accepts, proof_judged}
use Rattle.sshc_client_packets.specs.Replies.{forward_port, nothing_of}
use Rattle.sshc_client_table.specs.declared.reply_entry.ReplyKind.{ReplyKind}
use Rattle.sshc_client_table.specs.declared.reply_entry.ReplyKind.TheVariants as kinds
use Rattle.sshc_client_table.specs.declared.reply_entry.ReplyEntry.{ReplyEntry}
use Rattle.sshc_client_table.specs.SessionState.{SessionState}
use Rattle.sshc_client_table.specs.Moves.{Replied}
use Rattle.sshc_client_table.specs.SessionRow.{SessionRow, passed_over, plain_row, with_read}

abbrev pub replied_row : Option Resolution → SessionRow
replied_row resolution = plain_row (Replied resolution ∷ [])

-- no bytes may follow
abbrev pub bare_row : List ℕ → Option Resolution → SessionRow
bare_row body resolution = with_read (nothing_of body) (λ u. replied_row resolution)

-- a port that can't be read counts as a denial
abbrev pub port_answer : Option ℕ → Resolution
port_answer None = Denied
port_answer (Some port) = ForwardPort port

abbrev pub proof_answer : Result (Unit {0}) HostKeysFault → Resolution
proof_answer (Ok u) = HostKeysProved
proof_answer (Err fault) = HostKeysRefused fault

-- 81, by what was asked
abbrev pub success_of : Accepts → List ℕ → ReplyKind → List (Key × List ℕ) → List ℕ → SessionRow
success_of accepts session_id kinds.Forward keys body = replied_row (Some (port_answer (forward_port body)))
success_of accepts session_id kinds.Done keys body = bare_row body (Some Done)
success_of accepts session_id kinds.Ping keys body = bare_row body (Some Pong)
success_of accepts session_id kinds.Keepalive keys body = bare_row body None
success_of accepts session_id kinds.NoMoreSessions keys body = bare_row body None
success_of accepts session_id kinds.Proof keys body =
    replied_row (Some (proof_answer (proof_judged accepts session_id keys body)))
success_of accepts session_id kinds.Own keys body = replied_row (Some (GlobalReply body))

-- if no request waits, the reply isn't read
abbrev pub success_for : Accepts → List ℕ → List ReplyEntry → List ℕ → SessionRow
success_for accepts session_id [] body = passed_over
success_for accepts session_id (first ∷ replies) body = success_of accepts session_id first.kind first.keys body

unfoldable pub request_success_row : Accepts → SessionState → List ℕ → SessionRow
request_success_row accepts s body = success_for accepts s.opening.session_id s.replies body

-- 82: it answers a ping too, and a keepalive has no ticket to resolve
abbrev pub failure_of : ReplyKind → Option Resolution
failure_of kinds.Ping = Some Pong
failure_of kinds.Keepalive = None
failure_of kinds.NoMoreSessions = None
failure_of kind = Some Denied

abbrev pub failure_for : List ReplyEntry → SessionRow
failure_for [] = passed_over
failure_for (first ∷ replies) = replied_row (failure_of first.kind)

unfoldable pub request_failure_row : SessionState → List ℕ → SessionRow
request_failure_row s body = with_read (nothing_of body) (λ u. failure_for s.replies)
