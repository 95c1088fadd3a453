-- Rows of the peer's requests, on a channel and of us as a whole (RFC 4254, sections 4, 5.4, 6.8 and 6.10; OpenSSH's
-- PROTOCOL, section 2.5).
use Rattle.std.specs.Prelude.{ℕ, Bool, true, false, List, [], ◌∷◌}
use Rattle.sshc_wire.specs.declared.channel_record.ChannelRecord.TheVariants as happened
use Rattle.sshc_wire.specs.declared.record.Record.TheVariants.{HostKeysAnnounced as AnnouncedRecord}
use Rattle.sshc_mux.specs.ChannelTable.{is_established}
use Rattle.sshc_client_packets.specs.declared.peer_global.PeerGlobal.{PeerGlobal}
use Rattle.sshc_client_packets.specs.declared.peer_global.PeerGlobal.TheVariants as globals
use Rattle.sshc_client_packets.specs.declared.peer_request.PeerRequest.{PeerRequest}
use Rattle.sshc_client_packets.specs.declared.peer_request.PeerRequest.TheVariants as requests
use Rattle.sshc_client_packets.specs.ChannelPackets.{request_head_of}
use Rattle.sshc_client_packets.specs.PeerGlobals.{blobs_of, peer_global_of}
use Rattle.sshc_client_packets.specs.PeerRequests.{peer_request_of}
use Rattle.sshc_client_table.specs.SessionState.{SessionState}
use Rattle.sshc_client_table.specs.Moves.{Answers, AnswersOn, Hears, Move, Tells}
use Rattle.sshc_client_table.specs.SessionRow.{HostKeysAnnounced, SessionRow, asking, established_row, plain_row, reports, with_kept, with_read}

-- a reply, if one is wanted
abbrev pub if_wanted : Bool → Move → List Move
if_wanted true move = move ∷ []
if_wanted false move = []

-- a keepalive succeeds, and an unknown request fails; the others never get a reply
abbrev pub requested_row : ℕ → PeerRequest → SessionRow
requested_row id (requests.XonXoff can_do) = reports [] id (happened.XonXoff can_do) []
requested_row id (requests.ExitStatus status) = reports [] id (happened.ExitStatus status) []
requested_row id (requests.ExitSignal signal dumped message language) =
    reports [] id (happened.ExitSignal signal dumped message language) []
requested_row id (requests.Keepalive want_reply) = plain_row (if_wanted want_reply (AnswersOn id true))
requested_row id (requests.Unknown want_reply) = plain_row (if_wanted want_reply (AnswersOn id false))

-- 98: number and name are read first; on a channel that isn't established the rest isn't read
unfoldable pub channel_request_row : SessionState → List ℕ → SessionRow
channel_request_row s body =
    with_read (request_head_of body) (λ head.
    established_row (is_established head.id.0 s.table)
    (with_kept (peer_request_of head.name head.rest) (λ request. requested_row head.id.0 request)))

-- 80: announced host keys are reported, and count as heard; they never get a reply
abbrev pub asked_row : PeerGlobal → SessionRow
asked_row (globals.Keepalive want_reply) = plain_row (if_wanted want_reply (Answers true))
asked_row (globals.HostKeys keys) =
    asking (Hears ∷ []) (HostKeysAnnounced keys) (Tells (AnnouncedRecord (blobs_of keys)) ∷ [])
asked_row (globals.Unknown want_reply) = plain_row (if_wanted want_reply (Answers false))

unfoldable pub global_request_row : List ℕ → SessionRow
global_request_row body = with_kept (peer_global_of body) asked_row
