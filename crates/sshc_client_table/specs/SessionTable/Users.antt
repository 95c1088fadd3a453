-- Rows of what the user asks of an open session. While an exchange runs they are out of turn.
use Rattle.std.specs.Prelude.{ℕ, Bool, true, false, List, [], ◌∷◌, is_some, Result, Ok, Err, if◌then◌else◌}
use Rattle.sshc_wire.specs.declared.channel_open_failure.ChannelOpenFailure.{ChannelOpenFailure}
use Rattle.sshc_wire.specs.declared.resolution.Resolution.TheVariants.{Dropped, ExtInfoSeen, HostKeysProved}
use Rattle.sshc_wire.specs.declared.ticket.Ticket.{Ticket}
use Rattle.sshc_key.specs.KeyGrammar.{Key}
use Rattle.sshc_auth_event.specs.declared.channel_msg.ChannelMsg.{ChannelMsg}
use Rattle.sshc_auth_event.specs.declared.channel_msg.ChannelMsg.TheVariants as msgs
use Rattle.sshc_auth_event.specs.declared.event.Event.{Event}
use Rattle.sshc_auth_event.specs.declared.event.Event.TheVariants as events
use Rattle.sshc_auth.specs.declared.ended.Ended.TheVariants as ended
use Rattle.sshc_auth.specs.declared.error.Error.TheVariants.{OutOfTurn}
use Rattle.sshc_auth.specs.OpeningTable.User.{is_seen, sig_algs_answer}
use Rattle.sshc_mux.specs.declared.chunk.Stream.TheVariants.{Data, Extended}
use Rattle.sshc_mux.specs.ChannelTable.Opens.{unsettled_at}
use Rattle.sshc_client_packets.specs.declared.channel_request.TerminalSize.{TerminalSize}
use Rattle.sshc_client_packets.specs.ChannelOpens.{ChannelOpen, DirectStreamLocal, DirectTcpIp, Session, X11 as X11Open}
use Rattle.sshc_client_packets.specs.ChannelRequests.{AgentForward, Env, Exec, PtyReq, Shell, Signal, Subsystem, WindowChange, X11}
use Rattle.sshc_client_table.specs.Messages.{asked_ticket, CancelForward, CancelForwardSocket, Forward, ForwardSocket, KeepAlive, NoMore, OwnRequest, Ping, Prove}
use Rattle.sshc_client_table.specs.SessionState.{SessionState, exchanging}
use Rattle.sshc_client_table.specs.Moves.{Accepts, Asks, Begins, Closes, Disconnects, EndsBytes, Grants, Move, Opens, Rejects, RequestsOn, Resolves, Sends}
use Rattle.sshc_client_table.specs.SessionRow.{SessionRow, ending, plain_row, refused}

abbrev pub opens : ChannelOpen → Ticket → List Move
opens asked ticket = Opens asked (asked_ticket ticket) ∷ []

abbrev pub size_of : ℕ → ℕ → ℕ → ℕ → TerminalSize
size_of columns rows width height =
    record { col_width = columns; row_height = rows; pix_width = width; pix_height = height }

-- what a program is asked or sent (RFC 4254, sections 6.4 to 6.9); what is only reported can't be asked
unfoldable pub program_moves : ℕ → ChannelMsg → List Move
program_moves id (msgs.SetEnv want_reply name value) = RequestsOn id (Env want_reply name value) ∷ []
program_moves id (msgs.RequestShell want_reply) = RequestsOn id (Shell want_reply) ∷ []
program_moves id (msgs.Exec want_reply command) = RequestsOn id (Exec want_reply command) ∷ []
program_moves id (msgs.Signal signal) = RequestsOn id (Signal signal) ∷ []
program_moves id (msgs.RequestSubsystem want_reply name) = RequestsOn id (Subsystem want_reply name) ∷ []
program_moves id msg = []

-- what the session is to forward: displays (RFC 4254, section 6.3.1), and the user's agent
unfoldable pub forwarded_moves : ℕ → ChannelMsg → List Move
forwarded_moves id (msgs.RequestX11 want_reply single protocol cookie screen) =
    RequestsOn id (X11 want_reply single protocol cookie screen) ∷ []
forwarded_moves id (msgs.AgentForward want_reply) = RequestsOn id (AgentForward want_reply) ∷ []
forwarded_moves id msg = program_moves id msg

-- terminals (RFC 4254, sections 6.2 and 6.7)
unfoldable pub terminal_moves : ℕ → ChannelMsg → List Move
terminal_moves id (msgs.RequestPty want_reply term columns rows width height modes) =
    RequestsOn id (PtyReq want_reply term (size_of columns rows width height) modes) ∷ []
terminal_moves id (msgs.WindowChange columns rows width height) =
    RequestsOn id (WindowChange (size_of columns rows width height)) ∷ []
terminal_moves id msg = forwarded_moves id msg

-- what is asked of a channel: bytes and ends, or a request
unfoldable pub channel_moves : ℕ → ChannelMsg → List Move
channel_moves id (msgs.Data body) = Sends id Data body ∷ []
channel_moves id (msgs.ExtendedData ext body) = Sends id (Extended ext) body ∷ []
channel_moves id msgs.Eof = EndsBytes id ∷ []
channel_moves id msgs.Close = Closes id ∷ []
channel_moves id msg = terminal_moves id msg

-- the user's answer to an open of the peer's that waits
abbrev pub settled_by : ℕ → Result (Unit {0}) ChannelOpenFailure → List Move
settled_by id (Ok u) = Accepts id ∷ Grants id 0 ∷ []
settled_by id (Err reason) = Rejects id reason ∷ []

abbrev pub reply_moves : SessionState → ℕ → Result (Unit {0}) ChannelOpenFailure → List Move
reply_moves s id result = if is_some (unsettled_at id s.table) then settled_by id result else []

-- host keys are proved by a reply of the server's; without keys there is nothing to prove
abbrev pub prove_moves : Ticket → List (Key × List ℕ) → List Move
prove_moves ticket [] = Resolves ticket HostKeysProved ∷ []
prove_moves ticket (key ∷ keys) = Asks (Prove ticket (key ∷ keys)) ∷ []

-- an extension isn't waited for in an open session
abbrev pub extension_moves : Bool → Ticket → List Move
extension_moves true ticket = Resolves ticket ExtInfoSeen ∷ []
extension_moves false ticket = Resolves ticket Dropped ∷ []

-- global requests (RFC 4254, section 4)
unfoldable pub global_moves : Event → List Move
global_moves (events.Keepalive want_reply) = Asks (KeepAlive want_reply) ∷ []
global_moves (events.Ping ticket) = Asks (Ping ticket) ∷ []
global_moves (events.NoMoreSessions want_reply) = Asks (NoMore want_reply) ∷ []
global_moves (events.SendGlobalRequest ticket name body) = Asks (OwnRequest ticket name body) ∷ []
global_moves event = []

-- forwards (RFC 4254, section 7.1; OpenSSH's PROTOCOL, section 2.4)
unfoldable pub forward_moves : Event → List Move
forward_moves (events.TcpIpForward ticket address port) = Asks (Forward ticket address port) ∷ []
forward_moves (events.CancelTcpIpForward ticket address port) = Asks (CancelForward ticket address port) ∷ []
forward_moves (events.StreamLocalForward ticket path) = Asks (ForwardSocket ticket path) ∷ []
forward_moves (events.CancelStreamLocalForward ticket path) = Asks (CancelForwardSocket ticket path) ∷ []
forward_moves event = global_moves event

-- opens of ours (RFC 4254, sections 5.1, 6.1, 6.3.2 and 7.2)
unfoldable pub open_moves : Event → List Move
open_moves (events.ChannelOpenSession ticket) = opens Session ticket
open_moves (events.ChannelOpenX11 ticket originator port) = opens (X11Open originator port) ticket
open_moves (events.ChannelOpenDirectTcpIp ticket host port originator originator_port) =
    opens (DirectTcpIp host port originator originator_port) ticket
open_moves (events.ChannelOpenDirectStreamLocal ticket path) = opens (DirectStreamLocal path) ticket
open_moves event = forward_moves event

-- what the user asks without ending the session
unfoldable pub user_moves : SessionState → Event → List Move
user_moves s (events.Authenticate ticket user method) = Resolves ticket Dropped ∷ []
user_moves s (events.Close id) = Closes id.0 ∷ []
user_moves s (events.Channel id msg) = channel_moves id.0 msg
user_moves s (events.ServerChannelOpenReply id result) = reply_moves s id.0 result
user_moves s events.Rekey = Begins ∷ []
user_moves s (events.AwaitExtensionInfo ticket name) = extension_moves (is_seen s.opening.seen name) ticket
user_moves s (events.GetServerSigAlgs ticket) = Resolves ticket (sig_algs_answer s.opening.sig_algs) ∷ []
user_moves s (events.HostKeysProve ticket keys) = prove_moves ticket keys
user_moves s event = open_moves event

-- the user disconnects, or no user is left; for everything else the session continues
unfoldable pub asked_row : SessionState → Event → SessionRow
asked_row s (events.Disconnect reason description language) =
    ending (Disconnects reason description language ∷ []) ended.Disconnected
asked_row s events.Gone = ending [] ended.Closed
asked_row s event = plain_row (user_moves s event)

unfoldable pub user_row : SessionState → Event → SessionRow
user_row s event = if exchanging s then refused OutOfTurn else asked_row s event
