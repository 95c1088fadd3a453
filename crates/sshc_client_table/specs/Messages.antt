-- Global requests as a session makes them, each with what its reply is for (RFC 4254, section 4), and the records that
-- carry packets. A reply to a forward is wanted if there is a ticket for it, and a reply to a ping or a proof always.
use Rattle.std.specs.Prelude.{ℕ, Bool, true, not, List, [], ◌∷◌, Option, Some, None, ◌==◌, if◌then◌else◌}
use Rattle.sshc_wire.specs.declared.disconnect.Disconnect.{Disconnect}
use Rattle.sshc_wire.specs.declared.record.Record.{Record}
use Rattle.sshc_wire.specs.declared.record.Record.TheVariants.{Payload}
use Rattle.sshc_wire.specs.declared.ticket.Ticket.{Ticket}
use Rattle.sshc_key.specs.KeyGrammar.{Key}
use Rattle.sshc_auth.specs.OpeningState.{no_ticket}
use Rattle.sshc_auth_request.specs.RequestTexts.{disconnect}
use Rattle.sshc_client_packets.specs.GlobalRequests.{GlobalRequest, TcpIpForward, CancelTcpIpForward, StreamLocalForward, CancelStreamLocalForward, Keepalive, NoMoreSessions, HostKeysProve, Own}
use Rattle.sshc_client_packets.specs.Messages.{Message, Requests, message_text}
use Rattle.sshc_client_table.specs.declared.reply_entry.ReplyKind.{ReplyKind}
use Rattle.sshc_client_table.specs.declared.reply_entry.ReplyKind.TheVariants as kinds
use Rattle.sshc_client_table.specs.declared.reply_entry.ReplyEntry.{ReplyEntry}

-- what is asked of the server, and by whom
pub data Ask : Type 0 where
  Forward : (ticket : Ticket) → (address : List ℕ) → (port : ℕ) → Ask
  CancelForward : (ticket : Ticket) → (address : List ℕ) → (port : ℕ) → Ask
  ForwardSocket : (ticket : Ticket) → (path : List ℕ) → Ask
  CancelForwardSocket : (ticket : Ticket) → (path : List ℕ) → Ask
  KeepAlive : (want_reply : Bool) → Ask
  NoMore : (want_reply : Bool) → Ask
  Ping : (ticket : Ticket) → Ask
  Prove : (ticket : Ticket) → (keys : List (Key × List ℕ)) → Ask
  OwnRequest : (ticket : Ticket) → (name body : List ℕ) → Ask

abbrev pub request_of : Ask → GlobalRequest
request_of (Forward ticket address port) = TcpIpForward address port
request_of (CancelForward ticket address port) = CancelTcpIpForward address port
request_of (ForwardSocket ticket path) = StreamLocalForward path
request_of (CancelForwardSocket ticket path) = CancelStreamLocalForward path
request_of (KeepAlive want_reply) = Keepalive
request_of (NoMore want_reply) = NoMoreSessions
request_of (Ping ticket) = Keepalive
request_of (Prove ticket keys) = HostKeysProve keys
request_of (OwnRequest ticket name body) = Own name body

abbrev pub is_ticket : Ticket → Bool
is_ticket ticket = not (ticket.0 == 0)

abbrev pub wants_answer : Ask → Bool
wants_answer (Forward ticket address port) = is_ticket ticket
wants_answer (CancelForward ticket address port) = is_ticket ticket
wants_answer (ForwardSocket ticket path) = is_ticket ticket
wants_answer (CancelForwardSocket ticket path) = is_ticket ticket
wants_answer (KeepAlive want_reply) = want_reply
wants_answer (NoMore want_reply) = want_reply
wants_answer (Ping ticket) = true
wants_answer (Prove ticket keys) = true
wants_answer (OwnRequest ticket name body) = is_ticket ticket

-- ticket 0 means no ticket
abbrev pub asked_ticket : Ticket → Option Ticket
asked_ticket ticket = if ticket.0 == 0 then None else Some ticket

abbrev pub waits_for : ReplyKind → Ticket → ReplyEntry
waits_for kind ticket = record { kind = kind; ticket = asked_ticket ticket; keys = [] }

-- the entry of the queue
abbrev pub entry_of : Ask → ReplyEntry
entry_of (Forward ticket address port) = waits_for kinds.Forward ticket
entry_of (CancelForward ticket address port) = waits_for kinds.Done ticket
entry_of (ForwardSocket ticket path) = waits_for kinds.Done ticket
entry_of (CancelForwardSocket ticket path) = waits_for kinds.Done ticket
entry_of (KeepAlive want_reply) = waits_for kinds.Keepalive no_ticket
entry_of (NoMore want_reply) = waits_for kinds.NoMoreSessions no_ticket
entry_of (Ping ticket) = waits_for kinds.Ping ticket
entry_of (Prove ticket keys) = record { kind = kinds.Proof; ticket = asked_ticket ticket; keys = keys }
entry_of (OwnRequest ticket name body) = waits_for kinds.Own ticket

-- exactly the requests that want a reply wait for one
abbrev pub queued : Ask → List ReplyEntry
queued ask = if wants_answer ask then entry_of ask ∷ [] else []

-- a message as a record for the transport
abbrev pub sent : Message → List Record
sent message = Payload (message_text message) ∷ []

abbrev pub asking_message : Ask → Message
asking_message ask = Requests (wants_answer ask) (request_of ask)

-- the user's disconnection
abbrev pub disconnection : Disconnect → List ℕ → List ℕ → List Record
disconnection reason description language = Payload (disconnect reason description language) ∷ []
