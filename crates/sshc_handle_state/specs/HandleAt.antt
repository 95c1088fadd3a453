-- What the threads of a handle share, as plain data.
use Rattle.std.specs.Prelude.{ℕ, Bool, false, List, [], ◌∷◌, ◌++◌, Option, Some, None, map}
use Rattle.sshc_wire.specs.declared.channel_id.ChannelId.{ChannelId}
use Rattle.sshc_wire.specs.declared.ticket.Ticket.{Ticket}
use Rattle.sshc_key.specs.declared.agent.AgentSessionBinding.{AgentSessionBinding}
use Rattle.sshc_auth_event.specs.declared.event.Event.{Event}
use Rattle.sshc_client_table.specs.SessionState.{SessionState}
use Rattle.sshc_client_state.specs.Start.{new_session}
use Rattle.sshc_client.specs.declared.config.Config.{Config}
use Rattle.sshc_client.specs.Configured.{session_settings_of, settings_of}
use Rattle.sshc_handle_tickets.specs.Tickets.{TicketState, dropped}
use Rattle.sshc_handle_state.specs.declared.end.End.{End}
use Rattle.sshc_handle_state.specs.declared.end.End.TheVariants.{Refused}
use Rattle.sshc_handle_state.specs.declared.timers.Timers.{Timers}

-- the events that no turn has taken yet, the oldest first, and how many more have room
pub record SubmittedAt : Type 0 where
  pub items : List Event
  pub room : ℕ

pub record HandleAt : Type 0 where
  pub session : SessionState
  pub submitted : List Event  -- the events that no turn has taken yet, the oldest first
  pub tickets : TicketState  -- the tickets whose answer is due, and the records that are held
  pub prompts : Option Ticket  -- the ticket of the login with prompts that was begun last
  pub binding : Option AgentSessionBinding  -- the first exchange's host key, session id and signature
  pub timers : Timers
  pub failed : Bool  -- a call of the transport has failed
  pub end : Option End  -- how the session has ended

abbrev pub no_tickets : TicketState
no_tickets = record { due = []; held = []; closed = []; last = 0 }

abbrev pub new_timers : Config → Timers
new_timers c = record { inactivity_timeout = c.inactivity_timeout; keepalive_interval = c.keepalive_interval; heard = None; beat = 0 }

-- a new session over a transport whose peer's version line is this; nothing is submitted, open or held
abbrev pub new_handle : Config → List ℕ → HandleAt
new_handle c sshid = record {
  session = new_session (session_settings_of c sshid) (settings_of c);
  submitted = [];
  tickets = no_tickets;
  prompts = None;
  binding = None;
  timers = new_timers c;
  failed = false;
  end = None;
}

-- ---- submitting

-- a ticket is open, after the others in the list
abbrev pub with_ticket : Ticket → TicketState → TicketState
with_ticket ticket t = record t { due = t.due ++ ticket ∷ []; last = ticket.0 }

-- an event is submitted, after the others in the list
abbrev pub with_event : Event → HandleAt → HandleAt
with_event event s = record s { submitted = s.submitted ++ event ∷ [] }

-- ---- ending

-- each open ticket is resolved as dropped
abbrev pub all_dropped : TicketState → TicketState
all_dropped t = record t { due = []; held = t.held ++ map dropped t.due }

-- the session has ended so, and nobody waits for an answer any more
abbrev pub ended_with : End → HandleAt → HandleAt
ended_with end s = record s { tickets = all_dropped s.tickets; end = Some end }

-- no turn will be taken any more: a session that hasn't ended is refused
abbrev pub left_by : Option End → HandleAt → HandleAt
left_by None s = ended_with Refused s
left_by (Some end) s = s

abbrev pub left : HandleAt → HandleAt
left s = left_by s.end s
