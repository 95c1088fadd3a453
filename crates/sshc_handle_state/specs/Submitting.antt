-- What a submission does to what the threads share, by its result.
use Rattle.std.specs.Prelude.{◌≡◌, ◌+◌, Bool, true, false, length, Option, Some, None, IsSome, Result, Ok, Err}
use Rattle.sshc_wire.specs.declared.ticket.Ticket.{Ticket}
use Rattle.sshc_auth_event.specs.declared.event.Event.{Event}
use Rattle.sshc_auth.specs.declared.error.Error.{Error}
use Rattle.sshc_auth.specs.declared.error.Error.TheVariants.{NoMemory, RecvError, SendError}
use Rattle.sshc_client.specs.declared.message.Msg.{Msg}
use Rattle.sshc_handle_tickets.specs.Tickets.{TicketState, free_within}
use Rattle.sshc_handle_state.specs.HandleAt.{HandleAt, with_event, with_ticket}
use Rattle.sshc_handle_state.specs.Submission.{asks_answer, event_of}

-- the ticket is the first after the last one opened that is neither open nor named by a held record
abbrev pub IsFresh : TicketState → Ticket → Type 0
IsFresh t ticket = free_within (length t.due + length t.held + 1) t t.last ≡ Some ticket.0

-- with an event, if there is one, after the others
abbrev pub with_any : Option Event → HandleAt → HandleAt
with_any None s = s
with_any (Some event) s = with_event event s

-- if an answer is asked for, its ticket is open and the event has it
abbrev pub submitted_with : Ticket → Msg → HandleAt → HandleAt
submitted_with ticket msg s = with_any (event_of ticket msg) (record s { tickets = with_ticket ticket s.tickets })

-- if no answer is asked for; the ticket of the event is 0
abbrev pub submitted_without : Msg → HandleAt → HandleAt
submitted_without msg s = with_any (event_of (record { 0 = 0 }) msg) s

-- a refusal changes nothing: the session has ended, if and only if the error is `SendError`, or memory ran out
abbrev pub Declines : HandleAt → HandleAt → Error → Type 0
Declines old new SendError = IsSome old.end × (new ≡ old)
Declines old new NoMemory = (old.end ≡ None) × (new ≡ old)
Declines old new e = ⊥

-- an event that asks for no answer
abbrev pub SubmitsEvent : Event → HandleAt → HandleAt → Result (Unit {0}) Error → Type 0
SubmitsEvent event old new (Ok u) = (old.end ≡ None) × (new ≡ with_event event old)
SubmitsEvent event old new (Err e) = Declines old new e

-- a message
abbrev pub Submits : Msg → HandleAt → HandleAt → Result (Option Ticket) Error → Type 0
Submits msg old new (Ok (Some ticket)) =
    (old.end ≡ None) × (asks_answer msg ≡ true) × IsFresh old.tickets ticket × (new ≡ submitted_with ticket msg old)
Submits msg old new (Ok None) = (old.end ≡ None) × (asks_answer msg ≡ false) × (new ≡ submitted_without msg old)
Submits msg old new (Err e) = Declines old new e
