-- What the other submissions do, and how the end is reported.
use Rattle.std.specs.Prelude.{◌≡◌, ℕ, Bool, true, false, List, Option, Some, None, IsSome, Result, Ok, Err}
use Rattle.std.specs.List.{list_any}
use Rattle.sshc_wire.specs.declared.ticket.Ticket.{Ticket}
use Rattle.sshc_auth_event.specs.declared.event.Event.TheVariants.{AuthInfoResponse}
use Rattle.sshc_auth_event.specs.declared.method.Method.TheVariants.{KeyboardInteractive}
use Rattle.sshc_auth.specs.declared.ended.Ended.{Ended}
use Rattle.sshc_auth.specs.declared.error.Error.{Error}
use Rattle.sshc_auth.specs.declared.error.Error.TheVariants as errors
use Rattle.sshc_client.specs.declared.message.Msg.TheVariants.{Authenticate}
use Rattle.sshc_handle_tickets.specs.Tickets.{TicketState, is_ticket}
use Rattle.sshc_handle_state.specs.declared.end.End.{End}
use Rattle.sshc_handle_state.specs.declared.end.End.TheVariants as ends
use Rattle.sshc_handle_state.specs.HandleAt.{HandleAt, with_event, with_ticket}
use Rattle.sshc_handle_state.specs.Submitting.{Declines, IsFresh, Submits}

-- ---- the room for an event, and a ticket for its answer

abbrev pub Admits : Option End → Bool → TicketState → TicketState → Result (Option Ticket) Error → Type 0
Admits end asks old new (Ok (Some ticket)) = (end ≡ None) × (asks ≡ true) × IsFresh old ticket × (new ≡ with_ticket ticket old)
Admits end asks old new (Ok None) = (end ≡ None) × (asks ≡ false) × (new ≡ old)
Admits end asks old new (Err errors.SendError) = IsSome end × (new ≡ old)
Admits end asks old new (Err errors.NoMemory) = (end ≡ None) × (new ≡ old)
Admits end asks old new (Err e) = ⊥

-- ---- logins with prompts (RFC 4256)

-- the ticket is kept as the one that responses are for
abbrev pub kept_prompts : Result (Option Ticket) Error → HandleAt → HandleAt
kept_prompts (Ok (Some ticket)) s = record s { prompts = Some ticket }
kept_prompts result s = s

pub record PromptsAt (user submethods : List ℕ) (old new : HandleAt) (result : Result (Option Ticket) Error) : Type 0 where
  pub mid : HandleAt
  pub submits : Submits (Authenticate user (KeyboardInteractive submethods) (Some (record { 0 = 0 }))) old mid result
  pub kept : new ≡ kept_prompts result mid

-- the ticket that responses are for is open
abbrev pub is_asking : HandleAt → Option Ticket → Bool
is_asking s None = false
is_asking s (Some ticket) = list_any (is_ticket ticket.0) s.tickets.due

-- `SendError` if the session has ended; else `RecvError` if no such ticket is open, and then nothing is submitted
abbrev pub Responds : List (List ℕ) → HandleAt → HandleAt → Result Ticket Error → Type 0
Responds responses old new (Ok ticket) =
    (old.end ≡ None) × (old.prompts ≡ Some ticket) × (is_asking old old.prompts ≡ true) × (new ≡ with_event (AuthInfoResponse responses) old)
Responds responses old new (Err errors.RecvError) = (old.end ≡ None) × (is_asking old old.prompts ≡ false) × (new ≡ old)
Responds responses old new (Err e) = Declines old new e

-- ---- how the session has ended

abbrev pub TellsEnd : Option End → Result (Option Ended) Error → Type 0
TellsEnd end (Ok None) = end ≡ None
TellsEnd end (Ok (Some ended)) = end ≡ Some (ends.Ended ended)
TellsEnd end (Err errors.Disconnect) = end ≡ Some ends.Refused
TellsEnd end (Err errors.NoMemory) = (ended : Ended) × (end ≡ Some (ends.Ended ended))
TellsEnd end (Err e) = ⊥
