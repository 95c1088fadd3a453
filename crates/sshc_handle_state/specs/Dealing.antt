-- What is done with the records of a step: packets are passed to the transport and exchanges begun in their order;
-- answers, and what happened on channels, are held. Once a call of the transport has failed nothing more is passed to
-- it. The code takes one record after the other.
use Rattle.std.specs.Prelude.{◌≡◌, ◌≤◌, Bool, true, false, List, [], ◌∷◌, ◌++◌, Option, Result, Ok, Err}
use Rattle.std.specs.List.{flat_map}
use Rattle.std.specs.Option.{option_map}
use Rattle.sshc_wire.specs.Faults.{Rose}
use Rattle.sshc_wire.specs.declared.error.NoMemory.{NoMemory as RanOut}
use Rattle.sshc_wire.specs.declared.record.Record.{Record}
use Rattle.sshc_wire.specs.declared.record.Record.TheVariants.{Auth, BeginExchange, Channel, Payload, Resolved}
use Rattle.sshc_transport.specs.Transports.{Handing, exchange_begun, payload}
use Rattle.sshc_handle_tickets.specs.Tickets.{TicketState, closed_behind, due_behind, opened_by}
use Rattle.sshc_handle_state.specs.Picking.{LinkAt}

-- ---- records that are held

-- answers to a ticket, what a login asks, and what happened on a channel
abbrev pub held_behind : Record → List Record → List Record
held_behind (Resolved ticket resolution) held = held ++ Resolved ticket resolution ∷ []
held_behind (Auth ticket asked) held = held ++ Auth ticket asked ∷ []
held_behind (Channel id happened) held = held ++ Channel id happened ∷ []
held_behind output held = held

-- an answer settles its ticket; a channel that opens no longer counts as closed
abbrev pub dealt : Record → TicketState → TicketState
dealt output t = record t { due = due_behind output t.due; held = held_behind output t.held; closed = closed_behind (opened_by output) t.closed }

unfoldable pub dealt_all : List Record → TicketState → TicketState
dealt_all [] t = t
dealt_all (output ∷ records) t = dealt_all records (dealt output t)

-- ---- calls of the transport

abbrev pub handing_of : Record → List Handing
handing_of (Payload packet) = payload packet ∷ []
handing_of BeginExchange = exchange_begun ∷ []
handing_of output = []

abbrev pub handings : List Record → List Handing
handings records = flat_map handing_of records

-- more at the end, if the list is known
abbrev pub gains_all : Option (List Handing) → List Handing → Option (List Handing)
gains_all handed more = option_map (λ before. before ++ more) handed

-- by whether a call of the transport had failed before, and has failed now: all was passed on, or what came before the
-- call that failed, or nothing
abbrev pub HandsOn : List Handing → Bool → Bool → Option (List Handing) → Option (List Handing) → Type 0
HandsOn due true failed old new = (failed ≡ true) × (new ≡ old)
HandsOn due false false old new = new ≡ gains_all old due
HandsOn due false true old new =
    (front : List Handing) × (next : Handing) × (rest : List Handing) × (due ≡ front ++ next ∷ rest) × (new ≡ gains_all old front)

-- the flag and the transport, before and after
pub record Hands (due : List Handing) (failed_before failed_now : Bool) (was is : LinkAt) : Type 0 where
  pub handed : HandsOn due failed_before failed_now was.handed is.handed
  pub answers : is.answers ≡ was.answers
  pub later : was.faults ≤ is.faults
  -- a call fails only where the count of faults rose
  pub cause : failed_before ≡ false → failed_now ≡ true → Rose was.faults is.faults

-- ---- both

pub record Deals (records : List Record) (failed_before failed_now : Bool) (old new : TicketState) (was is : LinkAt) : Type 0 where
  pub tickets : new ≡ dealt_all records old
  pub hands : Hands (handings records) failed_before failed_now was is

-- of all records; if memory ran out, of those that came before
pub record DealsFront (records : List Record) (failed_before failed_now : Bool) (old new : TicketState) (was is : LinkAt) : Type 0 where
  pub front : List Record
  pub rest : List Record
  pub parts : records ≡ front ++ rest
  pub deals : Deals front failed_before failed_now old new was is

abbrev pub DealsBy : List Record → Bool → Bool → TicketState → TicketState → LinkAt → LinkAt → Result (Unit {0}) RanOut → Type 0
DealsBy records failed_before failed_now old new was is (Ok u) = Deals records failed_before failed_now old new was is
DealsBy records failed_before failed_now old new was is (Err e) = DealsFront records failed_before failed_now old new was is

-- of the first record, which is let go; nothing where there is none, or where memory ran out
abbrev pub DealsFirst : List Record → List Record → Bool → Bool → TicketState → TicketState → LinkAt → LinkAt → Result Bool RanOut → Type 0
DealsFirst records left failed_before failed_now old new was is (Ok true) =
    (output : Record) × (records ≡ output ∷ left) × Deals (output ∷ []) failed_before failed_now old new was is
DealsFirst records left failed_before failed_now old new was is (Ok false) = (records ≡ []) × Deals [] failed_before failed_now old new was is
DealsFirst records left failed_before failed_now old new was is (Err e) = Deals [] failed_before failed_now old new was is
