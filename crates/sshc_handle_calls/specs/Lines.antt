-- The calls of a line to a session, as a list that grows at the end. A list that isn't known is `None`; the code keeps a
-- lock, which other threads take too.
use Rattle.std.specs.Prelude.{◌≡◌, ℕ, Bool, List, ◌++◌, map, is_some, Option, Result, Ok, Err}
use Rattle.std.specs.Option.{option_map}
use Rattle.sshc_wire.specs.declared.record.Record.{Record}
use Rattle.sshc_wire.specs.declared.ticket.Ticket.{Ticket}
use Rattle.sshc_auth.specs.declared.error.Error.{Error}
use Rattle.sshc_auth.specs.declared.error.Error.TheVariants.{NoMemory, RecvError, SendError}
use Rattle.sshc_client.specs.declared.message.Msg.{Msg}

-- what submissions return, and which record was taken for which ticket
pub data LineCall : Type 0 where
  submitted : Msg → Result (Option Ticket) Error → LineCall
  prompts_started : List ℕ → List ℕ → Result (Option Ticket) Error → LineCall
  responded : List (List ℕ) → Result Ticket Error → LineCall
  taken : Ticket → Record → LineCall

-- the calls of a line, if they are known
abbrev pub Calls : Type 0
Calls = Option (List LineCall)

-- with more calls at the end
abbrev pub gains : Calls → List LineCall → Calls
gains calls more = option_map (λ before. before ++ more) calls

-- these records of a ticket were taken, one after the other
abbrev pub takings : Ticket → List Record → List LineCall
takings ticket output = map (λ r. taken ticket r) output

-- ---- what a submission returns

-- nothing was submitted: the session had ended, or memory ran out
abbrev pub IsDeclined : Error → Type 0
IsDeclined NoMemory = Unit {0}
IsDeclined SendError = Unit {0}
IsDeclined e = ⊥

-- a submission returns a ticket if and only if an answer is asked for
abbrev pub Given : Bool → Result (Option Ticket) Error → Type 0
Given asks (Ok ticket) = is_some ticket ≡ asks
Given asks (Err e) = IsDeclined e

-- responses aren't submitted: no login with prompts waits for them, or nothing can be
abbrev pub CannotRespond : Error → Type 0
CannotRespond RecvError = Unit {0}
CannotRespond e = IsDeclined e
