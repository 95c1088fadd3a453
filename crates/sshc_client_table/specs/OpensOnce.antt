-- An open of ours is answered while it waits for its answer, with its own ticket, and then doesn't wait any more (RFC
-- 4254, section 5.1). Stated of each move and the records that it adds; so an open is answered at most once while its
-- channel exists.
use Rattle.std.specs.Prelude.{◌≡◌, ◌⊎◌, ℕ, Bool, false, List, Option, Some, None, ◌==◌}
use Rattle.std.specs.List.{AllByRecursion}
use Rattle.sshc_wire.specs.declared.record.Record.{Record}
use Rattle.sshc_wire.specs.declared.record.Record.TheVariants.{Resolved}
use Rattle.sshc_wire.specs.declared.resolution.Resolution.{Resolution}
use Rattle.sshc_wire.specs.declared.resolution.Resolution.TheVariants.{ChannelOpened, ChannelOpenFailed}
use Rattle.sshc_wire.specs.declared.ticket.Ticket.{Ticket}
use Rattle.sshc_mux.specs.ChannelState.{TableState}
use Rattle.sshc_mux.specs.ChannelAccount.{Call, IsLegal, OpenUser}
use Rattle.sshc_mux.specs.ChannelTable.Opens.{awaited, next_number}
use Rattle.sshc_auth.specs.Row.{resolved}
use Rattle.sshc_client_table.specs.SessionState.{SessionState}
use Rattle.sshc_client_table.specs.Moves.{Move, after, deed_of, or_none}

-- the answer to an open under this number
pub data AnswersOpen : ℕ → Resolution → Type 0 where
  Opened : {id : ℕ} → AnswersOpen id (ChannelOpened (record { 0 = id }))
  Failed : {id : ℕ} → (reason : _) → AnswersOpen id (ChannelOpenFailed reason)

-- a record that answers no open
abbrev pub NoOpenAnswer : Record → Type 0
NoOpenAnswer (Resolved ticket (ChannelOpened id)) = ⊥
NoOpenAnswer (Resolved ticket (ChannelOpenFailed reason)) = ⊥
NoOpenAnswer output = Unit {0}

-- an open under this number waited, its own ticket is resolved, and it doesn't wait any more
pub record AnswersOne (s new : SessionState) (says : List Record) : Type 0 where
  pub id : ℕ
  pub ticket : Option Ticket
  pub resolution : Resolution
  pub waited : awaited id s.table ≡ Some ticket
  pub answers : AnswersOpen id resolution
  pub says_so : says ≡ resolved (or_none ticket) resolution
  pub waits : awaited id new.table ≡ None

-- a move answers no open, or one that waits
abbrev pub OpensAreAnsweredWhereTheyWait : Type 0
OpensAreAnsweredWhereTheyWait =
    (m : Move) (s : SessionState) → IsLegal s.table →
    AllByRecursion NoOpenAnswer (deed_of m s).says ⊎ AnswersOne s (after m s) (deed_of m s).says

-- the move opens a channel of ours under this number
abbrev pub is_number : ℕ → Option ℕ → Bool
is_number n None = false
is_number n (Some m) = m == n

abbrev pub call_opens : ℕ → Option Call → TableState → Bool
call_opens n (Some (OpenUser window packet ticket)) t = is_number n (next_number t)
call_opens n call t = false

-- if no open waits under a number, none does after a move that opens no channel under it
abbrev pub AnsweredStays : Type 0
AnsweredStays =
    (n : ℕ) (m : Move) (s : SessionState) → IsLegal s.table → awaited n s.table ≡ None →
    call_opens n (deed_of m s).call s.table ≡ false → awaited n (after m s).table ≡ None

-- An open is answered at most once while its channel exists: each answer is for one that waits, with its own ticket,
-- after which none waits; and none waits again until another open takes the number.
pub record OpensAreAnsweredOnce : Type 0 where
  pub waits : OpensAreAnsweredWhereTheyWait
  pub stays : AnsweredStays
