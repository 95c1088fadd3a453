-- What a call states of its answer without the calls of its line, which aren't known where threads share it: that it was
-- read from a record of one ticket, or that nothing was submitted.
use Rattle.std.specs.Prelude.{◌≡◌, ℕ, Bool, true, false, List, Option, Some, None, Result, Ok, Err}
use Rattle.sshc_wire.specs.Faults.{Rose}
use Rattle.sshc_wire.specs.declared.record.Record.{Record}
use Rattle.sshc_wire.specs.declared.ticket.Ticket.{Ticket}
use Rattle.sshc_auth.specs.declared.error.Error.{Error}
use Rattle.sshc_auth.specs.declared.error.Error.TheVariants.{NoMemory, RecvError, SendError}
use Rattle.sshc_auth.specs.declared.auth_result.AuthResult.{AuthResult}
use Rattle.sshc_handle_tickets.specs.Answers.{auth_answer, reply_answer}
use Rattle.sshc_handle_tickets.specs.Tickets.{is_of}
use Rattle.sshc_handle_calls.specs.declared.with_error.WithError.{WithError}
use Rattle.sshc_handle_calls.specs.declared.with_error.WithError.TheVariants.{Session, Signer}
use Rattle.sshc_handle_calls.specs.Lines.{IsDeclined}

-- the answer is what a reader reads from a record that names the ticket
pub record IsRead {A : Type 0} (reads : Record → Option (Result A Error)) (ticket : Ticket) (answer : Result A Error) : Type 0 where
  pub output : Record
  pub of_ticket : is_of ticket.0 output ≡ true
  pub is_answer : reads output ≡ Some answer

-- an answer was read for some ticket, or nothing was submitted
abbrev pub Answers : {A : Type 0} → (Record → Option (Result A Error)) → Result A Error → Type 0
Answers reads (Err NoMemory) = Unit {0}
Answers reads (Err SendError) = Unit {0}
Answers reads answer = (ticket : Ticket) × IsRead reads ticket answer

-- the same of responses to prompts
abbrev pub AnswersPrompts : {A : Type 0} → (Record → Option (Result A Error)) → Result A Error → Type 0
AnswersPrompts reads (Err RecvError) = Unit {0}
AnswersPrompts reads answer = Answers reads answer

-- a global request of the user's own: if an answer is asked for, one that was read; else `None`
abbrev pub Replies : Bool → Result (Option (List ℕ)) Error → Type 0
Replies true (Ok None) = ⊥
Replies true (Ok (Some body)) = Answers reply_answer (Ok body)
Replies true (Err e) = Answers reply_answer (Err e)
Replies false (Ok body) = body ≡ None
Replies false (Err e) = IsDeclined e

-- ---- with a signer or an authenticator of the caller's, whose error comes only where its count of refusals rose

abbrev pub FailsWith : {E : Type 0} → ℕ → ℕ → WithError E → Type 0
FailsWith before now (Signer e) = Rose before now
FailsWith before now (Session e) = IsDeclined e

abbrev pub AnswersWith : {E : Type 0} → ℕ → ℕ → Result AuthResult (WithError E) → Type 0
AnswersWith before now (Ok answer) = Answers auth_answer (Ok answer)
AnswersWith before now (Err (Signer e)) = Rose before now
AnswersWith before now (Err (Session e)) = Answers auth_answer (Err e)
