-- What a call of a handle does with its line, and what it returns: it submits its own message, once, and returns what
-- the records of its own ticket say. Stated by relations between the line's calls before and after; the code waits.
use Rattle.std.specs.Prelude.{◌≡◌, ◌⊎◌, ℕ, Bool, true, false, List, [], ◌∷◌, Option, Some, None, Result, Ok, Err, All}
use Rattle.std.specs.Result.{IfErr}
use Rattle.sshc_wire.specs.declared.record.Record.{Record}
use Rattle.sshc_wire.specs.declared.ticket.Ticket.{Ticket}
use Rattle.sshc_auth.specs.declared.error.Error.{Error}
use Rattle.sshc_auth.specs.declared.error.Error.TheVariants.{NoMemory}
use Rattle.sshc_client.specs.declared.message.Msg.{Msg}
use Rattle.sshc_client.specs.declared.message.Msg.TheVariants.{SendGlobalRequest}
use Rattle.sshc_handle_tickets.specs.Answers.{reply_answer}
use Rattle.sshc_handle_tickets.specs.Tickets.{is_of}
use Rattle.sshc_handle_messages.specs.Messages.{asked_ticket}
use Rattle.sshc_handle_calls.specs.Lines.{Calls, CannotRespond, IsDeclined, LineCall, gains, responded, submitted, taken, takings}

-- ---- records of one ticket

-- records of the ticket were taken that the reader doesn't read
pub record Passes {A : Type 0} (reads : Record → Option (Result A Error)) (ticket : Ticket) (old new : Calls) : Type 0 where
  pub passed : List Record
  pub unread : All (λ output. reads output ≡ None) passed
  pub calls : new ≡ gains old (takings ticket passed)

-- records of the ticket were taken until the reader read one, which is the answer
pub record Reads {A : Type 0} (reads : Record → Option (Result A Error)) (ticket : Ticket) (old new : Calls) (answer : Result A Error) : Type 0 where
  pub mid : Calls
  pub passes : Passes reads ticket old mid
  pub output : Record
  pub call : new ≡ gains mid (taken ticket output ∷ [])
  pub of_ticket : is_of ticket.0 output ≡ true
  pub is_answer : reads output ≡ Some answer

-- ---- a message with an answer

-- by what the submission returned: its error, or what is read for its ticket
abbrev pub AnswersBy : {A : Type 0} → (Record → Option (Result A Error)) → Result (Option Ticket) Error → Calls → Calls → Result A Error → Type 0
AnswersBy reads (Ok (Some ticket)) old new answer = Reads reads ticket old new answer
AnswersBy reads (Ok None) old new answer = ⊥
AnswersBy reads (Err e) old new answer = (new ≡ old) × (answer ≡ Err e) × IsDeclined e

-- one submission, and the answer to it
pub record Asked {A : Type 0} (reads : Record → Option (Result A Error)) (call : Result (Option Ticket) Error → LineCall) (old new : Calls) (answer : Result A Error) : Type 0 where
  pub given : Result (Option Ticket) Error
  pub mid : Calls
  pub submits : mid ≡ gains old (call given ∷ [])
  pub answers : AnswersBy reads given mid new answer

-- memory ran out, and nothing was submitted
pub record RanOut {A : Type 0} (old new : Calls) (answer : Result A Error) : Type 0 where
  pub same : new ≡ old
  pub is_answer : answer ≡ Err NoMemory

abbrev pub Asks : {A : Type 0} → (Record → Option (Result A Error)) → (Result (Option Ticket) Error → LineCall) → Calls → Calls → Result A Error → Type 0
Asks reads call old new answer = RanOut old new answer ⊎ Asked reads call old new answer

-- ---- a message without an answer

-- a submission as a result without its ticket
abbrev pub without_ticket : Result (Option Ticket) Error → Result (Unit {0}) Error
without_ticket (Ok ticket) = Ok tt
without_ticket (Err e) = Err e

pub record Told (msg : Msg) (old new : Calls) (answer : Result (Unit {0}) Error) : Type 0 where
  pub given : Result (Option Ticket) Error
  pub submits : new ≡ gains old (submitted msg given ∷ [])
  pub is_answer : answer ≡ without_ticket given
  pub declined : IfErr answer IsDeclined

abbrev pub Tells : Msg → Calls → Calls → Result (Unit {0}) Error → Type 0
Tells msg old new answer = RanOut old new answer ⊎ Told msg old new answer

-- ---- responses to prompts (RFC 4256, section 3.4)

-- by what the submission returned: its error, or what is read for the ticket of the login that asked
abbrev pub RespondsBy : {A : Type 0} → (Record → Option (Result A Error)) → Result Ticket Error → Calls → Calls → Result A Error → Type 0
RespondsBy reads (Ok ticket) old new answer = Reads reads ticket old new answer
RespondsBy reads (Err e) old new answer = (new ≡ old) × (answer ≡ Err e) × CannotRespond e

pub record Responded {A : Type 0} (reads : Record → Option (Result A Error)) (responses : List (List ℕ)) (old new : Calls) (answer : Result A Error) : Type 0 where
  pub given : Result Ticket Error
  pub mid : Calls
  pub submits : mid ≡ gains old (responded responses given ∷ [])
  pub answers : RespondsBy reads given mid new answer

abbrev pub Responds : {A : Type 0} → (Record → Option (Result A Error)) → List (List ℕ) → Calls → Calls → Result A Error → Type 0
Responds reads responses old new answer = RanOut old new answer ⊎ Responded reads responses old new answer

-- ---- global requests of the user's own (RFC 4254, section 4)

abbrev pub some_of : Result (List ℕ) Error → Result (Option (List ℕ)) Error
some_of (Ok body) = Ok (Some body)
some_of (Err e) = Err e

abbrev pub none_of : Result (Unit {0}) Error → Result (Option (List ℕ)) Error
none_of (Ok u) = Ok None
none_of (Err e) = Err e

-- with an answer asked for or not
abbrev pub Requests : List ℕ → List ℕ → Bool → Calls → Calls → Result (Option (List ℕ)) Error → Type 0
Requests name body true old new answer =
    (reply : Result (List ℕ) Error) × Asks reply_answer (submitted (SendGlobalRequest name body asked_ticket)) old new reply × (answer ≡ some_of reply)
Requests name body false old new answer =
    (told : Result (Unit {0}) Error) × Tells (SendGlobalRequest name body None) old new told × (answer ≡ none_of told)
