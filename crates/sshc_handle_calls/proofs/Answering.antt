-- What a call states of its answer without the calls of its line follows from what it states with them.
use Rattle.std.proofs.Common.{inl, inr, refl, ℕ, Bool, true, false, List, Option, Some, None, Result, Ok, Err}
use Rattle.std.specs.Prelude.{IfErr}
use Rattle.sshc_wire.specs.declared.record.Record.{Record}
use Rattle.sshc_wire.specs.declared.ticket.Ticket.{Ticket}
use Rattle.sshc_auth.specs.declared.error.Error.{Error}
use Rattle.sshc_auth.specs.declared.error.Error.TheVariants.{NoMemory, RecvError, SendError}
use Rattle.sshc_client.specs.declared.message.Msg.{Msg}
use Rattle.sshc_client.specs.declared.message.Msg.TheVariants.{SendGlobalRequest}
use Rattle.sshc_handle_tickets.specs.Answers.{reply_answer}
use Rattle.sshc_handle_messages.specs.Messages.{asked_ticket}
use Rattle.sshc_handle_calls.specs.Answering.{Answers, AnswersPrompts, Replies}
use Rattle.sshc_handle_calls.specs.Asking.{AnswersBy, Asked, Asks, Reads, Requests, Responds, RespondsBy, Tells, Told, none_of, some_of}
use Rattle.sshc_handle_calls.specs.Lines.{Calls, CannotRespond, IsDeclined, LineCall, submitted}

-- ---- answers, as a call states them that doesn't know the calls of its line

read_answers : {A : Type 0} (reads : Record → Option (Result A Error)) (ticket : Ticket) (old new : Calls) (answer : Result A Error)
    → Reads reads ticket old new answer → Answers reads answer
read_answers reads ticket old new (Err NoMemory) h = tt
read_answers reads ticket old new (Err SendError) h = tt
read_answers reads ticket old new answer h =
    (ticket, record { output = h.output; of_ticket = h.of_ticket; is_answer = h.is_answer })

declined_answers : {A : Type 0} (reads : Record → Option (Result A Error)) (e : Error) → IsDeclined e → Answers reads (Err e)
declined_answers reads NoMemory h = tt
declined_answers reads SendError h = tt
declined_answers reads e h = absurd h

given_answers : {A : Type 0} (reads : Record → Option (Result A Error)) (given : Result (Option Ticket) Error) (old new : Calls) (answer : Result A Error)
    → AnswersBy reads given old new answer → Answers reads answer
given_answers reads (Ok (Some ticket)) old new answer h = read_answers reads ticket old new answer h
given_answers reads (Ok None) old new answer h = absurd h
given_answers reads (Err e) old new answer h = rw h.1 (declined_answers reads e h.2)

pub answers_at_once : {A : Type 0} (reads : Record → Option (Result A Error)) (call : Result (Option Ticket) Error → LineCall) (old new : Calls) (answer : Result A Error)
    → Asked reads call old new answer → Answers reads answer
answers_at_once reads call old new answer h = given_answers reads h.given h.mid new answer h.answers

pub answers : {A : Type 0} (reads : Record → Option (Result A Error)) (call : Result (Option Ticket) Error → LineCall) (old new : Calls) (answer : Result A Error)
    → Asks reads call old new answer → Answers reads answer
answers reads call old new answer (inl h) = rw h.is_answer tt
answers reads call old new answer (inr h) = answers_at_once reads call old new answer h

pub declined_at_once : (msg : Msg) (old new : Calls) (answer : Result (Unit {0}) Error) → Told msg old new answer → IfErr answer IsDeclined
declined_at_once msg old new answer h = h.declined

pub declined : (msg : Msg) (old new : Calls) (answer : Result (Unit {0}) Error) → Tells msg old new answer → IfErr answer IsDeclined
declined msg old new answer (inl h) = rw h.is_answer tt
declined msg old new answer (inr h) = h.declined

-- ---- prompts

prompts_answered : {A : Type 0} (reads : Record → Option (Result A Error)) (answer : Result A Error) → Answers reads answer → AnswersPrompts reads answer
prompts_answered reads (Err RecvError) h = tt
prompts_answered reads answer h = h

cannot_respond : {A : Type 0} (reads : Record → Option (Result A Error)) (e : Error) → CannotRespond e → AnswersPrompts reads (Err e)
cannot_respond reads RecvError h = tt
cannot_respond reads NoMemory h = tt
cannot_respond reads SendError h = tt
cannot_respond reads e h = absurd h

given_prompts : {A : Type 0} (reads : Record → Option (Result A Error)) (given : Result Ticket Error) (old new : Calls) (answer : Result A Error)
    → RespondsBy reads given old new answer → AnswersPrompts reads answer
given_prompts reads (Ok ticket) old new answer h = prompts_answered reads answer (read_answers reads ticket old new answer h)
given_prompts reads (Err e) old new answer h = rw h.1 (cannot_respond reads e h.2)

pub answers_prompts : {A : Type 0} (reads : Record → Option (Result A Error)) (responses : List (List ℕ)) (old new : Calls) (answer : Result A Error)
    → Responds reads responses old new answer → AnswersPrompts reads answer
answers_prompts reads responses old new answer (inl h) = rw h.is_answer tt
answers_prompts reads responses old new answer (inr h) = given_prompts reads h.given h.mid new answer h.answers

-- ---- global requests

replies_asked : (reply : Result (List ℕ) Error) → Answers reply_answer reply → Replies true (some_of reply)
replies_asked (Ok body) h = h
replies_asked (Err e) h = h

replies_told : (told : Result (Unit {0}) Error) → IfErr told IsDeclined → Replies false (none_of told)
replies_told (Ok u) h = refl
replies_told (Err e) h = h

pub replies : (name body : List ℕ) (want_reply : Bool) (old new : Calls) (answer : Result (Option (List ℕ)) Error)
    → Requests name body want_reply old new answer → Replies want_reply answer
replies name body true old new answer (reply, asks, is) =
    rw is (replies_asked reply (answers reply_answer (submitted (SendGlobalRequest name body asked_ticket)) old new reply asks))
replies name body false old new answer (told, tells, is) =
    rw is (replies_told told (declined (SendGlobalRequest name body None) old new told tells))
