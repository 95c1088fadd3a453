-- What a submission and a poll state of their results, without the value under the lock.
use Rattle.std.proofs.Common.{◌≡◌, refl, ℕ, Bool, true, false, List, [], ◌∷◌, Option, Some, None, Result, Ok, Err, sym}
use Rattle.std.proofs.lemmas.Bool.{eq-eqb}
use Rattle.std.specs.Prelude.{IfErr, if◌then◌else◌, nat_eq}
use Rattle.sshc_wire.specs.declared.ticket.Ticket.{Ticket}
use Rattle.sshc_auth_event.specs.declared.event.Event.{Event}
use Rattle.sshc_auth_event.specs.declared.method.Method.TheVariants.{KeyboardInteractive}
use Rattle.sshc_auth.specs.declared.ended.Ended.{Ended}
use Rattle.sshc_auth.specs.declared.error.Error.{Error}
use Rattle.sshc_auth.specs.declared.error.Error.TheVariants.{Disconnect, NoMemory, RecvError, SendError}
use Rattle.sshc_client.specs.declared.message.Msg.{Msg}
use Rattle.sshc_client.specs.declared.message.Msg.TheVariants.{Authenticate}
use Rattle.sshc_handle_tickets.specs.Tickets.{first_of}
use Rattle.sshc_handle_state.specs.declared.end.End.{End}
use Rattle.sshc_handle_state.specs.Asked.{PromptsAt, Responds, TellsEnd}
use Rattle.sshc_handle_state.specs.HandleAt.{HandleAt}
use Rattle.sshc_handle_state.specs.Submission.{asks_answer}
use Rattle.sshc_handle_state.specs.Submitting.{Declines, Submits, SubmitsEvent}
use Rattle.sshc_handle_calls.specs.Lines.{CannotRespond, Given, IsDeclined}
use Rattle.sshc_handle.specs.Answering.{IsEndError}

-- ---- records of a ticket

passes_by : {A : Type 0} (test : A → Bool) (y x : A) (rest : Option A) (b : Bool)
    → test y ≡ b → (rest ≡ Some x → test x ≡ true) → (if b then Some y else rest) ≡ Some x → test x ≡ true
passes_by test y x rest true is later found = cc
passes_by test y x rest false is later found = later found

-- the first that passes a test passes it
pub first_passes : {A : Type 0} (test : A → Bool) (xs : List A) (x : A) → first_of test xs ≡ Some x → test x ≡ true
unfolding first_of
first_passes test [] x found = cc
first_passes test (y ∷ ys) x found = passes_by test y x (first_of test ys) (test y) refl (first_passes test ys x) found

pub own_number : (n : ℕ) → nat_eq n n ≡ true
own_number n = eq-eqb n n refl

-- ---- submissions

declined : (old new : HandleAt) (e : Error) → Declines old new e → IsDeclined e
declined old new SendError h = tt
declined old new NoMemory h = tt
declined old new e h = absurd h

pub given : (msg : Msg) (old new : HandleAt) (result : Result (Option Ticket) Error)
    → Submits msg old new result → Given (asks_answer msg) result
given msg old new (Ok (Some ticket)) h = sym h.1
given msg old new (Ok None) h = sym h.1
given msg old new (Err e) h = declined old new e h

pub prompts_given : (user submethods : List ℕ) (old new : HandleAt) (result : Result (Option Ticket) Error)
    → PromptsAt user submethods old new result → Given true result
prompts_given user submethods old new result h =
    given (Authenticate user (KeyboardInteractive submethods) (Some (record { 0 = 0 }))) old h.mid result h.submits

pub event_declined : (event : Event) (old new : HandleAt) (result : Result (Unit {0}) Error)
    → SubmitsEvent event old new result → IfErr result IsDeclined
event_declined event old new (Ok u) h = tt
event_declined event old new (Err e) h = declined old new e h

pub responded : (responses : List (List ℕ)) (old new : HandleAt) (result : Result Ticket Error)
    → Responds responses old new result → IfErr result CannotRespond
responded responses old new (Ok ticket) h = tt
responded responses old new (Err RecvError) h = tt
responded responses old new (Err SendError) h = tt
responded responses old new (Err NoMemory) h = tt
responded responses old new (Err e) h = absurd h

pub told_end : (end : Option End) (result : Result (Option Ended) Error) → TellsEnd end result → IfErr result IsEndError
told_end end (Ok ended) h = tt
told_end end (Err Disconnect) h = tt
told_end end (Err NoMemory) h = tt
told_end end (Err e) h = absurd h
