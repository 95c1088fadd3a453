-- What a login with a signer or an authenticator of the caller's states of its result, without the calls of its line.
use Rattle.std.proofs.Common.{arith, ◌≡◌, inl, inr, ◌≤◌, refl, true, ℕ, zero, suc, List, Option, Some, None, Result, Ok, Err}
use Rattle.std.specs.Prelude.{IfErr}
use Rattle.sshc_wire.specs.Faults.{Rose}
use Rattle.sshc_wire.specs.declared.auth_record.GssapiRecord.{GssapiRecord}
use Rattle.sshc_wire.specs.declared.auth_record.GssapiRecord.TheVariants as reports
use Rattle.sshc_wire.specs.declared.hash_alg.HashAlg.{HashAlg}
use Rattle.sshc_wire.specs.declared.record.Record.{Record}
use Rattle.sshc_wire.specs.declared.ticket.Ticket.{Ticket}
use Rattle.sshc_key.specs.declared.agent.AgentIdentity.{AgentIdentity}
use Rattle.sshc_auth.specs.declared.auth_result.AuthResult.{AuthResult}
use Rattle.sshc_auth.specs.declared.error.Error.{Error}
use Rattle.sshc_auth.specs.declared.error.Error.TheVariants.{NoMemory, SendError}
use Rattle.sshc_auth.specs.declared.gssapi.GssapiStep.{GssapiStep}
use Rattle.sshc_client.specs.declared.message.Msg.{Msg}
use Rattle.sshc_client.specs.declared.message.Msg.TheVariants as msgs
use Rattle.sshc_handle_tickets.specs.Answers.{auth_answer}
use Rattle.sshc_handle_tickets.specs.Tickets.{is_of}
use Rattle.sshc_handle_calls.specs.declared.with_error.WithError.{WithError}
use Rattle.sshc_handle_calls.specs.declared.with_error.WithError.TheVariants.{Session, Signer}
use Rattle.sshc_handle_calls.specs.Answering.{AnswersWith}
use Rattle.sshc_handle_calls.specs.Gssapi.{Authenticates, AuthenticatorAt, DealsBySteps, StepsAndTells, StepsBy, StepsFor, StepsIn, SteppingAt, SteppingRound, TellsStep, gssapi_said}
use Rattle.sshc_handle_calls.specs.Lines.{IsDeclined, LineCall}
use Rattle.sshc_handle_calls.specs.Rounds.{Rounds, Until, ended, going_on, read_by}
use Rattle.sshc_handle_calls.specs.Signing.{Deals, SignsAndTells, SignsBy, SignsIn, SigningAt, SigningRound, SubmitsFor, bytes_to_sign, first_error}

-- ---- counts of refusals

rose_earlier : (before mid now : ℕ) → before ≤ mid → Rose mid now → Rose before now
rose_earlier before mid now later rose = omega arith

earlier : {E : Type 0} (before mid now : ℕ) (result : Result AuthResult (WithError E)) → before ≤ mid → AnswersWith mid now result → AnswersWith before now result
earlier before mid now (Ok answer) later h = h
earlier before mid now (Err (Signer e)) later h = rose_earlier before mid now later h
earlier before mid now (Err (Session e)) later h = h

later_by : (a b c : ℕ) → a ≤ b → b ≤ c → a ≤ c
later_by a b c h k = omega arith

-- ---- results

err_none : {E : Type 0} (e : E) (msg : Option Msg) → Err e ≡ Ok msg → ⊥
err_none e msg is = cc

declined_with : (E : Type 0) (before now : ℕ) (e : Error) → IsDeclined e → AnswersWith {E = E} before now (Err (Session e))
declined_with E before now NoMemory h = tt
declined_with E before now SendError h = tt
declined_with E before now e h = absurd h

error_read : (E : Type 0) (before now : ℕ) (ticket : Ticket) (output : Record) → is_of ticket.0 output ≡ true → (e : Error) → auth_answer output ≡ Some (Err e)
    → AnswersWith {E = E} before now (Err (Session e))
error_read E before now ticket output of_ticket NoMemory found = tt
error_read E before now ticket output of_ticket SendError found = tt
error_read E before now ticket output of_ticket e found = (ticket, record { output = output; of_ticket = of_ticket; is_answer = found })

-- the result that a reader had of a record
read_with : {E : Type 0} (before now : ℕ) (ticket : Ticket) (output : Record) → is_of ticket.0 output ≡ true → (read : Option (Result AuthResult Error)) → auth_answer output ≡ read
    → (result : Result AuthResult (WithError E)) → ended result ≡ read_by read → AnswersWith before now result
read_with before now ticket output of_ticket None found (Ok answer) is = cc
read_with before now ticket output of_ticket None found (Err e) is = cc
read_with before now ticket output of_ticket (Some (Ok answer)) found (Ok other) is =
    (ticket, record { output = output; of_ticket = of_ticket; is_answer = cc })
read_with before now ticket output of_ticket (Some (Ok answer)) found (Err e) is = cc
read_with before now ticket output of_ticket (Some (Err e)) found (Ok answer) is = cc
read_with {E} before now ticket output of_ticket (Some (Err e)) found (Err other) is =
    let same : other ≡ Session e = cc in
    rw same (error_read E before now ticket output of_ticket e found)

-- ---- a signer

signed_with : {E : Type 0} (answer : Option (List ℕ)) (before now : ℕ) (msg : Msg) (e : WithError E) → SubmitsFor answer before now msg (Err e) → AnswersWith before now (Err e)
signed_with (Some signature) before now msgs.SignFailed (Session e) h = rw h tt
signed_with None before now msgs.SignFailed (Signer e) h = h
signed_with answer before now msg e h = absurd h

told_with : {E : Type 0} (answer : Option (List ℕ)) (before now : ℕ) (msg : Msg) (told : Result (Unit {0}) Error) → IfErr told IsDeclined
    → (signed : Result (Unit {0}) (WithError E)) → SubmitsFor answer before now msg signed
    → (e : WithError E) → Err e ≡ first_error signed told → AnswersWith before now (Err e)
told_with answer before now msg told declines (Err x) submits e is =
    let same : e ≡ x = cc in
    rw same (signed_with answer before now msg x submits)
told_with {E} answer before now msg (Err x) declines (Ok u) submits e is =
    let same : e ≡ Session x = cc in
    rw same (declined_with E before now x declines)
told_with answer before now msg (Ok v) declines (Ok u) submits e is = cc

signs_and_tells : {E : Type 0} (key : AgentIdentity) (hash : Option HashAlg) (bytes : List ℕ) (was is : SigningAt) (signed : Result (Unit {0}) (WithError E))
    → SignsAndTells key hash bytes was is signed → (result : Result AuthResult (WithError E)) → ended result ≡ going_on signed
    → AnswersWith was.signer.refusals is.signer.refusals result
signs_and_tells key hash bytes was is (Ok u) h (Ok answer) same = cc
signs_and_tells key hash bytes was is (Ok u) h (Err e) same = cc
signs_and_tells key hash bytes was is (Err x) h (Ok answer) same = cc
signs_and_tells key hash bytes was is (Err x) h (Err e) same =
    let equal : e ≡ x = cc in
    told_with h.signs.answer was.signer.refusals is.signer.refusals h.msg h.told h.tells.declined h.signed h.signs.submits e (rw equal h.is_result)

deals_with : {E : Type 0} (key : AgentIdentity) (hash : Option HashAlg) (ticket : Ticket) (output : Record) → is_of ticket.0 output ≡ true
    → (asked : Option (List ℕ)) (was is : SigningAt) (result : Result AuthResult (WithError E)) → Deals key hash output asked was is (ended result)
    → AnswersWith was.signer.refusals is.signer.refusals result
deals_with key hash ticket output of_ticket (Some bytes) was is result (signed, h, same) = signs_and_tells key hash bytes was is signed h result same
deals_with key hash ticket output of_ticket None was is result (same, is_result) =
    read_with was.signer.refusals is.signer.refusals ticket output of_ticket (auth_answer output) refl result is_result

deals_later : {E : Type 0} (key : AgentIdentity) (hash : Option HashAlg) (output : Record) (asked : Option (List ℕ)) (was is : SigningAt) (result : Result (Option AuthResult) (WithError E))
    → Deals key hash output asked was is result → was.signer.refusals ≤ is.signer.refusals
deals_later key hash output (Some bytes) was is result (signed, h, same) = h.signs.later
deals_later key hash output None was is result (same, is_result) = rw same (omega arith)

rounds_later : (E : Type 0) (key : AgentIdentity) (hash : Option HashAlg) (ticket : Ticket) (n : ℕ) (was is : SigningAt)
    → Rounds (λ a b. SigningRound {E = E} key hash ticket a b (Ok None)) n was is → was.signer.refusals ≤ is.signer.refusals
unfolding Rounds
rounds_later E key hash ticket zero was is same = rw same (omega arith)
rounds_later E key hash ticket (suc n) was is (mid, before, round) =
    later_by was.signer.refusals mid.signer.refusals is.signer.refusals
    (rounds_later E key hash ticket n was mid before)
    (deals_later key hash round.output (bytes_to_sign round.output) (record mid { line = round.line }) is (Ok None) round.deals)

until_with : {E : Type 0} (key : AgentIdentity) (hash : Option HashAlg) (ticket : Ticket) (was is : SigningAt) (result : Result AuthResult (WithError E))
    → Until (SigningRound key hash ticket) was is result → AnswersWith was.signer.refusals is.signer.refusals result
until_with {E} key hash ticket was is result h =
    earlier was.signer.refusals h.mid.signer.refusals is.signer.refusals result
    (rounds_later E key hash ticket h.rounds was h.mid h.before)
    (deals_with key hash ticket h.last.output h.last.of_ticket (bytes_to_sign h.last.output) (record (h.mid) { line = h.last.line }) is result h.last.deals)

signs_by : {E : Type 0} (key : AgentIdentity) (hash : Option HashAlg) (given : Result (Option Ticket) Error) (was is : SigningAt) (result : Result AuthResult (WithError E))
    → SignsBy key hash given was is result → AnswersWith was.signer.refusals is.signer.refusals result
signs_by key hash (Ok (Some ticket)) was is result h = until_with key hash ticket was is result h
signs_by key hash (Ok None) was is result h = absurd h
signs_by {E} key hash (Err e) was is result h = rw h.1 (declined_with E was.signer.refusals is.signer.refusals e h.2)

pub answers_with : {E : Type 0} (key : AgentIdentity) (hash : Option HashAlg) (call : Result (Option Ticket) Error → LineCall) (was is : SigningAt) (result : Result AuthResult (WithError E))
    → SignsIn key hash call was is result → AnswersWith was.signer.refusals is.signer.refusals result
answers_with key hash call was is result (inl h) = rw h.1 tt
answers_with key hash call was is result (inr h) = signs_by key hash h.given (record was { line = h.line }) is result h.signs

-- ---- an authenticator

steps_later : {E : Type 0} (report : GssapiRecord) (was is : AuthenticatorAt) (made : Result (Option Msg) E) → Authenticates report was is made → was.refusals ≤ is.refusals
steps_later (reports.Response mechanism mic_data) was is made h = h.later
steps_later (reports.Token token mic_data) was is made h = h.later
steps_later (reports.Error major_status minor_status message) was is made h = h.later
steps_later (reports.ErrorToken token) was is made h = h.later

step_refused : {E : Type 0} (answer : Option GssapiStep) (before now : ℕ) (e : E) → StepsFor answer before now (Err e) → Rose before now
step_refused (Some step) before now e h = absurd h
step_refused None before now e h = h

refused : {E : Type 0} (report : GssapiRecord) (was is : AuthenticatorAt) (e : E) → Authenticates report was is (Err e) → Rose was.refusals is.refusals
refused (reports.Response mechanism mic_data) was is e h = step_refused h.answer was.refusals is.refusals e h.makes
refused (reports.Token token mic_data) was is e h = step_refused h.answer was.refusals is.refusals e h.makes
refused (reports.Error major_status minor_status message) was is e h = absurd (err_none e None h.is_result)
refused (reports.ErrorToken token) was is e h = absurd (err_none e None h.is_result)

tells_step : {E : Type 0} (report : GssapiRecord) (was is : SteppingAt) (made : Result (Option Msg) E) → Authenticates report was.authenticator is.authenticator made
    → (e : WithError E) → TellsStep made was.line is.line (Err e) → AnswersWith was.authenticator.refusals is.authenticator.refusals (Err e)
tells_step {E} report was is (Ok (Some msg)) steps e (Err x, tells, same) =
    let equal : e ≡ Session x = cc in
    rw equal (declined_with E was.authenticator.refusals is.authenticator.refusals x tells.declined)
tells_step report was is (Ok (Some msg)) steps e (Ok u, tells, same) = cc
tells_step report was is (Ok None) steps e (line, same) = cc
tells_step {E} report was is (Err x) steps e (line, same) =
    let equal : e ≡ Signer x = cc in
    rw equal (refused report was.authenticator is.authenticator x steps)

steps_and_tells : {E : Type 0} (report : GssapiRecord) (was is : SteppingAt) (told : Result (Unit {0}) (WithError E))
    → StepsAndTells report was is told → (result : Result AuthResult (WithError E)) → ended result ≡ going_on told
    → AnswersWith was.authenticator.refusals is.authenticator.refusals result
steps_and_tells report was is (Ok u) h (Ok answer) same = cc
steps_and_tells report was is (Ok u) h (Err e) same = cc
steps_and_tells report was is (Err x) h (Ok answer) same = cc
steps_and_tells report was is (Err x) h (Err e) same =
    let equal : e ≡ x = cc in
    rw equal (tells_step report was is h.made h.steps x h.tells)

steps_with : {E : Type 0} (ticket : Ticket) (output : Record) → is_of ticket.0 output ≡ true
    → (report : Option GssapiRecord) (was is : SteppingAt) (result : Result AuthResult (WithError E)) → DealsBySteps output report was is (ended result)
    → AnswersWith was.authenticator.refusals is.authenticator.refusals result
steps_with ticket output of_ticket (Some report) was is result (told, h, same) = steps_and_tells report was is told h result same
steps_with ticket output of_ticket None was is result (same, is_result) =
    read_with was.authenticator.refusals is.authenticator.refusals ticket output of_ticket (auth_answer output) refl result is_result

step_later : {E : Type 0} (output : Record) (report : Option GssapiRecord) (was is : SteppingAt) (result : Result (Option AuthResult) (WithError E))
    → DealsBySteps output report was is result → was.authenticator.refusals ≤ is.authenticator.refusals
step_later output (Some report) was is result (told, h, same) = steps_later report was.authenticator is.authenticator h.made h.steps
step_later output None was is result (same, is_result) = rw same (omega arith)

all_steps_later : (E : Type 0) (ticket : Ticket) (n : ℕ) (was is : SteppingAt)
    → Rounds (λ a b. SteppingRound {E = E} ticket a b (Ok None)) n was is → was.authenticator.refusals ≤ is.authenticator.refusals
unfolding Rounds
all_steps_later E ticket zero was is same = rw same (omega arith)
all_steps_later E ticket (suc n) was is (mid, before, round) =
    later_by was.authenticator.refusals mid.authenticator.refusals is.authenticator.refusals
    (all_steps_later E ticket n was mid before)
    (step_later round.output (gssapi_said round.output) (record mid { line = round.line }) is (Ok None) round.deals)

steps_until : {E : Type 0} (ticket : Ticket) (was is : SteppingAt) (result : Result AuthResult (WithError E))
    → Until (SteppingRound ticket) was is result → AnswersWith was.authenticator.refusals is.authenticator.refusals result
steps_until {E} ticket was is result h =
    earlier was.authenticator.refusals h.mid.authenticator.refusals is.authenticator.refusals result
    (all_steps_later E ticket h.rounds was h.mid h.before)
    (steps_with ticket h.last.output h.last.of_ticket (gssapi_said h.last.output) (record (h.mid) { line = h.last.line }) is result h.last.deals)

steps_by : {E : Type 0} (given : Result (Option Ticket) Error) (was is : SteppingAt) (result : Result AuthResult (WithError E))
    → StepsBy given was is result → AnswersWith was.authenticator.refusals is.authenticator.refusals result
steps_by (Ok (Some ticket)) was is result h = steps_until ticket was is result h
steps_by (Ok None) was is result h = absurd h
steps_by {E} (Err e) was is result h = rw h.1 (declined_with E was.authenticator.refusals is.authenticator.refusals e h.2)

pub answers_by_steps : {E : Type 0} (call : Result (Option Ticket) Error → LineCall) (was is : SteppingAt) (result : Result AuthResult (WithError E))
    → StepsIn call was is result → AnswersWith was.authenticator.refusals is.authenticator.refusals result
answers_by_steps call was is result (inl h) = rw h.1 tt
answers_by_steps call was is result (inr h) = steps_by h.given (record was { line = h.line }) is result h.steps
