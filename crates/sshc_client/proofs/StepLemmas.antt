-- A step with a handler that keeps its defaults is the one of the table.
use Rattle.std.proofs.Common.{◌≡◌, ◌⊎◌, ◌≤◌, inl, inr, ℕ, Bool, true, false, not, ◌&&◌, List, [], ◌∷◌, ◌++◌, Option, Some, None, Result, Ok, Err, refl, ap, sym, subst, ◌∙◌, append-nil, arith}
use Rattle.std.proofs.Math.Seq.{drop-length}
use Rattle.sshc_wire.specs.Faults.{Rose}
use Rattle.sshc_wire.specs.Outgoing.{Outgoing}
use Rattle.sshc_wire.specs.declared.record.Record.{Record}
use Rattle.sshc_key.specs.Signers.{SignCall, since}
use Rattle.sshc_key.specs.declared.identity.PublicKeyOrCertificate.{PublicKeyOrCertificate}
use Rattle.sshc_auth_event.specs.declared.event.Event.{Event}
use Rattle.sshc_auth.specs.declared.ended.Ended.TheVariants.{Disconnected}
use Rattle.sshc_auth.specs.declared.error.Error.{Error}
use Rattle.sshc_auth.specs.declared.error.Error.TheVariants.{NoMemory}
use Rattle.sshc_auth.specs.declared.step.Asks.{Asks}
use Rattle.sshc_auth.specs.declared.step.Asks.TheVariants as asking
use Rattle.sshc_transport.specs.declared.exchange.ExchangeResult.{ExchangeResult}
use Rattle.sshc_auth.specs.declared.step.Step.{Step}
use Rattle.sshc_auth.specs.declared.step.Step.TheVariants as steps
use Rattle.sshc_auth.specs.OpeningState.{OpeningState, shut}
use Rattle.sshc_auth.specs.OpeningTable.{asked_of}
use Rattle.sshc_auth.specs.Promises.{Stepped}
use Rattle.sshc_auth.specs.Stepping.{Lent as OpeningLent, Answered, GateAnswers, exchange_in, GateKeeps, StepsBy, SignerGrows, gate_answers, lent, with_gate}
use Rattle.sshc_auth.specs.Causes.{HasGateCause}
use Rattle.sshc_client_packets.specs.HostKeyProof.{Accepts}
use Rattle.sshc_client_table.specs.declared.life.Life.{Life}
use Rattle.sshc_client_table.specs.declared.life.Life.TheVariants.{Runs, Left, Over}
use Rattle.sshc_client_table.specs.declared.open_answer.OpenAnswer.{OpenAnswer}
use Rattle.sshc_client_table.specs.declared.open_answer.OpenAnswer.TheVariants.{Accept}
use Rattle.sshc_client_table.specs.SessionState.{SessionState, is_live, is_open, opens_later, runs}
use Rattle.sshc_client_table.specs.Moves.{Fronts, Move, Stops, after, done, onto}
use Rattle.sshc_client_table.specs.SessionRow.{Callback, Next, Opinions, SessionRow, ends, goes, refuses}
use Rattle.sshc_client_table.specs.SessionTable.{session_row}
use Rattle.sshc_client_state.specs.OpeningStep.{Lent, StepsLent, StepsOpening, goes_on, lent_session, life_behind, life_if, outbox_of, outgoing}
use Rattle.sshc_client_table.specs.KeptByMovesLaws.{moves_keep}
use Rattle.sshc_client_table.specs.OpenCauses.{IsOpenCause}
use Rattle.sshc_client_table.specs.OpenCauseLaws.{NextCaused, all_keep, open_why, session_holds}
use Rattle.sshc_client_rows.specs.declared.flow.RowFlow.{RowFlow}
use Rattle.sshc_client_rows.specs.declared.flow.RowFlow.TheVariants as flows
use Rattle.sshc_client_rows.specs.Follows.{all_moves, default_opinions}
use Rattle.sshc_client.specs.declared.stop.Stop.{Stop}
use Rattle.sshc_client.specs.declared.stop.Stop.TheVariants.{Own, Handler}
use Rattle.sshc_client.specs.CausedStep.{IsCausedOpen}
use Rattle.sshc_client.specs.Handling.{HandlerAt, handler_at}
use Rattle.sshc_client.specs.HandledRow.{Cut, CutBehind, FollowsRow, FollowsWith, Handled, LetGo}
use Rattle.sshc_client.specs.HandledStep.{Before, EndsBy, EndsRow, RefusedBefore, SessionSteps, StepsBehind, StepsOpen, WhyRefused, handler_of, has_left, shut_session}
use Rattle.sshc_client.specs.Stepping.{SessionStepped, StepsRow}
use Rattle.sshc_client.proofs.AskedLemmas.{heard_keeps}
use Rattle.sshc_client.proofs.HandlerLemmas.{done_onto}
use Rattle.sshc_client.proofs.LawLemmas.{open_keeps}

-- ---- in an open session

let_go_so : (defaults : Type 0) (callback : Option Callback) (lent mid : SessionState) (answer : OpenAnswer) → defaults → LetGo defaults callback lent mid answer → (mid ≡ lent) × (answer ≡ Accept)
let_go_so defaults None lent mid answer plain l = l
let_go_so defaults (Some callback) lent mid answer plain l = l.1 plain

handled_so : (defaults : Type 0) (row : SessionRow) (old new : SessionState) → defaults → Handled defaults row old new → new ≡ done (all_moves row) old
handled_so defaults row old new plain h =
    let so = let_go_so defaults row.asks (done row.front old) h.mid h.answer plain h.let_go in
    h.is ∙ ap (λ (s : SessionState). done (row.back h.answer) s) so.0 ∙ ap (λ (a : OpenAnswer). done (row.back a) (done row.front old)) so.1
    ∙ sym (done_onto row.front (row.back Accept) old)

all_front : (a : List Move) (s : SessionState) → Fronts a s (done a s)
all_front [] s = refl
all_front (m ∷ a) s = inr (all_front a (after m s))

first_fronts : (a b : List Move) (s t : SessionState) → Fronts a s t → Fronts (a ++ b) s t
first_fronts [] [] s t same = same
first_fronts [] (m ∷ b) s t same = inl same
first_fronts (m ∷ a) b s t (inl same) = inl same
first_fronts (m ∷ a) b s t (inr f) = inr (first_fronts a b (after m s) t f)

second_fronts : (a b : List Move) (s t : SessionState) → Fronts b (done a s) t → Fronts (a ++ b) s t
second_fronts [] b s t f = f
second_fronts (m ∷ a) b s t f = inr (second_fronts a b (after m s) t f)

onto_first : (a b : List Move) (s t : SessionState) → Fronts a s t → Fronts (onto a b) s t
onto_first a [] s t f = f
onto_first a (m ∷ b) s t f = first_fronts a (m ∷ b) s t f

onto_second : (a b : List Move) (s t : SessionState) → Fronts b (done a s) t → Fronts (onto a b) s t
onto_second a [] s t same = subst (λ (x : SessionState). Fronts a s x) (sym same) (all_front a s)
onto_second a (m ∷ b) s t f = second_fronts a (m ∷ b) s t f

cut_so : (defaults : Type 0) (row : SessionRow) (old new : SessionState) → defaults → Cut defaults row old new → Fronts (all_moves row) old new
cut_so defaults row old new plain (inl f) = onto_first row.front (row.back Accept) old new f
cut_so defaults row old new plain (inr c) =
    let so = let_go_so defaults row.asks (done row.front old) c.mid c.answer plain c.let_go in
    onto_second row.front (row.back Accept) old new
    (subst (λ (a : OpenAnswer). Fronts (row.back a) (done row.front old) new) so.1 (subst (λ (s : SessionState). Fronts (row.back c.answer) s new) so.0 c.is))

-- no row ends the session's life
row_life : (accepts : Accepts) (o : Opinions) (s : SessionState) (event : Event) → is_open s.opening.phase ≡ true → (done (all_moves (session_row accepts o s event)) s).life ≡ s.life
row_life accepts o s event is =
    let holds = session_holds accepts o s event is in
    (moves_keep (all_moves (session_row accepts o s event)) s (all_keep s event (session_row accepts o s event) Accept holds)).life

live_open : (a : Bool) (life : Life) → a && runs life ≡ true → a ≡ true
live_open true life live = refl
live_open false life live = absurd cc

live_life : (a : Bool) (life : Life) → a && runs life ≡ true → has_left life ≡ false
live_life true Runs live = refl
live_life true Left live = absurd cc
live_life true Over live = absurd cc
live_life false life live = absurd cc

stays_on : {E : Type 0} (b : Bool) (last new : SessionState) (step result : Step E) → b ≡ false → EndsBy b last new step result → (result ≡ step) × (new ≡ last)
stays_on true last new step result off e = absurd cc
stays_on false last new step result off e = e

row_so : {E : Type 0} (defaults : Type 0) (told_as : Error → E) (accepts : Accepts) (o : Opinions) (event : Event) (was is : HandlerAt) (old last new : SessionState) (answer : Result RowFlow (Stop E)) (result : Step E) → defaults → is_open old.opening.phase ≡ true → has_left old.life ≡ false →
    FollowsRow defaults was is (session_row accepts o old event) old last answer → EndsRow told_as last new answer result → StepsRow told_as (session_row accepts o old event) old new result
row_so defaults told_as accepts o event was is old last new (Ok flows.Went) result plain is_opened runs_on f ends_so =
    let last_is = handled_so defaults (session_row accepts o old event) old last plain f.1 in
    let goes_so = stays_on (has_left last.life) last new steps.Went result (ap has_left (ap (λ (s : SessionState). s.life) last_is ∙ row_life accepts o old event is_opened) ∙ runs_on) ends_so in
    rw goes_so.0 (f.0, goes_so.1 ∙ last_is)
row_so defaults told_as accepts o event was is old last new (Ok (flows.Ended e)) result plain is_opened runs_on f ends_so =
    rw ends_so.0 (f.0, ends_so.1 ∙ ap (after Stops) (handled_so defaults (session_row accepts o old event) old last plain f.1))
row_so defaults told_as accepts o event was is old last new (Err (Own e)) result plain is_opened runs_on (inl f) ends_so =
    rw ends_so.0 (e, last, refl, ends_so.1, inl (f.0, cut_so defaults (session_row accepts o old event) old last plain f.1))
row_so defaults told_as accepts o event was is old last new (Err (Own e)) result plain is_opened runs_on (inr f) ends_so =
    rw ends_so.0 (e, last, refl, ends_so.1, inr (f.0, handled_so defaults (session_row accepts o old event) old last plain f.1))
row_so defaults told_as accepts o event was is old last new (Err (Handler e)) result plain is_opened runs_on f ends_so = absurd (f.changed plain)

open_so : {E : Type 0} (defaults : Type 0) (told_as : Error → E) (accepts : Accepts) (event : Event) (was is : HandlerAt) (old new : SessionState) (result : Step E) → defaults → is_live old ≡ true →
    StepsOpen defaults told_as accepts event was is old new result → StepsRow told_as (session_row accepts (default_opinions old) old event) old new result
open_so defaults told_as accepts event was is old new result plain live s =
    row_so defaults told_as accepts (default_opinions old) event was is old s.last new s.answer result plain (live_open _ old.life live) (live_life _ old.life live)
    (subst (λ (o : Opinions). FollowsRow defaults was is (session_row accepts o old event) old s.last s.answer) (s.follows.default plain) s.follows.follows) s.ends

-- ---- why it refuses or ends

went_caused : {E : Type 0} (defaults : Type 0) (told_as : Error → E) (was is : HandlerAt) (s last new : SessionState) (event : Event) (b : Bool) (result : Step E) →
    (b ≡ true → defaults → ⊥) → EndsBy b last new steps.Went result → IsCausedOpen defaults told_as was is s event result
went_caused {E = E} defaults told_as was is s last new event false result left_by ends_so =
    subst (λ (z : Step E). IsCausedOpen defaults told_as was is s event z) (sym ends_so.0) tt
went_caused {E = E} defaults told_as was is s last new event true result left_by ends_so =
    subst (λ (z : Step E). IsCausedOpen defaults told_as was is s event z) (sym ends_so.0) (inr (refl, left_by refl))

row_caused : {E : Type 0} (defaults : Type 0) (told_as : Error → E) (was is : HandlerAt) (row : SessionRow) (old last new : SessionState) (event : Event) (answer : Result RowFlow (Stop E)) (result : Step E) →
    NextCaused (open_why old event) row.next → (has_left last.life ≡ true → Handled defaults row old last → defaults → ⊥) →
    FollowsRow defaults was is row old last answer → EndsRow told_as last new answer result → IsCausedOpen defaults told_as was is old event result
row_caused defaults told_as was is row old last new event (Ok flows.Went) result caused left_by f ends_so =
    went_caused defaults told_as was is old last new event (has_left last.life) result (λ left. left_by left f.1) ends_so
row_caused {E = E} defaults told_as was is row old last new event (Ok (flows.Ended e)) result caused left_by f ends_so =
    subst (λ (z : Step E). IsCausedOpen defaults told_as was is old event z) (sym ends_so.0) (inl (subst (λ (n : Next). NextCaused (open_why old event) n) f.0 caused))
row_caused {E = E} defaults told_as was is row old last new event (Err (Own e)) result caused left_by (inl f) ends_so =
    subst (λ (z : Step E). IsCausedOpen defaults told_as was is old event z) (sym ends_so.0) (inl (e, refl, subst (λ (x : Error). IsOpenCause old event x) (sym f.0) tt))
row_caused {E = E} defaults told_as was is row old last new event (Err (Own e)) result caused left_by (inr f) ends_so =
    subst (λ (z : Step E). IsCausedOpen defaults told_as was is old event z) (sym ends_so.0) (inl (e, refl, subst (λ (n : Next). NextCaused (open_why old event) n) f.0 caused))
row_caused {E = E} defaults told_as was is row old last new event (Err (Handler e)) result caused left_by f ends_so =
    subst (λ (z : Step E). IsCausedOpen defaults told_as was is old event z) (sym ends_so.0) (inr (f.rose, f.changed))

-- a handler that keeps its defaults leaves no session
nobody_leaves : (defaults : Type 0) (accepts : Accepts) (o : Opinions) (old last : SessionState) (event : Event) → is_live old ≡ true →
    has_left last.life ≡ true → Handled defaults (session_row accepts o old event) old last → defaults → ⊥
nobody_leaves defaults accepts o old last event live left h plain =
    let last_is = handled_so defaults (session_row accepts o old event) old last plain h in
    let same : has_left last.life ≡ false = ap has_left (ap (λ (s : SessionState). s.life) last_is ∙ row_life accepts o old event (live_open _ old.life live)) ∙ live_life _ old.life live in
    let clash : true ≡ false = sym left ∙ same in absurd cc

open_caused : {E : Type 0} (defaults : Type 0) (told_as : Error → E) (accepts : Accepts) (event : Event) (was is : HandlerAt) (old new : SessionState) (result : Step E) → is_live old ≡ true →
    StepsOpen defaults told_as accepts event was is old new result → IsCausedOpen defaults told_as was is old event result
open_caused defaults told_as accepts event was is old new result live s =
    row_caused defaults told_as was is (session_row accepts s.follows.opinions old event) old s.last new event s.answer result
    (session_holds accepts s.follows.opinions old event (live_open _ old.life live)).caused
    (nobody_leaves defaults accepts s.follows.opinions old s.last event live) s.follows.follows s.ends

-- ---- before the session is open

runs_of : (a : Bool) (life : Life) → a && runs life ≡ true → life ≡ Runs
runs_of true Runs live = refl
runs_of true Left live = absurd cc
runs_of true Over live = absurd cc
runs_of false life live = absurd cc

behind_if : (b : Bool) (life : Life) → life ≡ Runs → life_behind b life ≡ life_if b
behind_if true life is = is
behind_if false life is = refl

nobody_left : (b : Bool) (life : Life) → life ≡ Runs → b && has_left (life_behind b life) ≡ false
nobody_left true life is = ap has_left is
nobody_left false life is = refl

muted_of : (s : SessionState) → s.life ≡ Runs → outbox_of s ≡ outgoing s
muted_of s is = ap (λ (life : Life). record { records = s.records; muted = not (runs life) }) is

lent_so : {E : Type 0} (gate : GateAnswers E) (event : Event) (was is : Lent) (result : Step E) → was.session.life ≡ Runs → StepsLent gate event was is result → StepsOpening gate event was is result
lent_so gate event was is result life s = record {
  opening = s.opening;
  output = s.output;
  stepped = subst (λ (out : Outgoing). Stepped gate event (with_gate (lent was.session.opening out was.calls was.signer_refusals) was.gate_refusals was.setting) (with_gate (lent s.opening s.output is.calls is.signer_refusals) is.gate_refusals is.setting) result)
      (muted_of was.session life) s.stepped;
  rest = s.rest ∙ ap (λ (l : Life). record (was.session) { opening = s.opening; records = s.output.records; life = l }) (behind_if (goes_on result) was.session.life life);
}

behind_so : {E : Type 0} (defaults : Type 0) (gate : GateAnswers E) (event : Event) (s t : SessionState) (calls calls2 : List SignCall) (x x2 r r2 : ℕ) (setting setting2 : List (List ℕ)) (result : Step E) {heard heard2 : List Callback} → defaults → s.life ≡ Runs →
    StepsBehind defaults gate event (lent_session s calls x r setting heard) (lent_session t calls2 x2 r2 setting2 heard2) result →
    StepsOpening gate event (lent_session s calls x r setting heard) (lent_session t calls2 x2 r2 setting2 heard2) result
behind_so {E = E} defaults gate event s t calls calls2 x x2 r r2 setting setting2 result {heard = heard} {heard2 = heard2} plain life b =
    let stepped : StepsLent gate event (lent_session s calls x r setting heard) (lent_session b.last calls2 x2 r2 setting2 heard2) b.step =
    subst (λ (m : SessionState). StepsLent gate event (lent_session m calls x r setting heard) (lent_session b.last calls2 x2 r2 setting2 heard2) b.step) (b.same plain) b.stepped in
    let last_life : b.last.life ≡ life_behind (goes_on b.step) s.life = ap (λ (z : SessionState). z.life) stepped.rest in
    let none_left : goes_on b.step && has_left b.last.life ≡ false = ap (λ (l : Life). goes_on b.step && has_left l) last_life ∙ nobody_left (goes_on b.step) s.life life in
    let ends_so = stays_on (goes_on b.step && has_left b.last.life) b.last t b.step result none_left b.ends in
    subst (λ (z : Step E). StepsOpening gate event (lent_session s calls x r setting heard) (lent_session t calls2 x2 r2 setting2 heard2) z) (sym ends_so.0)
    (subst (λ (z : SessionState). StepsOpening gate event (lent_session s calls x r setting heard) (lent_session z calls2 x2 r2 setting2 heard2) b.step) (sym ends_so.1)
    (lent_so gate event (lent_session s calls x r setting heard) (lent_session b.last calls2 x2 r2 setting2 heard2) b.step life stepped))

none_since : (calls calls2 : List SignCall) → calls2 ≡ calls → since calls calls2 ≡ []
none_since calls calls2 same = ap (since calls) same ∙ drop-length calls

not_more : (x : ℕ) → x ≤ x
not_more x = omega arith

-- a refusal changes nothing except that the opening is shut
shut_stepped : {E : Type 0} (gate : GateAnswers E) (event : Event) (s : OpeningState) (out : Outgoing) (calls calls2 : List SignCall) (x r r2 : ℕ) (setting setting2 : List (List ℕ)) (e : E) → s.closed ≡ false → calls2 ≡ calls → GateKeeps r r2 setting setting2 →
    StepsBy gate event (lent s out calls x) (lent (shut s) out calls2 x) (steps.Refused e) →
    HasGateCause gate event (with_gate (lent s out calls x) r setting) (with_gate (lent (shut s) out calls2 x) r2 setting2) (steps.Refused e) →
    Stepped gate event (with_gate (lent s out calls x) r setting) (with_gate (lent (shut s) out calls2 x) r2 setting2) (steps.Refused e)
shut_stepped gate event s out calls calls2 x r r2 setting setting2 e fresh same keeps row cause = record {
  closed = λ closed. let clash : true ≡ false = sym closed ∙ fresh in absurd cc;
  row = λ was_fresh. row;
  cause = cause;
  signer = record { gained = same ∙ sym (append-nil calls) ∙ ap (λ (more : List SignCall). calls ++ more) (sym (none_since calls calls2 same)); later = not_more x };
  keeps = keeps;
  laws = record {
    first = λ first. record { unwritten = ([], sym (append-nil out.records), tt); behind = inl first.exchanging };
    session = λ later. (refl, later);
    key = λ later never. absurd never;
    asked = rw (none_since calls calls2 same) tt;
    handed = ([], sym (append-nil out.records), tt);
    once = ([], sym (append-nil out.records), tt);
    request = inl (refl, inl refl);
    answers = record { by_gate = []; own = []; added = sym (append-nil out.records); resolved = tt; told = inl refl; may = tt; opens = tt };
  };
  passwords = record { fits = λ fits has. fits; written = λ fits has user password short. ([], sym (append-nil out.records), omega arith) };
  reports = λ never. absurd never;
}

shut_so : {E : Type 0} (gate : GateAnswers E) (event : Event) (s : SessionState) (calls calls2 : List SignCall) (x r r2 : ℕ) (setting setting2 : List (List ℕ)) (e : E) {heard heard2 : List Callback} → s.opening.closed ≡ false → calls2 ≡ calls → GateKeeps r r2 setting setting2 →
    StepsBy gate event (lent s.opening (outgoing s) calls x) (lent (shut s.opening) (outgoing s) calls2 x) (steps.Refused e) →
    HasGateCause gate event (with_gate (lent s.opening (outgoing s) calls x) r setting) (with_gate (lent (shut s.opening) (outgoing s) calls2 x) r2 setting2) (steps.Refused e) →
    StepsOpening gate event (lent_session s calls x r setting heard) (lent_session (shut_session s) calls2 x r2 setting2 heard2) (steps.Refused e)
shut_so gate event s calls calls2 x r r2 setting setting2 e fresh same keeps row cause = record {
  opening = shut s.opening;
  output = outgoing s;
  stepped = shut_stepped gate event s.opening (outgoing s) calls calls2 x r r2 setting setting2 e fresh same keeps row cause;
  rest = refl;
}

refuses_key : {E : Type 0} (gate : GateAnswers E) (x : Option ExchangeResult) (out : Outgoing) (key : PublicKeyOrCertificate) (e : E) (asks : Asks) → asks ≡ asking.HostKey key → gate.judges key (Err e) → Answered gate x out out (Err e) asks
refuses_key gate x out key e asks asked says = rw asked (Err e, says, (refl, refl))

why_so : {E : Type 0} (defaults : Type 0) (gate : GateAnswers E) (event : Event) (s mid : SessionState) (calls calls2 : List SignCall) (x r r2 : ℕ) (setting setting2 : List (List ℕ)) (t : SessionState) (e : E) {heard heard2 : List Callback} → defaults → s.opening.closed ≡ false → calls2 ≡ calls → GateKeeps r r2 setting setting2 → t ≡ shut_session mid →
    WhyRefused defaults gate event (lent_session s calls x r setting heard) (lent_session t calls2 x r2 setting2 heard2) mid e →
    StepsOpening gate event (lent_session s calls x r setting heard) (lent_session t calls2 x r2 setting2 heard2) (steps.Refused e)
why_so {E = E} defaults gate event s mid calls calls2 x r r2 setting setting2 t e {heard = heard} {heard2 = heard2} plain fresh same keeps is (inl (memory, still)) =
    rw (is, still) (subst (λ (z : E). StepsOpening gate event (lent_session s calls x r setting heard) (lent_session (shut_session s) calls2 x r2 setting2 heard2) (steps.Refused z)) (sym memory)
    (shut_so gate event s calls calls2 x r r2 setting setting2 (gate.told_as NoMemory) fresh same keeps (inl (refl, refl, refl, same)) (inl (NoMemory, refl, tt, tt))))
why_so defaults gate event s mid calls calls2 x r r2 setting setting2 t e plain fresh same keeps is (inr (inl (key, asked, says, still, rose))) =
    rw (is, still) (shut_so gate event s calls calls2 x r r2 setting setting2 e fresh same keeps
    (inr (Err e, outgoing s, refuses_key gate (exchange_in event) (outgoing s) key e (asked_of s.opening event) asked says, (refl, refl, refl, same)))
    (inr ((outgoing s, refuses_key gate (exchange_in event) (outgoing s) key e (asked_of s.opening event) asked says), rose)))
why_so defaults gate event s mid calls calls2 x r r2 setting setting2 t e plain fresh same keeps is (inr (inr (rose, called_so, own_body))) = absurd (own_body plain)

refused_so : {E : Type 0} (defaults : Type 0) (gate : GateAnswers E) (event : Event) (s t : SessionState) (calls calls2 : List SignCall) (x x2 r r2 : ℕ) (setting setting2 : List (List ℕ)) (result : Step E) {heard heard2 : List Callback} → defaults → GateKeeps r r2 setting setting2 →
    RefusedBefore defaults gate event (lent_session s calls x r setting heard) (lent_session t calls2 x2 r2 setting2 heard2) result →
    StepsOpening gate event (lent_session s calls x r setting heard) (lent_session t calls2 x2 r2 setting2 heard2) result
refused_so {E = E} defaults gate event s t calls calls2 x x2 r r2 setting setting2 result {heard = heard} {heard2 = heard2} plain keeps b =
    subst (λ (z : Step E). StepsOpening gate event (lent_session s calls x r setting heard) (lent_session t calls2 x2 r2 setting2 heard2) z) (sym b.refused)
    (subst (λ (n : ℕ). StepsOpening gate event (lent_session s calls x r setting heard) (lent_session t calls2 n r2 setting2 heard2) (steps.Refused b.error)) (sym b.refusals)
    (why_so defaults gate event s b.mid calls calls2 x r r2 setting setting2 t b.error plain b.fresh b.calls keeps b.shut b.why))

-- ---- the step

opening_so : {E : Type 0} (defaults : Type 0) (gate : GateAnswers E) (event : Event) (s t : SessionState) (calls calls2 : List SignCall) (x x2 r r2 : ℕ) (setting setting2 : List (List ℕ)) (result : Step E) {heard heard2 : List Callback} → defaults → GateKeeps r r2 setting setting2 → s.life ≡ Runs →
    StepsBehind defaults gate event (lent_session s calls x r setting heard) (lent_session t calls2 x2 r2 setting2 heard2) result ⊎ RefusedBefore defaults gate event (lent_session s calls x r setting heard) (lent_session t calls2 x2 r2 setting2 heard2) result →
    StepsOpening gate event (lent_session s calls x r setting heard) (lent_session t calls2 x2 r2 setting2 heard2) result
opening_so defaults gate event s t calls calls2 x x2 r r2 setting setting2 result plain keeps life (inl b) = behind_so defaults gate event s t calls calls2 x x2 r r2 setting setting2 result plain life b
opening_so defaults gate event s t calls calls2 x x2 r r2 setting setting2 result plain keeps life (inr b) = refused_so defaults gate event s t calls calls2 x x2 r r2 setting setting2 result plain keeps b

pub plain_step : {E : Type 0} (defaults : Type 0) (gate : GateAnswers E) (accepts : Accepts) (event : Event) (s t : SessionState) (calls calls2 : List SignCall) (x x2 r r2 : ℕ) (setting setting2 : List (List ℕ)) (result : Step E) {heard heard2 : List Callback} → defaults →
    SessionSteps defaults gate accepts event (lent_session s calls x r setting heard) (lent_session t calls2 x2 r2 setting2 heard2) result →
    SessionStepped gate accepts event (lent_session s calls x r setting heard) (lent_session t calls2 x2 r2 setting2 heard2) result
plain_step defaults gate accepts event s t calls calls2 x x2 r r2 setting setting2 result plain steps_so = record {
  closed = steps_so.closed;
  left = steps_so.left;
  silent = steps_so.silent;
  opening = λ later. opening_so defaults gate event s t calls calls2 x x2 r r2 setting setting2 result plain (record { later = steps_so.keeps.later; kept = steps_so.keeps.kept }) (runs_of _ s.life later) (steps_so.opening later);
  row = λ live. (open_so defaults gate.told_as accepts event _ _ s t result plain live (steps_so.row live).0, (steps_so.row live).1);
  signer = steps_so.signer;
}

-- ---- a step by the session's life

no_run : (a : Bool) (life : Life) → runs life ≡ false → a && runs life ≡ true → ⊥
no_run true life halts holds = let clash : true ≡ false = sym holds ∙ halts in absurd cc
no_run false life halts holds = absurd cc

over_left : Over ≡ Left → ⊥
over_left same = absurd cc

runs_over : Runs ≡ Over → ⊥
runs_over same = absurd cc

runs_left : Runs ≡ Left → ⊥
runs_left same = absurd cc

open_early : (a b : Bool) → a && b ≡ true → not a && b ≡ true → ⊥
open_early true b one other = absurd cc
open_early false b one other = absurd cc

not_both : (b : Bool) → b ≡ false → b ≡ true → ⊥
not_both b dead holds = let clash : true ≡ false = sym holds ∙ dead in absurd cc

pub over_steps : {E : Type 0} (defaults : Type 0) (gate : GateAnswers E) (accepts : Accepts) (event : Event) (s : SessionState) (calls : List SignCall) (x r : ℕ) (setting : List (List ℕ)) {heard : List Callback} →
    s.life ≡ Over → SessionSteps {E = E} defaults gate accepts event (lent_session s calls x r setting heard) (lent_session s calls x r setting heard) steps.Closed
over_steps defaults gate accepts event s calls x r setting over = record {
  closed = λ is_over. (refl, refl);
  left = λ is_left. absurd (over_left (sym over ∙ is_left));
  silent = λ halts. refl;
  opening = λ later. absurd (no_run _ s.life (ap runs over) later);
  row = λ live. absurd (no_run _ s.life (ap runs over) live);
  caused = λ live. absurd (no_run _ s.life (ap runs over) live);
  laws = λ live. absurd (no_run _ s.life (ap runs over) live);
  heard = λ later. absurd (no_run _ s.life (ap runs over) later);
  keeps = record { later = not_more r; kept = refl };
  signer = not_more x;
}

pub left_steps : {E : Type 0} (defaults : Type 0) (gate : GateAnswers E) (accepts : Accepts) (event : Event) (s t : SessionState) (calls : List SignCall) (x r : ℕ) (setting : List (List ℕ)) {heard : List Callback} →
    s.life ≡ Left → t ≡ after Stops s → SessionSteps {E = E} defaults gate accepts event (lent_session s calls x r setting heard) (lent_session t calls x r setting heard) (steps.Ended Disconnected)
left_steps defaults gate accepts event s t calls x r setting left stopped = record {
  closed = λ is_over. absurd (over_left (sym is_over ∙ left));
  left = λ is_left. (refl, stopped);
  silent = λ halts. refl;
  opening = λ later. absurd (no_run _ s.life (ap runs left) later);
  row = λ live. absurd (no_run _ s.life (ap runs left) live);
  caused = λ live. absurd (no_run _ s.life (ap runs left) live);
  laws = λ live. absurd (no_run _ s.life (ap runs left) live);
  heard = λ later. absurd (no_run _ s.life (ap runs left) later);
  keeps = record { later = not_more r; kept = refl };
  signer = not_more x;
}

pub live_steps : {E : Type 0} (defaults : Type 0) (gate : GateAnswers E) (accepts : Accepts) (event : Event) (s t : SessionState) (calls : List SignCall) (x r r2 : ℕ) (setting setting2 : List (List ℕ)) (result : Step E) {heard heard2 : List Callback} →
    is_live s ≡ true → StepsOpen defaults gate.told_as accepts event (handler_at r setting heard) (handler_at r2 setting2 heard2) s t result →
    SessionSteps defaults gate accepts event (lent_session s calls x r setting heard) (lent_session t calls x r2 setting2 heard2) result
live_steps defaults gate accepts event s t calls x r r2 setting setting2 result live steps_so = record {
  closed = λ over. absurd (runs_over (sym (runs_of _ s.life live) ∙ over));
  left = λ left. absurd (runs_left (sym (runs_of _ s.life live) ∙ left));
  silent = λ halts. absurd (no_run _ s.life halts live);
  opening = λ later. absurd (open_early _ (runs s.life) live later);
  row = λ is_so. (steps_so, refl);
  caused = λ is_so. open_caused defaults gate.told_as accepts event (handler_at r setting _) (handler_at r2 setting2 _) s t result live steps_so;
  laws = λ is_so. open_keeps defaults gate.told_as accepts event (handler_at r setting _) (handler_at r2 setting2 _) s t result live steps_so;
  heard = λ later. absurd (open_early _ (runs s.life) live later);
  keeps = record { later = steps_so.follows.keeps.later; kept = steps_so.follows.keeps.kept };
  signer = not_more x;
}

signer_later : {E : Type 0} (defaults : Type 0) (gate : GateAnswers E) (event : Event) (was is : Lent) (result : Step E) →
    StepsBehind defaults gate event was is result ⊎ RefusedBefore defaults gate event was is result → was.signer_refusals ≤ is.signer_refusals
signer_later defaults gate event was is result (inl b) = b.stepped.stepped.signer.later
signer_later defaults gate event was is result (inr b) = omega (arith, b.refusals)

pub before_steps : {E : Type 0} (defaults : Type 0) (gate : GateAnswers E) (accepts : Accepts) (event : Event) (s t : SessionState) (calls calls2 : List SignCall) (x x2 r r2 : ℕ) (setting setting2 : List (List ℕ)) (result : Step E) {heard heard2 : List Callback} →
    s.life ≡ Runs → is_live s ≡ false → Before defaults gate event (lent_session s calls x r setting heard) (lent_session t calls2 x2 r2 setting2 heard2) result →
    SessionSteps defaults gate accepts event (lent_session s calls x r setting heard) (lent_session t calls2 x2 r2 setting2 heard2) result
before_steps defaults gate accepts event s t calls calls2 x x2 r r2 setting setting2 result life dead b = record {
  closed = λ over. absurd (runs_over (sym life ∙ over));
  left = λ left. absurd (runs_left (sym life ∙ left));
  silent = λ halts. absurd (not_both (runs s.life) halts (ap runs life));
  opening = λ later. b.steps_on;
  row = λ live. absurd (not_both (is_live s) dead live);
  caused = λ live. absurd (not_both (is_live s) dead live);
  laws = λ live. absurd (not_both (is_live s) dead live);
  heard = λ later. b.keeps;
  keeps = heard_keeps gate.judges (asked_of s.opening event) (exchange_in event) (handler_at r setting _) (handler_at r2 setting2 _) b.keeps;
  signer = signer_later defaults gate event _ _ result b.steps_on;
}

pub nobody_left_ends : {E : Type 0} (b c : Bool) (last new : SessionState) (step : Step E) → c ≡ false → new ≡ last → EndsBy (b && c) last new step step
nobody_left_ends true true last new step off same = absurd cc
nobody_left_ends true false last new step off same = (refl, same)
nobody_left_ends false c last new step off same = (refl, same)

pub opened_steps : {E : Type 0} (defaults : Type 0) (told_as : Error → E) (accepts : Accepts) (event : Event) (was is : HandlerAt) (old last new : SessionState) (answer : Result RowFlow (Stop E)) (result : Step E) →
    FollowsWith defaults was is (λ o. session_row accepts o old event) old last answer → EndsRow told_as last new answer result → StepsOpen defaults told_as accepts event was is old new result
opened_steps defaults told_as accepts event was is old last new answer result follows ends_so = record { last = last; answer = answer; follows = follows; ends = ends_so }
