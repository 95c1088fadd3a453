-- A row of an open session keeps the laws of a step, however far it is followed and whatever a handler does.
use Rattle.std.proofs.Common.{◌≡◌, ◌≢◌, inl, inr, ℕ, Bool, true, false, ◌&&◌, List, [], ◌∷◌, ◌++◌, length, drop, eqb, if◌then◌else◌, Option, Some, None, Result, Ok, Err, refl, ap, sym, subst, ◌∙◌, arith}
use Rattle.std.specs.Prelude.{◌==◌}
use Rattle.std.proofs.lemmas.Bool.Decides.{nat_tests}
use Rattle.std.specs.List.{AllByRecursion}
use Rattle.sshc_wire.specs.declared.channel_open_failure.ChannelOpenFailure.{ChannelOpenFailure}
use Rattle.sshc_wire.specs.declared.error.WireError.{WireError}
use Rattle.sshc_wire.specs.MessageNumbers.{CHANNEL_OPEN_CONFIRMATION, CHANNEL_OPEN_FAILURE}
use Rattle.sshc_wire.specs.declared.record.Record.{Record}
use Rattle.sshc_wire.specs.declared.record.Record.TheVariants.{Resolved}
use Rattle.sshc_wire.specs.declared.resolution.Resolution.{Resolution}
use Rattle.sshc_wire.specs.declared.resolution.Resolution.TheVariants.{ChannelOpened, ChannelOpenFailed}
use Rattle.sshc_wire.specs.declared.ticket.Ticket.{Ticket}
use Rattle.sshc_auth_event.specs.declared.event.Event.{Event}
use Rattle.sshc_auth_event.specs.declared.event.Event.TheVariants as events
use Rattle.sshc_auth.specs.declared.error.Error.{Error}
use Rattle.sshc_auth.specs.declared.error.Error.TheVariants.{Inconsistent, SshEncoding}
use Rattle.sshc_auth.specs.SessionWords.{HasKeptKey}
use Rattle.sshc_mux.specs.ChannelState.{TableState}
use Rattle.sshc_mux.specs.ChannelTable.{records_of}
use Rattle.sshc_mux.specs.ChannelTable.Opens.{awaited}
use Rattle.sshc_client_packets.specs.ChannelPackets.{Refusal, confirmation_of, refusal_of}
use Rattle.sshc_client_packets.specs.declared.channel_open.Confirmation.{Confirmation}
use Rattle.sshc_client_packets.specs.HostKeyProof.{Accepts}
use Rattle.sshc_client_table.specs.Moves as m
use Rattle.sshc_client_table.specs.Moves.{Deed, Fronts, Move, after, deed, deed_of, did, done, done_if, may_go, open_answer, or_none}
use Rattle.sshc_client_table.specs.NoRequests.{IsSameRequest}
use Rattle.sshc_client_table.specs.NoRequestsLaws.{moves_request}
use Rattle.sshc_client_table.specs.OpenCauseLaws.{RowHolds, open_why, session_holds}
use Rattle.sshc_client_table.specs.QueuedRequests.{Queues}
use Rattle.sshc_client_table.proofs.GivenLemmas.{gives}
use Rattle.sshc_client_table.proofs.PeerLemmas.{brings, makes_calls}
use Rattle.sshc_client_table.proofs.WaitingLemmas.{opens_wait}
use Rattle.sshc_client_table.specs.RowMovesLaws.{confirms_packet, fails_packet, is_report}
use Rattle.sshc_client_table.specs.RowMoves.{Fits, IsPacket}
use Rattle.sshc_client_table.specs.SessionRow.{Opinions, SessionRow, asking, behind_moves, goes, refused, with_read}
use Rattle.sshc_client_table.specs.SessionState.{SessionState, is_live}
use Rattle.sshc_client_table.specs.SessionTable.{session_row}
use Rattle.sshc_client_table.specs.SessionTable.Opens.{confirmed_row, failed_row, open_confirmation_row, open_failure_row}
use Rattle.sshc_client_table.specs.StepLaws.{AuthenticatesNone, Followed, IsBrought, IsNoData, OpenStepLaws, Replied, ResolvesBy, answer_to, answers_open, open_answers, opens_answered, whole}
use Rattle.sshc_client_table.proofs.AnswerRows.{HeldOrRefused, IsFirst, confirmation_held, failure_answered, first_same, heard_alone, heard_counted, refusal_held, success_answered}
use Rattle.sshc_client_table.proofs.SaidLemmas.{SaysPlainly}
use Rattle.sshc_client_table.proofs.OpenAnswers.{AllPlain, AnswersBy, OneAnswer, answers_two, opened_by, packets_answer, plain_one}
use Rattle.sshc_client_table.specs.OneKeyLaws.{session_has}
use Rattle.sshc_client_table.proofs.QueueLemmas.{all_queue}
use Rattle.sshc_client_table.proofs.ResolveLemmas.{resolves}
use Rattle.sshc_client_table.proofs.StepAdds.{authenticates, quiet}
use Rattle.sshc_client_table.proofs.StepMoves.{added, added_in, added_is, done_adds, followed_steps, row_fit}

-- ---- the rows that answer an open

-- what every packet does first answers none
first_one : (answer : List Record) (first moves : List Move) (s : SessionState) → IsFirst first → OneAnswer answer moves (done first s) → OneAnswer answer (first ++ moves) s
first_one answer first moves s heard_alone one = inl (tt, one)
first_one answer first moves s (heard_counted len) one = inl (tt, inl (tt, one))

-- the answer to an open is one
answer_is_one : (b : Bool) (ticket : Ticket) (resolution : Resolution) → answers_open (Resolved ticket resolution) ≡ true →
    open_answers (if b then [] else Resolved ticket resolution ∷ []) ≡ (if b then [] else Resolved ticket resolution ∷ [])
answer_is_one true ticket resolution is = refl
answer_is_one false ticket resolution is = ap (λ (b : Bool). if b then Resolved ticket resolution ∷ [] else []) is

answer_is : (ticket : Option Ticket) (resolution : Resolution) → answers_open (Resolved (or_none ticket) resolution) ≡ true → open_answers (open_answer (Some ticket) resolution) ≡ answer_to ticket (Some resolution)
answer_is None resolution is = refl
answer_is (Some ticket) resolution is = answer_is_one (eqb ticket.0 0) ticket resolution is

confirms_answer : (c : Confirmation) (t : SessionState) (ticket : Option Ticket) → is_live t ≡ true → awaited c.recipient t.table ≡ Some ticket →
    open_answers (added (m.Confirms c) t) ≡ answer_to ticket (Some (ChannelOpened (record { 0 = c.recipient })))
confirms_answer c t ticket live waits =
    answers_two (records_of (did (deed_of (m.Confirms c) t).call t.table).output) (deed_of (m.Confirms c) t).says
    ∙ ap (λ (rs : List Record). rs ++ open_answers (deed_of (m.Confirms c) t).says) (packets_answer (did (deed_of (m.Confirms c) t).call t.table).output)
    ∙ ap (λ (b : Bool). open_answers (done_if b (deed (m.Confirms c) t) t).says) live
    ∙ ap (λ (w : Option (Option Ticket)). open_answers (open_answer w (ChannelOpened (record { 0 = c.recipient })))) waits
    ∙ answer_is ticket (ChannelOpened (record { 0 = c.recipient })) refl

fails_answer : (id : ℕ) (reason : ChannelOpenFailure) (t : SessionState) (ticket : Option Ticket) → is_live t ≡ true → awaited id t.table ≡ Some ticket →
    open_answers (added (m.Fails id reason) t) ≡ answer_to ticket (Some (ChannelOpenFailed reason))
fails_answer id reason t ticket live waits =
    answers_two (records_of (did (deed_of (m.Fails id reason) t).call t.table).output) (deed_of (m.Fails id reason) t).says
    ∙ ap (λ (rs : List Record). rs ++ open_answers (deed_of (m.Fails id reason) t).says) (packets_answer (did (deed_of (m.Fails id reason) t).call t.table).output)
    ∙ ap (λ (b : Bool). open_answers (done_if b (deed (m.Fails id reason) t) t).says) live
    ∙ ap (λ (w : Option (Option Ticket)). open_answers (open_answer w (ChannelOpenFailed reason))) waits
    ∙ answer_is ticket (ChannelOpenFailed reason) refl

-- a row that refuses, behind what every packet does first
refused_by_row : (event : Event) (first : List Move) (s : SessionState) (e : Error) → IsFirst first → AnswersBy event s (behind_moves first (refused e))
refused_by_row event first s e is_first = record {
  answer = [];
  one = first_one [] first [] s is_first refl;
  back = λ said_. tt;
  is = inl refl;
  goes_on = λ next. absurd cc;
}

-- 91
confirmed_answers : (waits : Option (Option Ticket)) (c : Confirmation) (first : List Move) (s : SessionState) (body : List ℕ) → is_live s ≡ true → IsFirst first → awaited c.recipient s.table ≡ waits → confirmation_of body ≡ Ok c →
    AnswersBy (events.Payload (CHANNEL_OPEN_CONFIRMATION ∷ body)) s (behind_moves first (confirmed_row waits c))
unfolding asking
confirmed_answers None c first s body live is_first waits read = refused_by_row (events.Payload (CHANNEL_OPEN_CONFIRMATION ∷ body)) first s Inconsistent is_first
confirmed_answers (Some ticket) c first s body live is_first waits read =
    let talk = first_same first s is_first live in
    let is : answer_to ticket (Some (ChannelOpened (record { 0 = c.recipient }))) ≡ opens_answered (events.Payload (CHANNEL_OPEN_CONFIRMATION ∷ body)) s = rw (read, waits) refl in
    record {
      answer = answer_to ticket (Some (ChannelOpened (record { 0 = c.recipient })));
      one = first_one _ first (m.Confirms c ∷ []) s is_first (inr (confirms_answer c (done first s) ticket talk.live (ap (λ (t : TableState). awaited c.recipient t) talk.table ∙ waits), tt));
      back = λ said_. (tt, (tt, tt));
      is = inr is;
      goes_on = λ next. is;
    }

confirmation_answers : (r : Result Confirmation WireError) (first : List Move) (s : SessionState) (body : List ℕ) → is_live s ≡ true → IsFirst first → confirmation_of body ≡ r →
    AnswersBy (events.Payload (CHANNEL_OPEN_CONFIRMATION ∷ body)) s (behind_moves first (with_read r (λ c. confirmed_row (awaited c.recipient s.table) c)))
confirmation_answers (Ok c) first s body live is_first read = confirmed_answers (awaited c.recipient s.table) c first s body live is_first refl read
confirmation_answers (Err e) first s body live is_first read = refused_by_row (events.Payload (CHANNEL_OPEN_CONFIRMATION ∷ body)) first s SshEncoding is_first

-- 92
failed_answers : (waits : Option (Option Ticket)) (r : Refusal) (first : List Move) (s : SessionState) (body : List ℕ) → is_live s ≡ true → IsFirst first → awaited r.id.0 s.table ≡ waits → refusal_of body ≡ Ok r →
    AnswersBy (events.Payload (CHANNEL_OPEN_FAILURE ∷ body)) s (behind_moves first (failed_row waits r))
unfolding asking
failed_answers None r first s body live is_first waits read =
    let is : [] ≡ opens_answered (events.Payload (CHANNEL_OPEN_FAILURE ∷ body)) s = rw (read, waits) refl in
    record { answer = []; one = first_one [] first [] s is_first refl; back = λ said_. tt; is = inl refl; goes_on = λ next. is }
failed_answers (Some ticket) r first s body live is_first waits read =
    let talk = first_same first s is_first live in
    let is : answer_to ticket (Some (ChannelOpenFailed r.reason)) ≡ opens_answered (events.Payload (CHANNEL_OPEN_FAILURE ∷ body)) s = rw (read, waits) refl in
    record {
      answer = answer_to ticket (Some (ChannelOpenFailed r.reason));
      one = first_one _ first (m.Fails r.id.0 r.reason ∷ []) s is_first (inr (fails_answer r.id.0 r.reason (done first s) ticket talk.live (ap (λ (t : TableState). awaited r.id.0 t) talk.table ∙ waits), tt));
      back = λ said_. (tt, tt);
      is = inr is;
      goes_on = λ next. is;
    }

refusal_answers : (r : Result Refusal WireError) (first : List Move) (s : SessionState) (body : List ℕ) → is_live s ≡ true → IsFirst first → refusal_of body ≡ r →
    AnswersBy (events.Payload (CHANNEL_OPEN_FAILURE ∷ body)) s (behind_moves first (with_read r (λ x. failed_row (awaited x.id.0 s.table) x)))
refusal_answers (Ok r) first s body live is_first read = failed_answers (awaited r.id.0 s.table) r first s body live is_first refl read
refusal_answers (Err e) first s body live is_first read = refused_by_row (events.Payload (CHANNEL_OPEN_FAILURE ∷ body)) first s SshEncoding is_first

held_answers : (event : Event) (full own : SessionRow) (s : SessionState) → HeldOrRefused full own → ((first : List Move) → IsFirst first → AnswersBy event s (behind_moves first own)) → AnswersBy event s full
held_answers event full own s (inl held) each = subst (λ (row : SessionRow). AnswersBy event s row) (sym held.row_is) (each held.first held.is_first)
held_answers event full own s (inr r) each =
    subst (λ (row : SessionRow). AnswersBy event s row) (sym r.row_is) (refused_by_row event (m.Hears ∷ []) s r.error heard_alone)

confirmation_by : (accepts : Accepts) (o : Opinions) (s : SessionState) (body : List ℕ) → is_live s ≡ true → AnswersBy (events.Payload (CHANNEL_OPEN_CONFIRMATION ∷ body)) s (session_row accepts o s (events.Payload (CHANNEL_OPEN_CONFIRMATION ∷ body)))
unfolding open_confirmation_row
confirmation_by accepts o s body live =
    held_answers (events.Payload (CHANNEL_OPEN_CONFIRMATION ∷ body)) (session_row accepts o s (events.Payload (CHANNEL_OPEN_CONFIRMATION ∷ body))) (open_confirmation_row s body) s (confirmation_held accepts o s body)
    (λ first is_first. confirmation_answers (confirmation_of body) first s body live is_first refl)

refusal_by : (accepts : Accepts) (o : Opinions) (s : SessionState) (body : List ℕ) → is_live s ≡ true → AnswersBy (events.Payload (CHANNEL_OPEN_FAILURE ∷ body)) s (session_row accepts o s (events.Payload (CHANNEL_OPEN_FAILURE ∷ body)))
unfolding open_failure_row
refusal_by accepts o s body live =
    held_answers (events.Payload (CHANNEL_OPEN_FAILURE ∷ body)) (session_row accepts o s (events.Payload (CHANNEL_OPEN_FAILURE ∷ body))) (open_failure_row s body) s (refusal_held accepts o s body)
    (λ first is_first. refusal_answers (refusal_of body) first s body live is_first refl)

-- ---- every other row

fits_plain : (event : Event) (move : Move) → (IsPacket CHANNEL_OPEN_CONFIRMATION event → ⊥) → (IsPacket CHANNEL_OPEN_FAILURE event → ⊥) → Fits event move → SaysPlainly move
fits_plain event (m.Confirms c) unconfirmed unrefused fits = unconfirmed (confirms_packet c event fits)
fits_plain event (m.Fails id reason) unconfirmed unrefused fits = unrefused (fails_packet id event fits)
fits_plain event (m.Tells record_) unconfirmed unrefused fits = is_report event record_ fits
fits_plain event move unconfirmed unrefused fits = tt

all_fits_plain : (event : Event) (moves : List Move) → (IsPacket CHANNEL_OPEN_CONFIRMATION event → ⊥) → (IsPacket CHANNEL_OPEN_FAILURE event → ⊥) → AllByRecursion (λ move. Fits event move) moves → AllPlain moves
all_fits_plain event [] unconfirmed unrefused all = tt
all_fits_plain event (move ∷ moves) unconfirmed unrefused (fits, all) = (fits_plain event move unconfirmed unrefused fits, all_fits_plain event moves unconfirmed unrefused all)

other_by : (event : Event) (s : SessionState) (row : SessionRow) → (IsPacket CHANNEL_OPEN_CONFIRMATION event → ⊥) → (IsPacket CHANNEL_OPEN_FAILURE event → ⊥) → [] ≡ opens_answered event s → RowHolds (open_why s event) row → AnswersBy event s row
other_by event s row unconfirmed unrefused none holds = record {
  answer = [];
  one = plain_one row.front s (all_fits_plain event row.front unconfirmed unrefused holds.front);
  back = λ said_. all_fits_plain event (row.back said_) unconfirmed unrefused (holds.back said_);
  is = inl refl;
  goes_on = λ next. none;
}

same_number : (n k : ℕ) → (n == k) ≡ true → n ≡ k
same_number n k is = grind (arith, nat_tests)

no_confirmation : (n : ℕ) → (n == CHANNEL_OPEN_CONFIRMATION) ≡ false → n ≢ CHANNEL_OPEN_CONFIRMATION
no_confirmation n is = λ same. let clash : true ≡ false = sym (ap (λ (x : ℕ). x == CHANNEL_OPEN_CONFIRMATION) same) ∙ is in absurd cc

no_refusal : (n : ℕ) → (n == CHANNEL_OPEN_FAILURE) ≡ false → n ≢ CHANNEL_OPEN_FAILURE
no_refusal n is = λ same. let clash : true ≡ false = sym (ap (λ (x : ℕ). x == CHANNEL_OPEN_FAILURE) same) ∙ is in absurd cc

packet_by : (confirms fails : Bool) (accepts : Accepts) (o : Opinions) (s : SessionState) (n : ℕ) (body : List ℕ) → is_live s ≡ true → (n == CHANNEL_OPEN_CONFIRMATION) ≡ confirms → (n == CHANNEL_OPEN_FAILURE) ≡ fails →
    RowHolds (open_why s (events.Payload (n ∷ body))) (session_row accepts o s (events.Payload (n ∷ body))) → AnswersBy (events.Payload (n ∷ body)) s (session_row accepts o s (events.Payload (n ∷ body)))
packet_by true fails accepts o s n body live is other holds =
    subst (λ (k : ℕ). AnswersBy (events.Payload (k ∷ body)) s (session_row accepts o s (events.Payload (k ∷ body)))) (sym (same_number n CHANNEL_OPEN_CONFIRMATION is)) (confirmation_by accepts o s body live)
packet_by false true accepts o s n body live is other holds =
    subst (λ (k : ℕ). AnswersBy (events.Payload (k ∷ body)) s (session_row accepts o s (events.Payload (k ∷ body)))) (sym (same_number n CHANNEL_OPEN_FAILURE other)) (refusal_by accepts o s body live)
packet_by false false accepts o s n body live is other holds =
    other_by (events.Payload (n ∷ body)) s (session_row accepts o s (events.Payload (n ∷ body))) (no_confirmation n is) (no_refusal n other) (rw (is, other) refl) holds

event_by : (accepts : Accepts) (o : Opinions) (s : SessionState) (event : Event) → is_live s ≡ true → RowHolds (open_why s event) (session_row accepts o s event) → AnswersBy event s (session_row accepts o s event)
event_by accepts o s (events.Payload (n ∷ body)) live holds = packet_by (n == CHANNEL_OPEN_CONFIRMATION) (n == CHANNEL_OPEN_FAILURE) accepts o s n body live refl refl holds
event_by accepts o s event live holds = other_by event s (session_row accepts o s event) (λ never. never) (λ never. never) refl holds

-- ---- the laws

replied_so : (accepts : Accepts) (o : Opinions) (event : Event) (s new : SessionState) → is_live s ≡ true → Followed (session_row accepts o s event) s new true → Replied accepts event s new (drop (length s.records) new.records)
replied_so accepts o (events.Payload (n ∷ body)) s new live went = (
  (λ is. success_answered accepts o s new body live (subst (λ (k : ℕ). Followed (session_row accepts o s (events.Payload (k ∷ body))) s new true) is went)),
  (λ is. failure_answered accepts o s new body live (subst (λ (k : ℕ). Followed (session_row accepts o s (events.Payload (k ∷ body))) s new true) is went)),
)
replied_so accepts o event s new live went = tt

-- a row that was followed to its end continues
next_goes : (row : SessionRow) (old new : SessionState) → Followed row old new true → row.next ≡ goes
next_goes row old new (whole mid answer next borrowed is) = next

kept_key : (accepts : Accepts) (o : Opinions) (s : SessionState) (event : Event) → (session_row accepts o s event).next ≡ goes → HasKeptKey s.opening event
kept_key accepts o s (events.ExchangeDone x) on = session_has accepts o s x on
kept_key accepts o s event on = tt

open_so : (a b : Bool) → a && b ≡ true → a ≡ true
open_so true b is = refl
open_so false b is = absurd cc

pub rows_keep : (accepts : Accepts) (o : Opinions) (event : Event) (s new : SessionState) (went : Bool) → is_live s ≡ true → Followed (session_row accepts o s event) s new went → OpenStepLaws accepts event s new went
rows_keep accepts o event s new went live followed =
    let row : SessionRow = session_row accepts o s event in
    let holds = session_holds accepts o s event (open_so _ _ live) in
    let steps = followed_steps event row s new went (row_fit event row.front holds.front) (λ said_. row_fit event (row.back said_) (holds.back said_)) followed in
    let records_are : new.records ≡ s.records ++ added_in steps.moves s = ap (λ (t : SessionState). t.records) steps.is ∙ done_adds steps.moves s in
    let is : drop (length s.records) new.records ≡ added_in steps.moves s = added_is s.records new.records (added_in steps.moves s) records_are in
    record {
      added = drop (length s.records) new.records;
      records = records_are ∙ ap (λ (rs : List Record). s.records ++ rs) (sym is);
      request = subst (λ (t : SessionState). IsSameRequest s.opening t.opening) (sym steps.is) (moves_request steps.moves s);
      authenticates = subst (λ (rs : List Record). AllByRecursion AuthenticatesNone rs) (sym is) (authenticates event steps.moves s steps.fit);
      replied = λ on. replied_so accepts o event s new live (subst (λ (b : Bool). Followed row s new b) on followed);
      waits = λ none.
          let queue = all_queue event steps.moves s steps.fit none in
          (queue.0, ap (λ (t : SessionState). t.replies) steps.is ∙ queue.1, subst (λ (rs : List Record). Queues rs queue.0) (sym is) queue.2);
      resolves = λ none. subst (λ (rs : List Record). AllByRecursion (λ output. ResolvesBy event output) rs) (sym is) (resolves event steps.moves s steps.fit none (open_so _ _ live));
      opened = opened_by event row s new went (event_by accepts o s event live holds) followed;
      quiet = λ runs none. subst (λ (rs : List Record). AllByRecursion IsNoData rs) (sym is) (quiet event steps.moves s steps.fit none runs);
      says = subst (λ (rs : List Record). AllByRecursion (IsBrought event) rs) (sym is) (brings event steps.moves s steps.fit);
      calls = makes_calls event steps.moves s new steps.fit steps.is;
      waiting = opens_wait event steps.moves s new steps.fit steps.is;
      given = λ on. gives accepts o event s new live holds.front (subst (λ (b : Bool). Followed row s new b) on followed);
      key = λ on. kept_key accepts o s event (next_goes row s new (subst (λ (b : Bool). Followed row s new b) on followed));
    }
