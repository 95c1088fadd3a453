-- Each row of the opening's table adds only what its event may add, and opens the session only by what may open it: a
-- law about the table.
use Rattle.std.proofs.Common.{◌≡◌, ◌≢◌, inl, inr, ℕ, Bool, true, false, List, [], ◌∷◌, ◌++◌, Option, Some, None, refl, arith}
use Rattle.std.specs.Prelude.{not, ◌==◌, if◌then◌else◌, filter}
use Rattle.std.specs.List.{AllByRecursion}
use Rattle.std.proofs.lemmas.Bool.Decides.{nat_tests}
use Rattle.sshc_wire.specs.declared.record.Record.TheVariants as records
use Rattle.sshc_wire.specs.declared.resolution.Resolution.TheVariants as answers
use Rattle.sshc_auth_event.specs.declared.event.Event.TheVariants as events
use Rattle.sshc_auth.specs.declared.opening.Waiter.{Waiter}
use Rattle.sshc_auth.specs.EachRowLaws.{PacketRows, TableRows, UserRows, by_test, each_row}
use Rattle.sshc_auth.specs.Extensions.{answers_seen, answers_to, others, waits_for}
use Rattle.sshc_auth.specs.OpeningAnswers.{IsAmong, MayAdd, MayOpen, MayResolve, Says, TellsName}
use Rattle.sshc_auth.specs.RowNames.{Always, Answer, Asking, asked_for_service, authenticate_again_row, authenticate_first_row, Error, Event, Extension, HashAlg, info_response_row, Key, last_token, Method, Next, open_row, OpeningState, opens, Record, rekey_row, Resolution, resolved, Row, signed_by_row, stored_request, Ticket, Told, user_disconnect_row}

-- ---- what the law says

abbrev pub NextOpens : OpeningState → Event → Next → Type 0
NextOpens s event (opens t) = MayOpen s event
NextOpens s event next = Unit {0}

abbrev pub RowAnswers : OpeningState → Event → Row → Type 0
RowAnswers s event row = AllByRecursion (MayAdd s event) row.records × NextOpens s event row.next

-- ---- lists

module _ (s : OpeningState) (event : Event) where
  abbrev AllMay : List Record → Type 0
  AllMay output = AllByRecursion (MayAdd s event) output

  two_may : (a b : List Record) → AllMay a → AllMay b → AllMay (a ++ b)
  two_may [] b one other = other
  two_may (output ∷ a) b one other = (one.0, two_may a b one.1 other)

  not_zero : (ticket : Ticket) → (ticket.0 == 0) ≡ false → ticket.0 ≢ 0
  not_zero ticket is = grind (arith, nat_tests)

  resolved_may : (ticket : Ticket) (answer : Resolution) → MayResolve s event ticket answer →
      AllMay (resolved ticket answer)
  resolved_may ticket answer may = by_test AllMay (ticket.0 == 0) _ _ (λ none. tt) (λ some. ((not_zero ticket some, may), tt))

  before_may : (ticket : Ticket) (answer : Resolution) (more : List Record) → MayResolve s event ticket answer →
      AllMay more → AllMay (resolved ticket answer ++ more)
  before_may ticket answer more may others = two_may (resolved ticket answer) more (resolved_may ticket answer may) others

  stored_may : (user : List ℕ) (method : Option Method) → AllMay (stored_request user method)
  stored_may user None = tt
  stored_may user (Some method) = (tt, tt)

  service_may : (requested : Bool) → AllMay (asked_for_service requested)
  service_may true = tt
  service_may false = (tt, tt)

  token_may : (token : Option (List ℕ)) (packet : List ℕ) → AllMay (last_token token ++ records.Payload packet ∷ [])
  token_may None packet = (tt, tt)
  token_may (Some []) packet = (tt, tt)
  token_may (Some (b ∷ token)) packet = (tt, (tt, tt))

  -- ---- who waits for an extension

  -- each of those who wait for this name may be told
  abbrev Tells : List ℕ → List Waiter → Type 0
  Tells name waiters =
      (waiter : Waiter) → IsAmong waiter waiters → waits_for name waiter ≡ true →
      MayResolve s event waiter.ticket answers.ExtInfoSeen

  seen_may : (name : List ℕ) (waiters : List Waiter) → Tells name waiters → AllMay (answers_seen name waiters)
  seen_may name [] tells = tt
  seen_may name (waiter ∷ waiters) tells =
      two_may (if waits_for name waiter then resolved waiter.ticket answers.ExtInfoSeen else []) (answers_seen name waiters)
      (by_test AllMay (waits_for name waiter) _ _
      (λ waits. resolved_may waiter.ticket answers.ExtInfoSeen (tells waiter (inl refl) waits)) (λ other. tt))
      (seen_may name waiters (λ one among waits. tells one (inr among) waits))

  kept_among : (kept : Bool) (one waiter : Waiter) (some waiters : List Waiter) → (IsAmong waiter some → IsAmong waiter waiters) →
      IsAmong waiter (if kept then one ∷ some else some) → IsAmong waiter (one ∷ waiters)
  kept_among true one waiter some waiters more (inl same) = inl same
  kept_among true one waiter some waiters more (inr among) = inr (more among)
  kept_among false one waiter some waiters more among = inr (more among)

  all_among : (keeps : Waiter → Bool) (waiters : List Waiter) (waiter : Waiter) →
      IsAmong waiter (filter keeps waiters) → IsAmong waiter waiters
  all_among keeps [] waiter among = among
  all_among keeps (one ∷ waiters) waiter among =
      kept_among (keeps one) one waiter (filter keeps waiters) waiters (λ more. all_among keeps waiters waiter more) among

  told_may : (told : List Extension) (waiters : List Waiter) → ((waiter : Waiter) → IsAmong waiter waiters →
      TellsName waiter told → MayResolve s event waiter.ticket answers.ExtInfoSeen) → AllMay (answers_to told waiters)
  told_may [] waiters tells = tt
  told_may (extension ∷ told) waiters tells =
      two_may (answers_seen extension.name waiters) (answers_to told (others extension.name waiters))
      (seen_may extension.name waiters (λ one among waits. tells one among (inl waits)))
      (told_may told (others extension.name waiters)
      (λ one among later. tells one (all_among (λ waiter. not (waits_for extension.name waiter)) waiters one among) (inr later)))

-- ---- the law

abbrev Adds : OpeningState → Event → Asking Row → Type 0
Adds s event row = Always (RowAnswers s event) row

signed_adds : (s t : OpeningState) (event : Event) (key : Key) (hash : Option HashAlg) (answer : Answer) →
    RowAnswers s event (signed_by_row t key hash answer)
signed_adds s t event key hash None = (tt, tt)
signed_adds s t event key hash (Some signature) = ((tt, tt), tt)

-- the state of a packet's rows differs in the bytes that are counted
packet_adds : (s : OpeningState) (counted n : ℕ) (body : List ℕ) (R : Error → Type 0) →
    PacketRows (Adds s (events.Payload (n ∷ body))) R (Says s n body) (record s { counted = counted })
packet_adds s counted n body R =
    let event : Event = events.Payload (n ∷ body) in record {
      passed = (tt, tt);
      extended = λ told says.
          (told_may s event told s.waiters (λ waiter among tells. inr (waiter, told, among, refl, says, tells)), tt);
      started = λ is. (stored_may s event s.user s.method, tt);
      unknown = λ partial without says. (resolved_may s event s.ticket _ (refl, says), tt);
      failed = λ method known partial says. (resolved_may s event s.ticket _ (refl, says), tt);
      succeeded = λ says. (before_may s event s.ticket _ (records.Opened ∷ []) (refl, says) (says, tt), says);
      banner = λ shown says. ((says, tt), tt);
      prompted = λ name instructions asked says. (((refl, says), tt), tt);
      gssapi = λ step says. (((refl, says), tt), tt);
      cleared = (tt, tt);
      signs = λ pair key hash fault stored answer. signed_adds s (record s { counted = counted }) event key hash answer;
      hands_key = λ key hash stored. ((refl, tt), tt);
      hands_certificate = λ cert hash stored. ((refl, tt), tt);
    }

user_adds : (s : OpeningState) → UserRows (Adds s) s
unfolding authenticate_first_row authenticate_again_row rekey_row user_disconnect_row info_response_row
user_adds s = record {
  first = λ ticket user method is. (
    before_may s (events.Authenticate ticket user method) s.ticket _ (asked_for_service s.requested)
        (inl (refl, tt)) (service_may s (events.Authenticate ticket user method) s.requested),
    tt,
  );
  again = λ ticket user method is.
      (before_may s (events.Authenticate ticket user method) s.ticket _ _ (inl (refl, tt)) (tt, tt), tt);
  token = λ token. ((tt, tt), tt);
  mic = λ token code. (token_may s (events.AuthGssapiMic token code) token _, tt);
  complete = λ token. (token_may s (events.AuthGssapiExchangeComplete token) token _, tt);
  rekeys = ((tt, tt), tt);
  waits = λ ticket name. (tt, tt);
  resolves = λ event ticket answer may. (resolved_may s event ticket answer may, tt);
  leaves = λ reason description language. ((tt, tt), tt);
  gone = λ calm. (tt, tt);
  responds = λ responses. ((tt, tt), tt);
  signs = λ body awaits is. ((tt, tt), tt);
  unsigned = λ event lost. (resolved_may s event s.ticket answers.Dropped (inl (refl, lost)), tt);
}

table_adds : (s : OpeningState) (told : Told) → TableRows (Adds s) s told
table_adds s told = record {
  refusal = λ event e other is. (tt, tt);
  disconnected = λ event info is. (tt, tt);
  passed = λ event none. (tt, tt);
  begins = λ idle. ((tt, tt), tt);
  joins = λ running. (tt, tt);
  accepted = λ x first went. ((refl, tt), tt);
  opened = λ x first went anonymous. ((refl, ((first, anonymous), tt)), (first, anonymous));
  later = λ x behind same. ((refl, tt), tt);
  packets = λ n body counted behind. packet_adds s counted n body _;
  users = λ turn. user_adds s;
}

-- each row adds what its event may add
pub row_answers : (s : OpeningState) (event : Event) (told : Told) → Always (RowAnswers s event) (open_row s event told)
row_answers s event told = each_row (Adds s) s told (table_adds s told) event
