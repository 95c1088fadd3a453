-- Each row keeps the session id, signs only the stored request, and stores no request but an event's: a law about the
-- table, independent of the code that runs it (RFC 4252, section 7; RFC 4253, section 7).
use Rattle.std.proofs.Common.{◌≡◌, ◌≢◌, inl, inr, List, [], ◌∷◌, ◌++◌, Option, Some, None, refl}
use Rattle.std.specs.List.{AllByRecursion}
use Rattle.sshc_wire.specs.declared.auth_record.AuthRecord.TheVariants.{SignRequest, SignRequestCert}
use Rattle.sshc_wire.specs.declared.record.Record.TheVariants as records
use Rattle.sshc_key.specs.declared.signer.Asker.TheVariants.{Session}
use Rattle.sshc_auth_event.specs.declared.event.Event.TheVariants as events
use Rattle.sshc_auth.specs.declared.opening.Phase.TheVariants as phases
use Rattle.sshc_auth.specs.AddedLaws.{HoldsOfLists, behind_resolved, resolved_has, service_has, stored_has, token_has, told_has}
use Rattle.sshc_auth.specs.Said.{Said}
use Rattle.sshc_auth.specs.EachRowLaws.{PacketRows, TableRows, UserRows, each_row, failed_row, started_row, succeeded_row}
use Rattle.sshc_auth.specs.RowNames.{Answer, answered_row, Asking, asks, authenticate_again_row, authenticate_first_row, done, ends, Error, Event, extensions_row, goes, gssapi_complete, gssapi_mic, HandsCertificate, HandsKey, HandsNothing, HashAlg, info_response_row, KeepsRequest, KeepsSession, Kept, kept_of, Key, last_token, Next, open_row, OpeningState, opens, Phase, Record, refuses, rekey_row, request, Row, signed_by_row, SignsStored, stays, Told, unsigned_row, user_disconnect_row}

-- ---- what the law says

abbrev pub KeepsState : Kept → Event → OpeningState → Type 0
KeepsState s event t = KeepsSession s t × KeepsRequest s event t

abbrev pub KeepsNext : Kept → Event → Next → Type 0
KeepsNext s event (stays t) = KeepsState s event t
KeepsNext s event (opens t) = KeepsState s event t
KeepsNext s event (ends e) = Unit {0}
KeepsNext s event (refuses e) = Unit {0}

-- no request is stored any more, or the session is over
abbrev pub SettledNext : Next → Type 0
SettledNext (stays t) = t.method ≡ None
SettledNext (opens t) = t.method ≡ None
SettledNext next = Unit {0}

-- bytes that a record hands out are the stored request's, which is settled by it, and no later record hands out any
abbrev pub HandsBytes : Kept → Next → Record → List Record → Type 0
HandsBytes s next (records.Auth ticket (SignRequest blob hash bytes)) later = HandsKey s.method s blob hash bytes × SettledNext next × AllByRecursion HandsNothing later
HandsBytes s next (records.Auth ticket (SignRequestCert blob hash bytes)) later = HandsCertificate s.method s blob hash bytes × SettledNext next × AllByRecursion HandsNothing later
HandsBytes s next output later = Unit {0}

abbrev pub HandsAll : Kept → Next → List Record → Type 0
HandsAll s next [] = Unit {0}
HandsAll s next (output ∷ later) = HandsBytes s next output later × HandsAll s next later

-- what is handed out belongs to the stored request, and what is kept is as it was or comes from the event
abbrev pub Keeps : Kept → Event → Row → Type 0
Keeps s event row = HandsAll s row.next row.records × KeepsNext s event row.next

-- a row that satisfies this and asks nothing; or one question for the stored request, and then a row that settles it and
-- hands nothing out
abbrev pub KeepsAsked : Kept → Event → Asking Row → Type 0
KeepsAsked s event (done row) = Keeps s event row × SettledNext row.next × AllByRecursion HandsNothing row.records
KeepsAsked s event (asks asked on) = ⊥

abbrev pub KeepsAsking : Kept → Event → Asking Row → Type 0
KeepsAsking s event (done row) = Keeps s event row
KeepsAsking s event (asks asked on) = (asked.by ≡ Session) × SignsStored s.method s asked.key asked.hash asked.bytes × ((answer : Answer) → KeepsAsked s event (on answer))

-- ---- states

-- session id, phase and request as they were
still : (s : OpeningState) (event : Event) → KeepsState (kept_of s) event s
still s event = ((λ later. (refl, later)), inl (refl, inl refl))

moved : (s : OpeningState) (event : Event) (phase : Phase) → phase ≢ phases.Exchanging →
    KeepsState (kept_of s) event (record s { phase = phase })
moved s event phase later = ((λ behind. (refl, later)), inl (refl, inl refl))

in_auth : phases.Auth ≢ phases.Exchanging
in_auth = λ same. absurd cc

-- ---- records that hand out nothing

abbrev Nothing : List Record → Type 0
Nothing output = AllByRecursion HandsNothing output

two_nothing : (a b : List Record) → Nothing a → Nothing b → Nothing (a ++ b)
two_nothing [] b one other = other
two_nothing (output ∷ a) b one other = (one.0, two_nothing a b one.1 other)

lists : HoldsOfLists Nothing
lists = record { none = tt; two = two_nothing; resolves = λ ticket resolution. (tt, tt) }

nothing_hands : (s : Kept) (next : Next) (output : Record) (later : List Record) → HandsNothing output →
    HandsBytes s next output later
nothing_hands s next (records.Auth ticket (SignRequest blob hash bytes)) later never = absurd never
nothing_hands s next (records.Auth ticket (SignRequestCert blob hash bytes)) later never = absurd never
nothing_hands s next output later none = tt

pub none_hands : (s : Kept) (next : Next) (output : List Record) → AllByRecursion HandsNothing output → HandsAll s next output
none_hands s next [] none = tt
none_hands s next (output ∷ later) none = (nothing_hands s next output later none.0, none_hands s next later none.1)

-- ---- the law

module _ (s : OpeningState) where
  abbrev RowKeeps : Event → Asking Row → Type 0
  RowKeeps event row = KeepsAsking (kept_of s) event row

  -- a row that hands out nothing
  none_keeps : (event : Event) (row : Row) → Nothing row.records → KeepsNext (kept_of s) event row.next →
      Keeps (kept_of s) event row
  none_keeps event row none next = (none_hands (kept_of s) row.next row.records none, next)

  signed_keeps : (event : Event) (key : Key) (hash : Option HashAlg) (answer : Answer) →
      KeepsAsked (kept_of s) event (done (signed_by_row s key hash answer))
  signed_keeps event key hash None = ((tt, tt), tt, tt)
  signed_keeps event key hash (Some signature) =
      (((tt, tt), ((λ later. (refl, later)), inl (refl, inr refl))), refl, (tt, tt))

  packet_keeps : (event : Event) (R : Error → Type 0) (W : Said → Type 0) → PacketRows (RowKeeps event) R W s
  packet_keeps event R W = record {
    passed = (tt, still s event);
    extended = λ told says. none_keeps event (extensions_row s told) (told_has lists told s.waiters)
        ((λ later. (refl, later)), inl (refl, inl refl));
    started = λ is. none_keeps event (started_row s) (stored_has lists s.user s.method (λ stored. (tt, tt)))
        (moved s event phases.Auth in_auth);
    unknown = λ partial without says. none_keeps event (failed_row s [] partial) (resolved_has lists s.ticket _) tt;
    failed = λ method known partial says.
        none_keeps event (failed_row s (method ∷ known) partial) (resolved_has lists s.ticket _)
        ((λ later. (refl, later)), inl (refl, inr refl));
    succeeded = λ says. none_keeps event (succeeded_row s) (behind_resolved lists s.ticket _ (records.Opened ∷ []) (tt, tt))
        ((λ later. (refl, λ same. absurd cc)), inl (refl, inr refl));
    banner = λ shown says. ((tt, tt), still s event);
    prompted = λ name instructions asked says. ((tt, tt), moved s event phases.AwaitResponses (λ same. absurd cc));
    gssapi = λ step says. ((tt, tt), still s event);
    cleared = (tt, ((λ later. (refl, later)), inl (refl, inr refl)));
    signs = λ pair key hash fault stored. (refl, stored, λ answer. signed_keeps event key hash answer);
    hands_key = λ key hash stored. (
      ((stored, refl, tt), tt),
      ((λ later. (refl, λ same. absurd cc)), inl (refl, inr refl)),
    );
    hands_certificate = λ cert hash stored. (
      ((stored, refl, tt), tt),
      ((λ later. (refl, λ same. absurd cc)), inl (refl, inr refl)),
    );
  }

  user_keeps : UserRows RowKeeps s
  unfolding authenticate_first_row authenticate_again_row rekey_row user_disconnect_row info_response_row
  user_keeps = record {
    first = λ ticket user method is.
        none_keeps (events.Authenticate ticket user method) (authenticate_first_row s ticket user method)
        (behind_resolved lists s.ticket _ _ (service_has lists s.requested (tt, tt)))
        ((λ later. (refl, later)), inr (refl, refl));
    again = λ ticket user method is.
        none_keeps (events.Authenticate ticket user method) (authenticate_again_row s ticket user method)
        (behind_resolved lists s.ticket _ (records.Payload (request user method) ∷ []) (tt, tt))
        ((λ later. (refl, later)), inr (refl, refl));
    token = λ token. ((tt, tt), still s (events.AuthGssapiToken token));
    mic = λ token code.
        none_keeps (events.AuthGssapiMic token code)
        (goes (last_token token ++ records.Payload (gssapi_mic code) ∷ []) s)
        (token_has lists token _ (λ other. (tt, tt)) (tt, tt)) (still s (events.AuthGssapiMic token code));
    complete = λ token.
        none_keeps (events.AuthGssapiExchangeComplete token)
        (goes (last_token token ++ records.Payload gssapi_complete ∷ []) s)
        (token_has lists token _ (λ other. (tt, tt)) (tt, tt)) (still s (events.AuthGssapiExchangeComplete token));
    rekeys = ((tt, tt), still s events.Rekey);
    waits = λ ticket name. (tt, still s (events.AwaitExtensionInfo ticket name));
    resolves = λ event ticket answer may.
        none_keeps event (answered_row s ticket answer) (resolved_has lists ticket answer) (still s event);
    leaves = λ reason description language. ((tt, tt), tt);
    gone = λ calm. (tt, tt);
    responds = λ responses. ((tt, tt), moved s (events.AuthInfoResponse responses) phases.Auth in_auth);
    signs = λ body awaits is. ((tt, tt), moved s (events.Signed body) phases.Auth in_auth);
    unsigned = λ event lost. none_keeps event (unsigned_row s) (resolved_has lists s.ticket _)
        ((λ later. (refl, in_auth)), inl (refl, inl refl));
  }

table_keeps : (s : OpeningState) (told : Told) → TableRows (RowKeeps s) s told
table_keeps s told = record {
  refusal = λ event e other is. (tt, tt);
  disconnected = λ event info is. (tt, tt);
  passed = λ event none. (tt, still s event);
  begins = λ idle. ((tt, tt), still s events.PeerKexinit);
  joins = λ running. (tt, still s events.PeerKexinit);
  accepted = λ x first went. ((tt, tt), ((λ later. absurd (later first)), inl (refl, inl refl)));
  opened = λ x first went anonymous. ((tt, (tt, tt)), ((λ later. absurd (later first)), inl (refl, inl refl)));
  later = λ x behind same. ((tt, tt), still s (events.ExchangeDone x));
  packets = λ n body counted behind. packet_keeps (record s { counted = counted }) (events.Payload (n ∷ body)) _ _;
  users = λ turn. user_keeps s;
}

-- each row satisfies it
pub open_keeps : (s : OpeningState) (event : Event) (told : Told) → KeepsAsking (kept_of s) event (open_row s event told)
open_keeps s event told = each_row (RowKeeps s) s told (table_keeps s told) event
