-- Laws of the definitions in specs/OpeningStays.antt.
use Rattle.std.proofs.Common.{◌≡◌, false, [], ◌∷◌, Option, Some, None, refl}
use Rattle.sshc_wire.specs.declared.record.Record.TheVariants.{Opened, Payload}
use Rattle.sshc_wire.specs.declared.resolution.Resolution.TheVariants.{AuthFailure, AuthSuccess, Dropped}
use Rattle.sshc_auth.specs.AddedLaws.{HoldsOfLists, behind_resolved, resolved_has, service_has, stored_has, token_has, told_has}
use Rattle.sshc_auth.specs.Said.{Said}
use Rattle.sshc_auth.specs.EachRowLaws.{PacketRows, TableRows, UserRows, each_row}
use Rattle.sshc_client_table.specs.SessionState.{is_open}
use Rattle.sshc_client_table.specs.SessionRecords.{AreSessions}
use Rattle.sshc_client_table.specs.SessionRecordsLaws.{sessions_on}
use Rattle.sshc_client_table.specs.OpeningStays.{Stays}
use Rattle.sshc_auth.specs.declared.error.Error.{Error}
use Rattle.sshc_auth.specs.declared.step.Told.{Told}
use Rattle.sshc_auth.specs.RowNames.{Always, Answer, Asking, authenticate_again_row, authenticate_first_row, Event, gssapi_complete, gssapi_mic, HashAlg, info_response_row, Key, open_row, OpeningState, rekey_row, request, Row, signed_by_row, user_disconnect_row}

lists : HoldsOfLists AreSessions
lists = record { none = tt; two = sessions_on; resolves = λ ticket resolution. (refl, tt) }

signed_stays : (s : OpeningState) (key : Key) (hash : Option HashAlg) (answer : Answer) → is_open s.phase ≡ false →
    Stays s.closed (signed_by_row s key hash answer)
signed_stays s key hash None is = (tt, tt)
signed_stays s key hash (Some signature) is = ((refl, is), (refl, tt))

packet_stays : (s : OpeningState) (R : Error → Type 0) (W : Said → Type 0) → is_open s.phase ≡ false →
    PacketRows (Always (Stays s.closed)) R W s
packet_stays s R W is = record {
  passed = ((refl, is), tt);
  extended = λ told says. ((refl, is), told_has lists told s.waiters);
  started = λ service. ((refl, refl), stored_has lists s.user s.method (λ stored. (refl, tt)));
  unknown = λ partial none says. (tt, resolved_has lists s.ticket (AuthFailure [] partial));
  failed = λ method known partial says. ((refl, is), resolved_has lists s.ticket (AuthFailure (method ∷ known) partial));
  succeeded = λ says. (refl, behind_resolved lists s.ticket AuthSuccess (Opened ∷ []) (refl, tt));
  banner = λ shown says. ((refl, is), (refl, tt));
  prompted = λ name instructions asked says. ((refl, refl), (refl, tt));
  gssapi = λ step says. ((refl, is), (refl, tt));
  cleared = ((refl, is), tt);
  signs = λ pair key hash fault stored answer. signed_stays s key hash answer is;
  hands_key = λ key hash stored. ((refl, refl), (refl, tt));
  hands_certificate = λ cert hash stored. ((refl, refl), (refl, tt));
}

-- whatever the event
abbrev StaysRow : OpeningState → Event → Asking Row → Type 0
StaysRow s event row = Always (Stays s.closed) row

user_stays : (s : OpeningState) → is_open s.phase ≡ false → UserRows (StaysRow s) s
unfolding authenticate_first_row authenticate_again_row rekey_row user_disconnect_row info_response_row
user_stays s is = record {
  first = λ ticket user method service.
      ((refl, is), behind_resolved lists s.ticket Dropped _ (service_has lists s.requested (refl, tt)));
  again = λ ticket user method auth.
      ((refl, is), behind_resolved lists s.ticket Dropped (Payload (request user method) ∷ []) (refl, tt));
  token = λ token. ((refl, is), (refl, tt));
  mic = λ token code. ((refl, is), token_has lists token (gssapi_mic code) (λ other. (refl, tt)) (refl, tt));
  complete = λ token. ((refl, is), token_has lists token gssapi_complete (λ other. (refl, tt)) (refl, tt));
  rekeys = ((refl, is), (refl, tt));
  waits = λ ticket name. ((refl, is), tt);
  resolves = λ event ticket resolution may. ((refl, is), resolved_has lists ticket resolution);
  leaves = λ reason description language. (tt, (refl, tt));
  gone = λ calm. (tt, tt);
  responds = λ responses. ((refl, refl), (refl, tt));
  signs = λ body awaits signed. ((refl, refl), (refl, tt));
  unsigned = λ event lost. ((refl, refl), resolved_has lists s.ticket Dropped);
}

table_stays : (s : OpeningState) (told : Told) → is_open s.phase ≡ false → TableRows (StaysRow s) s told
table_stays s told is = record {
  refusal = λ event e other cause. (tt, tt);
  disconnected = λ event info left. (tt, tt);
  passed = λ event none. ((refl, is), tt);
  begins = λ idle. ((refl, is), (refl, tt));
  joins = λ running. ((refl, is), tt);
  accepted = λ x first went. ((refl, refl), (refl, tt));
  opened = λ x first went anonymous. (refl, (refl, (refl, tt)));
  later = λ x behind same. ((refl, is), (refl, tt));
  packets = λ n body counted behind. packet_stays (record s { counted = counted }) _ _ is;
  users = λ turn. user_stays s is;
}

-- a row after which the session continues leaves it unopened, and closed or not as it was; one that opens the session
-- leaves it open
pub open_stays : (s : OpeningState) (event : Event) (told : Told) → is_open s.phase ≡ false → Always (Stays s.closed) (open_row s event told)
open_stays s event told is = each_row (StaysRow s) s told (table_stays s told is) event
