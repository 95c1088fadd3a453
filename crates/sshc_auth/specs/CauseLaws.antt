-- Each row that refuses or ends has its cause: a law about the table, independent of the code that runs it.
use Rattle.std.proofs.Common.{◌≡◌, ℕ, List, ◌∷◌, Option, Some, None, refl}
use Rattle.sshc_auth_event.specs.declared.event.Event.TheVariants as events
use Rattle.sshc_transport.specs.declared.exchange.ExchangeFlag.TheVariants as flags
use Rattle.sshc_auth.specs.declared.error.Error.TheVariants as errors
use Rattle.sshc_auth.specs.declared.opening.Phase.TheVariants as phases
pub use Rattle.sshc_auth.specs.EachRowLaws.{not_kept}
use Rattle.sshc_auth.specs.Said.{Said}
use Rattle.sshc_auth.specs.EachRowLaws.{IsOther, PacketRows, TableRows, UserRows, each_row}
use Rattle.sshc_auth.specs.Row.{ends as ends_with}
use Rattle.sshc_auth.specs.RowNames.{AllCaused, Answer, Asking, asks, authenticate_again_row, authenticate_first_row, Caused, done, Error, Event, ExchangeResult, HashAlg, info_response_row, IsCause, Key, Next, open_row, OpeningState, opens, refuses, rekey_row, Row, signed_by_row, stays, Told, user_disconnect_row, WasToldNo, Why, why}

-- ---- what the law says

abbrev IsOtherNext : Next → Type 0
IsOtherNext (refuses e) = IsOther e
IsOtherNext next = Unit {0}

-- a row whose questions are all answered isn't refused with the signer's fault
abbrev pub FaultsOnRefusal : Asking Row → Type 0
FaultsOnRefusal (done row) = IsOtherNext row.next
FaultsOnRefusal (asks asked on) = (signature : List ℕ) → FaultsOnRefusal (on (Some signature))

abbrev HasCauses : OpeningState → Told → Event → Asking Row → Type 0
HasCauses s told event row = AllCaused (why (WasToldNo told) s event) row × FaultsOnRefusal row

-- ---- the law

signed_cause : (P : Why) (s : OpeningState) (key : Key) (hash : Option HashAlg) (answer : Answer) →
    P.refusal errors.SignerFault → Caused P (signed_by_row s key hash answer).next
signed_cause P s key hash None fault = fault
signed_cause P s key hash (Some signature) fault = tt

-- the state of a packet's rows differs in the bytes that are counted
packet_causes : (s t : OpeningState) (told : Told) (event : Event) (W : Said → Type 0) →
    PacketRows (HasCauses s told event) (IsCause (WasToldNo told) s event) W t
packet_causes s t told event W = record {
  passed = (tt, tt);
  extended = λ told says. (tt, tt);
  started = λ is. (tt, tt);
  unknown = λ partial none says. (none, tt);
  failed = λ method known partial says. (tt, tt);
  succeeded = λ says. (tt, tt);
  banner = λ shown says. (tt, tt);
  prompted = λ name instructions asked says. (tt, tt);
  gssapi = λ step says. (tt, tt);
  cleared = (tt, tt);
  signs = λ pair key hash fault stored.
      (λ answer. signed_cause (why (WasToldNo told) s event) t key hash answer fault, λ signature. tt);
  hands_key = λ key hash stored. (tt, tt);
  hands_certificate = λ cert hash stored. (tt, tt);
}

user_causes : (s : OpeningState) (told : Told) → UserRows (HasCauses s told) s
unfolding authenticate_first_row authenticate_again_row rekey_row user_disconnect_row info_response_row
user_causes s told = record {
  first = λ ticket user method is. (tt, tt);
  again = λ ticket user method is. (tt, tt);
  token = λ token. (tt, tt);
  mic = λ token code. (tt, tt);
  complete = λ token. (tt, tt);
  rekeys = (tt, tt);
  waits = λ ticket name. (tt, tt);
  resolves = λ event ticket resolution may. (tt, tt);
  leaves = λ reason description language. (tt, tt);
  gone = λ calm. ((refl, calm), tt);
  responds = λ responses. (tt, tt);
  signs = λ body awaits is. (tt, tt);
  unsigned = λ event lost. (tt, tt);
}

table_causes : (s : OpeningState) (told : Told) → TableRows (HasCauses s told) s told
table_causes s told = record {
  refusal = λ event e other is. (is, other);
  disconnected = λ event info is. (is, tt);
  passed = λ event none. (tt, tt);
  begins = λ idle. (tt, tt);
  joins = λ running. (tt, tt);
  accepted = λ x first went. (tt, tt);
  opened = λ x first went anonymous. (tt, tt);
  later = λ x behind same. (tt, tt);
  packets = λ n body counted behind. packet_causes s (record s { counted = counted }) told (events.Payload (n ∷ body)) _;
  users = λ turn. user_causes s told;
}

pub open_cause : (s : OpeningState) (event : Event) (told : Told) → AllCaused (why (WasToldNo told) s event) (open_row s event told)
open_cause s event told = (each_row (HasCauses s told) s told (table_causes s told) event).0

pub open_faults : (s : OpeningState) (event : Event) (told : Told) → FaultsOnRefusal (open_row s event told)
open_faults s event told = (each_row (HasCauses s told) s told (table_causes s told) event).1

-- ---- the rejection of a host key, defined in two ways

-- for an exchange that may come, the first definition of a rejection implies the second
abbrev pub SaysAlso : (ExchangeResult → Type 0) → (ExchangeResult → Type 0) → OpeningState → Event → Type 0
SaysAlso N M s event = (x : ExchangeResult) → event ≡ events.ExchangeDone x → s.flag ≡ flags.Peer → s.phase ≡ phases.Exchanging → N x → M x

unknown_also : (N M : ExchangeResult → Type 0) (s : OpeningState) (event : Event) → SaysAlso N M s event → IsCause N s event errors.UnknownKey → IsCause M s event errors.UnknownKey
unknown_also N M s (events.ExchangeDone x) also (peer, (first, denied)) = (peer, (first, also x refl peer first denied))
unknown_also N M s event also (peer, never) = absurd never

pub cause_also : (N M : ExchangeResult → Type 0) (s : OpeningState) (event : Event) (e : Error) → SaysAlso N M s event → IsCause N s event e → IsCause M s event e
cause_also N M s event errors.UnknownKey also why = unknown_also N M s event also why
cause_also N M s event e also why = why

-- and so an outcome that has its cause by the first definition has it by the second
pub caused_also : (N M : ExchangeResult → Type 0) (s : OpeningState) (event : Event) (next : Next) → SaysAlso N M s event → Caused (why N s event) next → Caused (why M s event) next
caused_also N M s event (stays to) also reason = tt
caused_also N M s event (opens to) also reason = tt
caused_also N M s event (ends_with e) also reason = reason
caused_also N M s event (refuses e) also reason = cause_also N M s event e also reason
