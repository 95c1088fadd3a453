-- One walk over the opening table: what holds of each row that the table comes to, where its tests lead to that row,
-- holds of the row of every event. A law of the table is a record of what it says of these rows (`TableRows`).
use Rattle.std.proofs.Common.{◌≡◌, ◌≢◌, ◌⊎◌, ◌<◌, ◌≤◌, ◌+◌, ◌-◌, ◌*◌, ◌^◌, inl, inr, ℕ, Bool, true, false, List, [], ◌∷◌, ◌++◌, ◌/◌, length, Option, Some, None, Result, Ok, Err, refl, ap, sym, ◌∙◌, subst, arith}
use Rattle.std.specs.Prelude.{min, not, ◌==◌, if◌then◌else◌, bytes_eq, codes}
use Rattle.std.specs.Int.{w32}
use Rattle.std.specs.List.{AllByRecursion}
use Rattle.std.proofs.lemmas.Bool.Decides.{nat_tests}
use Rattle.std.proofs.lemmas.Slice.Eq.{bytes_eq-Decides}
use Rattle.sshc_wire.specs.CasesLaws.{not_true}
use Rattle.sshc_wire.specs.Methods.{has_method, method_of, with_method}
use Rattle.sshc_wire.specs.Names.{names_in}
use Rattle.sshc_wire.specs.Reads.{boolean_at, number_at}
use Rattle.sshc_wire.specs.Reasons.{disconnect_of}
use Rattle.sshc_wire.specs.declared.auth_record.AuthRecord.TheVariants.{AuthInfoRequest}
use Rattle.sshc_wire.specs.declared.auth_record.GssapiRecord.{GssapiRecord}
use Rattle.sshc_wire.specs.declared.auth_record.GssapiRecord.TheVariants as gssapi
use Rattle.sshc_wire.specs.declared.auth_record.Prompt.{Prompt}
use Rattle.sshc_wire.specs.MessageNumbers.{DISCONNECT, EXT_INFO, SERVICE_ACCEPT, USERAUTH_FAILURE, USERAUTH_SUCCESS, USERAUTH_BANNER, USERAUTH_PK_OK, USERAUTH_GSSAPI_TOKEN, USERAUTH_GSSAPI_ERROR, USERAUTH_GSSAPI_ERRTOK}
use Rattle.sshc_wire.specs.declared.record.Record.TheVariants as records
use Rattle.sshc_wire.specs.declared.resolution.Resolution.TheVariants as answers
use Rattle.sshc_key.specs.PairCode.{KeyPair}
use Rattle.sshc_auth_event.specs.declared.event.Event.TheVariants as events
use Rattle.sshc_auth_event.specs.declared.method.Method.TheVariants as methods
use Rattle.sshc_auth_request.specs.RequestTexts.{mic}
use Rattle.sshc_transport.specs.declared.exchange.ExchangeFlag.TheVariants as flags
use Rattle.sshc_transport.specs.declared.exchange.ExchangeKey.TheVariants as keys
use Rattle.sshc_auth.specs.declared.ended.Ended.TheVariants.{RemoteDisconnect}
use Rattle.sshc_auth.specs.declared.ended.RemoteDisconnectInfo.{RemoteDisconnectInfo}
use Rattle.sshc_auth.specs.declared.error.Error.TheVariants as errors
use Rattle.sshc_auth.specs.declared.opening.Class.TheVariants as classes
use Rattle.sshc_auth.specs.declared.opening.Phase.TheVariants as phases
use Rattle.sshc_auth.specs.declared.order.EventSort.TheVariants as sorts
use Rattle.sshc_auth.specs.declared.step.Told.TheVariants as telling
use Rattle.sshc_auth.specs.Causes.{FieldKind, number, boolean, string, text, prompts, extensions, end, Breaks, BreaksBehind, after_prompts, rest_of, AreTooMany, AreUnknown, HasTooManyPrompts, IsLocal, IsUnexpectedIn, IsChannelOpen, IsEarly, IsNotUsers, IsOutOfTurn, IsPeersEnd, ReadsTexts, accept_parts, parts_in}
use Rattle.sshc_auth.specs.Extensions.{extensions_at}
use Rattle.sshc_auth.specs.OpeningTable.{answer_row, gssapi_row, authenticate_row_in, user_row, unopened_row, event_row}
use Rattle.sshc_auth.specs.OpeningTable.Auth.{answered, userauth_failure_row, userauth_success_row, known_behind, known_methods, add_known, next_without}
use Rattle.sshc_auth.specs.OpeningTable.AuthGssapi.{gssapi_response_row, gssapi_token_row, gssapi_error_row, gssapi_errtok_row, is_gssapi, user_token_row, user_mic_row, user_complete_row}
use Rattle.sshc_auth.specs.OpeningTable.AuthKey.{ask_certificate_row, ask_key_row, pk_ok_row, is_pk_ok_body, is_at_end, key_row, sign_row}
use Rattle.sshc_auth.specs.OpeningTable.AuthPrompts.{info_request_row, is_too_many, prompts_at, prompts_row}
use Rattle.sshc_auth.specs.OpeningTable.Awaiting.{awaiting_row, answer_row_in, responses_row, signature_row, signed_row}
use Rattle.sshc_auth.specs.OpeningTable.Exchange.{peer_kexinit_row, first_exchange_row}
use Rattle.sshc_auth.specs.OpeningTable.ExtInfo.{ext_info_row, is_third}
use Rattle.sshc_auth.specs.OpeningTable.Order.{sort_of, is_early, is_early_at, is_early_awaiting, packet_in, ticket_of}
use Rattle.sshc_auth.specs.OpeningTable.Packets.{disconnect_row, disconnect_reason_row, is_ignored, waits_for_exchange}
use Rattle.sshc_auth.specs.OpeningTable.Service.{service_accept_row, service_packet_row}
use Rattle.sshc_auth.specs.OpeningTable.User.{gone_row, await_extension_info_row, get_server_sig_algs_row, is_seen, sig_algs_answer}
use Rattle.sshc_auth.specs.OpeningAnswers.{ArePrompts, LosesLogin, MayResolve, Says}
use Rattle.sshc_auth.specs.Said as said
use Rattle.sshc_auth.specs.Said.{Said}
use Rattle.sshc_auth.specs.PromptLaws.{AreRead, are_prompts}
use Rattle.sshc_auth.specs.Row.{ends as ends_with}
use Rattle.sshc_auth.specs.RowNames.{accepted_row, answered_row, Asking, auth_packet_row, auth_row, authenticate_again_row, authenticate_first_row, behind_session_id, broken_row, Class, counted_with, Disconnect, done, ends_at, Error, Event, exchange_done_row, exchange_in, exchange_row_in, exchanged, ExchangeFlag, ExchangeKey, ExchangeResult, Extension, extensions_row, goes, gssapi_complete, gssapi_mic, gssapi_step, gssapi_token, HandsCertificate, HandsKey, has_kept_key, HashAlg, held_packet_row, info_response_row, is_awaiting, is_exchanging, is_out_of_turn, is_pk_ok, is_same_key, is_signed, is_too_much, IsCause, IsKeptKey, kept_of, Key, key_text, last_token, Method, MethodKind, numbered_row, open_row, OpeningState, opens, packet_row_in, passed_over, payload_row, peer_kexinit_row_at, Phase, plain_row, refused, rekey_row, Resolution, resolved, Row, signed, SignsStored, stored_request, string_at, taken, text_at, Ticket, Told, turn_row, unsigned_row, user_disconnect_row, userauth_banner_row, WasToldNo, WireError, with_part}

-- ---- what the table comes to

-- an error that isn't the signer's fault
abbrev pub IsOther : Error → Type 0
IsOther errors.SignerFault = ⊥
IsOther e = Unit {0}

abbrev pub left_row : RemoteDisconnectInfo → Row
left_row info = record { records = []; next = ends_with (RemoteDisconnect info) }

abbrev pub failed_row : OpeningState → List MethodKind → Bool → Row
failed_row s known partial = record {
  records = resolved s.ticket (answers.AuthFailure known partial);
  next = next_without s known;
}

abbrev pub succeeded_row : OpeningState → Row
succeeded_row s = record {
  records = resolved s.ticket answers.AuthSuccess ++ records.Opened ∷ [];
  next = opens (record (answered s) { phase = phases.Open });
}

abbrev pub prompted_row : OpeningState → List ℕ → List ℕ → List Prompt → Row
prompted_row s name instructions asked =
    goes (records.Auth s.ticket (AuthInfoRequest name instructions asked) ∷ [])
    (record s { phase = phases.AwaitResponses })

abbrev pub started_row : OpeningState → Row
started_row s = goes (stored_request s.user s.method) (record s { phase = phases.Auth })

abbrev pub waiting_row : OpeningState → Ticket → List ℕ → Row
waiting_row s ticket name =
    goes [] (record s { waiters = s.waiters ++ (record { ticket = ticket; extension_name = name }) ∷ [] })

abbrev pub handed_row : OpeningState → List ℕ → Row
handed_row s body = goes (records.Payload (behind_session_id s body) ∷ []) (record s { phase = phases.Auth })

-- a packet's, after the first exchange; `R` says for which causes its errors come, and `W` what the packet says
pub record PacketRows (P : Asking Row → Type 0) (R : Error → Type 0) (W : Said → Type 0) (s : OpeningState) : Type 0 where
  pub passed : P (done (passed_over s))
  pub extended : (told : List Extension) → W (said.extensions told) → P (done (extensions_row s told))
  pub started : s.phase ≡ phases.Service → P (done (started_row s))
  pub unknown : (partial : Bool) → R errors.NoAuthMethod → W (said.failure [] partial) → P (done (failed_row s [] partial))
  pub failed : (method : MethodKind) (known : List MethodKind) (partial : Bool) → W (said.failure (method ∷ known) partial) →
      P (done (failed_row s (method ∷ known) partial))
  pub succeeded : W said.success → P (done (succeeded_row s))
  pub banner : (shown : List ℕ) → W (said.banner shown) → P (done (goes (records.AuthBanner shown ∷ []) s))
  pub prompted : (name instructions : List ℕ) (asked : List Prompt) → W (said.prompts name instructions asked) →
      P (done (prompted_row s name instructions asked))
  pub gssapi : (step : GssapiRecord) → W (said.step step) → P (done (gssapi_step s step))
  pub cleared : P (done (goes [] (taken s)))
  pub signs : (pair : KeyPair) (key : Key) (hash : Option HashAlg) → R errors.SignerFault →
      SignsStored s.method (kept_of s) pair hash (signed s.session_id s.user key hash) → P (sign_row s pair key hash)
  pub hands_key : (key : Key) (hash : Option HashAlg) →
      HandsKey s.method (kept_of s) (key_text key) hash (signed s.session_id s.user key hash) →
      P (done (ask_key_row s key hash))
  pub hands_certificate : (cert : Key) (hash : Option HashAlg) →
      HandsCertificate s.method (kept_of s) (key_text cert) hash (signed s.session_id s.user cert hash) →
      P (done (ask_certificate_row s cert hash))

-- a user's
pub record UserRows (P : Event → Asking Row → Type 0) (s : OpeningState) : Type 0 where
  pub first : (ticket : Ticket) (user : List ℕ) (method : Method) → s.phase ≡ phases.Service →
      P (events.Authenticate ticket user method) (done (authenticate_first_row s ticket user method))
  pub again : (ticket : Ticket) (user : List ℕ) (method : Method) → s.phase ≡ phases.Auth →
      P (events.Authenticate ticket user method) (done (authenticate_again_row s ticket user method))
  pub token : (token : List ℕ) →
      P (events.AuthGssapiToken token) (done (goes (records.Payload (gssapi_token token) ∷ []) s))
  pub mic : (token : Option (List ℕ)) (code : List ℕ) →
      P (events.AuthGssapiMic token code) (done (goes (last_token token ++ records.Payload (gssapi_mic code) ∷ []) s))
  pub complete : (token : Option (List ℕ)) →
      P (events.AuthGssapiExchangeComplete token)
      (done (goes (last_token token ++ records.Payload gssapi_complete ∷ []) s))
  pub rekeys : P events.Rekey (done (rekey_row s))
  pub waits : (ticket : Ticket) (name : List ℕ) →
      P (events.AwaitExtensionInfo ticket name) (done (waiting_row s ticket name))
  pub resolves : (event : Event) (ticket : Ticket) (answer : Resolution) → MayResolve s event ticket answer →
      P event (done (answered_row s ticket answer))
  pub leaves : (reason : Disconnect) (description language : List ℕ) →
      P (events.Disconnect reason description language) (done (user_disconnect_row reason description language))
  pub gone : is_awaiting s.phase ≡ false → P events.Gone (done gone_row)
  pub responds : (texts : List (List ℕ)) → P (events.AuthInfoResponse texts) (done (info_response_row s texts))
  pub signs : (body : List ℕ) → s.phase ≡ phases.AwaitSignature → is_signed s.handed body ≡ true →
      P (events.Signed body) (done (handed_row s body))
  pub unsigned : (event : Event) → LosesLogin s event → P event (done (unsigned_row s))

-- all of them; the rows of a packet are those of a state that differs only in the bytes that are counted
pub record TableRows (P : Event → Asking Row → Type 0) (s : OpeningState) (told : Told) : Type 0 where
  pub refusal : (event : Event) (e : Error) → IsOther e → IsCause (WasToldNo told) s event e →
      P event (done (refused e))
  pub disconnected : (event : Event) (info : RemoteDisconnectInfo) → IsPeersEnd event info →
      P event (done (left_row info))
  pub passed : (event : Event) → exchange_in event ≡ None → P event (done (passed_over s))
  pub begins : s.flag ≡ flags.Idle → P events.PeerKexinit (done (peer_kexinit_row_at flags.Idle s))
  pub joins : s.flag ≢ flags.Idle → P events.PeerKexinit (done (peer_kexinit_row_at flags.Peer s))
  pub accepted : (x : ExchangeResult) → s.phase ≡ phases.Exchanging → told ≡ telling.Went →
      P (events.ExchangeDone x) (done (accepted_row false s x))
  pub opened : (x : ExchangeResult) → s.phase ≡ phases.Exchanging → told ≡ telling.Went →
      s.settings.anonymous ≡ true → P (events.ExchangeDone x) (done (accepted_row true s x))
  pub later : (x : ExchangeResult) → s.phase ≢ phases.Exchanging → has_kept_key s x ≡ true →
      P (events.ExchangeDone x) (done (goes (records.KexDone x.names.kex ∷ []) (exchanged s)))
  pub packets : (n : ℕ) (body : List ℕ) (counted : ℕ) → s.phase ≢ phases.Exchanging →
      PacketRows (P (events.Payload (n ∷ body))) (IsCause (WasToldNo told) s (events.Payload (n ∷ body)))
      (Says s n body) (record s { counted = counted })
  pub users : (is_awaiting s.phase ≡ true) ⊎ (s.flag ≡ flags.Idle) → UserRows P s

-- ---- tests and parts

-- what a choice has if each of its values has it where it is taken
pub by_test : {A : Type 0} (P : A → Type 0) (b : Bool) (x y : A) → (b ≡ true → P x) → (b ≡ false → P y) →
    P (if b then x else y)
by_test P true x y one other = one refl
by_test P false x y one other = other refl

-- a packet is broken if a part of it can't be read; else it holds of what follows the part
part_row : {A : Type 0} (Q : Row → Type 0) (parts : List FieldKind) (read : Result (A × List ℕ) WireError)
    (on : A → List ℕ → Row) → (BreaksBehind (λ rest. Breaks parts rest) (rest_of read) → Q broken_row) →
    ((x : A) (rest : List ℕ) → read ≡ Ok (x, rest) → (Breaks parts rest → Q broken_row) → Q (on x rest)) →
    Q (with_part broken_row read on)
part_row Q parts (Ok x) on breaks each = each x.0 x.1 refl breaks
part_row Q parts (Err e) on breaks each = breaks tt

end_row : (Q : Row → Type 0) (left : List ℕ) (row : Row) → (Breaks (end ∷ []) left → Q broken_row) →
    (left ≡ [] → Q row) → Q (ends_at left row)
end_row Q [] row breaks holds = holds refl
end_row Q (b ∷ left) row breaks holds = breaks tt

pub same_number : (n m : ℕ) → (n == m) ≡ true → n ≡ m
same_number n m is = grind (arith, nat_tests)

-- where nothing is left, the part is the last
last_part : {A : Type 0} (read : Result (A × List ℕ) WireError) (x : A) (left : List ℕ) → read ≡ Ok (x, left) → left ≡ [] →
    read ≡ Ok (x, [])
last_part read x left is none = subst (λ (bytes : List ℕ). read ≡ Ok (x, bytes)) none is

-- ---- known methods

abbrev Unknown : List (List ℕ) → Type 0
Unknown names = AllByRecursion (λ name. method_of name ≡ None) names

never_none : (m : MethodKind) (known : List MethodKind) → with_method known m ≢ []
unfolding with_method has_method
never_none m [] = λ is. absurd cc
never_none m (k ∷ known) = by_test (λ ms. ms ≢ []) (has_method (k ∷ known) m) _ _ (λ has is. absurd cc) (λ new is. absurd cc)

-- a name for which no method is found isn't a known method
none_behind : (known : List MethodKind) (names : List (List ℕ)) → known_behind known names ≡ [] → (known ≡ []) × Unknown names
none_behind known [] is = (is, tt)
none_behind known (name ∷ names) is = by (method_of name) refl (none_behind (add_known known (method_of name)) names is)
  where
    by : (found : Option MethodKind) → method_of name ≡ found → (add_known known found ≡ []) × Unknown names →
        (known ≡ []) × Unknown (name ∷ names)
    by None same (none, unknown) = (none, (same, unknown))
    by (Some m) same (none, unknown) = absurd (never_none m known none)

-- ---- turns

no_transport : (flag : ExchangeFlag) → is_early_at flag sorts.Transport ≡ true → ⊥
no_transport flags.Idle early = cc
no_transport flag early = cc

early_at : (flag : ExchangeFlag) (event : Event) → is_early_at flag (sort_of event) ≡ true → IsEarly flag event
early_at flag (events.Payload packet) early = no_transport flag early
early_at flag events.TransportFailed early = no_transport flag early
early_at flag events.RekeyLimit early = no_transport flag early
early_at flag events.KeepaliveTimer early = no_transport flag early
early_at flag events.InactivityTimer early = no_transport flag early
early_at flags.Peer events.PeerKexinit early = refl
early_at flags.Ours events.PeerKexinit early = absurd cc
early_at flags.Peer (events.ExchangeDone x) early = absurd cc
early_at flags.Ours (events.ExchangeDone x) early = λ same. absurd cc
early_at flags.Idle (events.ExchangeDone x) early = λ same. absurd cc
early_at flags.Idle event early = absurd cc
early_at flag event early = λ same. absurd cc

not_users : (event : Event) → is_early_awaiting (sort_of event) ≡ true → IsNotUsers event
not_users events.PeerKexinit early = tt
not_users (events.ExchangeDone x) early = tt
not_users (events.Payload packet) early = tt
not_users events.TransportFailed early = tt
not_users events.RekeyLimit early = tt
not_users events.KeepaliveTimer early = tt
not_users events.InactivityTimer early = tt
not_users event early = absurd cc

early_by : (s : OpeningState) (event : Event) (awaits : Bool) → is_awaiting s.phase ≡ awaits →
    is_early awaits s.flag (sort_of event) ≡ true → IsOutOfTurn s event
early_by s event true is early = inl (is, not_users event early)
early_by s event false is early = inr (is, early_at s.flag event early)

-- ---- exchanges

-- the test says which host key is the one that the session has
same_found : (key : ExchangeKey) → key ≢ keys.Missing → is_same_key key key ≡ true
same_found keys.Missing there = absurd (there refl)
same_found (keys.Key blob) there = (bytes_eq-Decides blob blob).1 refl
same_found (keys.Certificate blob) there = (bytes_eq-Decides blob blob).1 refl

pub not_kept : (s : OpeningState) (x : ExchangeResult) → has_kept_key s x ≡ false → IsKeptKey s x.key → ⊥
not_kept s x other (same, there) =
    let kept : has_kept_key s x ≡ true =
    subst (λ (key : ExchangeKey). is_same_key key x.key ≡ true) same (same_found x.key there) in
    let clash : true ≡ false = sym kept ∙ other in absurd cc

-- the exchange of an event that may come is the peer's
peers : (flag : ExchangeFlag) → is_early_at flag sorts.ExchangeDone ≡ false → flag ≡ flags.Peer
peers flags.Peer early = refl
peers flag early = absurd cc

-- no exchange runs where a user's event may come
idle : (flag : ExchangeFlag) → is_early_at flag sorts.User ≡ false → flag ≡ flags.Idle
idle flags.Idle early = refl
idle flag early = absurd cc

module _ (P : Asking Row → Type 0) (s : OpeningState) (x : ExchangeResult) (told : Told)
    (refusal : (e : Error) → IsOther e → IsCause (WasToldNo told) s (events.ExchangeDone x) e → P (done (refused e)))
    (accepted : s.phase ≡ phases.Exchanging → told ≡ telling.Went → P (done (accepted_row s.settings.anonymous s x)))
    (later : s.phase ≢ phases.Exchanging → has_kept_key s x ≡ true →
    P (done (goes (records.KexDone x.names.kex ∷ []) (exchanged s)))) where
  first_holds : (asked : Told) → told ≡ asked → s.flag ≡ flags.Peer → s.phase ≡ phases.Exchanging →
      P (done (first_exchange_row s x asked))
  first_holds telling.Went is peer first = accepted first is
  first_holds telling.No is peer first = refusal errors.UnknownKey tt (peer, (first, λ went. cc))
  first_holds telling.NotAsked is peer first = refusal errors.UnknownKey tt (peer, (first, λ went. cc))

  exchange_holds : (phase : Phase) → s.flag ≡ flags.Peer → s.phase ≡ phase → P (done (exchange_row_in phase s x told))
  exchange_holds phases.Exchanging peer is = first_holds told refl peer is
  exchange_holds phase peer is =
      let behind : s.phase ≢ phases.Exchanging = rw is (λ first. absurd cc) in
      by_test (λ (row : Row). P (done row)) (has_kept_key s x) _ _ (λ same. later behind same)
      (λ other. refusal errors.RekeyKey tt (behind, (peer, not_kept s x other)))

  exchange_turn : (awaits : Bool) → is_early awaits s.flag sorts.ExchangeDone ≡ false →
      P (turn_row awaits s (events.ExchangeDone x) told)
  unfolding plain_row exchange_done_row
  exchange_turn true early = absurd cc
  exchange_turn false early = exchange_holds s.phase (peers s.flag early) refl

  -- an exchange that is done, as every event (below)
  pub exchange_row : P (open_row s (events.ExchangeDone x) told)
  unfolding open_row
  exchange_row =
      by_test P (is_out_of_turn s (events.ExchangeDone x)) _ _
      (λ early. refusal errors.OutOfTurn tt (early_by s (events.ExchangeDone x) (is_awaiting s.phase) refl early))
      (λ turn. exchange_turn (is_awaiting s.phase) turn)

-- ---- numbers and lengths of packets

from_fifty : (n : ℕ) → waits_for_exchange n ≡ true → 50 ≤ n
from_fifty n is = grind (arith, nat_tests)

behind_first : (phase : Phase) → is_exchanging phase ≡ false → phase ≢ phases.Exchanging
behind_first phases.Exchanging is = absurd cc
behind_first phase is = λ same. absurd cc

length_more : (n : ℕ) (body : List ℕ) → length (n ∷ body) ≡ length body + 1
length_more n body = omega arith

too_much : (s : OpeningState) (n : ℕ) (body : List ℕ) → is_too_much s (length body + 1) ≡ true →
    2 * s.settings.window_size < min (s.counted + length (n ∷ body)) (2 ^ 64 - 1)
too_much s n body is = rw (length_more n body) (grind (arith, nat_tests))

is_key : (class : Class) (n : ℕ) → is_pk_ok class n ≡ true → (class ≡ classes.Key) × (n ≡ USERAUTH_PK_OK)
is_key classes.Key n is = (refl, same_number n USERAUTH_PK_OK is)
is_key class n is = absurd cc

-- what isn't the whole packet breaks it
at_end_breaks : (left : List ℕ) → is_at_end left ≡ false → Breaks (end ∷ []) left
at_end_breaks [] is = absurd cc
at_end_breaks (b ∷ left) is = tt

string_breaks : (read : Result (List ℕ × List ℕ) WireError) →
    with_part false read (λ blob left. is_at_end left) ≡ false →
    BreaksBehind (λ rest. Breaks (end ∷ []) rest) (rest_of read)
string_breaks (Ok x) is = at_end_breaks x.1 is
string_breaks (Err e) is = tt

text_breaks : (read : Result (List ℕ × List ℕ) WireError) →
    with_part false read (λ algorithm rest. with_part false (string_at rest) (λ blob left. is_at_end left)) ≡ false →
    BreaksBehind (λ rest. Breaks (string ∷ end ∷ []) rest) (rest_of read)
text_breaks (Ok x) is = string_breaks (string_at x.1) is
text_breaks (Err e) is = tt

-- ---- the walk

module _ (P : Event → Asking Row → Type 0) (s : OpeningState) (told : Told) (rows : TableRows P s told) where
  abbrev Has : Event → Row → Type 0
  Has event row = P event (done row)

  -- ---- packets

  module _ (n : ℕ) (body : List ℕ) where
    abbrev packet : Event
    packet = events.Payload (n ∷ body)

    abbrev Holds : Row → Type 0
    Holds row = P packet (done row)

    reason_holds : (reason : Option Disconnect) (rest : List ℕ) → (Breaks (text ∷ text ∷ []) rest → Holds broken_row) →
        (reason ≡ None → Holds (refused errors.InvalidDisconnect)) →
        ((info : RemoteDisconnectInfo) → reason ≡ Some info.reason_code → ReadsTexts info rest →
        Holds (left_row info)) → Holds (disconnect_reason_row reason rest)
    reason_holds None rest breaks invalid leaves = invalid refl
    reason_holds (Some reason) rest breaks invalid leaves =
        part_row Holds (text ∷ []) (text_at rest) _ breaks (λ message after read breaks.
        part_row Holds [] (text_at after) _ breaks (λ language left read' breaks.
        leaves (record { reason_code = reason; message = message; lang_tag = language }) refl
        (after, left, read, read')))

    disconnect_holds : n ≡ DISCONNECT → Holds (disconnect_row body)
    unfolding disconnect_row
    disconnect_holds is =
        part_row Holds (text ∷ text ∷ []) (number_at w32 body) _
        (λ broken. rows.refusal packet errors.SshEncoding tt (rw is broken)) (λ code rest read breaks.
        reason_holds (disconnect_of code) rest breaks
        (λ none. rows.refusal packet errors.InvalidDisconnect tt (is, rw read none))
        (λ info same texts. rows.disconnected packet info (is, (code, rest, read, same, texts))))

    -- behind the first exchange
    module _ (counted : ℕ) (other : (n == DISCONNECT) ≡ false) (behind : s.phase ≢ phases.Exchanging) where
      abbrev t : OpeningState
      t = record s { counted = counted }

      abbrev leaf : PacketRows (P packet) (IsCause (WasToldNo told) s packet) (Says s n body) t
      leaf = rows.packets n body counted behind

      abbrev Broken : List FieldKind → Type 0
      Broken parts = Breaks parts body → Holds broken_row

      breaks : Broken (parts_in s.phase s.class n body)
      breaks broken = rows.refusal packet errors.SshEncoding tt (rw other broken)

      unexpected : IsUnexpectedIn s.phase s n body → Holds (refused errors.Inconsistent)
      unexpected why = rows.refusal packet errors.Inconsistent tt (inr why)

      by_number : (m : ℕ) (x y : Row) → (n ≡ m → Holds x) → ((n == m) ≡ false → Holds y) →
          Holds (if n == m then x else y)
      by_number m x y one other = by_test Holds (n == m) x y (λ is. one (same_number n m is)) other

      ext_info_holds : n ≡ EXT_INFO → Broken (extensions ∷ end ∷ []) → (2 ≤ s.ext_infos → Holds (refused errors.Inconsistent)) →
          Holds (ext_info_row t body)
      unfolding ext_info_row
      ext_info_holds ext breaks third =
          by_test Holds (is_third s) _ _ (λ is. third (grind (arith, nat_tests))) (λ is.
          part_row Holds (end ∷ []) (extensions_at body) _ breaks (λ told left read breaks.
          end_row Holds left (extensions_row t told) breaks (λ none.
          leaf.extended told (ext, last_part (extensions_at body) told left read none))))

      -- Service: a SERVICE_ACCEPT is broken where its name can't be read, or bytes follow that of our service
      named_holds : (x : List ℕ × List ℕ) (known : Bool) → s.phase ≡ phases.Service → string_at body ≡ Ok x →
          bytes_eq x.0 (codes "ssh-userauth") ≡ known → Broken (accept_parts (Ok x)) →
          Holds (if known then ends_at x.1 (started_row t) else passed_over t)
      named_holds x true is read name breaks =
          end_row Holds x.1 (started_row t) (λ broken. breaks (rw (name, read) broken)) (λ none. leaf.started is)
      named_holds x false is read name breaks = leaf.passed

      accept_holds : (read : Result (List ℕ × List ℕ) WireError) → s.phase ≡ phases.Service → string_at body ≡ read →
          Broken (accept_parts read) → Holds (with_part broken_row read (λ name rest.
          if bytes_eq name (codes "ssh-userauth") then ends_at rest (started_row t) else passed_over t))
      accept_holds (Ok x) is read breaks = named_holds x (bytes_eq x.0 (codes "ssh-userauth")) is read refl breaks
      accept_holds (Err e) is read breaks = breaks (rw read tt)

      service_holds : s.phase ≡ phases.Service → Holds (service_packet_row t n body)
      unfolding service_packet_row service_accept_row
      service_holds is =
          by_test Holds (n == SERVICE_ACCEPT) _ _ (λ accept. by_test Holds (not s.requested) _ _
          (λ asked. unexpected (rw is (inr (inl (same_number n SERVICE_ACCEPT accept, not_true s.requested asked)))))
          (λ asked. accept_holds (string_at body) is refl (λ broken. breaks (rw (is, accept) broken)))) (λ no6.
          by_number EXT_INFO _ _ (λ same. ext_info_holds same (λ broken. breaks (rw (is, same) broken))
          (λ third. unexpected (rw is (inr (inr (same, third))))))
          (λ no7. unexpected (rw is (inl (rw (no6, no7) refl)))))

      -- Auth
      failed_holds : (known : List MethodKind) (partial : Bool) →
          (known ≡ [] → IsCause (WasToldNo told) s packet errors.NoAuthMethod) → Says s n body (said.failure known partial) →
          Holds (failed_row t known partial)
      failed_holds [] partial none says = leaf.unknown partial (none refl) says
      failed_holds (method ∷ known) partial none says = leaf.failed method known partial says

      failure_holds : s.phase ≡ phases.Auth → n ≡ USERAUTH_FAILURE → Broken (text ∷ boolean ∷ end ∷ []) →
          (AreUnknown (text_at body) → IsCause (WasToldNo told) s packet errors.NoAuthMethod) →
          Holds (userauth_failure_row t body)
      unfolding userauth_failure_row
      failure_holds is same breaks unknown =
          part_row Holds (boolean ∷ end ∷ []) (text_at body) _ breaks (λ list rest read breaks.
          part_row Holds (end ∷ []) (boolean_at rest) _ breaks (λ partial left also breaks.
          let known = known_methods (names_in list) in end_row Holds left (failed_row t known partial) breaks (λ whole.
          failed_holds known partial (λ none. unknown (rw read (none_behind [] (names_in list) none).1))
          (is, same, list, rest, read, last_part (boolean_at rest) partial left also whole, refl))))

      banner_holds : s.phase ≡ phases.Auth → n ≡ USERAUTH_BANNER → Broken (text ∷ text ∷ end ∷ []) → Holds (userauth_banner_row t body)
      unfolding userauth_banner_row
      banner_holds is same breaks =
          part_row Holds (text ∷ end ∷ []) (text_at body) _ breaks (λ banner rest read breaks.
          part_row Holds (end ∷ []) (text_at rest) _ breaks (λ language left also breaks.
          end_row Holds left _ breaks (λ whole.
          leaf.banner banner (is, same, rest, language, read, last_part (text_at rest) language left also whole))))

      -- as many prompts as are counted make the packet whole
      abbrev Prompting : List ℕ → List ℕ → Result (ℕ × List ℕ) WireError → Type 0
      Prompting name instructions read =
          (asked : List Prompt) (rest : List ℕ) → read ≡ Ok (length asked, rest) → ArePrompts asked rest [] →
          Says s n body (said.prompts name instructions asked)

      asked_holds : (name instructions : List ℕ) (count : ℕ) (rest : List ℕ) →
          Prompting name instructions (Ok (count, rest)) →
          (BreaksBehind (λ left. Breaks (end ∷ []) left) (rest_of (prompts_at count rest)) → Holds broken_row) →
          (length rest / 5 < count → Holds (refused errors.Inconsistent)) →
          Holds (prompts_row t name instructions count rest)
      unfolding prompts_row
      asked_holds name instructions count rest says breaks many =
          by_test Holds (is_too_many count rest) _ _ (λ is. many (grind (arith, nat_tests))) (λ is.
          part_row Holds (end ∷ []) (prompts_at count rest) _ breaks (λ asked left read breaks.
          end_row Holds left (prompted_row t name instructions asked) breaks (λ whole.
          let all : AreRead count asked rest [] =
          are_prompts count rest asked [] (last_part (prompts_at count rest) asked left read whole) in
          leaf.prompted name instructions asked
          (says asked rest (ap (λ (k : ℕ). Ok (k, rest)) all.count) all.prompts))))

      count_holds : (name instructions : List ℕ) (read : Result (ℕ × List ℕ) WireError) →
          Prompting name instructions read →
          (BreaksBehind (λ left. Breaks (end ∷ []) left) (after_prompts read) → Holds broken_row) →
          (AreTooMany read → Holds (refused errors.Inconsistent)) →
          Holds (with_part broken_row read (λ n rest. prompts_row t name instructions n rest))
      count_holds name instructions (Ok n) says breaks many = asked_holds name instructions n.0 n.1 says breaks many
      count_holds name instructions (Err e) says breaks many = breaks tt

      prompts_hold : s.phase ≡ phases.Auth → s.class ≡ classes.Prompts → n ≡ USERAUTH_PK_OK →
          Broken (text ∷ text ∷ text ∷ prompts ∷ end ∷ []) →
          (HasTooManyPrompts body → Holds (refused errors.Inconsistent)) → Holds (info_request_row t body)
      unfolding info_request_row
      prompts_hold auth class same breaks many =
          part_row Holds (text ∷ text ∷ prompts ∷ end ∷ []) (text_at body) _ breaks (λ name rest read breaks.
          part_row Holds (text ∷ prompts ∷ end ∷ []) (text_at rest) _ breaks (λ instructions rest' read' breaks.
          part_row Holds (prompts ∷ end ∷ []) (text_at rest') _ breaks (λ language rest'' read'' breaks.
          count_holds name instructions (number_at w32 rest'')
          (λ asked after counted are.
          (auth, class, same, rest, rest', rest'', after, language, read, read', read'', counted, are))
          breaks (λ more. many (rw (read, read', read'') more)))))

      string_holds : (on : List ℕ → GssapiRecord) →
          ((x : List ℕ) → string_at body ≡ Ok (x, []) → Says s n body (said.step (on x))) → Broken (string ∷ end ∷ []) →
          Holds (with_part broken_row (string_at body) (λ x left. ends_at left (gssapi_step t (on x))))
      string_holds on says breaks =
          part_row Holds (end ∷ []) (string_at body) _ breaks (λ x left read breaks.
          end_row Holds left (gssapi_step t (on x)) breaks (λ whole.
          leaf.gssapi (on x) (says x (last_part (string_at body) x left read whole))))

      error_holds : s.phase ≡ phases.Auth → s.class ≡ classes.Gssapi → n ≡ USERAUTH_GSSAPI_ERROR →
          Broken (number ∷ number ∷ text ∷ text ∷ end ∷ []) → Holds (gssapi_error_row t body)
      unfolding gssapi_error_row
      error_holds auth class same breaks =
          part_row Holds (number ∷ text ∷ text ∷ end ∷ []) (number_at w32 body) _ breaks (λ major a first breaks.
          part_row Holds (text ∷ text ∷ end ∷ []) (number_at w32 a) _ breaks (λ minor b second breaks.
          part_row Holds (text ∷ end ∷ []) (text_at b) _ breaks (λ message c third breaks.
          part_row Holds (end ∷ []) (text_at c) _ breaks (λ language left last breaks.
          end_row Holds left _ breaks (λ whole.
          leaf.gssapi (gssapi.Error major minor message)
          (auth, class, (same, a, b, c, language, first, second, third, last_part (text_at c) language left last whole)))))))

      gssapi_holds : (class : Class) → s.phase ≡ phases.Auth → s.class ≡ class → (n == USERAUTH_FAILURE) ≡ false →
          (n == USERAUTH_SUCCESS) ≡ false → (n == USERAUTH_BANNER) ≡ false → (n == USERAUTH_PK_OK) ≡ false →
          (n == EXT_INFO) ≡ false → Holds (gssapi_row class t n body)
      unfolding gssapi_row gssapi_token_row gssapi_errtok_row
      gssapi_holds classes.Gssapi is class no51 no52 no53 no60 no7 =
          by_number USERAUTH_GSSAPI_TOKEN _ _ (λ same.
          string_holds (λ x. gssapi.Token x (mic s.session_id s.user)) (λ x read. (is, class, (same, read, refl)))
          (λ broken. breaks (rw (is, class, same) broken))) (λ no61.
          by_number USERAUTH_GSSAPI_ERROR _ _ (λ same.
          error_holds is class same (λ broken. breaks (rw (is, class, same) broken))) (λ no64.
          by_number USERAUTH_GSSAPI_ERRTOK _ _ (λ same.
          string_holds (λ x. gssapi.ErrorToken x) (λ x read. (is, class, (same, read))) (λ broken. breaks (rw (is, class, same) broken))) (λ no65.
          unexpected (rw (is, class) (inl (rw (no51, no52, no53, no60, no7, no61, no64, no65) refl))))))
      gssapi_holds class is same no51 no52 no53 no60 no7 =
          unexpected (rw (is, same) (inl (rw (no51, no52, no53, no60, no7) refl)))

      answer_holds : (class : Class) → s.phase ≡ phases.Auth → s.class ≡ class → n ≡ USERAUTH_PK_OK →
          Holds (answer_row class t body)
      unfolding answer_row gssapi_response_row
      answer_holds classes.Prompts is class ok =
          prompts_hold is class ok (λ broken. breaks (rw (is, class, ok) broken))
          (λ many. unexpected (rw is (inr (inl (class, ok, many)))))
      answer_holds classes.Gssapi is class ok =
          string_holds (λ x. gssapi.Response x (mic s.session_id s.user)) (λ x read. (is, class, (ok, read, refl)))
          (λ broken. breaks (rw (is, class, ok) broken))
      answer_holds class is same ok = leaf.cleared

      auth_holds : s.phase ≡ phases.Auth → Holds (auth_row t n body)
      unfolding auth_row userauth_success_row
      auth_holds is =
          by_number USERAUTH_FAILURE _ _ (λ same.
          failure_holds is same (λ broken. breaks (rw (is, same) broken)) (λ names. (is, same, names))) (λ no51.
          by_number USERAUTH_SUCCESS _ _ (λ same.
          end_row Holds body (succeeded_row t) (λ broken. breaks (rw (is, same) broken))
          (λ whole. leaf.succeeded (is, same, whole))) (λ no52.
          by_number USERAUTH_BANNER _ _ (λ same. banner_holds is same (λ broken. breaks (rw (is, same) broken))) (λ no53.
          by_number USERAUTH_PK_OK _ _ (λ ok. answer_holds s.class is refl ok) (λ no60.
          by_number EXT_INFO _ _ (λ same. ext_info_holds same (λ broken. breaks (rw (is, same) broken))
          (λ third. unexpected (rw is (inr (inr (same, third))))))
          (λ no7. gssapi_holds s.class is refl no51 no52 no53 no60 no7)))))

      key_holds : (method : Option Method) → s.method ≡ method →
          (IsLocal method → IsCause (WasToldNo told) s packet errors.SignerFault) → P packet (key_row t method)
      unfolding key_row
      key_holds (Some (methods.PublicKey key)) is faults =
          leaf.signs key.0 key.0.public.0 key.1 (faults tt) (rw is (refl, refl, refl))
      key_holds (Some (methods.OpenSshCertificate key cert)) is faults =
          leaf.signs key cert None (faults tt) (rw is (refl, refl, refl))
      key_holds (Some (methods.FuturePublicKey key hash)) is faults =
          leaf.hands_key key.0 hash (rw is (refl, refl, refl))
      key_holds (Some (methods.FutureCertificate cert hash)) is faults =
          leaf.hands_certificate cert hash (rw is (refl, refl, refl))
      key_holds method is faults = leaf.cleared

      auth_packet_holds : s.phase ≡ phases.Auth → P packet (auth_packet_row t n body)
      unfolding auth_packet_row pk_ok_row
      auth_packet_holds is =
          by_test (P packet) (is_pk_ok s.class n) _ _ (λ key. let ok = is_key s.class n key in
          by_test (P packet) (is_pk_ok_body body) _ _
          (λ whole. key_holds s.method refl (λ local. (is, ok.0, ok.1, local)))
          (λ part. breaks (rw (is, ok.0, ok.1) (text_breaks (text_at body) part)))) (λ other. auth_holds is)

      phase_holds : (phase : Phase) → s.phase ≡ phase → P packet (packet_row_in phase t n body)
      phase_holds phases.Service is = service_holds is
      phase_holds phases.Auth is = auth_packet_holds is
      phase_holds phase is = leaf.passed

    held_holds : (flag : ExchangeFlag) → s.flag ≡ flag → (n == DISCONNECT) ≡ false → s.phase ≢ phases.Exchanging →
        waits_for_exchange n ≡ true → P packet (held_packet_row flag s (length body + 1) n body)
    unfolding held_packet_row
    held_holds flags.Idle is other behind waits = phase_holds s.counted other behind s.phase refl
    held_holds flags.Peer is other behind waits =
        rows.refusal packet errors.Inconsistent tt (inl (is, behind, from_fifty n waits))
    held_holds flags.Ours is other behind waits =
        by_test (P packet) (is_too_much s (length body + 1)) _ _
        (λ much. rows.refusal packet errors.Pending tt (is, too_much s n body much))
        (λ fits. phase_holds (counted_with s (length body + 1)) other behind s.phase refl)

  payload_has : (packet : List ℕ) → P (events.Payload packet) (payload_row s packet)
  unfolding payload_row numbered_row
  payload_has [] = rows.passed (events.Payload []) refl
  payload_has (n ∷ body) =
      by_test (P (packet n body)) (n == DISCONNECT) _ _
      (λ is. disconnect_holds n body (same_number n DISCONNECT is)) (λ other.
      by_test (P (packet n body)) (is_ignored n) _ _ (λ ignored. rows.passed (packet n body) refl) (λ heeded.
      by_test (P (packet n body)) (is_exchanging s.phase) _ _ (λ first. rows.passed (packet n body) refl) (λ later.
      let behind = behind_first s.phase later in
      by_test (P (packet n body)) (waits_for_exchange n) _ _ (λ waits. held_holds n body s.flag refl other behind waits)
      (λ goes_on. phase_holds n body s.counted other behind s.phase refl))))

  -- ---- users

  module _ (mine : UserRows P s) (calm : is_awaiting s.phase ≡ false) (quiet : s.flag ≡ flags.Idle) where
    asks_has : (ticket : Ticket) (user : List ℕ) (method : Method) (phase : Phase) → s.phase ≡ phase →
        Has (events.Authenticate ticket user method) (authenticate_row_in phase s ticket user method)
    asks_has ticket user method phases.Service is = mine.first ticket user method is
    asks_has ticket user method phases.Auth is = mine.again ticket user method is
    asks_has ticket user method phase is = rows.passed (events.Authenticate ticket user method) refl

    no_channel : (event : Event) → IsChannelOpen event → Has event (refused errors.NotAuthenticated)
    no_channel event is = rows.refusal event errors.NotAuthenticated tt (quiet, calm, is)

    unopened_has : (event : Event) → exchange_in event ≡ None → Has event (unopened_row s event)
    unfolding unopened_row
    unopened_has (events.ChannelOpenSession ticket) none = no_channel (events.ChannelOpenSession ticket) tt
    unopened_has (events.ChannelOpenX11 ticket address port) none =
        no_channel (events.ChannelOpenX11 ticket address port) tt
    unopened_has (events.ChannelOpenDirectTcpIp ticket host port address own) none =
        no_channel (events.ChannelOpenDirectTcpIp ticket host port address own) tt
    unopened_has (events.ChannelOpenDirectStreamLocal ticket path) none =
        no_channel (events.ChannelOpenDirectStreamLocal ticket path) tt
    unopened_has (events.TcpIpForward ticket address port) none = mine.resolves _ ticket answers.Denied refl
    unopened_has (events.CancelTcpIpForward ticket address port) none = mine.resolves _ ticket answers.Denied refl
    unopened_has (events.StreamLocalForward ticket path) none = mine.resolves _ ticket answers.Denied refl
    unopened_has (events.CancelStreamLocalForward ticket path) none = mine.resolves _ ticket answers.Denied refl
    unopened_has (events.Ping ticket) none = mine.resolves _ ticket answers.Denied refl
    unopened_has (events.SendGlobalRequest ticket name body) none = mine.resolves _ ticket answers.Denied refl
    unopened_has (events.HostKeysProve ticket []) none = mine.resolves _ ticket answers.HostKeysProved refl
    unopened_has (events.HostKeysProve ticket (key ∷ keys)) none = mine.resolves _ ticket answers.Denied refl
    unopened_has event none = rows.passed event none

    gssapi_has : (event : Event) (row : Row) → exchange_in event ≡ None → Has event row →
        Has event (if is_gssapi s.phase s.class then row else passed_over s)
    gssapi_has event row none holds =
        by_test (Has event) (is_gssapi s.phase s.class) _ _ (λ is. holds) (λ other. rows.passed event none)

    names_has : (ticket : Ticket) (listed : Option (List (List ℕ))) → s.sig_algs ≡ listed →
        Has (events.GetServerSigAlgs ticket) (answered_row s ticket (sig_algs_answer listed))
    names_has ticket None is = mine.resolves _ ticket (answers.SigAlgs false []) (refl, is, refl)
    names_has ticket (Some names) is = mine.resolves _ ticket (answers.SigAlgs true names) (refl, is)

    user_has : (event : Event) → exchange_in event ≡ None → Has event (user_row s event)
    unfolding user_row user_token_row user_mic_row user_complete_row await_extension_info_row get_server_sig_algs_row
    user_has (events.Authenticate ticket user method) none = asks_has ticket user method s.phase refl
    user_has (events.AuthGssapiToken token) none = gssapi_has (events.AuthGssapiToken token) _ none (mine.token token)
    user_has (events.AuthGssapiMic token code) none =
        gssapi_has (events.AuthGssapiMic token code) _ none (mine.mic token code)
    user_has (events.AuthGssapiExchangeComplete token) none =
        gssapi_has (events.AuthGssapiExchangeComplete token) _ none (mine.complete token)
    user_has (events.Disconnect reason description language) none = mine.leaves reason description language
    user_has events.Rekey none = mine.rekeys
    user_has (events.AwaitExtensionInfo ticket name) none =
        by_test (Has (events.AwaitExtensionInfo ticket name)) (is_seen s.seen name) _ _
        (λ is. mine.resolves (events.AwaitExtensionInfo ticket name) ticket answers.ExtInfoSeen (inl (refl, is)))
        (λ is. mine.waits ticket name)
    user_has (events.GetServerSigAlgs ticket) none = names_has ticket s.sig_algs refl
    user_has events.Gone none = mine.gone calm
    user_has event none = unopened_has event none

  accepted_has : (x : ExchangeResult) (anonymous : Bool) → s.settings.anonymous ≡ anonymous →
      s.phase ≡ phases.Exchanging → told ≡ telling.Went → Has (events.ExchangeDone x) (accepted_row anonymous s x)
  accepted_has x false is first went = rows.accepted x first went
  accepted_has x true is first went = rows.opened x first went is

  kexinit_has : (flag : ExchangeFlag) → s.flag ≡ flag → Has events.PeerKexinit (peer_kexinit_row_at flag s)
  kexinit_has flags.Idle is = rows.begins is
  kexinit_has flag is = rows.joins (λ idle. let clash : flag ≡ flags.Idle = sym is ∙ idle in absurd cc)

  plain_has : (event : Event) → is_awaiting s.phase ≡ false → is_early_at s.flag (sort_of event) ≡ false →
      Has event (plain_row s event told)
  unfolding plain_row user_row unopened_row peer_kexinit_row exchange_done_row
  plain_has events.PeerKexinit calm early = kexinit_has s.flag refl
  plain_has (events.ExchangeDone x) calm early =
      exchange_holds (P (events.ExchangeDone x)) s x told (rows.refusal (events.ExchangeDone x))
      (accepted_has x s.settings.anonymous refl) (rows.later x) s.phase (peers s.flag early) refl
  plain_has (events.Payload packet) calm early = rows.passed (events.Payload packet) refl
  plain_has events.TransportFailed calm early =
      rows.refusal events.TransportFailed errors.TransportFailed tt (refl, calm)
  plain_has events.RekeyLimit calm early = rows.passed events.RekeyLimit refl
  plain_has events.KeepaliveTimer calm early = rows.passed events.KeepaliveTimer refl
  plain_has events.InactivityTimer calm early =
      by_test (Has events.InactivityTimer) s.settings.inactivity _ _
      (λ is. rows.refusal events.InactivityTimer errors.InactivityTimeout tt (refl, is, calm))
      (λ is. rows.passed events.InactivityTimer refl)
  plain_has event calm early = let quiet = idle s.flag early in user_has (rows.users (inr quiet)) calm quiet event refl

  -- ---- while an answer is awaited

  module _ (own : UserRows P s) (awaits : is_awaiting s.phase ≡ true) where
    responses_has : (event : Event) → Has event (responses_row s event)
    responses_has (events.AuthInfoResponse responses) = own.responds responses
    responses_has event = own.resolves event (ticket_of event) answers.Dropped (inr (awaits, refl))

    signature_has : (event : Event) → s.phase ≡ phases.AwaitSignature → Has event (signature_row s event)
    unfolding signed_row
    signature_has (events.Signed body) is =
        by_test (Has (events.Signed body)) (is_signed s.handed body) _ _
        (λ signed. own.signs body is signed) (λ other. own.unsigned (events.Signed body) (is, other))
    signature_has events.SignFailed is = own.unsigned events.SignFailed is
    signature_has event is = own.resolves event (ticket_of event) answers.Dropped (inr (awaits, refl))

    answer_has : (event : Event) (phase : Phase) → s.phase ≡ phase → Has event (answer_row_in phase s event)
    answer_has event phases.AwaitResponses is = responses_has event
    answer_has event phases.AwaitSignature is = signature_has event is
    answer_has event phase is = let clash : is_awaiting phase ≡ true = rw is at awaits in absurd cc

    awaiting_has : (event : Event) → Has event (awaiting_row s event)
    unfolding awaiting_row
    awaiting_has events.Gone = rows.refusal events.Gone errors.RecvError tt (refl, awaits)
    awaiting_has (events.Disconnect reason description language) = own.leaves reason description language
    awaiting_has event = answer_has event s.phase refl

  -- ---- any event

  event_has : (event : Event) → is_awaiting s.phase ≡ false → is_early_at s.flag (sort_of event) ≡ false →
      P event (event_row s event told (packet_in event))
  event_has (events.Payload packet) calm early = payload_has packet
  event_has event calm early = plain_has event calm early

  turn_has : (event : Event) (awaits : Bool) → is_awaiting s.phase ≡ awaits →
      is_early awaits s.flag (sort_of event) ≡ false → P event (turn_row awaits s event told)
  turn_has event true is early = awaiting_has (rows.users (inl is)) is event
  turn_has event false is early = event_has event is early

  -- the row of each event has what the rows have that the table comes to
  pub each_row : (event : Event) → P event (open_row s event told)
  unfolding open_row
  each_row event =
      by_test (P event) (is_out_of_turn s event) _ _
      (λ early. rows.refusal event errors.OutOfTurn tt (early_by s event (is_awaiting s.phase) refl early))
      (λ turn. turn_has event (is_awaiting s.phase) refl turn)
