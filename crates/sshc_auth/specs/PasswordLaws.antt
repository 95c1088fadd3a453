-- A password is written at most as often as it was asked for (RFC 4252, section 8): a law about the table, independent
-- of the code that runs it.
use Rattle.std.proofs.Common.{◌≡◌, ◌≤◌, ℕ, ◌+◌, Bool, true, false, List, [], ◌∷◌, ◌++◌, length, drop, Option, Some, None, refl, ap, sym, ◌∙◌, append_assoc, arith}
use Rattle.std.specs.Prelude.{nat_eq, nat_lt, bytes_eq, codes}
use Rattle.std.specs.Int.{w32, to_be_bytes}
use Rattle.std.specs.List.{starts_with}
use Rattle.std.proofs.lemmas.Bool.Decides.{Decides-eqb}
use Rattle.std.proofs.lemmas.List.{drop_at, length-append}
use Rattle.std.proofs.lemmas.Slice.Eq.{starts_is}
use Rattle.sshc_wire.specs.CasesLaws.{both_true}
use Rattle.sshc_wire.specs.FormatLaws.{ok_is}
use Rattle.sshc_wire.specs.LookupLaws.{same_bytes}
use Rattle.sshc_wire.specs.PartsLaws.{strings}
use Rattle.sshc_wire.specs.Wire.{string_text, u32_text}
use Rattle.sshc_wire.specs.declared.record.Record.TheVariants as records
use Rattle.sshc_wire.specs.declared.resolution.Resolution.TheVariants as answers
use Rattle.sshc_key.specs.RequestNames.{request_name}
use Rattle.sshc_auth_event.specs.declared.event.Event.TheVariants as events
use Rattle.sshc_auth_event.specs.declared.method.Method.TheVariants as methods
use Rattle.sshc_auth_request.specs.RequestTexts.{disconnect, info_response, key_part, method_text, request_head, signed_request, unsigned_request}
use Rattle.sshc_auth.specs.declared.opening.Phase.TheVariants as phases
use Rattle.sshc_auth.specs.AddedLaws.{HoldsOfLists, behind_resolved, resolved_has, service_has, token_has, told_has}
use Rattle.sshc_auth.specs.Said.{Said}
use Rattle.sshc_auth.specs.EachRowLaws.{PacketRows, TableRows, UserRows, each_row}
use Rattle.sshc_auth.specs.Passwords.{FitsIn, once_if, times_waiting_in}
use Rattle.sshc_auth.specs.RowNames.{Always, Answer, asked_for_service, Asking, authenticate_again_row, authenticate_first_row, behind_session_id, ends, Error, Event, FitsRequest, goes, gssapi_complete, gssapi_mic, gssapi_token, HashAlg, HasShortUser, info_response_row, is_signed, IsShort, Key, key_text, Method, Next, open_row, OpeningState, opens, password_packet, Phase, Record, refuses, rekey_row, request, resolved, Row, service_request, signed, signed_by_row, stays, stored_request, string_at, Ticket, times_asked, times_waiting, times_written, Told, user_disconnect_row, WireError}

-- ---- a request by key is not a request by password

-- what follows a string at the front of two equal lists
string_same : (a b x y : List ℕ) → IsShort a → IsShort b → string_text a ++ x ≡ string_text b ++ y → (a ≡ b) × (x ≡ y)
string_same a b x y short short_too same =
    let both : (a, x) ≡ (b, y) = ok_is {E = WireError} (a, x) (b, y) (sym (strings.again a x short) ∙ ap string_at same ∙ strings.again b y short_too) in
    (ap (λ (p : List ℕ × List ℕ). p.0) both, ap (λ (p : List ℕ × List ℕ). p.1) both)

service : List ℕ
service = codes "ssh-connection"

heads_same : (u user x y : List ℕ) → IsShort u → IsShort user → request_head u ++ x ≡ request_head user ++ y → x ≡ y
unfolding service
heads_same u user x y short short_too same =
    let behind : (string_text u ++ string_text service) ++ x ≡ (string_text user ++ string_text service) ++ y = ap (drop 1) same in
    let users : string_text u ++ (string_text service ++ x) ≡ string_text user ++ (string_text service ++ y) =
    sym (append_assoc (string_text u) (string_text service) x) ∙ behind ∙ append_assoc (string_text user) (string_text service) y in
    (string_same service service x y (omega arith) (omega arith) (string_same u user (string_text service ++ x) (string_text service ++ y) short short_too users).1).1

key_no_password : (u user password : List ℕ) (key : Key) (hash : Option HashAlg) (more : List ℕ) → IsShort u → IsShort user → unsigned_request u key hash ++ more ≡ password_packet user password → ⊥
unfolding request unsigned_request
key_no_password u user password key hash more short short_too same =
    let methods_same : key_part 1 key hash ++ more ≡ method_text (methods.Password password) =
    heads_same u user (key_part 1 key hash ++ more) (method_text (methods.Password password)) short short_too
    (sym (append_assoc (request_head u) (key_part 1 key hash) more) ∙ same) in
    let name : List ℕ = string_text (codes "publickey") in
    let middle : List ℕ = 1 ∷ string_text (request_name key hash) in
    let last : List ℕ = string_text (key_text key) in
    let parts : name ++ (middle ++ (last ++ more)) ≡ key_part 1 key hash ++ more =
    sym (append_assoc (name ++ middle) last more ∙ append_assoc name middle (last ++ more)) in
    let names : codes "publickey" ≡ codes "password" = (string_same (codes "publickey") (codes "password") (middle ++ (last ++ more)) (0 ∷ string_text password) (omega arith) (omega arith) (parts ∙ methods_same)).0 in
    let lengths : 9 ≡ 8 = ap length names in
    absurd cc

-- ---- how often a packet is written

not_written : (body packet : List ℕ) (b : Bool) → bytes_eq body packet ≡ b → (body ≡ packet → ⊥) → once_if b ≡ 0
not_written body packet true is never = absurd (never (same_bytes body packet is))
not_written body packet false is never = refl

other_written : (body packet : List ℕ) → (body ≡ packet → ⊥) → times_written packet (records.Payload body ∷ []) ≡ 0
other_written body packet never = omega (arith, not_written body packet (bytes_eq body packet) refl never)

pub written_two : (packet : List ℕ) (a b : List Record) → times_written packet (a ++ b) ≡ times_written packet a + times_written packet b
written_two packet [] b = omega arith
written_two packet (records.Payload body ∷ a) b = omega (arith, written_two packet a b)
written_two packet (output ∷ a) b = written_two packet a b

none_two : (packet : List ℕ) (a b : List Record) → times_written packet a ≡ 0 → times_written packet b ≡ 0 → times_written packet (a ++ b) ≡ 0
none_two packet a b one other = omega (arith, written_two packet a b, one, other)

-- ---- what the law says of a row

-- how often the packet waits after a row; as often as before if the session is over
abbrev pub waits_next : List ℕ → OpeningState → Next → ℕ
waits_next packet s (stays t) = times_waiting packet t
waits_next packet s (opens t) = times_waiting packet t
waits_next packet s (ends e) = times_waiting packet s
waits_next packet s (refuses e) = times_waiting packet s

abbrev pub FitsNext : Next → Type 0
FitsNext (stays t) = FitsRequest t
FitsNext (opens t) = FitsRequest t
FitsNext (ends e) = Unit {0}
FitsNext (refuses e) = Unit {0}

-- the packet is written at most as often as it waited before, plus as often as the event asks for it, minus as often as
-- it waits afterwards
abbrev pub Sound : List ℕ → OpeningState → Event → Row → Type 0
Sound packet s event row = (times_written packet row.records + waits_next packet s row.next ≤ times_waiting packet s + times_asked packet event) × FitsNext row.next

-- ---- states

none_waits : (packet : List ℕ) (phase : Phase) (user : List ℕ) → times_waiting_in phase packet user None ≡ 0
none_waits packet phases.Service user = refl
none_waits packet phase user = refl

-- the method is cleared
settled : (s : OpeningState) → FitsRequest s → FitsRequest (record s { method = None })
settled s fits = record { short = fits.short; handed = fits.handed; fresh = λ is. refl }

-- in most phases only the user matters
abbrev IsCalm : Phase → Type 0
IsCalm phases.AwaitSignature = ⊥
IsCalm phases.Exchanging = ⊥
IsCalm phase = Unit {0}

fits_in : {phase : Phase} {id user bytes : List ℕ} {method : Option Method} → IsCalm phase → IsShort user →
    FitsIn phase id user method bytes
fits_in calm short =
    record { short = short; handed = λ is. absurd (rw is at calm); fresh = λ is. absurd (rw is at calm) }

-- ---- what was handed out, and what follows the session id

string_length : (bytes : List ℕ) → length (string_text bytes) ≡ 4 + length bytes
unfolding string_text u32_text
string_length bytes =
    let four : length (to_be_bytes w32 (length bytes)) ≡ 4 = refl in
    omega (arith, length-append (to_be_bytes w32 (length bytes)) bytes, four)

-- no request is stored before the first exchange is done
fresh_waits : (packet : List ℕ) (user : List ℕ) (method : Option Method) → method ≡ None → times_waiting_in phases.Service packet user method ≡ 0
fresh_waits packet user method is = rw is refl

-- ---- a user and a password

module _ (user password : List ℕ) (short : IsShort user) where
  abbrev packet : List ℕ
  packet = password_packet user password

  abbrev Unwritten : List Record → Type 0
  Unwritten output = times_written packet output ≡ 0

  lists : HoldsOfLists Unwritten
  lists = record { none = refl; two = none_two packet; resolves = λ ticket resolution. refl }

  stored_sound : (s : OpeningState) (event : Event) (method : Option Method) → s.phase ≡ phases.Service →
      s.method ≡ method → FitsRequest s →
      Sound packet s event (goes (stored_request s.user method) (record s { phase = phases.Auth }))
  stored_sound s event None is stored fits = (omega arith, fits_in tt fits.short)
  stored_sound s event (Some method) is stored fits =
      let waiting : times_waiting packet s ≡ once_if (bytes_eq (request s.user method) packet) = rw (is, stored) refl in
      (omega (arith, waiting), fits_in tt fits.short)

  -- ---- keys

  by_answer : (s : OpeningState) (event : Event) (key : Key) (hash : Option HashAlg) (answer : Answer) → FitsRequest s →
      Sound packet s event (signed_by_row s key hash answer)
  by_answer s event key hash None fits = (omega arith, tt)
  by_answer s event key hash (Some signature) fits =
      let none = other_written (signed_request s.user key hash signature) packet
      (key_no_password s.user user password key hash (string_text signature) fits.short short) in
      (omega (arith, none, none_waits packet s.phase s.user), settled s fits)

  handed_fits : (s : OpeningState) (key : Key) (hash : Option HashAlg) → FitsRequest s → FitsIn phases.AwaitSignature s.session_id s.user None (signed s.session_id s.user key hash)
  handed_fits s key hash fits = record { short = fits.short; handed = λ same. (key, hash, refl); fresh = λ same. refl }

  abbrev SoundRow : OpeningState → Event → Asking Row → Type 0
  SoundRow s event row = HasShortUser event → Always (Sound packet s event) row

  packet_sound : (s : OpeningState) (event : Event) (R : Error → Type 0) (W : Said → Type 0) → FitsRequest s →
      PacketRows (SoundRow s event) R W s
  packet_sound s event R W fits = record {
    passed = λ has. (omega arith, fits);
    extended = λ told says has. (omega (arith, told_has lists told s.waiters), fits);
    started = λ is has. stored_sound s event s.method is refl fits;
    unknown = λ partial none says has. (omega (arith, resolved_has lists s.ticket (answers.AuthFailure [] partial)), tt);
    failed = λ kind known partial says has. (
      omega (
        arith,
        resolved_has lists s.ticket (answers.AuthFailure (kind ∷ known) partial),
        none_waits packet s.phase s.user,
      ),
      settled s fits,
    );
    succeeded = λ says has. (
      omega (arith, behind_resolved lists s.ticket answers.AuthSuccess (records.Opened ∷ []) refl),
      fits_in tt fits.short,
    );
    banner = λ shown says has. (omega arith, fits);
    prompted = λ name instructions asked says has. (omega arith, fits_in tt fits.short);
    gssapi = λ step says has. (omega arith, fits);
    cleared = λ has. (omega (arith, none_waits packet s.phase s.user), settled s fits);
    signs = λ pair key hash fault stored has answer. by_answer s event key hash answer fits;
    hands_key = λ key hash stored has. (omega arith, handed_fits s key hash fits);
    hands_certificate = λ cert hash stored has. (omega arith, handed_fits s cert hash fits);
  }

  -- ---- the user

  none_service : times_written packet (records.Payload service_request ∷ []) ≡ 0
  unfolding request service_request
  none_service = refl

  first_sound : (s : OpeningState) (ticket : Ticket) (own : List ℕ) (method : Method) → s.phase ≡ phases.Service →
      IsShort own → Sound packet s (events.Authenticate ticket own method) (authenticate_first_row s ticket own method)
  unfolding authenticate_first_row
  first_sound s ticket own method is has =
      let none = behind_resolved lists s.ticket answers.Dropped (asked_for_service s.requested)
      (service_has lists s.requested none_service) in
      let waits : times_waiting_in s.phase packet own (Some method) ≡ once_if (bytes_eq (request own method) packet) =
      rw is refl in
      (omega (arith, none, waits), rw is (fits_in tt has))

  again_sound : (s : OpeningState) (ticket : Ticket) (own : List ℕ) (method : Method) → s.phase ≡ phases.Auth →
      IsShort own → Sound packet s (events.Authenticate ticket own method) (authenticate_again_row s ticket own method)
  unfolding authenticate_again_row
  again_sound s ticket own method is has =
      let both = written_two packet (resolved s.ticket answers.Dropped) (records.Payload (request own method) ∷ []) in
      let none = resolved_has lists s.ticket answers.Dropped in
      let waits : times_waiting_in s.phase packet own (Some method) ≡ 0 = rw is refl in
      (omega (arith, both, none, waits), rw is (fits_in tt has))

  -- what was handed out is a signed text, in which a request by key follows the session id
  signed_body : (s : OpeningState) (body : List ℕ) → is_signed s.handed body ≡ true → s.phase ≡ phases.AwaitSignature → FitsRequest s → times_written packet (records.Payload (behind_session_id s body) ∷ []) ≡ 0
  unfolding signed string_text
  signed_body s body is awaits fits =
      let handed = fits.handed awaits in
      let more : List ℕ = drop (length s.handed) body in
      let text : List ℕ = unsigned_request s.user handed.0 handed.1 in
      let begins : body ≡ s.handed ++ more = (starts_is Decides-eqb body s.handed (starts_with nat_eq body s.handed) refl).0 ((both_true (nat_lt (length s.handed) (length body)) (starts_with nat_eq body s.handed) is).1) in
      let whole : body ≡ string_text s.session_id ++ (text ++ more) = begins ∙ ap (λ (x : List ℕ). x ++ more) handed.2 ∙ append_assoc (string_text s.session_id) text more in
      let behind : behind_session_id s body ≡ text ++ more =
      ap (drop (4 + length s.session_id)) whole ∙ drop_at (string_text s.session_id) (text ++ more) (4 + length s.session_id) (string_length s.session_id) in
      other_written (behind_session_id s body) packet (λ same. key_no_password s.user user password handed.0 handed.1 more fits.short short (sym behind ∙ same))

  -- ---- the table

  user_sound : (s : OpeningState) → FitsRequest s → UserRows (SoundRow s) s
  unfolding rekey_row user_disconnect_row info_response_row request gssapi_token gssapi_mic disconnect info_response
  user_sound s fits = record {
    first = λ ticket own method is has. first_sound s ticket own method is has;
    again = λ ticket own method is has. again_sound s ticket own method is has;
    token = λ token has. (omega arith, fits);
    mic = λ token code has. (omega (arith, token_has lists token (gssapi_mic code) (λ other. refl) refl), fits);
    complete = λ token has. (omega (arith, token_has lists token gssapi_complete (λ other. refl) refl), fits);
    rekeys = λ has. (omega arith, fits);
    waits = λ ticket name has. (omega arith, fits);
    resolves = λ event ticket answer may has. (omega (arith, resolved_has lists ticket answer), fits);
    leaves = λ reason description language has. (omega arith, tt);
    gone = λ calm has. (omega arith, tt);
    responds = λ responses has. (omega arith, fits_in tt fits.short);
    signs = λ body awaits is has. (omega (arith, signed_body s body is awaits fits), fits_in tt fits.short);
    unsigned = λ event lost has. (omega (arith, resolved_has lists s.ticket answers.Dropped), fits_in tt fits.short);
  }

  table_sound : (s : OpeningState) (told : Told) → FitsRequest s → TableRows (SoundRow s) s told
  table_sound s told fits = record {
    refusal = λ event e other is has. (omega arith, tt);
    disconnected = λ event info is has. (omega arith, tt);
    passed = λ event none has. (omega arith, fits);
    begins = λ idle has. (omega arith, fits);
    joins = λ running has. (omega arith, fits);
    accepted = λ x first went has.
        (omega (arith, fresh_waits packet s.user s.method (fits.fresh first)), fits_in tt fits.short);
    opened = λ x first went anonymous has. (omega arith, fits_in tt fits.short);
    later = λ x behind same has. (omega arith, fits);
    packets = λ n body counted behind. packet_sound (record s { counted = counted }) (events.Payload (n ∷ body)) _ _ fits;
    users = λ turn. user_sound s fits;
  }

  -- each row satisfies it
  pub open_sound : (s : OpeningState) (event : Event) (told : Told) → FitsRequest s → HasShortUser event → Always (Sound packet s event) (open_row s event told)
  open_sound s event told fits has = each_row (SoundRow s) s told (table_sound s told fits) event has
