-- Where the gate is notified of an exchange or a banner and the session continues, the row's first record says the same:
-- a law about the table, which joins what a row asks of the gate with what it outputs.
use Rattle.std.proofs.Common.{◌≡◌, ◌≢◌, ℕ, ◌+◌, Bool, true, false, List, [], ◌∷◌, length, Option, Some, None, Result, Ok, Err, refl, ap, sym, subst}
use Rattle.std.specs.Prelude.{◌==◌, if◌then◌else◌}
use Rattle.sshc_wire.specs.MessageNumbers.{USERAUTH_BANNER}
use Rattle.sshc_wire.specs.declared.record.Record.TheVariants as records
use Rattle.sshc_auth_event.specs.declared.event.Event.TheVariants as events
use Rattle.sshc_transport.specs.declared.exchange.ExchangeFlag.TheVariants as flags
use Rattle.sshc_auth.specs.declared.error.Error.TheVariants.{Pending}
use Rattle.sshc_auth.specs.declared.opening.Class.TheVariants as classes
use Rattle.sshc_auth.specs.declared.opening.Phase.TheVariants as phases
use Rattle.sshc_auth.specs.declared.step.Asks.TheVariants as asking
use Rattle.sshc_auth.specs.OpeningTable.{phase_packet_row}
use Rattle.sshc_auth.specs.declared.order.EventSort.TheVariants as sorts
use Rattle.sshc_auth.specs.EachRowLaws.{by_test, exchange_row, same_number}
use Rattle.sshc_auth.specs.OpeningTable.Order.{is_early}
use Rattle.sshc_auth.specs.declared.step.Asks.{Asks}
use Rattle.sshc_auth.specs.RowNames.{accepted_row, Always, asked_of, Asking, asks, auth_packet_row, auth_row, banner_asks, banner_at_end, broken_row, Class, counted_with, done, ends, ends_at, Event, event_asks, exchange_asks, exchange_in, exchanged, ExchangeFlag, ExchangeResult, goes, has_kept_key, held_packet_row, host_key, is_awaiting, is_exchanging, is_held_back, is_out_of_turn, is_pk_ok, is_too_much, key_asked, Next, number_asks, numbered_row, open_row, OpeningState, opens, packet_asks, packet_row_in, payload_row, Phase, PublicKeyOrCertificate, Record, refused, refuses, reported, Row, stays, text_at, Told, turn_row, userauth_banner_row, WireError, with_part}

-- the record is the first
abbrev pub Reports : Option Record → List Record → Type 0
Reports None output = Unit {0}
Reports (Some one) output = (more : List Record) × (output ≡ one ∷ more)

-- where the session continues
abbrev pub ReportsNext : Option Record → List Record → Next → Type 0
ReportsNext one output (stays t) = Reports one output
ReportsNext one output (opens t) = Reports one output
ReportsNext one output next = Unit {0}

abbrev pub ReportsRow : Option Record → Row → Type 0
ReportsRow one row = ReportsNext one row.records row.next

-- ---- nothing to be reported

none_next : (output : List Record) (next : Next) → ReportsNext None output next
none_next output (stays t) = tt
none_next output (opens t) = tt
none_next output (ends e) = tt
none_next output (refuses e) = tt

none_always : (row : Asking Row) → Always (ReportsRow None) row
none_always (done row) = none_next row.records row.next
none_always (asks asked on) = λ answer. none_always (on answer)

-- ---- exchanges

accepted_reports : (s : OpeningState) (x : ExchangeResult) (anonymous : Bool) (key : Option PublicKeyOrCertificate) →
    ReportsRow (reported (key_asked key) (Some x)) (accepted_row anonymous s x)
accepted_reports s x anonymous None = none_next (accepted_row anonymous s x).records (accepted_row anonymous s x).next
accepted_reports s x false (Some key) = ([], refl)
accepted_reports s x true (Some key) = (records.Opened ∷ [], refl)

first_reports : (s : OpeningState) (x : ExchangeResult) (phase : Phase) → phase ≡ phases.Exchanging →
    ReportsRow (reported (exchange_asks phase s x) (Some x)) (accepted_row s.settings.anonymous s x)
first_reports s x phases.Exchanging first = accepted_reports s x s.settings.anonymous (host_key x.key)
first_reports s x phase first = absurd cc

later_reports : (s : OpeningState) (x : ExchangeResult) (phase : Phase) → phase ≢ phases.Exchanging → has_kept_key s x ≡ true →
    ReportsRow (reported (exchange_asks phase s x) (Some x)) (goes (records.KexDone x.names.kex ∷ []) (exchanged s))
later_reports s x phases.Exchanging behind same = absurd (behind refl)
later_reports s x phase behind same = rw same ([], refl)

exchange_reports : (s : OpeningState) (x : ExchangeResult) (told : Told) →
    Always (ReportsRow (reported (exchange_asks s.phase s x) (Some x))) (open_row s (events.ExchangeDone x) told)
exchange_reports s x told =
    exchange_row (Always (ReportsRow (reported (exchange_asks s.phase s x) (Some x)))) s x told (λ e other is. tt)
    (λ first went. first_reports s x s.phase first) (λ behind same. later_reports s x s.phase behind same)

-- ---- banners

end_reports : (s : OpeningState) (banner left : List ℕ) → ReportsRow (reported (banner_at_end banner left) None) (ends_at left (goes (records.AuthBanner banner ∷ []) s))
end_reports s banner [] = ([], refl)
end_reports s banner (b ∷ left) = tt

language_reports : (s : OpeningState) (banner : List ℕ) (read : Result (List ℕ × List ℕ) WireError) →
    ReportsRow (reported (with_part asking.Nothing read (λ language left. banner_at_end banner left)) None) (with_part broken_row read (λ language left. ends_at left (goes (records.AuthBanner banner ∷ []) s)))
language_reports s banner (Ok x) = end_reports s banner x.1
language_reports s banner (Err e) = tt

text_reports : (s : OpeningState) (read : Result (List ℕ × List ℕ) WireError) →
    ReportsRow (reported (with_part asking.Nothing read (λ banner rest. with_part asking.Nothing (text_at rest) (λ language left. banner_at_end banner left))) None)
    (with_part broken_row read (λ banner rest. with_part broken_row (text_at rest) (λ language left. ends_at left (goes (records.AuthBanner banner ∷ []) s))))
text_reports s (Ok x) = language_reports s x.0 (text_at x.1)
text_reports s (Err e) = tt

banner_reports : (s : OpeningState) (body : List ℕ) → ReportsRow (reported (banner_asks body) None) (userauth_banner_row s body)
unfolding userauth_banner_row
banner_reports s body = text_reports s (text_at body)

is_no_pk_ok : (class : Class) → is_pk_ok class USERAUTH_BANNER ≡ false
is_no_pk_ok classes.Key = refl
is_no_pk_ok class = refl

auth_reports : (s : OpeningState) (body : List ℕ) → Always (ReportsRow (reported (banner_asks body) None)) (auth_packet_row s USERAUTH_BANNER body)
unfolding auth_packet_row auth_row
auth_reports s body = rw (is_no_pk_ok s.class) (banner_reports s body)

phase_reports : (s : OpeningState) (body : List ℕ) → s.phase ≡ phases.Auth → Always (ReportsRow (reported (banner_asks body) None)) (phase_packet_row s USERAUTH_BANNER body)
phase_reports s body is = subst (λ (phase : Phase). Always (ReportsRow (reported (banner_asks body) None)) (packet_row_in phase s USERAUTH_BANNER body)) (sym is) (auth_reports s body)

much_reports : (s t : OpeningState) (body : List ℕ) (much : Bool) → t.phase ≡ phases.Auth →
    Always (ReportsRow (reported (if much then asking.Nothing else banner_asks body) None)) (if much then done (refused Pending) else phase_packet_row t USERAUTH_BANNER body)
much_reports s t body true is = tt
much_reports s t body false is = phase_reports t body is

held_reports : (s : OpeningState) (flag : ExchangeFlag) (len : ℕ) (body : List ℕ) → s.phase ≡ phases.Auth →
    Always (ReportsRow (reported (if is_held_back flag s len then asking.Nothing else banner_asks body) None)) (held_packet_row flag s len USERAUTH_BANNER body)
unfolding held_packet_row
held_reports s flags.Idle len body is = phase_reports s body is
held_reports s flags.Peer len body is = tt
held_reports s flags.Ours len body is = much_reports s (record s { counted = counted_with s len }) body (is_too_much s len) is

banner_row_reports : (s : OpeningState) (len : ℕ) (body : List ℕ) → s.phase ≡ phases.Auth →
    Always (ReportsRow (reported (if is_held_back s.flag s len then asking.Nothing else banner_asks body) None)) (numbered_row s len USERAUTH_BANNER body)
unfolding numbered_row
banner_row_reports s len body is = let later : is_exchanging s.phase ≡ false = ap is_exchanging is in rw later (held_reports s s.flag len body is)

number_by : (s : OpeningState) (len n : ℕ) (body : List ℕ) (banner : Bool) → (n == USERAUTH_BANNER) ≡ banner → s.phase ≡ phases.Auth →
    Always (ReportsRow (reported (if banner then (if is_held_back s.flag s len then asking.Nothing else banner_asks body) else asking.Nothing) None)) (numbered_row s len n body)
number_by s len n body true same is = rw (same_number n USERAUTH_BANNER same) (banner_row_reports s len body is)
number_by s len n body false same is = none_always (numbered_row s len n body)

number_reports : (s : OpeningState) (len n : ℕ) (body : List ℕ) (phase : Phase) → s.phase ≡ phase → Always (ReportsRow (reported (number_asks phase s len n body) None)) (numbered_row s len n body)
number_reports s len n body phases.Auth is = number_by s len n body (n == USERAUTH_BANNER) refl is
number_reports s len n body phase is = none_always (numbered_row s len n body)

packet_reports : (s : OpeningState) (packet : List ℕ) → Always (ReportsRow (reported (packet_asks s packet) None)) (payload_row s packet)
unfolding payload_row
packet_reports s [] = tt
packet_reports s (n ∷ body) = number_reports s (length body + 1) n body s.phase refl

-- ---- any event

-- while an answer is awaited a packet is out of turn
packet_turn : (s : OpeningState) (packet : List ℕ) (told : Told) (awaits : Bool) → is_early awaits s.flag sorts.Transport ≡ false →
    Always (ReportsRow (reported (packet_asks s packet) None)) (turn_row awaits s (events.Payload packet) told)
packet_turn s packet told true early = absurd cc
packet_turn s packet told false early = packet_reports s packet

event_reports : (s : OpeningState) (event : Event) (told : Told) →
    Always (ReportsRow (reported (event_asks s event) (exchange_in event))) (open_row s event told)
unfolding open_row
event_reports s (events.ExchangeDone x) told = exchange_reports s x told
event_reports s (events.Payload packet) told =
    by_test (Always (ReportsRow (reported (packet_asks s packet) None))) (is_out_of_turn s (events.Payload packet)) _ _
    (λ early. tt) (λ turn. packet_turn s packet told (is_awaiting s.phase) turn)
event_reports s event told = none_always (open_row s event told)

-- what isn't asked isn't to be reported
asked_reports : (closed early : Bool) (wanted : Asks) (x : Option ExchangeResult) (row : Asking Row) →
    Always (ReportsRow (reported wanted x)) row →
    Always (ReportsRow (reported (if closed then asking.Nothing else (if early then asking.Nothing else wanted)) x)) row
asked_reports true early wanted x row reports = none_always row
asked_reports false true wanted x row reports = none_always row
asked_reports false false wanted x row reports = reports

-- where the session continues, the row's first record says what the gate was notified of
pub row_reports : (s : OpeningState) (event : Event) (told : Told) → s.closed ≡ false → Always (ReportsRow (reported (asked_of s event) (exchange_in event))) (open_row s event told)
unfolding asked_of
row_reports s event told fresh =
    asked_reports s.closed (is_out_of_turn s event) (event_asks s event) (exchange_in event) (open_row s event told)
    (event_reports s event told)
