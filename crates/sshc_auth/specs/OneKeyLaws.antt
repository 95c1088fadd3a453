-- After the first exchange the session continues behind an exchange only with the first exchange's host key: a law about
-- the table.
use Rattle.std.proofs.Common.{◌≡◌, ◌≢◌, true, ap, sym}
use Rattle.std.proofs.lemmas.Slice.Eq.{bytes_eq-Decides}
use Rattle.sshc_auth_event.specs.declared.event.Event.TheVariants as events
use Rattle.sshc_transport.specs.declared.exchange.ExchangeKey.TheVariants as keys
use Rattle.sshc_auth.specs.declared.opening.Phase.TheVariants as phases
use Rattle.sshc_auth.specs.EachRowLaws.{exchange_row}
use Rattle.sshc_auth.specs.RowNames.{Always, ExchangeKey, ExchangeResult, has_kept_key, is_same_key, IsKeptKey, Next, open_row, OpeningState, opens, Row, stays, Told}

-- a key that passes the test is the one that the session has
same_found : (kept key : ExchangeKey) → is_same_key kept key ≡ true → (key ≡ kept) × (key ≢ keys.Missing)
same_found (keys.Key kept) (keys.Key blob) same = (ap keys.Key (sym ((bytes_eq-Decides kept blob).0 same)), λ missing. absurd cc)
same_found (keys.Certificate kept) (keys.Certificate blob) same = (ap keys.Certificate (sym ((bytes_eq-Decides kept blob).0 same)), λ missing. absurd cc)
same_found kept key same = absurd cc

pub is_kept : (s : OpeningState) (x : ExchangeResult) → has_kept_key s x ≡ true → IsKeptKey s x.key
is_kept s x same = same_found s.host_key x.key same

-- the session continues only with that key
abbrev pub HasKeyNext : OpeningState → ExchangeResult → Next → Type 0
HasKeyNext s x (stays t) = IsKeptKey s x.key
HasKeyNext s x (opens t) = IsKeptKey s x.key
HasKeyNext s x next = Unit {0}

abbrev pub HasKeyRow : OpeningState → ExchangeResult → Row → Type 0
HasKeyRow s x row = HasKeyNext s x row.next

pub later_row : (s : OpeningState) (x : ExchangeResult) (told : Told) → s.phase ≢ phases.Exchanging → Always (HasKeyRow s x) (open_row s (events.ExchangeDone x) told)
later_row s x told later =
    exchange_row (Always (HasKeyRow s x)) s x told (λ e other is. tt) (λ first went. absurd (later first))
    (λ behind same. is_kept s x same)
