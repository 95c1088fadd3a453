-- What the table asks of the gate: the host key of the first exchange alone, and an exchange only of an event that is
-- one.
use Rattle.std.proofs.Common.{◌≡◌, ◌≢◌, ℕ, ◌+◌, Bool, true, false, List, [], ◌∷◌, length, Option, Some, None, Result, Ok, Err, refl, sym, ◌∙◌}
use Rattle.std.specs.Prelude.{◌==◌, if◌then◌else◌}
use Rattle.sshc_wire.specs.CasesLaws.{by_cases}
use Rattle.sshc_wire.specs.MessageNumbers.{USERAUTH_BANNER}
use Rattle.sshc_auth_event.specs.declared.event.Event.TheVariants as events
use Rattle.sshc_transport.specs.declared.exchange.ExchangeFlag.TheVariants as flags
use Rattle.sshc_auth.specs.declared.opening.Phase.TheVariants as phases
use Rattle.sshc_auth.specs.declared.step.Asks.TheVariants as asking
use Rattle.sshc_auth.specs.Stepping.{HasExchange, is_banner}
pub use Rattle.sshc_auth.specs.Stepping.{may_ask}
use Rattle.sshc_auth.specs.RowNames.{asked_of, Asks, banner_asks, banner_at_end, Event, event_asks, exchange_asks, exchange_in, ExchangeResult, has_kept_key, host_key, is_held_back, is_out_of_turn, key_asked, number_asks, OpeningState, Phase, PublicKeyOrCertificate, text_at, WireError, with_part}

-- ---- one walk over what the table asks

-- what holds of each question, where an event may ask it, holds of what the event asks
record Questions (Q : Event → Asks → Type 0) (s : OpeningState) : Type 0 where
  none : (event : Event) → Q event asking.Nothing
  key : (x : ExchangeResult) (key : PublicKeyOrCertificate) → s.phase ≡ phases.Exchanging → host_key x.key ≡ Some key →
      Q (events.ExchangeDone x) (asking.HostKey key)
  exchange : (x : ExchangeResult) → s.phase ≢ phases.Exchanging → Q (events.ExchangeDone x) asking.Exchange
  banner : (packet shown : List ℕ) → s.phase ≡ phases.Auth → is_banner packet ≡ true →
      Q (events.Payload packet) (asking.Banner shown)

module _ (Q : Event → Asks → Type 0) (s : OpeningState) (q : Questions Q s) where
  key_so : (x : ExchangeResult) (o : Option PublicKeyOrCertificate) → host_key x.key ≡ o → s.phase ≡ phases.Exchanging →
      Q (events.ExchangeDone x) (key_asked o)
  key_so x None has first = q.none (events.ExchangeDone x)
  key_so x (Some key) has first = q.key x key first has

  exchange_so : (x : ExchangeResult) (phase : Phase) → s.phase ≡ phase → Q (events.ExchangeDone x) (exchange_asks phase s x)
  exchange_so x phases.Exchanging is = key_so x (host_key x.key) refl is
  exchange_so x phase is =
      by_cases (Q (events.ExchangeDone x)) (has_kept_key s x) _ _
      (q.exchange x (rw is (λ first. absurd cc))) (q.none (events.ExchangeDone x))

  part_so : {A : Type 0} (packet : List ℕ) (read : Result (A × List ℕ) WireError) (on : A → List ℕ → Asks) →
      ((x : A) (rest : List ℕ) → Q (events.Payload packet) (on x rest)) →
      Q (events.Payload packet) (with_part asking.Nothing read on)
  part_so packet (Ok x) on each = each x.0 x.1
  part_so packet (Err e) on each = q.none (events.Payload packet)

  end_so : (packet banner left : List ℕ) → s.phase ≡ phases.Auth → is_banner packet ≡ true →
      Q (events.Payload packet) (banner_at_end banner left)
  end_so packet banner [] is has = q.banner packet banner is has
  end_so packet banner (b ∷ left) is has = q.none (events.Payload packet)

  banner_so : (n : ℕ) (body : List ℕ) (held has : Bool) → s.phase ≡ phases.Auth → (n == USERAUTH_BANNER) ≡ has →
      Q (events.Payload (n ∷ body)) (if has then (if held then asking.Nothing else banner_asks body) else asking.Nothing)
  banner_so n body true true is has = q.none (events.Payload (n ∷ body))
  banner_so n body false true is has =
      part_so (n ∷ body) (text_at body) _ (λ banner rest.
      part_so (n ∷ body) (text_at rest) _ (λ language left. end_so (n ∷ body) banner left is has))
  banner_so n body held false is has = q.none (events.Payload (n ∷ body))

  number_so : (phase : Phase) (n : ℕ) (body : List ℕ) → s.phase ≡ phase →
      Q (events.Payload (n ∷ body)) (number_asks phase s (length body + 1) n body)
  number_so phases.Auth n body is = banner_so n body (is_held_back s.flag s (length body + 1)) (n == USERAUTH_BANNER) is refl
  number_so phase n body is = q.none (events.Payload (n ∷ body))

  event_so : (event : Event) → Q event (event_asks s event)
  event_so (events.ExchangeDone x) = exchange_so x s.phase refl
  event_so (events.Payload []) = q.none (events.Payload [])
  event_so (events.Payload (n ∷ body)) = number_so s.phase n body refl
  event_so event = q.none event

  each_asked : (event : Event) → Q event (asked_of s event)
  unfolding asked_of
  each_asked event =
      by_cases (Q event) s.closed _ _ (q.none event)
      (by_cases (Q event) (is_out_of_turn s event) _ _ (q.none event) (event_so event))

-- ---- the laws

none_has : (x : Option ExchangeResult) → HasExchange asking.Nothing x
none_has (Some x) = tt
none_has None = tt

-- only an event that is an exchange asks the gate for an exchange
pub has_exchange : (s : OpeningState) (event : Event) → HasExchange (asked_of s event) (exchange_in event)
has_exchange s event = each_asked (λ event wanted. HasExchange wanted (exchange_in event)) s (record {
  none = λ event. none_has (exchange_in event);
  key = λ x key first has. tt;
  exchange = λ x behind. tt;
  banner = λ packet shown is has. tt;
}) event

-- an event of another kind asks nothing
pub unasked : (s : OpeningState) (event : Event) → may_ask event ≡ false → asked_of s event ≡ asking.Nothing
unasked s event other = each_asked (λ event wanted. may_ask event ≡ false → wanted ≡ asking.Nothing) s (record {
  none = λ event never. refl;
  key = λ x key first has never. absurd cc;
  exchange = λ x behind never. absurd cc;
  banner = λ packet shown is has never. let clash : true ≡ false = sym has ∙ never in absurd cc;
}) event other

-- the first exchange, if it may come, asks for its host key
pub first_asks : (s : OpeningState) (event : Event) (x : ExchangeResult) → s.closed ≡ false → event ≡ events.ExchangeDone x → s.flag ≡ flags.Peer → s.phase ≡ phases.Exchanging → asked_of s event ≡ key_asked (host_key x.key)
unfolding asked_of
first_asks s event x fresh is peer first =
    let turn : is_out_of_turn s event ≡ false = rw (is, first, peer) refl in rw (fresh, turn) (rw (is, first) refl)

-- why the gate is asked for a host key
pub record AsksFor (s : OpeningState) (event : Event) (key : PublicKeyOrCertificate) : Type 0 where
  pub exchange : ExchangeResult
  pub is : event ≡ events.ExchangeDone exchange
  pub first : s.phase ≡ phases.Exchanging
  pub has : host_key exchange.key ≡ Some key

-- only the first exchange asks for a host key, and for its own
pub asks_for : (s : OpeningState) (event : Event) (key : PublicKeyOrCertificate) → asked_of s event ≡ asking.HostKey key → AsksFor s event key
asks_for s event key asked = each_asked (λ event wanted. wanted ≡ asking.HostKey key → AsksFor s event key) s (record {
  none = λ event never. absurd cc;
  key = λ x other first has same. let is : other ≡ key = cc in record { exchange = x; is = refl; first = first; has = rw is at has };
  exchange = λ x behind never. absurd cc;
  banner = λ packet shown is has never. absurd cc;
}) event asked

-- a host key or nothing
abbrev pub IsKeyAtMost : Asks → Type 0
IsKeyAtMost asking.Nothing = Unit {0}
IsKeyAtMost (asking.HostKey key) = Unit {0}
IsKeyAtMost wanted = ⊥

-- while the first exchange runs, only a host key is asked for
pub first_at_most : (s : OpeningState) (event : Event) → s.phase ≡ phases.Exchanging → IsKeyAtMost (asked_of s event)
first_at_most s event is = each_asked (λ event wanted. IsKeyAtMost wanted) s (record {
  none = λ event. tt;
  key = λ x key first has. tt;
  exchange = λ x behind. absurd (behind is);
  banner = λ packet shown auth has. let clash : phases.Auth ≡ phases.Exchanging = sym auth ∙ is in absurd cc;
}) event
