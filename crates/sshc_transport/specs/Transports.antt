-- A transport's history as two lists that grow at the end: what `next` returned, and what the transport was handed.
-- A list that isn't known is `None`; the code keeps sockets and buffers.
use Rattle.std.specs.Prelude.{◌≡◌, ◌≤◌, ℕ, List, [], ◌∷◌, ◌++◌, length, Option, Some, None, Result, Ok, Err}
use Rattle.std.specs.Option.{option_map, IfSome}
use Rattle.sshc_wire.specs.declared.source.Failed.{Failed}
use Rattle.sshc_wire.specs.declared.source.Failed.TheVariants.{Fault, NoMemory}
use Rattle.sshc_transport.specs.declared.exchange.ExchangeKey.{ExchangeKey}
use Rattle.sshc_transport.specs.declared.exchange.ExchangeKey.TheVariants as keys
use Rattle.sshc_transport.specs.declared.exchange.ExchangeResult.{ExchangeResult}
use Rattle.sshc_transport.specs.declared.exchange.ExchangeNames.{ExchangeNames}
use Rattle.sshc_transport.specs.declared.transport.TransportEvent.{TransportEvent}
use Rattle.sshc_transport.specs.declared.transport.TransportEvent.TheVariants as events

-- a result of `next` other than out of memory
pub data Answer : Type 0 where
  event_given : TransportEvent → Answer
  ended : Answer
  failed : Answer

-- what a transport is handed
pub data Handing : Type 0 where
  payload : List ℕ → Handing
  exchange_begun : Handing

-- the list with one more element at the end, if the list is known
abbrev pub gains : {A : Type 0} → Option (List A) → A → Option (List A)
gains told x = option_map (λ before. before ++ x ∷ []) told

abbrev pub AnswersNext : Option (List Answer) → Option (List Answer) → Result (Option TransportEvent) Failed → Type 0
AnswersNext old new (Ok (Some event)) = new ≡ gains old (event_given event)
AnswersNext old new (Ok None) = new ≡ gains old ended
AnswersNext old new (Err Fault) = new ≡ gains old failed
AnswersNext old new (Err NoMemory) = new ≡ old

-- a failed call adds nothing to the list
abbrev pub Hands : Handing → Option (List Handing) → Option (List Handing) → Result (Unit {0}) Failed → Type 0
Hands handing old new (Ok u) = new ≡ gains old handing
Hands handing old new (Err e) = new ≡ old

-- ---- the bound on the parts of an event that `next` returns

abbrev pub IsShortPart : List ℕ → Type 0
IsShortPart part = length part ≤ 262144

abbrev pub IsShortKey : ExchangeKey → Type 0
IsShortKey keys.Missing = Unit {0}
IsShortKey (keys.Key blob) = IsShortPart blob
IsShortKey (keys.Certificate blob) = IsShortPart blob

pub record AreShortNames (names : ExchangeNames) : Type 0 where
  pub kex : IsShortPart names.kex
  pub key : IsShortPart names.key
  pub cipher : IsShortPart names.cipher
  pub client_mac : IsShortPart names.client_mac
  pub server_mac : IsShortPart names.server_mac

pub record IsShortExchange (x : ExchangeResult) : Type 0 where
  pub key : IsShortKey x.key
  pub session_hash : IsShortPart x.session_hash
  pub signature : IsShortPart x.signature
  pub secret : IfSome x.secret IsShortPart
  pub names : AreShortNames x.names

abbrev pub IsShortEvent : TransportEvent → Type 0
IsShortEvent (events.Done x) = IsShortExchange x
IsShortEvent (events.Payload packet) = IsShortPart packet
IsShortEvent event = Unit {0}
