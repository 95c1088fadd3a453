-- Which event a turn takes: by the first rule that applies to the moment, the transport's result and the submitted
-- events. The code calls the transport only if the rules come to it.
use Rattle.std.specs.Prelude.{◌≡◌, ℕ, Bool, true, false, not, ◌&&◌, if◌then◌else◌, List, [], ◌∷◌, Option, Some, None, Result, Ok, Err}
use Rattle.sshc_wire.specs.Faults.{HasCause}
use Rattle.sshc_wire.specs.declared.source.Failed.{Failed}
use Rattle.sshc_wire.specs.declared.source.Failed.TheVariants.{Fault, NoMemory}
use Rattle.sshc_transport.specs.Transports.{Answer, AnswersNext, Handing}
use Rattle.sshc_transport.specs.declared.transport.TransportEvent.{TransportEvent}
use Rattle.sshc_transport.specs.declared.transport.TransportEvent.TheVariants as came
use Rattle.sshc_auth_event.specs.declared.event.Event.{Event}
use Rattle.sshc_auth_event.specs.declared.event.Event.TheVariants as events
use Rattle.sshc_auth.specs.OpeningState.{is_awaiting}
use Rattle.sshc_client.specs.Asking.{wants_user_events}
use Rattle.sshc_handle_tickets.specs.Tickets.{first_of, without_first}
use Rattle.sshc_handle_state.specs.Clocks.{begun, is_inactive, is_keepalive_due}
use Rattle.sshc_handle_state.specs.HandleAt.{HandleAt}
use Rattle.sshc_handle_state.specs.declared.picking.Pick.{Pick}
use Rattle.sshc_handle_state.specs.declared.picking.Pick.TheVariants as picks
use Rattle.sshc_handle_state.specs.declared.timers.Timers.{Timers}

-- what a turn takes, and the state afterwards
pub record Picked : Type 0 where
  pub pick : Pick
  pub left : HandleAt

abbrev pub picked : Pick → HandleAt → Picked
picked pick left = record { pick = pick; left = left }

-- ---- submitted events

-- the first event was taken, or there is none
abbrev pub Pops : List Event → List Event → Option Event → Type 0
Pops was is (Some event) = was ≡ event ∷ is
Pops was is None = (was ≡ []) × (is ≡ [])

abbrev pub is_reply : Event → Bool
is_reply (events.ServerChannelOpenReply id result) = true
is_reply event = false

-- the oldest one, if there is one
abbrev pub oldest_of : HandleAt → List Event → Picked
oldest_of s [] = picked picks.Idle s
oldest_of s (event ∷ later) = picked (picks.Event event) (record s { submitted = later })

abbrev pub oldest : HandleAt → Picked
oldest s = oldest_of s s.submitted

-- the oldest reply to a channel that the server opens, else the oldest event
abbrev pub reply_or_oldest : HandleAt → Option Event → Picked
reply_or_oldest s None = oldest s
reply_or_oldest s (Some reply) = picked (picks.Event reply) (record s { submitted = without_first is_reply s.submitted })

abbrev pub users_event : HandleAt → Picked
users_event s = if wants_user_events s.session then reply_or_oldest s (first_of is_reply s.submitted) else picked picks.Idle s

-- ---- the transport's events

abbrev pub timed : Timers → HandleAt → HandleAt
timed timers s = record s { timers = timers }

-- an event of the transport, which was heard now
abbrev pub heard : ℕ → Event → HandleAt → Picked
heard now event s = picked (picks.Event event) (timed (record (s.timers) { heard = Some now }) s)

abbrev pub on_event : ℕ → TransportEvent → HandleAt → Picked
on_event now came.PeerKexinit s = heard now events.PeerKexinit s
on_event now (came.Done exchange) s = heard now (events.ExchangeDone exchange) s
on_event now (came.Payload packet) s = heard now (events.Payload packet) s
on_event now came.Failed s = heard now events.TransportFailed s
on_event now came.RekeyLimit s = heard now events.RekeyLimit s
on_event now came.Quiet s = users_event s

-- by the transport's result: `None` is its end, and a call that fails is an event too
abbrev pub on_answer : ℕ → Result (Option TransportEvent) Failed → HandleAt → Picked
on_answer now (Ok (Some event)) s = on_event now event s
on_answer now (Ok None) s = picked picks.Ended s
on_answer now (Err Fault) s = heard now events.TransportFailed s
on_answer now (Err NoMemory) s = picked picks.NoMemory s

-- ---- the rules, in their order

-- the keepalive timer, which runs out now
abbrev pub struck : ℕ → HandleAt → Picked
struck now s = picked (picks.Event events.KeepaliveTimer) (timed (record (s.timers) { beat = now }) s)

-- if an answer is awaited, only submitted events; else the timers, a call of the transport that failed before, and the
-- transport's result
abbrev pub rules : ℕ → Result (Option TransportEvent) Failed → HandleAt → Picked
rules now answer s =
    if is_awaiting s.session.opening.phase then oldest s
    else if is_inactive now s.timers then picked (picks.Event events.InactivityTimer) s
    else if is_keepalive_due now s.timers then struck now s
    else if s.failed then heard now events.TransportFailed s
    else on_answer now answer s

-- whether the rules come to the transport
abbrev pub asks_transport : ℕ → HandleAt → Bool
asks_transport now s =
    not (is_awaiting s.session.opening.phase) && not (is_inactive now s.timers) && not (is_keepalive_due now s.timers) && not s.failed

-- the result of the rules before the transport, whatever it would return; `None` if they come to it
abbrev pub Ruled : ℕ → HandleAt → HandleAt → Option Pick → Type 0
Ruled now old new None = (asks_transport now old ≡ true) × (new ≡ old)
Ruled now old new (Some pick) =
    (asks_transport now old ≡ false) × ((answer : Result (Option TransportEvent) Failed) → picked pick new ≡ rules now answer old)

-- the first turn's moment counts as that of a transport event
abbrev pub begun_at : ℕ → HandleAt → HandleAt
begun_at now s = timed (begun now s.timers) s

-- ---- with the transport

-- how contracts see a transport: its results, what was passed to it, and how often a call failed
pub record LinkAt : Type 0 where
  pub answers : Option (List Answer)
  pub handed : Option (List Handing)
  pub faults : ℕ

abbrev pub link_at : Option (List Answer) → Option (List Handing) → ℕ → LinkAt
link_at answers handed faults = record { answers = answers; handed = handed; faults = faults }

-- it was asked for its next event
pub record IsAsked (was is : LinkAt) (answer : Result (Option TransportEvent) Failed) : Type 0 where
  pub answered : AnswersNext was.answers is.answers answer
  pub handed : is.handed ≡ was.handed
  pub cause : HasCause was.faults is.faults answer

abbrev pub AsksIf : Bool → LinkAt → LinkAt → Result (Option TransportEvent) Failed → Type 0
AsksIf true was is answer = IsAsked was is answer
AsksIf false was is answer = is ≡ was

-- what a turn takes by its rules, if this is the transport's result in case it is called
pub record Picks (now : ℕ) (old new : HandleAt) (was is : LinkAt) (pick : Pick) : Type 0 where
  pub answer : Result (Option TransportEvent) Failed
  pub asks : AsksIf (asks_transport now (begun_at now old)) was is answer
  pub rule : picked pick new ≡ rules now answer (begun_at now old)
