-- The pairs of a program that forwards, and what each event does to them: one definition a kind of event.
-- The pairs are a map from streams, and the channels a map to the streams that they are joined to.
use Rattle.std.specs.Prelude.{◌≡◌, ℕ, Bool, true, false, ◌||◌, List, [], ◌∷◌, Option, None, Some, Result, Ok, Err, Vec, if◌then◌else◌}
use Rattle.std.specs.Ordering.{nat_cmp}
use Rattle.std.specs.FinMap.{FinMap, empty, get, insert, remove, contains_key}
use Rattle.std.specs.declared.alloc.Global.{Global}
use Rattle.sshc_wire.specs.declared.error.NoMemory.{NoMemory}
use Rattle.sshc_forward_core.specs.declared.event.FwdEvent.{FwdEvent}
use Rattle.sshc_forward_core.specs.declared.event.FwdEvent.TheVariants.{Accepted, Opened, OpenFailed, Incoming, Bytes, StreamEnd, Data, ChannelEof, ChannelClose, StreamFailed}
use Rattle.sshc_forward_core.specs.declared.output.FwdOutput.{FwdOutput}
use Rattle.sshc_forward_core.specs.declared.output.FwdOutput.TheVariants.{OpenChannel, CloseStream}
use Rattle.sshc_forward_core.specs.declared.refused.FwdRefused.{FwdRefused}
use Rattle.sshc_forward_core.specs.declared.refused.FwdRefused.TheVariants as Refusals
use Rattle.sshc_forward_core.specs.PairState.{PairState, new_pair, is_opened}
use Rattle.sshc_forward_core.specs.PairTurns.{turn}

pub record Forwards : Type 0 where
  pub pairs : FinMap nat_cmp PairState  -- each pair, under its stream
  pub joined : FinMap nat_cmp ℕ  -- the stream of each channel

abbrev pub no_pairs : Forwards
no_pairs = record { pairs = empty; joined = empty }

-- the pairs after an event, and what is to be done
pub record Effect : Type 0 where
  pub after : Forwards
  pub outputs : List FwdOutput

-- nothing happens
abbrev pub unmoved : Forwards → Effect
unmoved t = record { after = t; outputs = [] }

-- ACCEPTED: a new pair without a channel, which is asked for
abbrev pub accepted_row : ℕ → List ℕ → ℕ → List ℕ → ℕ → Forwards → Effect
accepted_row stream host port originator originator_port t = record {
  after = record t { pairs = insert t.pairs stream (new_pair None) };
  outputs = OpenChannel stream host port originator originator_port ∷ [];
}

-- INCOMING: a new pair with its channel
abbrev pub incoming_row : ℕ → ℕ → Forwards → Effect
incoming_row channel stream t = record {
  after = record {
    pairs = insert t.pairs stream (new_pair (Some channel));
    joined = insert t.joined channel stream;
  };
  outputs = [];
}

-- an event of a stream, if it has a pair
abbrev pub turned : ℕ → FwdEvent → Option PairState → Forwards → Effect
turned stream event None t = unmoved t
turned stream event (Some p) t = record {
  after = record t { pairs = insert t.pairs stream (turn stream event p).pair };
  outputs = (turn stream event p).outputs;
}

abbrev pub turn_at : ℕ → FwdEvent → Forwards → Effect
turn_at stream event t = turned stream event (get t.pairs stream) t

-- an event of a channel, if it is joined to a stream
abbrev pub turned_on : FwdEvent → Option ℕ → Forwards → Effect
turned_on event None t = unmoved t
turned_on event (Some stream) t = turn_at stream event t

abbrev pub turn_on : ℕ → FwdEvent → Forwards → Effect
turn_on channel event t = turned_on event (get t.joined channel) t

-- OPENED: the pair's turn, and the channel is joined to the stream
abbrev pub joins : ℕ → ℕ → Option PairState → Forwards → Forwards
joins stream channel None t = t
joins stream channel (Some p) t = record t { joined = insert t.joined channel stream }

abbrev pub opened_row : ℕ → ℕ → Forwards → Effect
opened_row stream channel t = turn_at stream (Opened stream channel) (joins stream channel (get t.pairs stream) t)

-- OPEN_FAILED: a pair without a channel is gone
abbrev pub given_up : ℕ → Option PairState → Forwards → Effect
given_up stream None t = unmoved t
given_up stream (Some p) t =
    if is_opened p then unmoved t
    else record { after = record t { pairs = remove t.pairs stream }; outputs = CloseStream stream ∷ [] }

abbrev pub open_failed_row : ℕ → Forwards → Effect
open_failed_row stream t = given_up stream (get t.pairs stream) t

-- CHANNEL_CLOSE: the channel's pair is gone
abbrev pub closed : ℕ → Option ℕ → Forwards → Effect
closed channel None t = unmoved t
closed channel (Some stream) t = record {
  after = record { pairs = remove t.pairs stream; joined = remove t.joined channel };
  outputs = CloseStream stream ∷ [];
}

abbrev pub channel_close_row : ℕ → Forwards → Effect
channel_close_row channel t = closed channel (get t.joined channel) t

abbrev pub row : FwdEvent → Forwards → Effect
row (Accepted stream host port originator originator_port) t = accepted_row stream host port originator originator_port t
row (Opened stream channel) t = opened_row stream channel t
row (OpenFailed stream) t = open_failed_row stream t
row (Incoming channel stream) t = incoming_row channel stream t
row (Bytes stream bytes) t = turn_at stream (Bytes stream bytes) t
row (StreamEnd stream) t = turn_at stream (StreamEnd stream) t
row (Data channel bytes) t = turn_on channel (Data channel bytes) t
row (ChannelEof channel) t = turn_on channel (ChannelEof channel) t
row (ChannelClose channel) t = channel_close_row channel t
row (StreamFailed stream) t = turn_at stream (StreamFailed stream) t

-- the stream has a pair with a channel
abbrev pub opened_in : Option PairState → Bool
opened_in None = false
opened_in (Some p) = is_opened p

abbrev pub is_opened_at : ℕ → Forwards → Bool
is_opened_at stream t = opened_in (get t.pairs stream)

-- the event names what is in use
abbrev pub is_taken : FwdEvent → Forwards → Bool
is_taken (Accepted stream host port originator originator_port) t = contains_key t.pairs stream
is_taken (Opened stream channel) t = contains_key t.joined channel || is_opened_at stream t
is_taken (Incoming channel stream) t = contains_key t.pairs stream || contains_key t.joined channel
is_taken event t = false

-- an event that names what is in use does nothing
abbrev pub effect : FwdEvent → Forwards → Effect
effect event t = if is_taken event t then unmoved t else row event t

-- a call did what the effect says, or memory ran out and nothing changed
abbrev pub Does : Effect → Forwards → Forwards → Result (Vec FwdOutput Global) NoMemory → Type 0
Does effect before after (Ok outputs) = (after ≡ effect.after) × (outputs.items ≡ effect.outputs)
Does effect before after (Err e) = after ≡ before

-- why an event is refused: it names what is in use, or else memory ran out
abbrev pub Refuses : FwdEvent → Forwards → FwdRefused → Type 0
Refuses event t Refusals.Taken = is_taken event t ≡ true
Refuses event t Refusals.NoMemory = is_taken event t ≡ false

-- a step took an event that names nothing in use and did what its effect says, or refused the event and changed nothing
abbrev pub Steps : FwdEvent → Forwards → Forwards → Result (Vec FwdOutput Global) FwdRefused → Type 0
Steps event before after (Ok outputs) =
    (is_taken event before ≡ false)
    × (after ≡ (effect event before).after)
    × (outputs.items ≡ (effect event before).outputs)
Steps event before after (Err e) = Refuses event before e × (after ≡ before)
