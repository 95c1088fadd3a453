-- The account of each pair, over every list of events. A pair's life is the list of its own events, from the one that
-- makes it to the one that ends it. What was read, sent, received and written are sums over its events and over the
-- outputs that name it; they know nothing of what is held, nor of what each event does.
use Rattle.std.specs.Prelude.{◌≡◌, ℕ, Bool, true, false, ◌||◌, ◌==◌, List, [], ◌∷◌, ◌++◌, Option, None, Some, is_some, if◌then◌else◌}
use Rattle.std.specs.FinMap.{get}
use Rattle.sshc_forward_core.specs.declared.event.FwdEvent.{FwdEvent}
use Rattle.sshc_forward_core.specs.declared.event.FwdEvent.TheVariants.{Accepted, Opened, OpenFailed, Incoming, Bytes, StreamEnd, Data, ChannelEof, ChannelClose, StreamFailed}
use Rattle.sshc_forward_core.specs.declared.given.Given.{Given}
use Rattle.sshc_forward_core.specs.declared.output.FwdOutput.{FwdOutput}
use Rattle.sshc_forward_core.specs.declared.output.FwdOutput.TheVariants.{OpenChannel, SendData, SendEof, WriteBytes, EndWriting, CloseStream, CloseChannel}
use Rattle.sshc_forward_core.specs.PairState.{PairState}
use Rattle.sshc_forward_core.specs.Forwards.{Forwards, Effect, no_pairs, unmoved, is_taken, effect}

-- ---- lists of events

-- what the events leave, and all that is to be done for them. An event that is refused does nothing
abbrev pub ran : List FwdEvent → Forwards → Effect
ran [] t = unmoved t
ran (event ∷ events) t = record {
  after = (ran events (effect event t).after).after;
  outputs = (effect event t).outputs ++ (ran events (effect event t).after).outputs;
}

-- the stream of whose pair an event is
abbrev pub stream_for : FwdEvent → Forwards → Option ℕ
stream_for (Accepted stream host port originator originator_port) t = Some stream
stream_for (Opened stream channel) t = Some stream
stream_for (OpenFailed stream) t = Some stream
stream_for (Incoming channel stream) t = Some stream
stream_for (Bytes stream bytes) t = Some stream
stream_for (StreamEnd stream) t = Some stream
stream_for (Data channel bytes) t = get t.joined channel
stream_for (ChannelEof channel) t = get t.joined channel
stream_for (ChannelClose channel) t = get t.joined channel
stream_for (StreamFailed stream) t = Some stream

abbrev pub is_number : ℕ → Option ℕ → Bool
is_number n None = false
is_number n (Some m) = m == n

-- the event is one of the pair of the stream n, and isn't refused
abbrev pub is_own : ℕ → FwdEvent → Forwards → Bool
is_own n event t = if is_taken event t then false else is_number n (stream_for event t)

-- those of the events that are the pair's own
abbrev pub own : ℕ → List FwdEvent → Forwards → List FwdEvent
own n [] t = []
own n (event ∷ events) t =
    (if is_own n event t then event ∷ [] else []) ++ own n events (effect event t).after

-- the output names the stream n or this channel
abbrev pub names : ℕ → Option ℕ → FwdOutput → Bool
names n on (OpenChannel stream host port originator originator_port) = stream == n
names n on (SendData channel bytes) = is_number channel on
names n on (SendEof channel) = is_number channel on
names n on (WriteBytes stream bytes) = stream == n
names n on (EndWriting stream) = stream == n
names n on (CloseStream stream) = stream == n
names n on (CloseChannel channel) = is_number channel on

abbrev pub naming : ℕ → Option ℕ → List FwdOutput → List FwdOutput
naming n on [] = []
naming n on (o ∷ outputs) = if names n on o then o ∷ naming n on outputs else naming n on outputs

-- the channel of the pair of the stream n
abbrev pub channel_in : Option PairState → Option ℕ
channel_in None = None
channel_in (Some p) = p.channel

abbrev pub channel_at : ℕ → Forwards → Option ℕ
channel_at n t = channel_in (get t.pairs n)

-- of all outputs for the events those that name the pair of the stream n, with the channel that it has then
abbrev pub outputs_on : ℕ → List FwdEvent → Forwards → List FwdOutput
outputs_on n [] t = []
outputs_on n (event ∷ events) t =
    naming n (channel_at n (effect event t).after) (effect event t).outputs ++ outputs_on n events (effect event t).after

-- ---- sums over a life's events, and over its outputs

-- the bytes that are read: those before the stream's end or failure
abbrev pub read : List FwdEvent → List ℕ
read [] = []
read (Bytes stream bytes ∷ events) = bytes ++ read events
read (StreamEnd stream ∷ events) = []
read (StreamFailed stream ∷ events) = []
read (event ∷ events) = read events

-- the data that is received: that before the channel's end or the stream's failure
abbrev pub received : List FwdEvent → List ℕ
received [] = []
received (Data channel bytes ∷ events) = bytes ++ received events
received (ChannelEof channel ∷ events) = []
received (StreamFailed stream ∷ events) = []
received (event ∷ events) = received events

abbrev pub sent : List FwdOutput → List ℕ
sent [] = []
sent (SendData channel bytes ∷ outputs) = bytes ++ sent outputs
sent (o ∷ outputs) = sent outputs

abbrev pub written : List FwdOutput → List ℕ
written [] = []
written (WriteBytes stream bytes ∷ outputs) = bytes ++ written outputs
written (o ∷ outputs) = written outputs

-- the channel was opened, by us or by the peer
abbrev pub has_opened : List FwdEvent → Bool
has_opened [] = false
has_opened (Opened stream channel ∷ events) = true
has_opened (Incoming channel stream ∷ events) = true
has_opened (event ∷ events) = has_opened events

-- the stream failed
abbrev pub failed_in : List FwdEvent → Bool
failed_in [] = false
failed_in (StreamFailed stream ∷ events) = true
failed_in (event ∷ events) = failed_in events

-- ---- the order of a pair's outputs

-- nothing was given so far: neither EOF, nor the end of writing, nor the channel's close, nor the stream's
abbrev pub none_given : Given
none_given = record { eof = false; ending = false; close = false; gone = false }

-- Each is given at most once, no bytes are sent after EOF or the channel's close, none are written after the end of
-- writing or the channel's close, and nothing follows the stream's close.
abbrev pub forbids : Given → FwdOutput → Bool
forbids g (OpenChannel stream host port originator originator_port) = g.gone
forbids g (SendData channel bytes) = g.eof || g.close || g.gone
forbids g (SendEof channel) = g.eof || g.close || g.gone
forbids g (WriteBytes stream bytes) = g.ending || g.close || g.gone
forbids g (EndWriting stream) = g.ending || g.close || g.gone
forbids g (CloseStream stream) = g.gone
forbids g (CloseChannel channel) = g.close || g.gone

abbrev pub given_with : Given → FwdOutput → Given
given_with g (SendEof channel) = record g { eof = true }
given_with g (EndWriting stream) = record g { ending = true }
given_with g (CloseStream stream) = record g { gone = true }
given_with g (CloseChannel channel) = record g { close = true }
given_with g o = g

-- what was given after these outputs
abbrev pub given_after : Given → List FwdOutput → Given
given_after g [] = g
given_after g (o ∷ outputs) = given_after (given_with g o) outputs

abbrev pub IsOrderly : Given → List FwdOutput → Type 0
IsOrderly g [] = Unit {0}
IsOrderly g (o ∷ outputs) = (forbids g o ≡ false) × IsOrderly (given_with g o) outputs

-- ---- lives

-- the event makes a pair of the stream n
abbrev pub makes : ℕ → FwdEvent → Bool
makes n (Accepted stream host port originator originator_port) = stream == n
makes n (Incoming channel stream) = stream == n
makes n event = false

-- the stream n has a pair after each of the events
abbrev pub HasThroughout : ℕ → List FwdEvent → Forwards → Type 0
HasThroughout n [] t = Unit {0}
HasThroughout n (event ∷ events) t =
    (is_some (get (effect event t).after.pairs n) ≡ true) × HasThroughout n events (effect event t).after

-- A life so far of a pair of the stream n: with no pairs at first the events `before` come, then one makes the pair,
-- and the stream has a pair after each of the events that follow. Each front of these is a life so far too.
pub record Life (n : ℕ) : Type 0 where
  pub before : List FwdEvent
  pub birth : FwdEvent
  pub events : List FwdEvent
  pub makes_it : makes n birth ≡ true
  pub taken : is_taken birth (ran before no_pairs).after ≡ false
  pub there : HasThroughout n events (effect birth (ran before no_pairs).after).after

-- the pairs before the life
abbrev pub before_it : (n : ℕ) → Life n → Forwards
before_it n l = (ran l.before no_pairs).after

-- the pairs after it so far
abbrev pub after_it : (n : ℕ) → Life n → Forwards
after_it n l = (ran (l.birth ∷ l.events) (before_it n l)).after

-- the pair's own events
abbrev pub its_events : (n : ℕ) → Life n → List FwdEvent
its_events n l = own n (l.birth ∷ l.events) (before_it n l)

-- the outputs that name the pair
abbrev pub its_outputs : (n : ℕ) → Life n → List FwdOutput
its_outputs n l = outputs_on n (l.birth ∷ l.events) (before_it n l)

-- the first list is a front of the second
abbrev pub IsFront : List ℕ → List ℕ → Type 0
IsFront bytes all = (rest : List ℕ) × (bytes ++ rest ≡ all)

-- The account of a life so far, by its own events and by the outputs that name it.
pub record Account (mine : List FwdEvent) (gave : List FwdOutput) : Type 0 where
  -- what was sent is a front of what was read
  pub front : IsFront (sent gave) (read mine)
  -- and all of it while the pair is opened and its stream hasn't failed
  pub whole : has_opened mine ≡ true → failed_in mine ≡ false → sent gave ≡ read mine
  -- what was written is what was received
  pub written : written gave ≡ received mine
  pub order : IsOrderly none_given gave

abbrev pub EachLifeHasItsAccount : Type 0
EachLifeHasItsAccount = (n : ℕ) (l : Life n) → Account (its_events n l) (its_outputs n l)

-- An event after which the stream has no pair ends the life: it is the pair's own, and what is to be done for it is to
-- close the stream, after which the outputs of the life are orderly still.
pub record PairEnding (n : ℕ) (l : Life n) (last : FwdEvent) : Type 0 where
  pub own : is_own n last (after_it n l) ≡ true
  pub outputs : (effect last (after_it n l)).outputs ≡ CloseStream n ∷ []
  pub order : IsOrderly none_given (its_outputs n l ++ (effect last (after_it n l)).outputs)

abbrev pub EachLifeEndsOnce : Type 0
EachLifeEndsOnce =
    (n : ℕ) (l : Life n) (last : FwdEvent) →
    get (effect last (after_it n l)).after.pairs n ≡ None → PairEnding n l last

-- Of an event that isn't the pair's own no output names the pair; of its own each does.
abbrev pub outputs_by : ℕ → FwdEvent → Forwards → List FwdOutput
outputs_by n event t = if is_own n event t then (effect event t).outputs else []

abbrev pub said_by_own : ℕ → List FwdEvent → Forwards → List FwdOutput
said_by_own n [] t = []
said_by_own n (event ∷ events) t = outputs_by n event t ++ said_by_own n events (effect event t).after

abbrev pub OutputsAreOwn : Type 0
OutputsAreOwn = (n : ℕ) (l : Life n) → its_outputs n l ≡ said_by_own n (l.birth ∷ l.events) (before_it n l)

-- Each channel is joined to the stream whose pair has it, and to no other.
pub record Agree (t : Forwards) : Type 0 where
  pub known : (s c : ℕ) (p : PairState) → get t.pairs s ≡ Some p → p.channel ≡ Some c → get t.joined c ≡ Some s
  pub joined : (s c : ℕ) → get t.joined c ≡ Some s → (p : PairState) × (get t.pairs s ≡ Some p) × (p.channel ≡ Some c)

abbrev pub EachChannelHasItsPair : Type 0
EachChannelHasItsPair = (events : List FwdEvent) → Agree (ran events no_pairs).after
