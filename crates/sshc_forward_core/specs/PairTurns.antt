-- What each event does to its own pair, and what is to be done for it: one definition a kind of event.
-- What was read before the channel is there is held; a stream's failure drops it. Where both ends were told of the end
-- of the other, the channel is closed at once.
use Rattle.std.specs.Prelude.{◌≡◌, ℕ, Bool, true, ◌||◌, ◌&&◌, ◌==◌, List, [], ◌∷◌, ◌++◌, length, Option, None, Some, Result, Ok, Err, Vec, if◌then◌else◌}
use Rattle.std.specs.declared.alloc.Global.{Global}
use Rattle.sshc_wire.specs.declared.error.NoMemory.{NoMemory}
use Rattle.sshc_forward_core.specs.declared.pair.Reading.{Reading}
use Rattle.sshc_forward_core.specs.declared.pair.Reading.TheVariants.{Going, Ended, Failed}
use Rattle.sshc_forward_core.specs.declared.event.FwdEvent.{FwdEvent}
use Rattle.sshc_forward_core.specs.declared.event.FwdEvent.TheVariants.{Opened, Bytes, StreamEnd, Data, ChannelEof, StreamFailed}
use Rattle.sshc_forward_core.specs.declared.output.FwdOutput.{FwdOutput}
use Rattle.sshc_forward_core.specs.declared.output.FwdOutput.TheVariants.{SendData, SendEof, WriteBytes, EndWriting, CloseChannel}
use Rattle.sshc_forward_core.specs.PairState.{PairState, is_read, is_written}

-- the pair after an event, and what is to be done
pub record Turn : Type 0 where
  pub pair : PairState
  pub outputs : List FwdOutput

-- nothing happens
abbrev pub quiet : PairState → Turn
quiet p = record { pair = p; outputs = [] }

-- OPENED: the bytes that were held, each by itself
abbrev pub sent_on : ℕ → List (List ℕ) → List FwdOutput
sent_on channel [] = []
sent_on channel (bytes ∷ held) = SendData channel bytes ∷ sent_on channel held

-- what follows them: EOF if the stream has ended, and the close alone if it has failed
abbrev pub opening : ℕ → List (List ℕ) → Reading → List FwdOutput
opening channel held Going = sent_on channel held
opening channel held Ended = sent_on channel held ++ SendEof channel ∷ []
opening channel held Failed = CloseChannel channel ∷ []

abbrev pub opened_turn : ℕ → PairState → Turn
opened_turn channel p = record {
  pair = record p { channel = Some channel; held = [] };
  outputs = opening channel p.held p.reading;
}

-- BYTES: sent if the channel is there, else held; none after the stream's end or failure, and no empty ones
abbrev pub passed_on : List ℕ → Option ℕ → PairState → Turn
passed_on bytes None p = record { pair = record p { held = p.held ++ bytes ∷ [] }; outputs = [] }
passed_on bytes (Some channel) p = record { pair = p; outputs = SendData channel bytes ∷ [] }

abbrev pub bytes_turn : List ℕ → PairState → Turn
bytes_turn bytes p = if is_read p.reading || length bytes == 0 then quiet p else passed_on bytes p.channel p

-- STREAM_END: EOF if the channel is there, and the close if the channel has ended too
abbrev pub eof_to : Option ℕ → Bool → List FwdOutput
eof_to None channel_ended = []
eof_to (Some channel) channel_ended = SendEof channel ∷ (if channel_ended then CloseChannel channel ∷ [] else [])

abbrev pub stream_end_turn : PairState → Turn
stream_end_turn p =
    if is_read p.reading then quiet p
    else record { pair = record p { reading = Ended }; outputs = eof_to p.channel p.channel_ended }

-- STREAM_FAILED: the close if the channel is there; nothing after the close or another failure
abbrev pub close_to : Option ℕ → List FwdOutput
close_to None = []
close_to (Some channel) = CloseChannel channel ∷ []

abbrev pub stream_failed_turn : PairState → Turn
stream_failed_turn p =
    if is_read p.reading && is_written p then quiet p
    else record { pair = record p { held = []; reading = Failed }; outputs = close_to p.channel }

-- DATA: written to the stream; none after the channel's end or the stream's failure, and no empty ones
abbrev pub data_turn : ℕ → List ℕ → PairState → Turn
data_turn stream bytes p =
    if is_written p || length bytes == 0 then quiet p
    else record { pair = p; outputs = WriteBytes stream bytes ∷ [] }

-- CHANNEL_EOF: the stream is told of it, and the channel is closed if the stream has ended too
abbrev pub channel_eof_turn : ℕ → ℕ → PairState → Turn
channel_eof_turn stream channel p =
    if is_written p then quiet p
    else record {
      pair = record p { channel_ended = true };
      outputs = EndWriting stream ∷ (if is_read p.reading then CloseChannel channel ∷ [] else []);
    }

-- what an event does to its pair, whose stream this is
abbrev pub turn : ℕ → FwdEvent → PairState → Turn
turn stream (Opened s channel) p = opened_turn channel p
turn stream (Bytes s bytes) p = bytes_turn bytes p
turn stream (StreamEnd s) p = stream_end_turn p
turn stream (Data channel bytes) p = data_turn stream bytes p
turn stream (ChannelEof channel) p = channel_eof_turn stream channel p
turn stream (StreamFailed s) p = stream_failed_turn p
turn stream event p = quiet p

-- a call took the turn, or memory ran out and nothing changed
abbrev pub Follows : Turn → PairState → PairState → Result (Vec FwdOutput Global) NoMemory → Type 0
Follows turn before after (Ok outputs) = (after ≡ turn.pair) × (outputs.items ≡ turn.outputs)
Follows turn before after (Err e) = after ≡ before
