-- A pair of a stream and a channel, as plain data. The pair isn't opened while it has no channel.
use Rattle.std.specs.Prelude.{ℕ, Bool, true, false, ◌||◌, List, [], Option, is_some}
use Rattle.sshc_forward_core.specs.declared.pair.Reading.{Reading}
use Rattle.sshc_forward_core.specs.declared.pair.Reading.TheVariants.{Going, Ended, Failed}

pub record PairState : Type 0 where
  pub channel : Option ℕ
  pub held : List (List ℕ)  -- what was read before the channel was there, one entry for each event
  pub reading : Reading  -- how far the stream has come
  pub channel_ended : Bool  -- the channel has no more bytes

-- a pair with nothing held, of which nothing has ended
abbrev pub new_pair : Option ℕ → PairState
new_pair channel = record { channel = channel; held = []; reading = Going; channel_ended = false }

abbrev pub is_opened : PairState → Bool
is_opened p = is_some p.channel

-- nothing more is read from the stream
abbrev pub is_read : Reading → Bool
is_read Going = false
is_read Ended = true
is_read Failed = true

abbrev pub has_failed : Reading → Bool
has_failed Going = false
has_failed Ended = false
has_failed Failed = true

-- nothing more is written to the stream
abbrev pub is_written : PairState → Bool
is_written p = p.channel_ended || has_failed p.reading
