-- One pair that is opened from the start, whose stream has its channel's number: what each event does to it, and which
-- ends were given so far.
use Rattle.std.specs.Prelude.{◌≡◌, ◌⊎◌, ℕ, true, false, None, Some, Result, Ok, Err, Vec}
use Rattle.std.specs.FinMap.{empty, insert}
use Rattle.std.specs.declared.alloc.Global.{Global}
use Rattle.sshc_wire.specs.declared.error.NoMemory.{NoMemory}
use Rattle.sshc_forward_core.specs.declared.event.FwdEvent.{FwdEvent}
use Rattle.sshc_forward_core.specs.declared.event.FwdEvent.TheVariants as events
use Rattle.sshc_forward_core.specs.declared.given.Given.{Given}
use Rattle.sshc_forward_core.specs.declared.output.FwdOutput.{FwdOutput}
use Rattle.sshc_forward_core.specs.declared.served.PairEvent.{PairEvent}
use Rattle.sshc_forward_core.specs.declared.served.PairEvent.TheVariants as own
use Rattle.sshc_forward_core.specs.PairState.{PairState, new_pair, is_read, is_written}
use Rattle.sshc_forward_core.specs.Forwards.{Forwards, no_pairs, effect}
use Rattle.sshc_forward_core.specs.PairAccount.{none_given, given_after, IsOrderly}

-- the pair, as contracts see it
pub record Served : Type 0 where
  pub number : ℕ  -- of its stream and of its channel
  pub pairs : Forwards  -- the core's
  pub given : Given

-- the event of the core for an event of the pair
abbrev pub fwd_event : ℕ → PairEvent → FwdEvent
fwd_event n (own.Bytes bytes) = events.Bytes n bytes
fwd_event n own.StreamEnd = events.StreamEnd n
fwd_event n (own.Data bytes) = events.Data n bytes
fwd_event n own.ChannelEof = events.ChannelEof n
fwd_event n own.ChannelClose = events.ChannelClose n
fwd_event n own.StreamFailed = events.StreamFailed n

-- the core with this pair alone
abbrev pub alone : ℕ → PairState → Forwards
alone n p = record { pairs = insert empty n p; joined = insert empty n n }

-- the pair at its start
abbrev pub opened_pair : ℕ → Served
opened_pair n = record { number = n; pairs = alone n (new_pair (Some n)); given = none_given }

-- what was given fits how far a pair has come: no EOF while its stream is read or it has no channel, no end of writing
-- while its stream is written, and no close while either is so
pub record Fits (p : PairState) (g : Given) : Type 0 where
  pub eof_read : is_read p.reading ≡ false → g.eof ≡ false
  pub eof_there : p.channel ≡ None → g.eof ≡ false
  pub ending : is_written p ≡ false → g.ending ≡ false
  pub close_read : is_read p.reading ≡ false → g.close ≡ false
  pub close_written : is_written p ≡ false → g.close ≡ false
  pub close_there : p.channel ≡ None → g.close ≡ false
  pub gone : g.gone ≡ false

-- the core has the pair alone, and what was given fits it; or the pair is gone
abbrev pub IsServed : ℕ → Forwards → Given → Type 0
IsServed n t g =
    ((p : PairState) × (t ≡ alone n p) × (p.channel ≡ Some n) × Fits p g)
    ⊎ ((t ≡ no_pairs) × (g.gone ≡ true))

-- the pair after an event
abbrev pub served_after : PairEvent → Served → Served
served_after event s =
    let e = effect (fwd_event s.number event) s.pairs in
    record { number = s.number; pairs = e.after; given = given_after s.given e.outputs }

-- a call did what the event's row says, and what is to be done was permitted by what was given before; or memory ran out
-- and nothing changed
abbrev pub Takes : PairEvent → Served → Served → Result (Vec FwdOutput Global) NoMemory → Type 0
Takes event before after (Ok outputs) =
    (after ≡ served_after event before)
    × (outputs.items ≡ (effect (fwd_event before.number event) before.pairs).outputs)
    × IsOrderly before.given outputs.items
Takes event before after (Err e) = after ≡ before
