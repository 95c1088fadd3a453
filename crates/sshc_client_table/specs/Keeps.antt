-- What a session that was lent to a handler keeps, as facts on the session before and after.
-- It follows from the moves that its methods may make, but is stated without moves.
use Rattle.std.specs.Prelude.{◌≡◌, ◌⊎◌, false, List, ◌++◌}
use Rattle.std.specs.List.{AllByRecursion}
use Rattle.sshc_wire.specs.declared.record.Record.{Record}
use Rattle.sshc_wire.specs.declared.record.Record.TheVariants.{Payload, BeginExchange, Resolved}
use Rattle.sshc_wire.specs.declared.resolution.Resolution.TheVariants.{Denied}
use Rattle.sshc_transport.specs.declared.exchange.ExchangeFlag.TheVariants.{Idle, Ours}
use Rattle.sshc_auth.specs.OpeningState.{OpeningState}
use Rattle.sshc_client_table.specs.declared.reply_entry.ReplyEntry.{ReplyEntry}
use Rattle.sshc_client_table.specs.SessionState.{SessionState, is_open, runs}
use Rattle.sshc_client_table.specs.Moves.{with_flag}
use Rattle.sshc_client_table.specs.Grown.{Grown}

-- a packet, the record that begins an exchange, or a denial
abbrev pub MayBeAdded : Record → Type 0
MayBeAdded (Payload packet) = Unit {0}
MayBeAdded BeginExchange = Unit {0}
MayBeAdded (Resolved ticket Denied) = Unit {0}
MayBeAdded output = ⊥

-- a denial
abbrev pub IsDenial : Record → Type 0
IsDenial (Resolved ticket Denied) = Unit {0}
IsDenial output = ⊥

-- the opening is the same, or an exchange of ours has begun where none ran
abbrev pub SameOrBegun : OpeningState → OpeningState → Type 0
SameOrBegun old new = (new ≡ old) ⊎ ((old.flag ≡ Idle) × (new ≡ with_flag Ours old))

pub record Keeps (old new : SessionState) : Type 0 where
  pub settings : new.settings ≡ old.settings
  pub opening : SameOrBegun old.opening new.opening
  pub keepalives : new.keepalives ≡ old.keepalives
  pub window_target : new.window_target ≡ old.window_target
  -- a session that has ended stays as it is
  pub ended : runs old.life ≡ false → new ≡ old
  -- one that isn't open yet keeps its opening, its channels and its requests
  pub closed : is_open old.opening.phase ≡ false → (new.opening ≡ old.opening) × (new.table ≡ old.table) × (new.replies ≡ old.replies)
  -- records are added after those that are there; before the session is open they are denials
  pub records : (more : List Record) × (new.records ≡ old.records ++ more) × AllByRecursion MayBeAdded more × (is_open old.opening.phase ≡ false → AllByRecursion IsDenial more)
  -- requests are added after those that wait
  pub replies : (more : List ReplyEntry) × (new.replies ≡ old.replies ++ more)

abbrev pub GrownSessionsKeep : Type 0
GrownSessionsKeep = (old new : SessionState) → Grown old new → Keeps old new
