-- What the moves of a row keep: the session still runs, as open as it was, and the records before stay first. The
-- records that moves add are the session's, and none is an agent's.
use Rattle.std.proofs.Common.{◌≡◌, List, ◌++◌}
use Rattle.sshc_wire.specs.declared.record.Record.{Record}
use Rattle.sshc_wire.specs.declared.record.Record.TheVariants.{Agent}
use Rattle.sshc_client_table.specs.Moves.{Leaves, Move, Stops, Tells}
use Rattle.sshc_client_table.specs.SessionState.{SessionState}
use Rattle.sshc_client_table.specs.SessionRecords.{AreSessions}

-- a move by which the session isn't left and doesn't stop, and which reports no record of an agent
abbrev pub KeepsSession : Move → Type 0
KeepsSession Leaves = ⊥
KeepsSession Stops = ⊥
KeepsSession (Tells (Agent conn answer)) = ⊥
KeepsSession m = Unit {0}

-- ---- the session still runs

-- life, phase and whether the opening is closed are as they were
pub record IsAsBefore (old new : SessionState) : Type 0 where
  pub life : new.life ≡ old.life
  pub phase : new.opening.phase ≡ old.opening.phase
  pub closed : new.opening.closed ≡ old.opening.closed

-- ---- the records

-- these records come first
abbrev pub SaidFirst : List Record → List Record → Type 0
SaidFirst first all = (more : List Record) × (all ≡ first ++ more)

-- no record after the first ones is an agent's
abbrev pub SaidSessions : List Record → List Record → Type 0
SaidSessions first all = (more : List Record) × (all ≡ first ++ more) × AreSessions more
