-- Records that were added before don't affect what comes after: so a caller may take them after each step.
-- Stated for any list of moves; the code hands its outbox over and begins a new one.
use Rattle.std.specs.Prelude.{◌≡◌, List, ◌++◌}
use Rattle.sshc_wire.specs.declared.record.Record.{Record}
use Rattle.sshc_client_table.specs.SessionState.{SessionState}
use Rattle.sshc_client_table.specs.Moves.{Move, done}

-- the session with these records before its own
abbrev pub with_earlier : List Record → SessionState → SessionState
with_earlier before s = record s { records = before ++ s.records }

abbrev pub RecordsAreOnlyAdded : Type 0
RecordsAreOnlyAdded =
    (before : List Record) (moves : List Move) (s : SessionState) → done moves (with_earlier before s) ≡ with_earlier before (done moves s)
