-- A row of the opening after which the session continues leaves the session unopened, and closed or not as it was; a
-- row that opens the session leaves it in phase Open; no row reports a record of an agent: laws about the table, for
-- whoever continues after it.
use Rattle.std.proofs.Common.{◌≡◌, Bool, true, false}
use Rattle.sshc_auth.specs.Row.{Row, Next, stays, opens, ends, refuses}
use Rattle.sshc_client_table.specs.SessionState.{is_open}
use Rattle.sshc_client_table.specs.SessionRecords.{AreSessions}

-- ---- what the law says

-- the session continues unopened and closed or not as before, or it is open
abbrev pub StaysNext : Bool → Next → Type 0
StaysNext closed (stays t) = (t.closed ≡ closed) × (is_open t.phase ≡ false)
StaysNext closed (opens t) = is_open t.phase ≡ true
StaysNext closed (ends e) = Unit {0}
StaysNext closed (refuses e) = Unit {0}

-- and none of its records is an agent's
abbrev pub Stays : Bool → Row → Type 0
Stays closed row = StaysNext closed row.next × AreSessions row.records
