-- How a move is done, stated for the calls that do it.
use Rattle.std.proofs.Common.{◌≡◌, Bool, true, false, List, ◌++◌, ap}
use Rattle.sshc_wire.specs.declared.record.Record.{Record}
use Rattle.sshc_mux.specs.ChannelTable.{records_of}
use Rattle.sshc_mux.specs.ChannelAccount.{Call, called}
use Rattle.sshc_client_table.specs.SessionState.{SessionState}
use Rattle.sshc_client_table.specs.Moves.{Move, after, calls_table, deed, done_if, may_go, says_that, with_deed}
use Rattle.sshc_client_table.specs.ListLaws.{onto-append}

-- a move that may not be done changes nothing
pub not_done : (m : Move) (s : SessionState) → may_go m s ≡ false → after m s ≡ s
unfolding after
not_done m s is = ap (λ (b : Bool). with_deed (done_if b (deed m s) s) s) is

-- a move that may be done is its deed
pub is_done : (m : Move) (s : SessionState) → may_go m s ≡ true → after m s ≡ with_deed (deed m s) s
unfolding after
is_done m s is = ap (λ (b : Bool). with_deed (done_if b (deed m s) s) s) is

-- only a call of the channel table
pub called_alone : (call : Call) (s : SessionState) →
    with_deed (calls_table call s) s
    ≡ record s { table = (called call s.table).table; records = s.records ++ records_of (called call s.table).output }
called_alone call s =
    ap (λ (rs : List Record). record s { table = (called call s.table).table; records = rs })
    (onto-append s.records (records_of (called call s.table).output))

-- only records
pub said_alone : (output : List Record) (s : SessionState) → with_deed (says_that output s) s ≡ record s { records = s.records ++ output }
said_alone output s = ap (λ (rs : List Record). record s { records = rs }) (onto-append s.records output)
