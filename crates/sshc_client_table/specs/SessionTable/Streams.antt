-- Rows of windows, bytes and ends (RFC 4254, sections 5.2 and 5.3). On a channel that isn't established they are
-- ignored.
use Rattle.std.specs.Prelude.{ℕ, List, [], ◌∷◌, length, Option, Some, None, ◌&&◌, nat_lt, if◌then◌else◌}
use Rattle.sshc_wire.specs.declared.channel_record.ChannelRecord.{ChannelRecord}
use Rattle.sshc_wire.specs.declared.channel_record.ChannelRecord.TheVariants as happened
use Rattle.sshc_mux.specs.ChannelTable.{adjusted_at, granted_at, is_established}
use Rattle.sshc_client_packets.specs.ChannelPackets.{channel_of, data_of, extended_data_of, window_adjust_of}
use Rattle.sshc_client_table.specs.SessionState.{SessionState, exchanging, own_window}
use Rattle.sshc_client_table.specs.Moves.{Grants, Move, PeerCloses, Receives, Targets}
use Rattle.sshc_client_table.specs.SessionRow.{Callback, Opinions, SessionRow, WindowRefilled, established_row, opining, reports, with_read}

-- the window after a grant
abbrev pub left_after : Option ℕ → ℕ
left_after None = 0
left_after (Some left) = left

-- 93: a grant, what is sent after it, and the window after that
unfoldable pub window_adjust_row : SessionState → List ℕ → SessionRow
window_adjust_row s body =
    with_read (window_adjust_of body) (λ a.
    established_row (is_established a.id.0 s.table)
    (reports (Grants a.id.0 a.bytes_to_add ∷ []) a.id.0
    (happened.WindowAdjusted (left_after (granted_at a.id.0 a.bytes_to_add (exchanging s) s.table))) []))

-- The handler is asked for its window target when our window is raised; an answer above 0 is what the handler is passed
-- the next time.
abbrev pub retargets : Opinions → SessionState → ℕ → ℕ → List Move
retargets o s id len =
    if adjusted_at id len (own_window s) s.table && nat_lt 0 o.window_target then Targets o.window_target ∷ [] else []

abbrev pub refilled : SessionState → ℕ → ℕ → Option Callback
refilled s id len = if adjusted_at id len (own_window s) s.table then Some (WindowRefilled id s.window_target) else None

abbrev pub bytes_row : Opinions → SessionState → ℕ → ℕ → ChannelRecord → SessionRow
bytes_row o s id len output = opining (refilled s id len) (reports (Receives id len ∷ retargets o s id len) id output [])

abbrev pub received_row : Opinions → SessionState → ℕ → ℕ → ChannelRecord → SessionRow
received_row o s id len output = established_row (is_established id s.table) (bytes_row o s id len output)

-- 94 and 95: bytes of the peer's use up our window
unfoldable pub channel_data_row : Opinions → SessionState → List ℕ → SessionRow
channel_data_row o s body =
    with_read (data_of body) (λ d. received_row o s d.id.0 (length d.body) (happened.Data d.body))

unfoldable pub channel_extended_data_row : Opinions → SessionState → List ℕ → SessionRow
channel_extended_data_row o s body =
    with_read (extended_data_of body) (λ d. received_row o s d.id.0 (length d.body) (happened.ExtendedData d.ext d.body))

-- 96, 99 and 100: the handler is called
unfoldable pub channel_report_row : SessionState → ChannelRecord → List ℕ → SessionRow
channel_report_row s output body =
    with_read (channel_of body) (λ id. established_row (is_established id.0 s.table) (reports [] id.0 output []))

-- 97: the channel is removed
unfoldable pub channel_close_row : SessionState → List ℕ → SessionRow
channel_close_row s body =
    with_read (channel_of body) (λ id.
    established_row (is_established id.0 s.table) (reports (PeerCloses id.0 ∷ []) id.0 happened.Close []))
