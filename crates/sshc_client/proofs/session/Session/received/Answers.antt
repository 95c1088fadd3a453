use Rattle.std.proofs.Common.{rules, ◌≡◌, [], ◌∷◌, true, ℕ, ◌+◌, ◌-◌, ◌*◌, ◌<◌, ◌≤◌, length, ◌/◌, ◌%◌, Bool, false, nat_eq, nat_lt, List, ◌++◌, slice_index_or, slice_set, bit_and, bit_or, Fits, w8, w32, w64, Bor, MutBor}
use Rattle.sshc_mux.specs.ChannelTable.{is_established}
use Rattle.sshc_client_table.specs.Moves.{Receives, done}
use Rattle.sshc_client_table.specs.SessionRow.{reports}
use Rattle.sshc_client_table.specs.SessionState.{is_live}
use Rattle.sshc_client_table.specs.SessionTable.Streams.{channel_close_row, channel_data_row, channel_extended_data_row, channel_report_row, window_adjust_row}
use Rattle.sshc_client.specs.Handling.{Opines, handler_at}
use Rattle.sshc_client.specs.HandledRow.{FollowsOne, FollowsWith, Retargets, target_moves}
use Rattle.sshc_client.proofs.HandlerLemmas.{brought_back, kept_window}
use Rattle.sshc_client.proofs.session.Session.received.Goals as goal

pub returns-then-not-branch : goal.returns-then-not-branch
returns-then-not-branch g c = record { row = rw (← c.self.view_is) (kept_window _ _ _ c.args.id.0 c.args.len c.args.output c.self.inside.connection _ _ (search (rules)) (rw c.in_ok-receive.ensures.moved at c.report.ensures.row)) }

pub returns : goal.returns
returns g c = record { row = rw (← c.self.view_is) (brought_back _ _ _ _ c.args.id.0 c.args.len c.args.output c.self.inside.connection _ _ _ (search (rules)) (rw (c.window_target-target.ensures, c.in_ok-receive.ensures.moved) at c.retarget.ensures) c.report-2.ensures.row) }
