use Rattle.std.proofs.Common.{rules, ◌≡◌, [], ◌∷◌, Ok, Some, true, false, ℕ, ◌+◌, ◌-◌, ◌*◌, ◌<◌, ◌≤◌, length, ◌/◌, ◌%◌, Bool, nat_eq, nat_lt, List, ◌++◌, slice_index_or, slice_set, bit_and, bit_or, Fits, w8, w32, w64, Bor, MutBor}
use Rattle.sshc_mux.specs.ChannelTable.Opens.{awaited, next_number}
use Rattle.sshc_client_packets.specs.ChannelPackets.{lent_refusal}
use Rattle.sshc_client_table.specs.Moves.{Does, Tells}
use Rattle.sshc_client_table.specs.SessionState.{is_live}
use Rattle.sshc_client_table.specs.SessionTable.Opens.{channel_open_row, confirmed_row, failed_row, numbered_open_row, open_confirmation_row, open_failure_row, settled}
use Rattle.sshc_wire.specs.declared.record.Record.TheVariants.{ServerOpened as ServerOpenedRecord}
use Rattle.sshc_client.specs.Handling.{handler_at}
use Rattle.sshc_client.specs.HandledRow.{Accepts, Calls, FollowsOne, FollowsWith, default_answer, is_unknown, served}
use Rattle.std.proofs.Common.{◌∙◌}
use Rattle.sshc_client.proofs.HandlerLemmas.{taken_open, not_taken_open, not_taken_ran_out}
use Rattle.sshc_client.proofs.session.Session.unknown_open.Goals as goal

pub returns-then-should_accept_unknown_server_channel :
    goal.returns-then-should_accept_unknown_server_channel
returns-then-should_accept_unknown_server_channel g c = record { row = rw (← c.self.view_is) (taken_open _ _ _ _ _ c.args.sender c.in_ok-id.id.0 c.args.kind.now c.self.inside.connection _ _ c.in_ok-id.ensures.number c.if-should_accept_unknown_server_channel.ensures (rw c.in_ok-id.ensures.moved at c.serve.ensures.row)) }

pub returns-in_err-reject : goal.returns-in_err-reject
returns-in_err-reject g c = record { row = rw (← c.self.view_is) (not_taken_ran_out _ _ _ _ c.args.sender c.in_ok-id.id.0 c.args.kind.now c.self.inside.connection _ _ c.from_residual-in_err-reject.ensures.1 c.in_ok-id.ensures.number c.if-should_accept_unknown_server_channel.ensures (c.in_err-reject.ensures ∙ c.in_ok-id.ensures.moved)) }

pub returns : goal.returns
returns g c = record { row = rw (← c.self.view_is) (not_taken_open _ _ _ _ c.args.sender c.in_ok-id.id.0 c.args.kind.now c.self.inside.connection _ c.in_ok-id.ensures.number c.if-should_accept_unknown_server_channel.ensures (rw c.in_ok-id.ensures.moved at c.in_ok-reject.ensures)) }
