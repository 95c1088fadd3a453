use Rattle.std.proofs.Common.{rules, ◌≡◌, [], ◌∷◌, Ok, Some, true, false, ℕ, ◌+◌, ◌-◌, ◌*◌, ◌<◌, ◌≤◌, length, ◌/◌, ◌%◌, Bool, nat_eq, nat_lt, List, ◌++◌, slice_index_or, slice_set, bit_and, bit_or, Fits, w8, w32, w64, Bor, MutBor}
use Rattle.sshc_mux.specs.ChannelTable.Opens.{awaited, next_number}
use Rattle.sshc_client_packets.specs.ChannelPackets.{lent_refusal}
use Rattle.sshc_client_table.specs.Moves.{Does, Tells}
use Rattle.sshc_client_table.specs.SessionState.{is_live}
use Rattle.sshc_client_table.specs.SessionTable.Opens.{channel_open_row, confirmed_row, failed_row, numbered_open_row, open_confirmation_row, open_failure_row, settled}
use Rattle.sshc_wire.specs.declared.record.Record.TheVariants.{ServerOpened as ServerOpenedRecord}
use Rattle.sshc_client.specs.Handling.{handler_at}
use Rattle.sshc_client.specs.HandledRow.{Accepts, Calls, FollowsOne, FollowsWith, default_answer, is_unknown, served}
use Rattle.sshc_client.proofs.HandlerLemmas.{known_open}
use Rattle.sshc_client.proofs.session.Session.known_open.Goals as goal

pub returns : goal.returns
returns g c = record { row = λ kind. rw (← c.self.view_is) (known_open _ _ _ _ c.args.sender c.in_ok-id.id.0 kind c.args.opened c.self.inside.connection _ _ c.in_ok-id.ensures.number c.requires.known (rw c.in_ok-id.ensures.moved at c.serve.ensures.row)) }
