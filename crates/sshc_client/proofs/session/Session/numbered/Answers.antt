use Rattle.std.proofs.Common.{rules, ◌≡◌, [], ◌∷◌, true, ℕ, ◌+◌, ◌-◌, ◌*◌, ◌<◌, ◌≤◌, length, ◌/◌, ◌%◌, Bool, false, nat_eq, nat_lt, List, ◌++◌, slice_index_or, slice_set, bit_and, bit_or, Fits, w8, w32, w64, Bor, MutBor}
use Rattle.sshc_auth.specs.OpeningTable.Packets.{is_ignored}
use Rattle.sshc_client_table.specs.Moves.{Counts, Hears}
use Rattle.sshc_client_table.specs.SessionRow.{behind_moves}
use Rattle.sshc_client_table.specs.SessionState.{is_live}
use Rattle.sshc_client_table.specs.SessionTable.{numbered_row, packet_row, payload_row}
use Rattle.sshc_client.specs.Handling.{handler_at}
use Rattle.sshc_client.specs.HandledRow.{FollowsWith}
use Rattle.std.proofs.Common.{refl}
use Rattle.sshc_client.proofs.HandlerLemmas.{passed_with}
use Rattle.sshc_client.proofs.session.Session.numbered.Goals as goal

pub returns-in_default : goal.returns-in_default
unfolding numbered_row
returns-in_default g c = record { row = passed_with _ _ _ _ _ (search (rules)) refl }
