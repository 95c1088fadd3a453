use Rattle.std.proofs.Common.{rules, ◌≡◌, [], ◌∷◌, true, ℕ, ◌+◌, ◌-◌, ◌*◌, ◌<◌, ◌≤◌, length, ◌/◌, ◌%◌, Bool, false, nat_eq, nat_lt, List, ◌++◌, slice_index_or, slice_set, bit_and, bit_or, Fits, w8, w32, w64, Bor, MutBor}
use Rattle.sshc_auth.specs.OpeningTable.Packets.{is_ignored}
use Rattle.sshc_client_table.specs.Moves.{Counts, Hears}
use Rattle.sshc_client_table.specs.SessionRow.{behind_moves}
use Rattle.sshc_client_table.specs.SessionState.{is_live}
use Rattle.sshc_client_table.specs.SessionTable.{numbered_row, packet_row, payload_row}
use Rattle.sshc_client.specs.Handling.{handler_at}
use Rattle.sshc_client.specs.HandledRow.{FollowsWith}
use Rattle.std.proofs.Common.{subst, sym}
use Rattle.sshc_client_table.specs.SessionState.{SessionState}
use Rattle.sshc_client.proofs.RowLemmas.{counted_first, counted_lives}
use Rattle.sshc_client.proofs.session.Session.counted.Goals as goal

pub numbered-requires-after_bounds : goal.numbered-requires-after_bounds
numbered-requires-after_bounds g c κs within = counted_lives c.args.len c.self.inside.connection c.count.new.self c.count.ensures (subst (λ (s : SessionState). is_live s ≡ true) (sym c.self.view_is) c.requires)

pub returns : goal.returns
returns g c = record { row = rw (← c.self.view_is) (counted_first _ _ _ (g.V.Verifier.accepts c.args.verifier.now) c.self.inside.connection c.count.new.self _ c.args.len c.args.number c.args.body.now _ (subst (λ (s : SessionState). is_live s ≡ true) (sym c.self.view_is) c.requires) c.count.ensures c.numbered.ensures.row) }
