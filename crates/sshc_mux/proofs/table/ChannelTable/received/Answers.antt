use Rattle.std.proofs.Common.{refl}
use Rattle.sshc_mux.specs.ChannelTable.{received_turn}
use Rattle.sshc_mux.specs.ChannelAccount.{Received, received_part}
use Rattle.sshc_mux.proofs.TurnLemmas.{received_moves}
use Rattle.sshc_mux.proofs.ShapeLemmas.{receiving}
use Rattle.sshc_mux.proofs.TableLemmas.{held, did_turn}
use Rattle.sshc_mux.proofs.LegalLemmas.{did_part_ok}
use Rattle.sshc_mux.proofs.KeptLemmas.{kept_turn, same_waits}
use Rattle.sshc_mux.proofs.table.ChannelTable.received.Goals as goal

pub invariant_of-self-2 : goal.invariant_of-self-2
invariant_of-self-2 c =
    kept_turn (received_turn c.args.len c.args.target) (receiving c.args.len c.args.target) _ _ _ _ _ _ _ _ _ c.args.out.now c.receive.new.out c.receive.result
    (λ x sound. (received_part c.args.len c.args.target x, received_moves c.args.len c.args.target x sound))
    (held _ _ _ _ _ _ c.as_slice.ensures.value c.in-Some.ensures c.index_mut.ensures.value c.in-Some-index_mut.is) c.self.invariant
    (same_waits (received_turn c.args.len c.args.target) _ _ c.args.out.now c.receive.new.out c.receive.result _ (λ x. refl) c.receive.ensures.turn) c.receive.ensures.turn

pub returns-clause-part : goal.returns-clause-part
returns-clause-part c =
    did_part_ok (Received c.args.id.0 c.args.len c.args.target) _ _ c.args.out.now c.receive.new.out c.receive.result (rw (← c.self.view_is) c.self.invariant.1)
    (rw (← c.self.view_is) (did_turn _ _ _ _ _ _ _ c.args.out.now c.receive.new.out c.receive.result (held _ _ _ _ _ _ c.as_slice.ensures.value c.in-Some.ensures c.index_mut.ensures.value c.in-Some-index_mut.is) c.receive.ensures.turn))
