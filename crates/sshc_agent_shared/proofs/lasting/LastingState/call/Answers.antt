use Rattle.sshc_agent_shared.proofs.LastingSteps.{called_by, seat_whose}
use Rattle.sshc_agent_shared.proofs.Seams.{lasting_tells}
use Rattle.sshc_agent_shared.proofs.lasting.LastingState.call.Goals as goal

pub returns-clause-called : goal.returns-clause-called
returns-clause-called g c =
    called_by c.args.self.now c.self.inside.generation c.call_by.new.generation c.self.inside.live.items c.self.inside.ended.items c.args.conn c.in-Some.at c.args.now c.args.input _ c.index_mut.result.now c.call_by.new.seat c.call_by.result
    c.self.view_is (rw c.as_slice.ensures.value at c.in-Some.ensures.1) c.index_mut.ensures.value c.call_by.ensures.adds c.call_by.ensures.start c.call_by.ensures.err

pub returns-clause-tells : goal.returns-clause-tells
returns-clause-tells g c =
    let has = rw c.as_slice.ensures.value at c.in-Some.ensures.1 in
    lasting_tells _ _ _ _ _ _ _ _ _ _ _ c.call_by.result c.is_as_named.ensures.asks c.self.invariant.0 c.is_legal.ensures (seat_whose _ _ _ _ has c.index_mut.ensures.value) c.call_by.ensures.adds
