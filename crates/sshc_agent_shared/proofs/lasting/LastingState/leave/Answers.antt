use Rattle.std.proofs.Common.{inl, ap, ◌∙◌, ◌++◌, ◌∷◌, []}
use Rattle.sshc_agent_shared.proofs.LastingSteps.{leaves_by}
use Rattle.sshc_agent_shared.proofs.lasting.LastingState.leave.Goals as goal

pub returns : goal.returns
returns g c = record {
  leaves = inl (leaves_by c.args.self.now c.self.inside.generation c.self.inside.live.items _ c.self.inside.ended.items _ c.args.conn c.in-Some.at c.remove-seat.result
      c.self.view_is (rw c.as_slice.ensures.value at c.in-Some.ensures.1) c.remove-seat.ensures.value c.remove-seat.ensures.items (c.push_reserved.ensures.items ∙ ap (λ xs. xs ++ c.remove-seat.result ∷ []) c.reserve.ensures.items));
}
