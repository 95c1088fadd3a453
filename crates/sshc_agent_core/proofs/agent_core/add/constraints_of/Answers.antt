use Rattle.std.proofs.Common.{◌≡◌, ◌∙◌, List, ℕ, [], ap, sym}
use Rattle.std.proofs.lemmas.Bool.{eqb-true}
use Rattle.std.proofs.lemmas.List.{nil_from_length}
use Rattle.sshc_wire.specs.Whole.{all_at}
use Rattle.sshc_agent_core.specs.AgentTable.Add.{constraint_at, kept_in}
use Rattle.sshc_agent_core.proofs.Constrained.{kept_all}
use Rattle.sshc_agent_core.proofs.agent_core.add.constraints_of.Goals as goal

pub returns : goal.returns
returns c =
    let nothing : c.loop-c.c ≡ [] = sym c.rest.ensures.same ∙ nil_from_length c.rest.result.now (eqb-true _ _ (sym c.is_empty.ensures ∙ c.loop-c-test.false)) in
    sym (c.loop-c.invariant ∙ ap (λ (left : List ℕ). kept_in (all_at constraint_at left) c.loop-c.held) nothing ∙ kept_all c.loop-c.held)
