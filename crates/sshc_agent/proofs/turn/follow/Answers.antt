use Rattle.std.proofs.Common.{ℕ, List, refl, subst}
use Rattle.sshc_agent.specs.Talk.{key, request}
use Rattle.sshc_agent.proofs.turn.follow.Goals as goal

pub returns-in-AskRequest-clause-answered : goal.returns-in-AskRequest-clause-answered
returns-in-AskRequest-clause-answered g c = rw c.in-AskRequest.is (request _, refl, c.confirm_request.ensures, refl, refl)

pub returns-in-AskKey-clause-answered : goal.returns-in-AskKey-clause-answered
returns-in-AskKey-clause-answered g c = rw c.in-AskKey.is (key _, refl, subst (λ (b : List ℕ). g.A.Agent.confirms c.args.agent.now b c.confirm.result) c.as_slice-in-AskKey.ensures.same c.confirm.ensures, refl, refl)
