use Rattle.std.proofs.Common.{refl}
use Rattle.std.proofs.lemmas.Result.{IfOk-weaker}
use Rattle.sshc_agent_shared.specs.Calls.{call_of}
use Rattle.sshc_agent.proofs.Quiet.{refused_from, told_call}
use Rattle.sshc_agent.proofs.Signed.{caused_once, signs_once}
use Rattle.sshc_agent.proofs.Ticking.{ticked}
use Rattle.sshc_agent.proofs.turn.called.Goals as goal

pub returns-clause-call : goal.returns-clause-call
returns-clause-call g c = IfOk-weaker c.call.result.1 _ _ (λ out t. (call_of c.now-now.result c.args.input out, told_call _ _ _ _ t, refl)) c.call.ensures.tells

pub returns-clause-refused : goal.returns-clause-refused
returns-clause-refused g c = refused_from _ _ c.call.result.1 c.call.ensures.refused

pub returns-clause-tick : goal.returns-clause-tick
returns-clause-tick g c = ticked _ _ _ _ _ _ _ c.call.result.1 c.now-now.ensures.told c.call.ensures.tells c.call.ensures.refused

pub returns-clause-signs : goal.returns-clause-signs
returns-clause-signs g c = signs_once _ _ _ _ _ _ c.call.result.1 c.call.ensures.tells c.call.ensures.asked c.call.ensures.refused c.call.ensures.unasked

pub returns-clause-caused : goal.returns-clause-caused
returns-clause-caused g c = caused_once _ _ _ _ _ _ _ c.call.result.1 c.call.ensures.tells c.call.ensures.cause c.call.ensures.later c.call.ensures.refused
