use Rattle.std.proofs.Common.{◌-◌, ◌+◌, ◌∙◌, ap, arith}
use Rattle.sshc_auth.specs.OpeningTable.AuthPrompts.{prompts_at}
use Rattle.sshc_auth.proofs.PromptLemmas.{behind_all, behind_one, next_prompt, all_read, err_prompt}
use Rattle.sshc_auth.proofs.opening.auth_prompts.read_prompts.Goals as goal

pub loop-preserved : goal.loop-preserved
loop-preserved c =
    let left = next_prompt c.args.n c.loop.counter c.loop.packet c.read_prompt.new.packet c.in-Ok.prompt c.loop-test.true c.in-Ok.ensures in
    rw c.in_ok-push-in-Ok.ensures.ok (c.loop.invariant ∙ ap (behind_all c.loop.prompts) left ∙ behind_one c.loop.prompts c.in-Ok.prompt (prompts_at (c.args.n - (c.loop.counter + 1)) c.read_prompt.new.packet))

pub returns-in-Err : goal.returns-in-Err
returns-in-Err c = err_prompt c.args.n c.loop.counter c.args.packet.now c.loop.packet c.loop.prompts c.in-Err.e c.loop-test.true c.loop.invariant c.in-Err.ensures

pub returns : goal.returns
returns c = all_read c.args.n c.loop.counter c.args.packet.now c.loop.packet c.loop.prompts (omega (arith, c.loop-test.false)) c.loop.invariant
