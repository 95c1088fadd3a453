use Rattle.std.proofs.Common.{rules, ◌≡◌, true, false}
use Rattle.sshc_proxy.specs.ProxyRun.{terms}
use Rattle.sshc_proxy.proofs.RelayLemmas.{begun, exhausted}
use Rattle.sshc_proxy.proofs.relay.proxy_run.Goals as goal

pub loop-turn-init : goal.loop-turn-init
loop-turn-init g c =
    let t = terms (g.V.Verifier.accepts c.args.verifier.now) c.args.policy in
    begun t _ c.new-relay.result.core c.new-relay.ensures.policy (c.new-relay.ensures.history t.accepts)

pub returns-in-Ok-false : goal.returns-in-Ok-false
returns-in-Ok-false g c =
    let ended : c.in-Ok-false.field-0 ≡ false = search rules in
    let turned = rw ended at c.in-Ok-false.ensures.turned in
    record { relays = turned _ _ c.loop-turn.invariant }

pub returns-in-Err : goal.returns-in-Err
returns-in-Err g c = record { relays = c.in-Err.ensures.turned _ _ c.loop-turn.invariant }

pub loop-turn-preserved : goal.loop-turn-preserved
loop-turn-preserved g c =
    let goes : c.in-Ok-true.field-0 ≡ true = search rules in
    let turned = rw goes at c.in-Ok-true.ensures.turned in
    turned _ _ c.loop-turn.invariant

pub returns : goal.returns
returns g c = record { relays = exhausted _ _ _ _ c.loop-turn.invariant }
