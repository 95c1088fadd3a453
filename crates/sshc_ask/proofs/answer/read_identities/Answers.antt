use Rattle.std.proofs.Common.{◌+◌, ◌-◌, List, ap, sym, ◌∙◌}
use Rattle.std.proofs.lemmas.Result.{err_from_is_err_and}
use Rattle.sshc_wire.specs.Counted.{times_at}
use Rattle.sshc_ask.specs.AgentCalls.Readings.{identity_at}
use Rattle.sshc_ask.proofs.Faults.{listing_stuck}
use Rattle.sshc_ask.proofs.Lists.{behind, took}
use Rattle.sshc_ask.proofs.answer.read_identities.Goals as goal

pub returns-in_err-one : goal.returns-in_err-one
returns-in_err-one c =
    let p = err_from_is_err_and c.from_residual.result c.from_residual.ensures.1 in
    rw (p.1, p.2) (listing_stuck identity_at c.args.count c.loop-taken._taken c.loop-taken.found.items c.loop-taken.c (times_at c.args.count identity_at c.args.c.now) c.in_err-one.field-0.0 c.loop-taken-test.true c.loop-taken.invariant c.in_err-one.ensures)

pub loop-taken-preserved : goal.loop-taken-preserved
loop-taken-preserved c =
    ap (λ (ps : List _). behind ps (times_at (c.args.count - (c.loop-taken._taken + 1)) identity_at c.read_identity.new.c)) c.in_ok-push.ensures.items
    ∙ sym (took identity_at c.args.count c.loop-taken._taken c.loop-taken.found.items c.loop-taken.c c.read_identity.new.c c.in_ok-one.one c.loop-taken-test.true c.in_ok-one.ensures) ∙ c.loop-taken.invariant
