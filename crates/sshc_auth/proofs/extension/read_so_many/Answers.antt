use Rattle.std.proofs.Common.{◌≡◌, ℕ, ◌-◌, ◌∙◌, ap, sym, arith}
use Rattle.sshc_wire.specs.Counted.{times_at}
use Rattle.sshc_auth.specs.Extensions.{extension_at}
use Rattle.sshc_auth.proofs.CountedLemmas.{behind_none, took, stuck, all_taken}
use Rattle.sshc_auth.proofs.extension.read_so_many.Goals as goal

pub loop-init : goal.loop-init
loop-init c =
    let all : c.args.n - 0 ≡ c.args.n = omega arith in
    rw c.new-extensions.ensures
    (behind_none (times_at (c.args.n - 0) extension_at c.args.packet.now) ∙ ap (λ (m : ℕ). times_at m extension_at c.args.packet.now) all)

pub loop-preserved : goal.loop-preserved
loop-preserved c =
    rw c.in_ok-push-in-Ok.ensures.ok
    (sym (took extension_at c.args.n c.loop.counter c.loop.extensions c.loop.packet c.read_extension.new.packet c.in-Ok.extension c.loop-test.true c.in-Ok.ensures) ∙ c.loop.invariant)

pub returns-in-Err : goal.returns-in-Err
returns-in-Err c = stuck extension_at c.args.n c.loop.counter c.loop.extensions (times_at c.args.n extension_at c.args.packet.now) c.loop.packet c.in-Err.e c.loop-test.true c.loop.invariant c.in-Err.ensures

pub returns : goal.returns
returns c = all_taken extension_at c.args.n c.loop.counter c.loop.extensions (times_at c.args.n extension_at c.args.packet.now) c.loop.packet (omega (arith, c.loop-test.false)) c.loop.invariant
