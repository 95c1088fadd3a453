use Rattle.std.proofs.Common.{refl, sym, subst}
use Rattle.sshc_proxy.specs.declared.input.ProxyInput.TheVariants as inputs
use Rattle.sshc_proxy.specs.declared.input.ProxyOutput.{ProxyOutput}
use Rattle.sshc_proxy.specs.ProxyTable.{Moves, Proxy, answer_row, bound_at}
use Rattle.sshc_proxy.proofs.Moved.{answer_moves}
use Rattle.sshc_proxy.proofs.proxy_core.ProxyCore.answer.Goals as goal

pub returns : goal.returns
returns c =
    let conn = c.args.conn in
    let answer = c.args.answer.now in
    let before : Proxy = record { policy = c.self.inside.policy; bound = c.self.inside.bound; awaits = c.self.inside.awaits } in
    let after : Proxy = record { policy = c.self.inside.policy; bound = c.self.inside.bound; awaits = c.end.new.self } in
    let moves : Moves conn (inputs.Upstream answer) (answer_row before.policy (bound_at before.bound conn) c.args.kind answer) before after =
    answer_moves conn c.args.kind answer before after refl refl c.end.ensures in
    record {
      row = (
        c.in_ok-output.ensures,
        subst (λ (o : ProxyOutput). Moves conn (inputs.Upstream answer) o c.args.self.now after) (sym c.in_ok-output.ensures)
            (subst (λ (s : Proxy). Moves conn (inputs.Upstream answer) (answer_row s.policy (bound_at s.bound conn) c.args.kind answer) s after) c.self.view_is moves),
      );
    }
