use Rattle.std.proofs.Common.{◌≡◌, ℕ, List, [], ◌∷◌, ◌++◌, refl, ap, sym, subst, ◌∙◌}
use Rattle.std.specs.Prelude.{if◌then◌else◌, ◌==◌}
use Rattle.sshc_proxy.specs.declared.input.ProxyInput.TheVariants as inputs
use Rattle.sshc_proxy.specs.declared.input.ProxyOutput.{ProxyOutput}
use Rattle.sshc_proxy.specs.declared.input.ProxyOutput.TheVariants as outputs
use Rattle.sshc_proxy.specs.Binding.{binding_seen}
use Rattle.sshc_proxy.specs.ProxyTable.{Moves, Proxy, bound_at, succeeds}
use Rattle.sshc_proxy.proofs.Moved.{succeeds_moves}
use Rattle.sshc_proxy.proofs.proxy_core.ProxyCore.bind.Goals as goal

pub returns : goal.returns
returns c =
    let conn = c.args.conn in
    let bound = c.self.inside.bound in
    let before : Proxy = record { policy = c.self.inside.policy; bound = bound; awaits = c.self.inside.awaits } in
    let after : Proxy = record { policy = c.self.inside.policy; bound = c.bind.new.self; awaits = c.self.inside.awaits } in
    let answer : outputs.Answer c.in_ok-answer.answer ≡ succeeds = ap (λ (frame : List ℕ). outputs.Answer frame) c.in_ok-answer.ensures in
    let moves : Moves conn (inputs.Frame c.args.whole.now) succeeds before after =
    succeeds_moves conn c.args.whole.now (binding_seen c.args.binding.now) before after c.requires refl refl
    (λ k. c.in_ok-bind.ensures.ok k ∙ ap (λ (host : List ℕ). if conn == k then bound_at bound conn ++ host ∷ [] else bound_at bound k) c.in_ok-host.ensures) in
    record {
      row = (
        answer,
        subst (λ (s : Proxy). Moves conn (inputs.Frame c.args.whole.now) (outputs.Answer c.in_ok-answer.answer) s after) c.self.view_is
            (subst (λ (o : ProxyOutput). Moves conn (inputs.Frame c.args.whole.now) o before after) (sym answer) moves),
      );
    }
