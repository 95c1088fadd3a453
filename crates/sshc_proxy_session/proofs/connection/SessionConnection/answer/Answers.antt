use Rattle.std.proofs.Common.{◌≡◌, None, refl, subst, sym}
use Rattle.sshc_proxy_session.specs.declared.event.SessionInput.TheVariants as inputs
use Rattle.sshc_proxy_session.specs.declared.event.SessionOutput.{SessionOutput}
use Rattle.sshc_proxy_session.specs.SessionTable.{Standing, answer_row, moved}
use Rattle.sshc_proxy_session.proofs.AnswerLemmas.{answer_moves}
use Rattle.sshc_proxy_session.proofs.connection.SessionConnection.answer.Goals as goal

pub returns : goal.returns
returns c =
    let policy = c.args.policy.now in
    let answer = c.args.answer.now in
    let before : Standing = record { bindings = c.self.inside.bindings; awaits = c.self.inside.awaits } in
    let after : Standing = record { bindings = c.self.inside.bindings; awaits = None } in
    let moves : after ≡ moved before (inputs.Upstream answer) (answer_row policy before.bindings c.args.kind answer) =
    answer_moves policy c.self.inside.bindings c.self.inside.awaits c.args.kind answer (answer_row policy c.self.inside.bindings c.args.kind answer) refl in
    record {
      row = (
        c.in_ok-output.ensures,
        subst (λ (o : SessionOutput). after ≡ moved c.args.self.now (inputs.Upstream answer) o) (sym c.in_ok-output.ensures)
            (subst (λ (s : Standing). after ≡ moved s (inputs.Upstream answer) (answer_row policy s.bindings c.args.kind answer)) c.self.view_is moves),
      );
    }
