use Rattle.sshc_auth.specs.Stepping.{gate_answers, lent}
use Rattle.sshc_auth.proofs.KeptLemmas.{step_keeps, step_reports}
use Rattle.sshc_auth.proofs.PasswordLemmas.{step_passwords}
use Rattle.sshc_auth.proofs.opening.Opening.step.Goals as goal

pub returns-clause-stepped : goal.returns-clause-stepped
returns-clause-stepped g c =
    let gate = gate_answers g.G.Gate.told_as (g.G.Gate.judges c.args.gate.now) g.G.Gate.tells g.G.Gate.tells_banner in
    let was = lent c.args.self.now c.args.out.now (g.S.LocalSigner.calls c.args.signer.now) (g.S.LocalSigner.refusals c.args.signer.now) in
    let is = lent c.step_by_table.new.self c.step_by_table.new.out (g.S.LocalSigner.calls c.step_by_table.new.signer) (g.S.LocalSigner.refusals c.step_by_table.new.signer) in
    record {
      closed = c.step_by_table.ensures.stepped.closed;
      row = c.step_by_table.ensures.stepped.row;
      cause = c.step_by_table.ensures.stepped.cause;
      signer = c.step_by_table.ensures.stepped.signer;
      keeps = c.step_by_table.ensures.stepped.keeps;
      laws = step_keeps gate c.args.event.now was is c.step_by_table.result c.step_by_table.ensures.stepped.closed c.step_by_table.ensures.stepped.row;
      passwords = step_passwords gate c.args.event.now was is c.step_by_table.result c.step_by_table.ensures.stepped.closed c.step_by_table.ensures.stepped.row;
      reports = step_reports gate c.args.event.now was is c.step_by_table.result c.step_by_table.ensures.stepped.closed c.step_by_table.ensures.stepped.row;
    }
