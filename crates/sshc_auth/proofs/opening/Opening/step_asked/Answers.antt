use Rattle.std.proofs.Common.{Ok, Err, inr, rules, sym}
use Rattle.sshc_auth.specs.Stepping.{exchange_in, gate_answers, lent, with_gate}
use Rattle.sshc_auth.specs.AskedLaws.{has_exchange}
use Rattle.sshc_auth.proofs.StepLemmas.{fits_asked, told_cause, unasked}
use Rattle.sshc_auth.proofs.opening.Opening.step_asked.Goals as goal

pub ask_gate-requires : goal.ask_gate-requires
ask_gate-requires g c = rw c.requires.asked at (has_exchange c.args.self.now c.args.event.now)

pub apply-requires : goal.apply-requires
apply-requires g c =
    let gate = gate_answers g.G.Gate.told_as (g.G.Gate.judges c.args.gate.now) g.G.Gate.tells g.G.Gate.tells_banner in
    rw c.requires.asked (fits_asked gate (exchange_in c.args.event.now) c.args.out.now c.ask_gate.new.out c.in-Ok.told c.args.asks.now c.in-Ok.ensures.answered)

pub returns-in-Ok-clause-stepped : goal.returns-in-Ok-clause-stepped
returns-in-Ok-clause-stepped g c =
    let gate = gate_answers g.G.Gate.told_as (g.G.Gate.judges c.args.gate.now) g.G.Gate.tells g.G.Gate.tells_banner in
    let was = with_gate (lent c.args.self.now c.args.out.now (g.S.LocalSigner.calls c.args.signer.now) (g.S.LocalSigner.refusals c.args.signer.now)) (g.G.Gate.refusals c.args.gate.now) (g.G.Gate.setting c.args.gate.now) in
    let is = with_gate (lent c.apply.new.self c.apply.new.out (g.S.LocalSigner.calls c.apply.new.signer) (g.S.LocalSigner.refusals c.apply.new.signer)) (g.G.Gate.refusals c.ask_gate.new.gate) (g.G.Gate.setting c.ask_gate.new.gate) in
    let answered = rw (sym c.requires.asked) at c.in-Ok.ensures.answered in
    record {
      closed = search rules;
      row = λ fresh. inr (Ok c.in-Ok.told, c.ask_gate.new.out, answered, (c.apply.result, c.as_told.ensures, c.apply.ensures.row fresh));
      cause = told_cause gate c.args.event.now was is c.args.out.now c.ask_gate.new.out c.in-Ok.told c.apply.result c.as_told.result c.as_told.ensures c.requires.fresh answered c.apply.ensures.cause;
      signer = search rules;
      keeps = search rules;
    }

pub returns-in-Err-clause-stepped : goal.returns-in-Err-clause-stepped
returns-in-Err-clause-stepped g c =
    let answered = rw (sym c.requires.asked) at c.in-Err.ensures.answered in
    record {
      closed = search rules;
      row = λ fresh. inr (Err c.in-Err.e, c.ask_gate.new.out, answered, search rules);
      cause = inr ((c.ask_gate.new.out, answered), c.in-Err.ensures.cause);
      signer = unasked (g.S.LocalSigner.calls c.args.signer.now) (g.S.LocalSigner.refusals c.args.signer.now);
      keeps = search rules;
    }
