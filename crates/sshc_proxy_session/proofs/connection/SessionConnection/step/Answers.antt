use Rattle.std.proofs.Common.{inr, refl}
use Rattle.sshc_proxy_session.proofs.HistoryLemmas.{remembers_same}
use Rattle.sshc_proxy_session.proofs.connection.SessionConnection.step.Goals as goal

pub returns-in-Ok : goal.returns-in-Ok
returns-in-Ok g c = record {
  row = rw (← c.in-Ok.ensures) c.apply.ensures.row;
  history = λ steps knows. c.apply.ensures.history (g.V.Verifier.accepts c.args.verifier.now) steps c.in-Ok.ensures knows;
}

pub returns-in-Err : goal.returns-in-Err
returns-in-Err g c = record {
  row = inr (record { nothing = refl; unchanged = refl });
  history = λ steps knows. remembers_same (g.V.Verifier.accepts c.args.verifier.now) _ steps _ _ knows;
}
