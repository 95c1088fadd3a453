use Rattle.std.proofs.Common.{inr, refl}
use Rattle.sshc_proxy.proofs.HistoryLemmas.{remembers_more}
use Rattle.sshc_proxy.proofs.VerdictLemmas.{own_verdict, told_takes}
use Rattle.sshc_proxy.proofs.proxy_core.ProxyCore.step.Goals as goal

pub returns-in-Ok : goal.returns-in-Ok
returns-in-Ok g c =
    let does = told_takes (g.V.Verifier.accepts c.args.verifier.now) _ _ _ _ _ _ (rw c.in-Ok.ensures (own_verdict _ _)) c.apply.ensures.row in
    record { row = does; history = λ steps knows. remembers_more _ _ _ steps _ _ _ does knows }

pub returns-in-Err : goal.returns-in-Err
returns-in-Err g c =
    let starves = inr (record { nothing = refl; unchanged = refl }) in
    record { row = starves; history = λ steps knows. remembers_more _ _ _ steps _ _ _ starves knows }
