use Rattle.std.proofs.Common.{rules, Ok, None}
use Rattle.sshc_handle_calls.specs.Gssapi.{SteppingRound, stepping_at}
use Rattle.sshc_handle_calls.proofs.RoundLemmas.{one_round_more}
use Rattle.sshc_handle_calls.proofs.gssapi.step_until_answered.Goals as goal

-- a round without a result is one more
pub loop-preserved : goal.loop-preserved
loop-preserved g c =
    let round : SteppingRound {E = g.row.G-Refusal.Denot} c.args.ticket
    (stepping_at (g.L.Line.calls c.loop.line) (g.G.LoggedAuthenticator.calls c.loop.authenticator) (g.G.LoggedAuthenticator.refusals c.loop.authenticator))
    (stepping_at (g.L.Line.calls c.step_once.new.line) (g.G.LoggedAuthenticator.calls c.step_once.new.authenticator) (g.G.LoggedAuthenticator.refusals c.step_once.new.authenticator))
    (Ok None) = search rules in
    one_round_more (λ a b. SteppingRound {E = g.row.G-Refusal.Denot} c.args.ticket a b (Ok None)) _ _ _ c.loop.invariant round
