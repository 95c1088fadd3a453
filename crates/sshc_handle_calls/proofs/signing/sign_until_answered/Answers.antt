use Rattle.std.proofs.Common.{rules, Ok, None}
use Rattle.sshc_handle_calls.specs.Signing.{SigningRound, signing_at}
use Rattle.sshc_handle_calls.proofs.RoundLemmas.{one_round_more}
use Rattle.sshc_handle_calls.proofs.signing.sign_until_answered.Goals as goal

-- a round without a result is one more
pub loop-preserved : goal.loop-preserved
loop-preserved g c =
    let round : SigningRound {E = g.row.S-Refusal.Denot} c.args.identity.now c.args.hash_alg c.args.ticket
    (signing_at (g.L.Line.calls c.loop.line) (g.S.LoggedSigner.calls c.loop.signer) (g.S.LoggedSigner.refusals c.loop.signer))
    (signing_at (g.L.Line.calls c.sign_once.new.line) (g.S.LoggedSigner.calls c.sign_once.new.signer) (g.S.LoggedSigner.refusals c.sign_once.new.signer))
    (Ok None) = search rules in
    one_round_more (λ a b. SigningRound {E = g.row.S-Refusal.Denot} c.args.identity.now c.args.hash_alg c.args.ticket a b (Ok None)) _ _ _ c.loop.invariant round
