use Rattle.std.proofs.Common.{ℕ, Ok, None}
use Rattle.sshc_handle_calls.specs.Rounds.{Rounds}
use Rattle.sshc_handle_calls.specs.Signing.{SigningRound, signing_at}
use Rattle.sshc_handle_calls.proofs.signing.sign_until_answered.Given as goal

-- the rounds so far have no result
abbrev pub invariant-loop : goal.invariant-loop
invariant-loop g l =
    (n : ℕ) × Rounds (λ a b. SigningRound {E = g.row.S-Refusal.Denot} l.identity l.hash_alg l.ticket a b (Ok None)) n
    (signing_at (g.L.Line.calls l.initial.line) (g.S.LoggedSigner.calls l.initial.signer) (g.S.LoggedSigner.refusals l.initial.signer))
    (signing_at (g.L.Line.calls l.line) (g.S.LoggedSigner.calls l.signer) (g.S.LoggedSigner.refusals l.signer))
