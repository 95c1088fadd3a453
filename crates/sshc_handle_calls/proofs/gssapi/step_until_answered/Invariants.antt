use Rattle.std.proofs.Common.{ℕ, Ok, None}
use Rattle.sshc_handle_calls.specs.Rounds.{Rounds}
use Rattle.sshc_handle_calls.specs.Gssapi.{SteppingRound, stepping_at}
use Rattle.sshc_handle_calls.proofs.gssapi.step_until_answered.Given as goal

-- the rounds so far have no result
abbrev pub invariant-loop : goal.invariant-loop
invariant-loop g l =
    (n : ℕ) × Rounds (λ a b. SteppingRound {E = g.row.G-Refusal.Denot} l.ticket a b (Ok None)) n
    (stepping_at (g.L.Line.calls l.initial.line) (g.G.LoggedAuthenticator.calls l.initial.authenticator) (g.G.LoggedAuthenticator.refusals l.initial.authenticator))
    (stepping_at (g.L.Line.calls l.line) (g.G.LoggedAuthenticator.calls l.authenticator) (g.G.LoggedAuthenticator.refusals l.authenticator))
