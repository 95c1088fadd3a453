use Rattle.std.proofs.Common.{◌≡◌, ◌≤◌, ◌++◌, false}
use Rattle.sshc_key.specs.Signers.{since}
use Rattle.sshc_run_agent.specs.AgentTurns.{inputs_of, most, rest_of}
use Rattle.sshc_run_agent.proofs.ServedSteps.{GoesOn}
use Rattle.sshc_run_agent.proofs.served.serve.Given as goal

abbrev pub invariant-inputs : goal.invariant-inputs
invariant-inputs g l =
    record {
      unmuted : l.out.muted ≡ false;
      gained : g.G.LocalSigner.calls l.signer ≡ g.G.LocalSigner.calls l.initial.signer ++ since (g.G.LocalSigner.calls l.initial.signer) (g.G.LocalSigner.calls l.signer);
      later : g.G.LocalSigner.refusals l.initial.signer ≤ g.G.LocalSigner.refusals l.signer;
      rest : rest_of l.frames ≡ rest_of l.initial.frames;
      on : GoesOn l.now l.conn (inputs_of l.initial.frames) l.initial.core (since (g.G.LocalSigner.calls l.initial.signer) (g.G.LocalSigner.calls l.signer)) l.out.records (inputs_of l.frames) l.core;
    }

abbrev pub decreases-inputs : goal.decreases-inputs
decreases-inputs g l = most l.frames
