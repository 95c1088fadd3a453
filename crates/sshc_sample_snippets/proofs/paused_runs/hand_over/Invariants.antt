use Rattle.std.proofs.Common.{◌≡◌, ◌++◌, false, take}
use Rattle.sshc_key.specs.Signers.{since}
use Rattle.sshc_run_script.specs.PausedRuns.{History, followed_by, text_since, IsRun}
use Rattle.sshc_run_script.specs.RunPromises.{RunAsked}
use Rattle.sshc_sample_snippets.proofs.HandedEvents.{bytes_of}
use Rattle.sshc_sample_snippets.proofs.paused_runs.hand_over.Given as goal

abbrev pub invariant-loop-event : goal.invariant-loop-event
invariant-loop-event g l =
    record {
      going : l.run.over ≡ false;
      calls : g.G.LocalSigner.calls l.signer ≡ g.G.LocalSigner.calls l.initial.signer ++ since (g.G.LocalSigner.calls l.initial.signer) (g.G.LocalSigner.calls l.signer);
      text : l.lines.items ≡ l.initial.lines.items ++ text_since l.initial.lines.items l.lines.items;
      runs : (asked : RunAsked) (h : History) → asked.accepts ≡ g.V.Verifier.accepts l.verifier → IsRun asked h l.initial.run →
          IsRun asked (followed_by h (bytes_of (take l.event-index l.events)) (since (g.G.LocalSigner.calls l.initial.signer) (g.G.LocalSigner.calls l.signer)) (text_since l.initial.lines.items l.lines.items)) l.run;
    }
