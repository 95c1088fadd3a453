use Rattle.std.proofs.Common.{ap, ◌∙◌, ◌≡◌, ◌+◌, Ok, Some, None, arith, refl, sym}
use Rattle.sshc_auth.specs.declared.ended.Ended.TheVariants.{ScriptEnd}
use Rattle.sshc_run_script.proofs.RunNames.{moved_for, no_writes, since, spot, kept, run_turn, hosts_of}
use Rattle.sshc_run_script.proofs.RunCauses.{never_at_end}
use Rattle.sshc_run_script.proofs.RunUnfold.{end_ends, next_ends, not_taken, taken_gives}
use Rattle.sshc_run_script.proofs.turn.one_turn.Goals as goal

pub returns-in-Ok-None-clause-gives : goal.returns-in-Ok-None-clause-gives
returns-in-Ok-None-clause-gives g c =
    let gives = rw c.in-Ok-None.field-0-is at c.in-Ok-None.ensures.gives in
    end_ends (run_turn (hosts_of c.args.gate.now) (g.V.Verifier.accepts c.args.verifier.now)) _ _ _ _ gives.0 gives.1 gives.2

pub returns-in-Err-clause-gives : goal.returns-in-Err-clause-gives
returns-in-Err-clause-gives g c = next_ends (run_turn (hosts_of c.args.gate.now) (g.V.Verifier.accepts c.args.verifier.now)) _ _ _ _ c.in-Err.e _ c.in-Err.ensures.gives c.next_error_at.ensures

pub returns-in-Some-clause-gives : goal.returns-in-Some-clause-gives
returns-in-Some-clause-gives g c =
    let gives = rw c.in-Ok-Some.field-0-is at c.in-Ok-Some.ensures.gives in
    taken_gives (run_turn (hosts_of c.args.gate.now) (g.V.Verifier.accepts c.args.verifier.now)) (never_at_end (hosts_of c.args.gate.now) (g.V.Verifier.accepts c.args.verifier.now)) (spot c.args.at.now.place c.args.at.now.last (kept c.args.at.now.session c.args.at.now.agents)) (spot c.take_event.new.at.place c.take_event.new.at.last (kept c.take_event.new.at.session c.take_event.new.at.agents)) c.in-Ok-Some.event _ _
    (since (g.G.LocalSigner.calls c.args.signer.now) (g.G.LocalSigner.calls c.take_event.new.signer)) (Some c.in-Some.answer) c.take_event.ensures.gained gives c.in-Some.ensures.gives tt

pub returns-clause-gives : goal.returns-clause-gives
returns-clause-gives g c =
    let gives = rw c.in-Ok-Some.field-0-is at c.in-Ok-Some.ensures.gives in
    let none : c.take_event.result ≡ None = cc in
    taken_gives (run_turn (hosts_of c.args.gate.now) (g.V.Verifier.accepts c.args.verifier.now)) (never_at_end (hosts_of c.args.gate.now) (g.V.Verifier.accepts c.args.verifier.now)) (spot c.args.at.now.place c.args.at.now.last (kept c.args.at.now.session c.args.at.now.agents)) _ c.in-Ok-Some.event _ _
    (since (g.G.LocalSigner.calls c.args.signer.now) (g.G.LocalSigner.calls c.take_event.new.signer)) None c.take_event.ensures.gained gives (rw none at c.take_event.ensures.gives)
    (ap (λ k. k + c.size.result) c.take_event.ensures.moved.0 ∙ ap (λ k. c.args.at.now.place + k) c.size.ensures.size, c.moment-at.ensures)

-- at the script's end nothing is written
pub returns-in-Ok-None-clause-sink : goal.returns-in-Ok-None-clause-sink
returns-in-Ok-None-clause-sink g c = record {
  moving = tt;
  last = omega arith;
  moved = tt;
  writes = moved_for _ _ _ _ (no_writes _ _);
  later = omega arith;
  fault = λ e. absurd cc;
  told = λ no. refl;
}

-- ---- nothing else ends a script

pub returns-in-Ok-None-clause-ended : goal.returns-in-Ok-None-clause-ended
returns-in-Ok-None-clause-ended g c =
    let gives = rw c.in-Ok-None.field-0-is at c.in-Ok-None.ensures.gives in
    λ is. (refl, sym gives.0, refl, refl)

pub returns-in-Some-clause-ended : goal.returns-in-Some-clause-ended
returns-in-Some-clause-ended g c = λ is.
    let same : c.in-Some.answer ≡ Ok ScriptEnd = cc in
    absurd (not_taken (run_turn (hosts_of c.args.gate.now) (g.V.Verifier.accepts c.args.verifier.now)) (never_at_end (hosts_of c.args.gate.now) (g.V.Verifier.accepts c.args.verifier.now)) _ (kept c.take_event.new.at.session c.take_event.new.at.agents) _ _ _ _ c.in-Some.answer same c.in-Some.ensures.gives)
