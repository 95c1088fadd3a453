use Rattle.std.proofs.Common.{rules, ◌≡◌, ℕ, Bool, true, false, arith, ◌∙◌}
use Rattle.sshc_forward_core.specs.declared.error.FwdError.TheVariants as errors
use Rattle.sshc_forward_core.proofs.RunLemmas.{run_goes_on, run_ends, run_stops, run_idle}
use Rattle.sshc_forward_core.proofs.ExactRun.{promise, same_error, rose_since}
use Rattle.sshc_forward_core.proofs.run.run_forward.Goals as goal

pub returns-in-Ok-false : goal.returns-in-Ok-false
returns-in-Ok-false g c =
    let i = c.loop-turn.invariant in
    let ends : c.in-Ok-false.field-0 ≡ false = search rules in
    let gives = rw ends at c.in-Ok-false.ensures.gives in
    record {
      promises = promise _ _ _ (run_ends _ _ _ _ _ _ _ i.so_far gives c.pair_count.ensures)
          (λ e. absurd cc) (λ _. c.in-Ok-false.ensures.read_told (λ e. absurd cc) ∙ i.read_same)
          (λ e. absurd cc) (λ _. c.in-Ok-false.ensures.write_told (λ e. absurd cc) ∙ i.write_same);
    }

pub returns-in-Err : goal.returns-in-Err
returns-in-Err g c =
    let i = c.loop-turn.invariant in
    let told = c.in-Err.ensures in
    let e = c.in-Err.e in
    record {
      promises = promise _ _ _ (run_stops _ _ _ _ c.take_event.new.core _ c.take_event.new.at e i.so_far told.gives)
          (λ h. rose_since _ _ _ i.read_same (told.read_fault (same_error ℕ Bool e errors.ReadFault h)))
          (λ h. told.read_told (λ k. h (same_error Bool ℕ e errors.ReadFault k)) ∙ i.read_same)
          (λ h. rose_since _ _ _ i.write_same (told.write_fault (same_error ℕ Bool e errors.WriteFault h)))
          (λ h. told.write_told (λ k. h (same_error Bool ℕ e errors.WriteFault k)) ∙ i.write_same);
    }

pub loop-turn-preserved : goal.loop-turn-preserved
loop-turn-preserved g c =
    let i = c.loop-turn.invariant in
    let goes : c.in-Ok-true.field-0 ≡ true = search rules in
    let gives = rw goes at c.in-Ok-true.ensures.gives in
    record {
      so_far = run_goes_on _ _ _ _ _ _ _ i.so_far gives;
      within = omega (arith, c.take_event.ensures.within, i.within);
      read_same = c.in-Ok-true.ensures.read_told (λ e. absurd cc) ∙ i.read_same;
      write_same = c.in-Ok-true.ensures.write_told (λ e. absurd cc) ∙ i.write_same;
    }

pub returns : goal.returns
returns g c =
    let i = c.loop-turn.invariant in
    record {
      promises = promise _ _ _ (run_idle _ _ _ _ i.so_far)
          (λ e. absurd cc) (λ _. i.read_same)
          (λ e. absurd cc) (λ _. i.write_same);
    }
