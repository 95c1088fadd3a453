-- A run that ends by its table has each guarantee: the laws of whole runs, gathered.
use Rattle.std.proofs.Common.{Result, Err, refl, arith, ◌≡◌}
use Rattle.sshc_run_script.specs.declared.error.RunError.TheVariants as errors
use Rattle.sshc_run_script.specs.RunOutside.{RunOutside, CountsMoved, streams_of, faults_of}
use Rattle.sshc_run_script.specs.RunPromises.{RunAsked, RunPromises, table_of, calls_since, session_answers}
use Rattle.sshc_run_script.specs.SessionLaws.{SessionLaws}
use Rattle.sshc_run_script.specs.RunFaults.{FaultCounts, FaultsAnswered}
use Rattle.sshc_run_script.proofs.RunNames.{no_writes, moved_for, Ended, RunError, Machine, Ends, RunState, run_machine, answers_of}
use Rattle.sshc_run_script.proofs.AskersLaws.{calls_by_asker}
use Rattle.sshc_run_script.proofs.RunCauses.{caused_of}
use Rattle.sshc_run_script.proofs.OpenedKeys.{opened_by_accepted}
use Rattle.sshc_run_script.proofs.OpeningFirsts.{opening_first_of, opening_done_of, opening_complete_of}
use Rattle.sshc_run_script.proofs.Promises.{none_ran, gate_of, prefix_of, done_of, kept_of, complete_of}
use Rattle.sshc_run_script.proofs.RunCalls.{calls_counted}
use Rattle.sshc_run_script.proofs.RunChannels.{accounted, opens_answered}
use Rattle.sshc_run_script.proofs.RunHistories.{one_history}
use Rattle.sshc_run_script.proofs.RunOpenCounts.{counted}
use Rattle.sshc_run_script.proofs.RunPasswords.{passwords_asked}
use Rattle.sshc_run_script.proofs.RunReplies.{replies_in_order}
use Rattle.sshc_run_script.proofs.RunSigned.{signed_along}
use Rattle.sshc_run_script.proofs.RunSteps.{steps_keep}

module _ (laws : SessionLaws) (asked : RunAsked) (before now : RunOutside) (a : Result Ended RunError) (ends : Ends asked.max_events 0 0 (table_of asked) (streams_of before) (streams_of now) a) (counts : CountsMoved before now a) where
  abbrev machine : Machine RunState
  machine = run_machine asked.hosts asked.accepts asked.settings

  pub promised : RunPromises asked before now a
  promised = record {
    run = ends;
    gate = gate_of asked.hosts asked.accepts asked.settings asked.max_events (streams_of before) (streams_of now) a ends;
    prefix = prefix_of machine asked.max_events (streams_of before) (streams_of now) a ends;
    done = done_of asked.max_events (table_of asked) (streams_of before) (streams_of now) a ends;
    kept = kept_of asked.max_events (table_of asked) (streams_of before) (streams_of now) a ends;
    complete = complete_of asked.max_events (table_of asked) (streams_of before) (streams_of now) before.source.faults now.source.faults before.sink.faults now.sink.faults a ends counts.faults.read_fault counts.faults.write_fault;
    causes = caused_of asked.hosts asked.accepts asked.settings asked.max_events (streams_of before) (streams_of now) a ends;
    opening = opening_first_of asked.hosts asked.accepts asked.settings asked.max_events (streams_of before) (streams_of now) a ends;
    accepted = opened_by_accepted asked.hosts asked.settings.opening asked.max_events (calls_since before now) before.source.left;
    opening_done = opening_done_of asked.hosts asked.accepts asked.settings asked.max_events (streams_of before) (streams_of now) a ends;
    opening_complete = opening_complete_of asked.hosts asked.accepts asked.settings asked.max_events (streams_of before) (streams_of now) a _ _ _ _ ends counts.faults.read_fault counts.faults.write_fault;
    replies = replies_in_order laws.replies asked.hosts asked.accepts asked.settings asked.max_events (session_answers before now) before.source.left;
    channels = accounted laws.accounted asked.hosts asked.accepts laws.account laws.fronts asked.settings asked.max_events (session_answers before now) before.source.left;
    opens = opens_answered laws.opens laws.accounted laws.legal asked.accepts asked.hosts asked.settings asked.max_events (session_answers before now) before.source.left;
    opens_once = counted asked.hosts asked.accepts asked.settings asked.max_events (session_answers before now) before.source.left
        (opens_answered laws.opens laws.accounted laws.legal asked.accepts asked.hosts asked.settings asked.max_events
        (session_answers before now) before.source.left);
    signed = signed_along asked.hosts asked.accepts asked.settings asked.max_events (session_answers before now) before.source.left;
    calls = calls_counted asked.hosts asked.accepts asked.settings asked.max_events (answers_of (calls_since before now)) before.source.left;
    passwords = passwords_asked asked.hosts asked.accepts asked.settings asked.max_events (answers_of (calls_since before now)) before.source.left;
    askers = calls_by_asker machine asked.max_events (streams_of before) (streams_of now) a ends;
    steps = steps_keep laws.rows asked.hosts asked.accepts asked.settings asked.max_events (session_answers before now) before.source.left;
    agents = one_history asked.hosts asked.accepts asked.settings asked.max_events (answers_of (calls_since before now)) before.source.left;
    counts = counts;
  }

-- where no count rose, no fault is returned
pub no_fault : (was : FaultCounts) (a : Result Ended RunError) → (a ≡ Err errors.ReadFault → ⊥) → (a ≡ Err errors.WriteFault → ⊥) → FaultsAnswered was was a
no_fault was a read write = record {
  read_later = omega arith;
  write_later = omega arith;
  read_fault = λ e. absurd (read e);
  read_told = λ no. refl;
  write_fault = λ e. absurd (write e);
  write_told = λ no. refl;
}

-- a run that was out of memory before its first event
pub none_promised : SessionLaws → (asked : RunAsked) (before : RunOutside) → RunPromises asked before before (Err errors.NoMemory)
none_promised laws asked before =
    promised laws asked before before (Err errors.NoMemory) (none_ran (run_machine asked.hosts asked.accepts asked.settings) asked.max_events (streams_of before))
    (record { last_read = omega arith; last_write = omega arith; writes = moved_for _ _ _ _ (no_writes _ _); faults = no_fault (faults_of before) (Err errors.NoMemory) (λ e. cc) (λ e. cc) })
