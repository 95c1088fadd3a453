use Rattle.std.proofs.Common.{[], Result, Ok, Err, refl}
use Rattle.std.specs.Prelude.{OnErr}
use Rattle.sshc_client_packets.specs.HostKeyProof.{Accepts}
use Rattle.sshc_run_script.specs.declared.error.RunError.TheVariants as errors
use Rattle.sshc_run_script.specs.PausedRuns.{nothing_yet, outside_of, HasRun}
use Rattle.sshc_run_script.specs.RunPromises.{run_asked}
use Rattle.sshc_run_script.proofs.KeptPromises.{none_promised}
use Rattle.sshc_run_script.proofs.PausedLemmas.{started_run}
use Rattle.sshc_run_script.proofs.paused_run.PausedRun.start.Goals as goal

-- what holds in any case holds with an error
with_error : {T E : Type 0} (result : Result T E) (P : Type 0) → P → OnErr result P
with_error (Ok x) P holds = tt
with_error (Err e) P holds = holds

pub returns-in_err-gate-clause-none : goal.returns-in_err-gate-clause-none
returns-in_err-gate-clause-none c =
    let none : (accepts : Accepts) → HasRun (run_asked c.args.host.now c.args.port c.args.known.now accepts c.args.config.now) nothing_yet [] (Err errors.NoMemory) = λ accepts. none_promised c.run_laws.ensures.laws (run_asked c.args.host.now c.args.port c.args.known.now accepts c.args.config.now) (outside_of [] [] []) in
    with_error _ _ none

pub returns-in_err-at-clause-none : goal.returns-in_err-at-clause-none
returns-in_err-at-clause-none c =
    let none : (accepts : Accepts) → HasRun (run_asked c.args.host.now c.args.port c.args.known.now accepts c.args.config.now) nothing_yet [] (Err errors.NoMemory) = λ accepts. none_promised c.run_laws.ensures.laws (run_asked c.args.host.now c.args.port c.args.known.now accepts c.args.config.now) (outside_of [] [] []) in
    with_error _ _ none

pub paused_at-requires-clause-ready : goal.paused_at-requires-clause-ready
paused_at-requires-clause-ready c = rw c.in_ok-at.ensures.session (record { runs = refl; taken = refl; unclosed = λ un. refl })

pub returns-clause-run : goal.returns-clause-run
returns-clause-run c = λ accepts.
    rw (c.paused_at.ensures, c.in_ok-gate.ensures, c.in_ok-at.ensures.session, c.in_ok-at.ensures.agents, c.in_ok-at.ensures.place, c.in_ok-at.ensures.last)
    (started_run c.run_laws.ensures.laws c.args.host.now c.args.port c.args.known.now accepts c.args.config.now)
