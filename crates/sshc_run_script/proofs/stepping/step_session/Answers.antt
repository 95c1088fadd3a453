use Rattle.std.proofs.Common.{[], ◌∷◌}
use Rattle.sshc_client_state.specs.OpeningStep.{Lent, lent_session}
use Rattle.sshc_run_script.specs.TurnContracts.{hosts_of}
use Rattle.sshc_run_script.proofs.SessionSteps.{hosts_kept, session_came, session_ready, session_gained}
use Rattle.sshc_run_script.proofs.SignerFaults.{step_signer}
use Rattle.sshc_run_script.proofs.stepping.step_session.Goals as goal

pub returns-clause-came : goal.returns-clause-came
returns-clause-came g c =
    let was : Lent = lent_session c.args.at.now.session (g.G.LocalSigner.calls c.args.signer.now) (g.G.LocalSigner.refusals c.args.signer.now) c.args.gate.now.refusals (c.args.gate.now.host ∷ c.args.gate.now.known ∷ []) [] in
    let is : Lent = lent_session c.step.new.self (g.G.LocalSigner.calls c.step.new.signer) (g.G.LocalSigner.refusals c.step.new.signer) c.step.new.handler.refusals (c.step.new.handler.host ∷ c.step.new.handler.known ∷ []) [] in
    session_came (hosts_of c.args.gate.now) (g.V.Verifier.accepts c.args.verifier.now) c.args.at.now.place c.args.event.now was is c.step.result c.requires.ready (c.step.ensures.defaults tt)

pub returns-clause-ready : goal.returns-clause-ready
returns-clause-ready g c =
    let was : Lent = lent_session c.args.at.now.session (g.G.LocalSigner.calls c.args.signer.now) (g.G.LocalSigner.refusals c.args.signer.now) c.args.gate.now.refusals (c.args.gate.now.host ∷ c.args.gate.now.known ∷ []) [] in
    let is : Lent = lent_session c.step.new.self (g.G.LocalSigner.calls c.step.new.signer) (g.G.LocalSigner.refusals c.step.new.signer) c.step.new.handler.refusals (c.step.new.handler.host ∷ c.step.new.handler.known ∷ []) [] in
    session_ready (hosts_of c.args.gate.now) (g.V.Verifier.accepts c.args.verifier.now) c.args.at.now.place c.args.event.now was is c.step.result c.requires.ready (c.step.ensures.defaults tt)

pub returns-clause-same : goal.returns-clause-same
returns-clause-same g c = hosts_kept c.args.gate.now c.step.new.handler c.step.ensures.steps.keeps.kept

pub returns-clause-gained : goal.returns-clause-gained
returns-clause-gained g c =
    let was : Lent = lent_session c.args.at.now.session (g.G.LocalSigner.calls c.args.signer.now) (g.G.LocalSigner.refusals c.args.signer.now) c.args.gate.now.refusals (c.args.gate.now.host ∷ c.args.gate.now.known ∷ []) [] in
    let is : Lent = lent_session c.step.new.self (g.G.LocalSigner.calls c.step.new.signer) (g.G.LocalSigner.refusals c.step.new.signer) c.step.new.handler.refusals (c.step.new.handler.host ∷ c.step.new.handler.known ∷ []) [] in
    session_gained (hosts_of c.args.gate.now) (g.V.Verifier.accepts c.args.verifier.now) c.args.at.now.place c.args.event.now was is c.step.result c.requires.ready (c.step.ensures.defaults tt)

pub returns-clause-signer : goal.returns-clause-signer
returns-clause-signer g c =
    let was : Lent = lent_session c.args.at.now.session (g.G.LocalSigner.calls c.args.signer.now) (g.G.LocalSigner.refusals c.args.signer.now) c.args.gate.now.refusals (c.args.gate.now.host ∷ c.args.gate.now.known ∷ []) [] in
    let is : Lent = lent_session c.step.new.self (g.G.LocalSigner.calls c.step.new.signer) (g.G.LocalSigner.refusals c.step.new.signer) c.step.new.handler.refusals (c.step.new.handler.host ∷ c.step.new.handler.known ∷ []) [] in
    step_signer (hosts_of c.args.gate.now) (g.V.Verifier.accepts c.args.verifier.now) c.args.event.now was is c.requires.ready c.args.at.now.place c.step.result (c.step.ensures.defaults tt)
