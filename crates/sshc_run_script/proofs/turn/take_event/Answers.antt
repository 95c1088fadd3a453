use Rattle.std.proofs.Common.{◌≡◌, true, false}
use Rattle.sshc_run_script.specs.SessionPart.{is_session_kind, session_own}
use Rattle.sshc_run_script.proofs.RunNames.{frame_at, agents_turn, kept, session_turn, hosts_of}
use Rattle.sshc_run_script.proofs.ProductTurns.{one_takes_so, other_takes_so}
use Rattle.sshc_run_script.proofs.turn.take_event.Goals as goal

pub returns-then-is_session_kind-clause-gives : goal.returns-then-is_session_kind-clause-gives
returns-then-is_session_kind-clause-gives g c =
    let mine : is_session_kind c.args.event.now.1.0 ≡ true = cc in
    rw c.take_session_event.ensures.agents
    (one_takes_so session_own (session_turn (hosts_of c.args.gate.now) (g.V.Verifier.accepts c.args.verifier.now)) agents_turn (kept c.args.at.now.session c.args.at.now.agents) (frame_at c.args.at.now.place c.args.event.now) _ _ _ _
    c.take_session_event.new.at.session mine c.take_session_event.ensures.gives)

pub returns-else-is_session_kind-clause-gives : goal.returns-else-is_session_kind-clause-gives
returns-else-is_session_kind-clause-gives g c =
    let mine : is_session_kind c.args.event.now.1.0 ≡ false = cc in
    other_takes_so session_own (session_turn (hosts_of c.args.gate.now) (g.V.Verifier.accepts c.args.verifier.now)) agents_turn (kept c.args.at.now.session c.args.at.now.agents) (frame_at c.args.at.now.place c.args.event.now) _ _ _ _
    c.take_agent_event.new.agents mine c.take_agent_event.ensures.gives
