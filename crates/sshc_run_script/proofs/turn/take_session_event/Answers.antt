use Rattle.sshc_run_script.proofs.RunNames.{frame_at, hosts_of}
use Rattle.sshc_run_script.proofs.EventTurns.{unread_turn, event_taken}
use Rattle.sshc_run_script.proofs.turn.take_session_event.Goals as goal

pub returns-in-Ok-clause-gives : goal.returns-in-Ok-clause-gives
returns-in-Ok-clause-gives g c =
    let read = rw (c.kind.ensures, c.fields.ensures) at c.in-Ok.ensures.reads in
    rw (event_taken (hosts_of c.args.gate.now) (g.V.Verifier.accepts c.args.verifier.now) c.args.at.now.session (frame_at c.args.at.now.place c.args.event.now) c.in-Ok.event read) c.step_event-answer.ensures.gives

pub returns-in-Err-clause-gives : goal.returns-in-Err-clause-gives
returns-in-Err-clause-gives g c =
    let fails = rw (c.kind.ensures, c.fields.ensures) at c.in-Err.ensures.reads in
    unread_turn (hosts_of c.args.gate.now) (g.V.Verifier.accepts c.args.verifier.now) c.args.at.now.session (frame_at c.args.at.now.place c.args.event.now) (g.G.LocalSigner.calls c.args.signer.now) (g.K.RecordSink.contents c.args.sink.now) c.in-Err.e _ fails c.event_error_at.ensures
