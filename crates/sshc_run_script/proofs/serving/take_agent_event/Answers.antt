use Rattle.sshc_run_reader.specs.Script.{frame_at}
use Rattle.sshc_run_script.proofs.EventTurns.{agent_unread, served_taken}
use Rattle.sshc_run_script.proofs.serving.take_agent_event.Goals as goal

pub returns-in-Ok-clause-gives : goal.returns-in-Ok-clause-gives
returns-in-Ok-clause-gives g c =
    let read = rw (c.kind.ensures, c.fields.ensures) at c.in-Ok.ensures in
    let gives = rw c.moment.ensures at c.serve_event.ensures.gives in
    rw (served_taken c.args.agents.now (frame_at c.args.place c.args.event.now) c.in-Ok.read read) gives

pub returns-in-Err-clause-gives : goal.returns-in-Err-clause-gives
returns-in-Err-clause-gives g c =
    let fails = rw (c.kind.ensures, c.fields.ensures) at c.in-Err.ensures in
    agent_unread c.args.agents.now (frame_at c.args.place c.args.event.now) (g.G.LocalSigner.calls c.args.signer.now) (g.K.RecordSink.contents c.args.sink.now) c.in-Err.e _ fails c.event_error_at.ensures
