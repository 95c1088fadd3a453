use Rattle.sshc_run_script.proofs.EventTurns.{served_cut, served_out, served_written}
use Rattle.sshc_run_script.proofs.serving.serve_event.Goals as goal

pub returns-in-Ok-put_records-clause-gives : goal.returns-in-Ok-put_records-clause-gives
returns-in-Ok-put_records-clause-gives g c =
    served_written c.args.moment c.args.event.now c.args.agents.now c.take.new.self _ (g.K.RecordSink.contents c.args.sink.now) (g.K.RecordSink.contents c.put_records.new.self) c.take.new.out.records c.in-Ok.ensures.turn c.in-Ok-put_records.ensures.whole

pub returns-in-Err-put_records-clause-gives : goal.returns-in-Err-put_records-clause-gives
returns-in-Err-put_records-clause-gives g c =
    served_cut c.args.moment c.args.event.now c.args.agents.now c.take.new.self _ (g.K.RecordSink.contents c.args.sink.now) (g.K.RecordSink.contents c.put_records.new.self) c.take.new.out.records c.in-Err-put_records.failed _ c.in-Ok.ensures.turn c.in-Err-put_records.ensures.cut c.write_failed.ensures

pub returns-in-Err-clause-gives : goal.returns-in-Err-clause-gives
returns-in-Err-clause-gives g c = served_out c.args.moment c.args.event.now c.args.agents.now c.take.new.self _ (g.K.RecordSink.contents c.args.sink.now) c.in-Err.ensures.memory
