use Rattle.sazhonthil.proofs.SessionReads.{starts}
use Rattle.sazhonthil.proofs.session_run.SessionRun.start.Goals as goal

pub returns-clause-run : goal.returns-clause-run
returns-clause-run c = starts c.args.settings.now c.in_ok-config.config c.args.host.now c.args.port c.args.known.now c.in_ok-start.field-0 c.in_ok-config.ensures c.in_ok-start.ensures.run
