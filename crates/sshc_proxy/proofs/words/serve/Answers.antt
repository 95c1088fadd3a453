use Rattle.sshc_proxy.specs.ProxyWords.{served}
use Rattle.sshc_proxy.proofs.words.serve.Goals as goal

pub returns-in-Ok : goal.returns-in-Ok
returns-in-Ok g c = record { serving = served _ _ c.proxy_run-ended.result c.proxy_run-ended.ensures.relays c.run_status.ensures c.in-Ok.ensures.asked }
