use Rattle.sshc_proxy.proofs.AskingLemmas.{asked, request_cut}
use Rattle.sshc_proxy.proofs.relay.Relay.ask.Goals as goal

pub returns-in-Ok : goal.returns-in-Ok
returns-in-Ok g c = record { turned = λ t before r. c.hear.ensures.turned t before (asked t before _ _ _ _ r c.in-Ok.ensures.written) }

pub returns-in-Err : goal.returns-in-Err
returns-in-Err g c = record { turned = λ t before r. rw c.writing_error.ensures (request_cut t before _ _ _ _ c.in-Err.failed r c.in-Err.ensures.written) }
