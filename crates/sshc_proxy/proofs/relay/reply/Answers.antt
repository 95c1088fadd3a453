use Rattle.sshc_proxy.proofs.RelayLemmas.{replied, reply_cut}
use Rattle.sshc_proxy.proofs.relay.reply.Goals as goal

pub returns-in-Ok : goal.returns-in-Ok
returns-in-Ok g c = record { turned = λ t before agent core r. replied t before _ core _ _ r c.in-Ok.ensures.written }

pub returns-in-Err : goal.returns-in-Err
returns-in-Err g c = record {
  turned = λ t before agent core r. rw c.writing_error.ensures (reply_cut t before _ core _ _ c.in-Err.failed r c.in-Err.ensures.written);
}
