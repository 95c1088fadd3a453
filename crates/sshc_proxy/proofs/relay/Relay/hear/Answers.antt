use Rattle.std.proofs.Common.{rules, ◌≡◌, true, false}
use Rattle.sshc_proxy.proofs.AskingLemmas.{agent_broken, agent_ended, answer_read}
use Rattle.sshc_proxy.proofs.relay.Relay.hear.Goals as goal

pub returns-in-Ok-true : goal.returns-in-Ok-true
returns-in-Ok-true g c =
    let whole : c.in-Ok-true.field-0 ≡ true = search rules in
    let read = rw whole at c.in-Ok-true.ensures.read in
    record { turned = λ t before r. c.take_answer.ensures.turned t before _ (answer_read t before _ _ _ _ r read) }

pub returns-in-Ok-false : goal.returns-in-Ok-false
returns-in-Ok-false g c =
    let ended : c.in-Ok-false.field-0 ≡ false = search rules in
    let read = rw ended at c.in-Ok-false.ensures.read in
    record { turned = λ t before r. agent_ended t before _ _ _ c.read_frame.new.frame.items r read }

pub returns-in-Err : goal.returns-in-Err
returns-in-Err g c = record { turned = λ t before r. rw c.reading_error.ensures (agent_broken t before _ _ _ c.in-Err.broken r c.in-Err.ensures.read) }
