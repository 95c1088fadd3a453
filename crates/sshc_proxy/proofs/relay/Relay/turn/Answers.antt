use Rattle.std.proofs.Common.{rules, ◌≡◌, true, false}
use Rattle.sshc_proxy.proofs.RelayLemmas.{client_broken, client_ended, frame_read}
use Rattle.sshc_proxy.proofs.relay.Relay.turn.Goals as goal

pub returns-in-Ok-true : goal.returns-in-Ok-true
returns-in-Ok-true g c =
    let whole : c.in-Ok-true.field-0 ≡ true = search rules in
    let read = rw whole at c.in-Ok-true.ensures.read in
    record { turned = λ before policy r. c.take_frame.ensures.turned before policy (frame_read _ before _ _ _ _ r read) }

pub returns-in-Ok-false : goal.returns-in-Ok-false
returns-in-Ok-false g c =
    let ended : c.in-Ok-false.field-0 ≡ false = search rules in
    let read = rw ended at c.in-Ok-false.ensures.read in
    record { turned = λ before policy r. client_ended _ before _ _ _ c.read_frame.new.frame.items r read }

pub returns-in-Err : goal.returns-in-Err
returns-in-Err g c = record { turned = λ before policy r. rw c.reading_error.ensures (client_broken _ before _ _ _ c.in-Err.broken r c.in-Err.ensures.read) }
