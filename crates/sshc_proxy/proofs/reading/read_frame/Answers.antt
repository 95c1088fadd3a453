use Rattle.sshc_proxy.proofs.FrameLemmas.{body_cut, body_whole}
use Rattle.sshc_proxy.proofs.reading.read_frame.Goals as goal

pub returns-in-Ok : goal.returns-in-Ok
returns-in-Ok g c =
    let number = rw c.in-Ok-Some.field-0-is at c.in-Ok-Some.ensures.read in
    record { read = body_whole _ _ _ _ _ number.0 number.1 c.in-Ok.ensures.read }

pub returns-in-Err-read_body : goal.returns-in-Err-read_body
returns-in-Err-read_body g c =
    let number = rw c.in-Ok-Some.field-0-is at c.in-Ok-Some.ensures.read in
    record { read = body_cut _ c.in-Err-read_body.broken c.read_body.new.frame.items _ _ _ number.0 number.1 c.in-Err-read_body.ensures.read }
