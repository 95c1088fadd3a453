use Rattle.sshc_auth.specs.OpeningTable.{phase_packet_row}
use Rattle.sshc_auth.specs.OpeningTable.Packets.{counted_with}
use Rattle.sshc_auth.specs.Row.{signer_at}
use Rattle.sshc_auth.proofs.Rows.{counted_went, counted_opened, restored, restored_end}
use Rattle.sshc_auth.proofs.opening.Opening.counted_packet.Goals as goal

pub returns-in-Ok-Went : goal.returns-in-Ok-Went
returns-in-Ok-Went g c =
    let s = c.args.self.now in
    let follows = rw (c.in-Ok-Went.field-0-is, c.count.ensures) at c.in-Ok-Went.ensures.row in
    record { row = counted_went (phase_packet_row (record s { counted = counted_with s c.args.len }) c.args.number c.args.body.now) (signer_at (g.S.LocalSigner.calls c.args.signer.now) (g.S.LocalSigner.refusals c.args.signer.now)) (signer_at (g.S.LocalSigner.calls c.phase_packet.new.signer) (g.S.LocalSigner.refusals c.phase_packet.new.signer)) s (record s { counted = counted_with s c.args.len }) c.phase_packet.new.self c.args.out.now c.phase_packet.new.out follows }

pub returns-in-Ok-Opened : goal.returns-in-Ok-Opened
returns-in-Ok-Opened g c =
    let s = c.args.self.now in
    let follows = rw (c.in-Ok-Opened.field-0-is, c.count.ensures) at c.in-Ok-Opened.ensures.row in
    record { row = counted_opened (phase_packet_row (record s { counted = counted_with s c.args.len }) c.args.number c.args.body.now) (signer_at (g.S.LocalSigner.calls c.args.signer.now) (g.S.LocalSigner.refusals c.args.signer.now)) (signer_at (g.S.LocalSigner.calls c.phase_packet.new.signer) (g.S.LocalSigner.refusals c.phase_packet.new.signer)) s (record s { counted = counted_with s c.args.len }) c.phase_packet.new.self c.args.out.now c.phase_packet.new.out follows }

pub returns-in-Ok-Ended : goal.returns-in-Ok-Ended
returns-in-Ok-Ended g c =
    let s = c.args.self.now in
    let follows = rw (c.in-Ok-Ended.field-0-is, c.count.ensures) at c.in-Ok-Ended.ensures.row in
    record { row = rw (c.restore.ensures, c.pending_so_far-before.ensures) (restored_end (phase_packet_row (record s { counted = counted_with s c.args.len }) c.args.number c.args.body.now) (signer_at (g.S.LocalSigner.calls c.args.signer.now) (g.S.LocalSigner.refusals c.args.signer.now)) (signer_at (g.S.LocalSigner.calls c.phase_packet.new.signer) (g.S.LocalSigner.refusals c.phase_packet.new.signer)) s c.phase_packet.new.self (counted_with s c.args.len) c.args.out.now c.phase_packet.new.out c.in-Ok-Ended.e follows) }

pub returns-in-Err : goal.returns-in-Err
returns-in-Err g c =
    let s = c.args.self.now in
    let follows = rw c.count.ensures at c.in-Err.ensures.row in
    record { row = rw (c.restore-in-Err.ensures, c.pending_so_far-before.ensures) (restored (phase_packet_row (record s { counted = counted_with s c.args.len }) c.args.number c.args.body.now) (signer_at (g.S.LocalSigner.calls c.args.signer.now) (g.S.LocalSigner.refusals c.args.signer.now)) (signer_at (g.S.LocalSigner.calls c.phase_packet.new.signer) (g.S.LocalSigner.refusals c.phase_packet.new.signer)) s c.phase_packet.new.self (counted_with s c.args.len) c.args.out.now c.phase_packet.new.out c.in-Err.e follows) }
