use Rattle.std.proofs.Common.{refl}
use Rattle.sshc_mux.proofs.AddingLemmas.{records_added}
use Rattle.sshc_mux.proofs.FrontLemmas.{front_turned}
use Rattle.sshc_mux.proofs.channel.Channel.send_front.Goals as goal

pub returns-in-Ok : goal.returns-in-Ok
returns-in-Ok c =
    front_turned (tt {0}) c.args.stream _ _ _ _ c.args.self.now _ _ _ _ c.args.out.now c.push_pieces.new.out
    c.requires.alone c.requires.taken c.room-room.ensures.room c.min.ensures c.split_at.ensures.front c.split_at.ensures.back
    refl
    (rw (c.keep.ensures, c.in_ok-reserve.ensures.items, c.in_ok-waiting.ensures, ← c.self.view_is) refl)
    (rw (← c.self.view_is) (records_added _ _ _ (rw (c.in-Ok.is) at c.push_pieces.ensures.output))) c.push_pieces.ensures.same
