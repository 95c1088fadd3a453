use Rattle.std.proofs.Common.{◌≡◌, ◌++◌, length, map, take}
use Rattle.sshc_wire.specs.Outgoing.{shown}
use Rattle.sshc_wire.specs.Records.{record_text}
use Rattle.sshc_wire.specs.Telling.{AllTold}
use Rattle.sshc_wire.proofs.outbox.add_all.Given as goal

abbrev pub invariant-loop-one : goal.invariant-loop-one
invariant-loop-one l =
    record {
      count : l.count ≡ length l.initial.held;
      texts : l.held ≡ l.initial.held ++ map record_text (shown l.is_muted (take l.one-index l.output));
      told : AllTold (shown l.is_muted (take l.one-index l.output));
    }
