use Rattle.std.proofs.Common.{◌≡◌, take, drop, ◌++◌}
use Rattle.sshc_wire.specs.Contents.{with_text}
use Rattle.sshc_wire.proofs.memory.add_text.Given as goal

abbrev pub invariant-loop-at : goal.invariant-loop-at
invariant-loop-at l =
    record {
      same : l.files.items ≡ l.initial.files.items;
      behind : with_text l.files.items l.path l.text ≡ take l.at l.files.items ++ with_text (drop l.at l.files.items) l.path l.text;
    }
