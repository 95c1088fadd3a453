use Rattle.std.proofs.Common.{length, ◌-◌, ◌+◌, ◌≡◌, ◌≤◌, take}
use Rattle.sshc_wire.specs.Contents.{prepend}
use Rattle.sshc_wire.proofs.source.read_full.Given as goal

abbrev pub invariant-loop-filled : goal.invariant-loop-filled
invariant-loop-filled g l =
    record {
      within : l.filled ≤ length l.buf;
      given : g.S.Source.left l.initial.source ≡ prepend (take l.filled l.buf) (g.S.Source.left l.source);
      same : g.S.Source.faults l.source ≡ g.S.Source.faults l.initial.source;
      counted : g.S.Source.reads l.source ≤ g.S.Source.reads l.initial.source + l.filled;
      moved : g.S.Source.empty_reads l.source ≡ g.S.Source.empty_reads l.initial.source;
      apart : g.S.Source.beside l.source ≡ g.S.Source.beside l.initial.source;
    }

abbrev pub decreases-loop-filled : goal.decreases-loop-filled
decreases-loop-filled g l = length l.initial.buf - l.filled
