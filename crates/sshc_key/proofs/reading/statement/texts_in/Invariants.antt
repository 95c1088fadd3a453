use Rattle.std.proofs.Common.{◌≡◌, length}
use Rattle.sshc_key.specs.KeyReading.{utf8_at}
use Rattle.sshc_wire.specs.Whole.{all_at}
use Rattle.sshc_key.specs.KeyLaws.Lists.{with_front}
use Rattle.sshc_key.proofs.reading.statement.texts_in.Given as goal

abbrev pub invariant-loop-c : goal.invariant-loop-c
invariant-loop-c l = with_front l.items (all_at utf8_at l.c) ≡ all_at utf8_at l.bytes

abbrev pub decreases-loop-c : goal.decreases-loop-c
decreases-loop-c l = length l.c
