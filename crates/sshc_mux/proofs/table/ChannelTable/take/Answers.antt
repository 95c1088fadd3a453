use Rattle.sshc_mux.specs.ChannelTable.{data_turn}
use Rattle.sshc_mux.specs.ChannelAccount.{Bytes, bytes_part}
use Rattle.sshc_mux.proofs.TurnLemmas.{data_moves}
use Rattle.sshc_mux.proofs.ShapeLemmas.{taking_bytes}
use Rattle.std.proofs.Common.{arith}
use Rattle.sshc_mux.proofs.TableLemmas.{held, did_turn}
use Rattle.sshc_mux.proofs.LegalLemmas.{did_part_ok}
use Rattle.sshc_mux.proofs.KeptLemmas.{some_wait, room_left, kept_turn}
use Rattle.sshc_mux.proofs.table.ChannelTable.take.Goals as goal

pub recounted-self-inside-requires-clause-some : goal.recounted-self-inside-requires-clause-some
recounted-self-inside-requires-clause-some c =
    some_wait _ _ _ _ _ _ _ _ (held _ _ _ _ _ _ c.as_slice.ensures.value c.in-Some.ensures c.index_mut.ensures.value c.in-Some-index_mut.is) c.self.invariant c.waits-waited.ensures

pub recounted-self-inside-requires-clause-room : goal.recounted-self-inside-requires-clause-room
recounted-self-inside-requires-clause-room c =
    room_left _ _ _ _ _ _ _ _ _ (held _ _ _ _ _ _ c.as_slice.ensures.value c.in-Some.ensures c.index_mut.ensures.value c.in-Some-index_mut.is) c.self.invariant c.as_slice.ensures.value (omega arith) c.waits-waited.ensures

pub invariant_of-self-2 : goal.invariant_of-self-2
invariant_of-self-2 c =
    kept_turn (data_turn c.args.stream c.args.body.now c.args.exchanging) (taking_bytes c.args.stream c.args.body.now c.args.exchanging) _ _ _ _ _ _ _ _ _ c.args.out.now c.data-result.new.out c.data-result.result (λ x sound. (bytes_part c.args.stream c.args.body.now c.args.exchanging x, data_moves c.args.stream c.args.body.now c.args.exchanging x sound))
    (held _ _ _ _ _ _ c.as_slice.ensures.value c.in-Some.ensures c.index_mut.ensures.value c.in-Some-index_mut.is) c.self.invariant (rw (← c.waits-waited.ensures, ← c.waits.ensures) c.recounted-self-inside.ensures) c.data-result.ensures.turn

pub returns-clause-did : goal.returns-clause-did
returns-clause-did c = rw (← c.self.view_is) (did_turn _ _ _ _ _ _ _ c.args.out.now c.data-result.new.out c.data-result.result (held _ _ _ _ _ _ c.as_slice.ensures.value c.in-Some.ensures c.index_mut.ensures.value c.in-Some-index_mut.is) c.data-result.ensures.turn)

pub returns-clause-part : goal.returns-clause-part
returns-clause-part c = did_part_ok (Bytes c.args.id.0 c.args.stream c.args.body.now c.args.exchanging) _ _ c.args.out.now c.data-result.new.out c.data-result.result (rw (← c.self.view_is) c.self.invariant.1) (returns-clause-did c)
