use Rattle.sshc_mux.specs.ChannelTable.{close_turn}
use Rattle.sshc_mux.specs.ChannelAccount.{AskClose, close_part}
use Rattle.sshc_mux.proofs.TurnLemmas.{close_moves}
use Rattle.sshc_mux.proofs.ShapeLemmas.{asking_close}
use Rattle.std.proofs.Common.{arith}
use Rattle.sshc_mux.proofs.TableLemmas.{held, did_turn, silent_turn}
use Rattle.sshc_mux.proofs.LegalLemmas.{did_part_ok}
use Rattle.sshc_mux.proofs.KeptLemmas.{some_wait, room_left, kept_turn}
use Rattle.sshc_mux.proofs.table.ChannelTable.close_own.Goals as goal

pub recounted-self-inside-requires-clause-some : goal.recounted-self-inside-requires-clause-some
recounted-self-inside-requires-clause-some c =
    some_wait _ _ _ _ _ _ _ _ (held _ _ _ _ _ _ c.as_slice.ensures.value c.in-Some.ensures c.index_mut.ensures.value c.in-Some-index_mut.is) c.self.invariant c.waits-waited.ensures

pub recounted-self-inside-requires-clause-room : goal.recounted-self-inside-requires-clause-room
recounted-self-inside-requires-clause-room c =
    room_left _ _ _ _ _ _ _ _ _ (held _ _ _ _ _ _ c.as_slice.ensures.value c.in-Some.ensures c.index_mut.ensures.value c.in-Some-index_mut.is) c.self.invariant c.as_slice.ensures.value (omega arith) c.waits-waited.ensures

pub invariant_of-self-2 : goal.invariant_of-self-2
invariant_of-self-2 c =
    kept_turn close_turn asking_close _ _ _ _ _ _ _ _ _ c.args.out.now c.ask_close-result.new.out c.ask_close-result.result (λ x sound. (close_part, close_moves x sound))
    (held _ _ _ _ _ _ c.as_slice.ensures.value c.in-Some.ensures c.index_mut.ensures.value c.in-Some-index_mut.is) c.self.invariant (rw (← c.waits-waited.ensures, ← c.waits.ensures) c.recounted-self-inside.ensures) c.ask_close-result.ensures.turn

pub returns-clause-did : goal.returns-clause-did
returns-clause-did c = rw (← c.self.view_is) (did_turn _ _ _ _ _ _ _ c.args.out.now c.ask_close-result.new.out c.ask_close-result.result (held _ _ _ _ _ _ c.as_slice.ensures.value c.in-Some.ensures c.index_mut.ensures.value c.in-Some-index_mut.is) c.ask_close-result.ensures.turn)

pub returns-clause-part : goal.returns-clause-part
returns-clause-part c = did_part_ok (AskClose c.args.id.0) _ _ c.args.out.now c.ask_close-result.new.out c.ask_close-result.result (rw (← c.self.view_is) c.self.invariant.1) (returns-clause-did c)

pub returns-clause-succeeds : goal.returns-clause-succeeds
returns-clause-succeeds c =
    rw (← c.self.view_is) (λ nothing. c.ask_close-result.ensures.succeeds (silent_turn _ _ c.self.inside.last close_turn _ _
    (held _ _ _ _ _ _ c.as_slice.ensures.value c.in-Some.ensures c.index_mut.ensures.value c.in-Some-index_mut.is) nothing))
