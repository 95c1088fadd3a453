use Rattle.sshc_mux.specs.ChannelTable.{eof_turn}
use Rattle.sshc_mux.specs.ChannelAccount.{AskEof, eof_part}
use Rattle.sshc_mux.proofs.TurnLemmas.{eof_moves}
use Rattle.sshc_mux.proofs.ShapeLemmas.{asking_eof}
use Rattle.std.proofs.Common.{arith}
use Rattle.sshc_mux.proofs.TableLemmas.{held, did_turn, silent_turn}
use Rattle.sshc_mux.proofs.LegalLemmas.{did_part_ok}
use Rattle.sshc_mux.proofs.KeptLemmas.{some_wait, room_left, kept_turn}
use Rattle.sshc_mux.proofs.table.ChannelTable.eof.Goals as goal

pub recounted-self-inside-requires-clause-some : goal.recounted-self-inside-requires-clause-some
recounted-self-inside-requires-clause-some c =
    some_wait _ _ _ _ _ _ _ _ (held _ _ _ _ _ _ c.as_slice.ensures.value c.in-Some.ensures c.index_mut.ensures.value c.in-Some-index_mut.is) c.self.invariant c.waits-waited.ensures

pub recounted-self-inside-requires-clause-room : goal.recounted-self-inside-requires-clause-room
recounted-self-inside-requires-clause-room c =
    room_left _ _ _ _ _ _ _ _ _ (held _ _ _ _ _ _ c.as_slice.ensures.value c.in-Some.ensures c.index_mut.ensures.value c.in-Some-index_mut.is) c.self.invariant c.as_slice.ensures.value (omega arith) c.waits-waited.ensures

pub invariant_of-self-2 : goal.invariant_of-self-2
invariant_of-self-2 c =
    kept_turn eof_turn asking_eof _ _ _ _ _ _ _ _ _ c.args.out.now c.ask_eof-result.new.out c.ask_eof-result.result (λ x sound. (eof_part x, eof_moves x sound))
    (held _ _ _ _ _ _ c.as_slice.ensures.value c.in-Some.ensures c.index_mut.ensures.value c.in-Some-index_mut.is) c.self.invariant (rw (← c.waits-waited.ensures, ← c.waits.ensures) c.recounted-self-inside.ensures) c.ask_eof-result.ensures.turn

pub returns-clause-did : goal.returns-clause-did
returns-clause-did c = rw (← c.self.view_is) (did_turn _ _ _ _ _ _ _ c.args.out.now c.ask_eof-result.new.out c.ask_eof-result.result (held _ _ _ _ _ _ c.as_slice.ensures.value c.in-Some.ensures c.index_mut.ensures.value c.in-Some-index_mut.is) c.ask_eof-result.ensures.turn)

pub returns-clause-part : goal.returns-clause-part
returns-clause-part c = did_part_ok (AskEof c.args.id.0) _ _ c.args.out.now c.ask_eof-result.new.out c.ask_eof-result.result (rw (← c.self.view_is) c.self.invariant.1) (returns-clause-did c)

pub returns-clause-succeeds : goal.returns-clause-succeeds
returns-clause-succeeds c =
    rw (← c.self.view_is) (λ nothing. c.ask_eof-result.ensures.succeeds (silent_turn _ _ c.self.inside.last eof_turn _ _
    (held _ _ _ _ _ _ c.as_slice.ensures.value c.in-Some.ensures c.index_mut.ensures.value c.in-Some-index_mut.is) nothing))
