use Rattle.sshc_mux.specs.ChannelTable.{grant_turn}
use Rattle.sshc_mux.specs.ChannelAccount.{Grant, grant_part}
use Rattle.sshc_mux.proofs.TurnLemmas.{grant_moves}
use Rattle.sshc_mux.proofs.ShapeLemmas.{granting}
use Rattle.std.proofs.Common.{arith}
use Rattle.sshc_mux.proofs.TableLemmas.{held, did_turn, silent_turn}
use Rattle.sshc_mux.proofs.LegalLemmas.{did_part_ok}
use Rattle.sshc_mux.proofs.KeptLemmas.{some_wait, room_left, kept_turn}
use Rattle.sshc_mux.proofs.table.ChannelTable.grant.Goals as goal

pub recounted-self-inside-requires-clause-some : goal.recounted-self-inside-requires-clause-some
recounted-self-inside-requires-clause-some c =
    some_wait _ _ _ _ _ _ _ _ (held _ _ _ _ _ _ c.as_slice.ensures.value c.in-Some.ensures c.index_mut.ensures.value c.in-Some-index_mut.is) c.self.invariant c.waits-waited.ensures

pub recounted-self-inside-requires-clause-room : goal.recounted-self-inside-requires-clause-room
recounted-self-inside-requires-clause-room c =
    room_left _ _ _ _ _ _ _ _ _ (held _ _ _ _ _ _ c.as_slice.ensures.value c.in-Some.ensures c.index_mut.ensures.value c.in-Some-index_mut.is) c.self.invariant c.as_slice.ensures.value (omega arith) c.waits-waited.ensures

pub invariant_of-self-2 : goal.invariant_of-self-2
invariant_of-self-2 c =
    kept_turn (grant_turn c.args.amount c.args.exchanging) (granting c.args.amount c.args.exchanging) _ _ _ _ _ _ _ _ _ c.args.out.now c.grant-left.new.out c.grant-left.result (λ x sound. (grant_part c.args.amount c.args.exchanging x, grant_moves c.args.amount c.args.exchanging x sound))
    (held _ _ _ _ _ _ c.as_slice.ensures.value c.in-Some.ensures c.index_mut.ensures.value c.in-Some-index_mut.is) c.self.invariant (rw (← c.waits-waited.ensures, ← c.waits.ensures) c.recounted-self-inside.ensures) c.grant-left.ensures.turn

pub returns-clause-granted : goal.returns-clause-granted
returns-clause-granted c = rw (← c.self.view_is) (did_turn _ _ _ _ _ _ _ c.args.out.now c.grant-left.new.out c.grant-left.result (held _ _ _ _ _ _ c.as_slice.ensures.value c.in-Some.ensures c.index_mut.ensures.value c.in-Some-index_mut.is) c.grant-left.ensures.turn)

pub returns-clause-part : goal.returns-clause-part
returns-clause-part c = did_part_ok (Grant c.args.id.0 c.args.amount c.args.exchanging) _ _ c.args.out.now c.grant-left.new.out c.grant-left.result (rw (← c.self.view_is) c.self.invariant.1) (returns-clause-granted c)

pub returns-clause-succeeds : goal.returns-clause-succeeds
returns-clause-succeeds c =
    rw (← c.self.view_is) (λ nothing. c.grant-left.ensures.succeeds (silent_turn _ _ c.self.inside.last (grant_turn c.args.amount c.args.exchanging) _ _
    (held _ _ _ _ _ _ c.as_slice.ensures.value c.in-Some.ensures c.index_mut.ensures.value c.in-Some-index_mut.is) nothing))
