use Rattle.std.proofs.Common.{◌≡◌, ◌+◌, Bool, true, false, arith, rules, if◌then◌else◌, ap, sym, subst, ◌∙◌}
use Rattle.sshc_mux.specs.ChannelState.{ChannelState, TableState, without}
use Rattle.sshc_mux.specs.ChannelTable.{waits, no_packets_of, accept_turn, settle}
use Rattle.sshc_mux.specs.ChannelTable.Opens.{accepted, is_reserved}
use Rattle.sshc_mux.specs.ChannelAccount.{IsSound, SettleServer}
use Rattle.sshc_mux.specs.Places.{Slots, present}
use Rattle.sshc_mux.proofs.TurnLemmas.{accepted_sound}
use Rattle.sshc_mux.proofs.LegalLemmas.{did_part}
use Rattle.sshc_mux.proofs.TableLemmas.{table_of, held, same_slots, settle_nothing, did_set, did_take}
use Rattle.sshc_mux.proofs.KeptLemmas.{some_wait, room_left, kept_set, kept_remove}
use Rattle.sshc_mux.proofs.table.ChannelTable.settle_server.Goals as goal

pub recounted-self-inside-requires-clause-some : goal.recounted-self-inside-requires-clause-some
recounted-self-inside-requires-clause-some c = some_wait _ _ _ _ _ _ _ _ (held _ _ _ _ _ _ c.as_slice.ensures.value c.in-Some.ensures c.index_mut.ensures.value c.in-Some-index_mut.is) c.self.invariant c.waits.ensures

pub recounted-self-inside-requires-clause-room : goal.recounted-self-inside-requires-clause-room
recounted-self-inside-requires-clause-room c = room_left _ _ _ _ _ _ _ _ _ (held _ _ _ _ _ _ c.as_slice.ensures.value c.in-Some.ensures c.index_mut.ensures.value c.in-Some-index_mut.is) c.self.invariant c.as_slice.ensures.value (omega arith) c.waits.ensures

pub invariant_of-self-then-accept : goal.invariant_of-self-then-accept
invariant_of-self-then-accept c =
    kept_set _ _ _ _ _ _ _ _ _ (held _ _ _ _ _ _ c.as_slice.ensures.value c.in-Some.ensures c.index_mut.ensures.value c.in-Some-index_mut.is) c.self.invariant (ap (λ (d : ChannelState). d.head.number) c.accept.ensures)
    (λ sound. subst (λ (d : ChannelState). IsSound d) (sym c.accept.ensures) (accepted_sound _ sound))
    (ap (λ (d : ChannelState). c.self.inside.waiting + (if waits d then 1 else 0)) (sym c.accept.ensures))

pub invariant_of-self-2 : goal.invariant_of-self-2
invariant_of-self-2 c = kept_remove _ _ _ _ _ _ _ _ _ _ (held _ _ _ _ _ _ c.as_slice.ensures.value c.in-Some.ensures c.index_mut.ensures.value c.in-Some-index_mut.is) c.self.invariant (c.remove.ensures.left ∙ ap (λ (s : Slots). without c.args.id.0 (present s)) (same_slots _ _ _ _ (held _ _ _ _ _ _ c.as_slice.ensures.value c.in-Some.ensures c.index_mut.ensures.value c.in-Some-index_mut.is))) c.remove.ensures.indexed _ c.waits.ensures c.recounted-self-inside.ensures

pub returns-in_default-clause-part : goal.returns-in_default-clause-part
returns-in_default-clause-part c = did_part (SettleServer c.args.id.0 c.args.accept) _ _ (rw (← c.self.view_is) c.self.invariant.1) (search rules)

pub returns-then-not-is_reserved-clause-part : goal.returns-then-not-is_reserved-clause-part
returns-then-not-is_reserved-clause-part c =
    let stays : is_reserved c.in-Some-index_mut.channel ≡ false = cc in
    rw (← c.self.view_is) (did_part (SettleServer c.args.id.0 c.args.accept) _ _ c.self.invariant.1 (ap (λ (s : Slots). table_of s c.self.inside.last) (same_slots _ _ _ _ (held _ _ _ _ _ _ c.as_slice.ensures.value c.in-Some.ensures c.index_mut.ensures.value c.in-Some-index_mut.is)) ∙ settle_nothing c.args.accept _ _ _ _ _ (held _ _ _ _ _ _ c.as_slice.ensures.value c.in-Some.ensures c.index_mut.ensures.value c.in-Some-index_mut.is) stays))

pub returns-then-accept-clause-part : goal.returns-then-accept-clause-part
returns-then-accept-clause-part c =
    let x : ChannelState = c.in-Some-index_mut.channel in
    let waits_so : is_reserved x ≡ true = cc in
    let t : TableState = table_of c.self.inside.slots.items c.self.inside.last in
    rw (← c.self.view_is) (did_part (SettleServer c.args.id.0 c.args.accept) _ _ c.self.invariant.1 (did_set _ _ _ accept_turn _ _ _ (held _ _ _ _ _ _ c.as_slice.ensures.value c.in-Some.ensures c.index_mut.ensures.value c.in-Some-index_mut.is) (c.accept.ensures ∙ ap (λ (b : Bool). if b then accepted x else x) (sym waits_so)) ∙ ap (λ (b : Bool). (settle c.args.id.0 b t).table) (sym c.if-accept.true)))

pub returns-clause-part : goal.returns-clause-part
returns-clause-part c =
    let t : TableState = table_of c.self.inside.slots.items c.self.inside.last in
    let goes : is_reserved c.in-Some-index_mut.channel ≡ true = cc in
    rw (← c.self.view_is) (did_part (SettleServer c.args.id.0 c.args.accept) _ _ c.self.invariant.1 (did_take _ _ _ is_reserved no_packets_of _ c.remove.new.slots.items _ (held _ _ _ _ _ _ c.as_slice.ensures.value c.in-Some.ensures c.index_mut.ensures.value c.in-Some-index_mut.is) goes ((c.remove.ensures.left ∙ ap (λ (s : Slots). without c.args.id.0 (present s)) (same_slots _ _ _ _ (held _ _ _ _ _ _ c.as_slice.ensures.value c.in-Some.ensures c.index_mut.ensures.value c.in-Some-index_mut.is)))) ∙ ap (λ (b : Bool). (settle c.args.id.0 b t).table) (sym c.if-accept.false)))
