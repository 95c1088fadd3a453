use Rattle.std.proofs.Common.{◌≡◌, Option, is_some, true, false, ap, arith, ◌∙◌, sym}
use Rattle.sshc_wire.specs.declared.ticket.Ticket.{Ticket}
use Rattle.sshc_mux.specs.ChannelTable.{is_awaited, no_packets_of}
use Rattle.sshc_mux.specs.ChannelAccount.{Fail}
use Rattle.sshc_mux.proofs.LegalLemmas.{did_part}
use Rattle.sshc_mux.proofs.TableLemmas.{held, take_nothing, did_take}
use Rattle.sshc_mux.proofs.KeptLemmas.{some_wait, room_left, kept_remove}
use Rattle.sshc_mux.proofs.table.ChannelTable.fail.Goals as goal

pub recounted-self-inside-requires-clause-some : goal.recounted-self-inside-requires-clause-some
recounted-self-inside-requires-clause-some c = some_wait _ _ _ _ _ _ _ _ (held _ _ _ _ _ _ c.as_slice.ensures.value c.in-Some.ensures c.index.ensures c.in-Some-index.is) c.self.invariant c.waits.ensures

pub recounted-self-inside-requires-clause-room : goal.recounted-self-inside-requires-clause-room
recounted-self-inside-requires-clause-room c = room_left _ _ _ _ _ _ _ _ _ (held _ _ _ _ _ _ c.as_slice.ensures.value c.in-Some.ensures c.index.ensures c.in-Some-index.is) c.self.invariant c.as_slice.ensures.value (omega arith) c.waits.ensures

pub invariant_of-self : goal.invariant_of-self
invariant_of-self c = kept_remove _ _ _ _ _ _ _ _ _ _ (held _ _ _ _ _ _ c.as_slice.ensures.value c.in-Some.ensures c.index.ensures c.in-Some-index.is) c.self.invariant c.remove.ensures.left c.remove.ensures.indexed _ c.waits.ensures c.recounted-self-inside.ensures

pub returns-in_default-awaited-clause-part : goal.returns-in_default-awaited-clause-part
returns-in_default-awaited-clause-part c =
    let stays : is_awaited c.in-Some-index.channel ≡ false = ap (λ (o : Option (Option Ticket)). is_some o) (sym c.awaited.ensures ∙ c.in_default-awaited.is) in
    rw (← c.self.view_is) (did_part (Fail c.args.id.0) _ _ c.self.invariant.1 (take_nothing _ _ _ is_awaited no_packets_of _ _ (held _ _ _ _ _ _ c.as_slice.ensures.value c.in-Some.ensures c.index.ensures c.in-Some-index.is) stays))

pub returns-clause-part : goal.returns-clause-part
returns-clause-part c =
    let goes : is_awaited c.in-Some-index.channel ≡ true = ap (λ (o : Option (Option Ticket)). is_some o) (sym c.awaited.ensures ∙ c.in-Some-awaited.is) in
    rw (← c.self.view_is) (did_part (Fail c.args.id.0) _ _ c.self.invariant.1 (did_take _ _ _ is_awaited no_packets_of _ c.remove.new.slots.items _ (held _ _ _ _ _ _ c.as_slice.ensures.value c.in-Some.ensures c.index.ensures c.in-Some-index.is) goes c.remove.ensures.left))
