use Rattle.std.proofs.Common.{◌≡◌, ◌+◌, Bool, true, false, if◌then◌else◌, Option, Some, is_some, ap, sym, subst, ◌∙◌}
use Rattle.sshc_wire.specs.declared.ticket.Ticket.{Ticket}
use Rattle.sshc_mux.specs.ChannelState.{ChannelState}
use Rattle.sshc_mux.specs.ChannelTable.{waits, confirm_turn}
use Rattle.sshc_mux.specs.ChannelTable.Opens.{awaited_by, confirmed}
use Rattle.sshc_mux.specs.ChannelAccount.{IsSound, Confirm}
use Rattle.sshc_mux.proofs.TurnLemmas.{confirmed_sound}
use Rattle.sshc_mux.proofs.LegalLemmas.{did_part}
use Rattle.sshc_mux.proofs.TableLemmas.{held, did_set}
use Rattle.sshc_mux.proofs.KeptLemmas.{kept_set}
use Rattle.sshc_mux.proofs.table.ChannelTable.confirm.Goals as goal

pub invariant_of-self-2 : goal.invariant_of-self-2
invariant_of-self-2 c =
    kept_set _ _ _ _ _ _ _ _ _ (held _ _ _ _ _ _ c.as_slice.ensures.value c.in-Some.ensures c.index_mut.ensures.value c.in-Some-index_mut.is) c.self.invariant (ap (λ (d : ChannelState). d.head.number) c.confirm.ensures)
    (λ sound. subst (λ (d : ChannelState). IsSound d) (sym c.confirm.ensures) (confirmed_sound _ _ _ _ sound))
    (ap (λ (d : ChannelState). c.self.inside.waiting + (if waits d then 1 else 0)) (sym c.confirm.ensures))

pub returns-in_default-awaited-clause-part : goal.returns-in_default-awaited-clause-part
returns-in_default-awaited-clause-part c =
    let x : ChannelState = c.in-Some-index_mut.channel in
    let none : is_some (awaited_by (Some x)) ≡ false = ap (λ (o : Option (Option Ticket)). is_some o) (sym c.awaited.ensures ∙ c.in_default-awaited.is) in
    rw (← c.self.view_is) (did_part (Confirm c.args.id.0 c.args.recipient c.args.window c.args.packet) _ _ c.self.invariant.1 (did_set _ _ _ (confirm_turn c.args.recipient c.args.window c.args.packet) _ _ _ (held _ _ _ _ _ _ c.as_slice.ensures.value c.in-Some.ensures c.index_mut.ensures.value c.in-Some-index_mut.is) (ap (λ (b : Bool). if b then confirmed c.args.recipient c.args.window c.args.packet x else x) (sym none))))

pub returns-clause-part : goal.returns-clause-part
returns-clause-part c =
    let x : ChannelState = c.in-Some-index_mut.channel in
    let waits_so : is_some (awaited_by (Some x)) ≡ true = ap (λ (o : Option (Option Ticket)). is_some o) (sym c.awaited.ensures ∙ c.in-Some-awaited.is) in
    rw (← c.self.view_is) (did_part (Confirm c.args.id.0 c.args.recipient c.args.window c.args.packet) _ _ c.self.invariant.1 (did_set _ _ _ (confirm_turn c.args.recipient c.args.window c.args.packet) _ _ _ (held _ _ _ _ _ _ c.as_slice.ensures.value c.in-Some.ensures c.index_mut.ensures.value c.in-Some-index_mut.is) (c.confirm.ensures ∙ ap (λ (b : Bool). if b then confirmed c.args.recipient c.args.window c.args.packet x else x) (sym waits_so))))
