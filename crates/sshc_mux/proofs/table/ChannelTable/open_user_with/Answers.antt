use Rattle.std.proofs.Common.{◌≡◌, ℕ, Option, Some, ap, arith, sym, ◌∙◌}
use Rattle.sshc_mux.specs.ChannelTable.Opens.{next_number, opened_by_user}
use Rattle.sshc_mux.specs.ChannelAccount.{opened, OpenUser}
use Rattle.sshc_mux.proofs.LegalLemmas.{new_user, did_part}
use Rattle.sshc_mux.proofs.TableLemmas.{pushed}
use Rattle.sshc_mux.proofs.KeptLemmas.{kept_put}
use Rattle.sshc_mux.proofs.table.ChannelTable.open_user_with.Goals as goal

pub invariant_of-self-2 : goal.invariant_of-self-2
invariant_of-self-2 c =
    kept_put _ _ _ _ _ c.reserve-2.new.self c.insert.new.self _ _ _ _ _ _ c.insert.result (c.insert.ensures.succeeds (omega (arith, c.in_ok-reserve-2.ensures.ok))) c.self.invariant c.in_ok-reserve-2.ensures.entries.1 c.in_ok-reserve-2.ensures.entries.2
    c.as_slice.ensures.value c.in_ok-number.ensures.new.free (new_user _ _ _ _) c.opened_by_user-channel.ensures c.in_ok-reserve.ensures.items (c.len.ensures ∙ c.in_ok-reserve.ensures.len ∙ sym c.as_slice.ensures.len)
    c.insert.ensures.updates c.insert.ensures.old c.insert.ensures.len c.push_reserved.ensures.items

pub returns-clause-called : goal.returns-clause-called
returns-clause-called c =
    let next : next_number c.args.self.now ≡ Some c.in_ok-number.number = rw (← c.self.view_is) (rw c.as_slice.ensures.value at c.in_ok-number.ensures.new.next) in
    rw (← c.self.view_is) (pushed _ _ _ _ _ _ c.in_ok-reserve.ensures.items c.push_reserved.ensures.items c.opened_by_user-channel.ensures)
    ∙ ap (λ (o : Option ℕ). (opened o (λ n. opened_by_user n c.args.window c.args.packet_size c.args.ticket) c.args.self.now).table) (sym next)

pub returns-clause-part : goal.returns-clause-part
returns-clause-part c = did_part (OpenUser c.args.window c.args.packet_size c.args.ticket) _ _ (rw (← c.self.view_is) c.self.invariant.1) (returns-clause-called c)
