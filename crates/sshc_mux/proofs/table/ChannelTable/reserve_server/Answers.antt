use Rattle.std.proofs.Common.{◌≡◌, ℕ, Option, Some, ap, sym, ◌∙◌}
use Rattle.sshc_mux.specs.ChannelTable.Opens.{next_number, reserved_by_server}
use Rattle.sshc_mux.specs.ChannelAccount.{opened, ReserveServer}
use Rattle.sshc_mux.proofs.LegalLemmas.{new_server, did_part}
use Rattle.sshc_mux.proofs.TableLemmas.{pushed}
use Rattle.sshc_mux.proofs.KeptLemmas.{kept_push}
use Rattle.sshc_mux.proofs.table.ChannelTable.reserve_server.Goals as goal

pub invariant_of-self-2 : goal.invariant_of-self-2
invariant_of-self-2 c =
    kept_push _ _ _ _ _ _ _ _ _ _ _ _ _ c.self.invariant c.as_slice.ensures.value c.in_ok-number.ensures.new.free (new_server _ _ _ _ _) c.reserved_by_server-channel.ensures
    c.in_ok-reserve.ensures.items (c.len.ensures ∙ c.in_ok-reserve.ensures.len ∙ sym c.as_slice.ensures.len) c.in_ok-insert.ensures.updates.0 c.in_ok-insert.ensures.old c.in_ok-insert.ensures.len c.push_reserved.ensures.items

pub returns-clause-made : goal.returns-clause-made
returns-clause-made c = rw (← c.self.view_is) (pushed _ _ _ _ _ _ c.in_ok-reserve.ensures.items c.push_reserved.ensures.items c.reserved_by_server-channel.ensures)

pub returns-clause-called : goal.returns-clause-called
returns-clause-called c =
    let next : next_number c.args.self.now ≡ Some c.in_ok-number.number = rw (← c.self.view_is) (rw c.as_slice.ensures.value at c.in_ok-number.ensures.new.next) in
    returns-clause-made c ∙ ap (λ (o : Option ℕ). (opened o (λ n. reserved_by_server n c.args.recipient c.args.window c.args.packet c.args.own) c.args.self.now).table) (sym next)

pub returns-clause-part : goal.returns-clause-part
returns-clause-part c = did_part (ReserveServer c.args.recipient c.args.window c.args.packet c.args.own) _ _ (rw (← c.self.view_is) c.self.invariant.1) (returns-clause-called c)
