use Rattle.std.proofs.Common.{ℕ, List, ap, sym, ◌∙◌}
use Rattle.sshc_wire.specs.declared.record.Record.TheVariants.{Payload}
use Rattle.sshc_handle_state.proofs.DealingLemmas.{on_ok, on_err, deals_none, deals_payload, deals_exchange, deals_stay, deals_told, no_handing}
use Rattle.sshc_handle_state.proofs.dealing.deal_one.Goals as goal

pub returns-in-Payload-clause-ok : goal.returns-in-Payload-clause-ok
returns-in-Payload-clause-ok g c = on_ok _ (deals_payload _ _ _ _ _ _ _ (c.in-Payload.is ∙ ap (λ (o : List ℕ). Payload o) (sym c.as_slice.ensures.same))) c.hand.ensures.ok

pub returns-in-Payload-clause-err : goal.returns-in-Payload-clause-err
returns-in-Payload-clause-err g c = on_err _ (deals_none _ _ _ _ _) c.hand.ensures.err

pub returns-in-BeginExchange-clause-ok : goal.returns-in-BeginExchange-clause-ok
returns-in-BeginExchange-clause-ok g c = on_ok _ (deals_exchange _ _ _ _ _ _ c.in-BeginExchange.is) c.begin.ensures.ok

pub returns-in-BeginExchange-clause-err : goal.returns-in-BeginExchange-clause-err
returns-in-BeginExchange-clause-err g c = on_err _ (deals_none _ _ _ _ _) c.begin.ensures.err

pub returns-in_default : goal.returns-in_default
returns-in_default g c =
    let none = no_handing c.args.output c.in_default.not-Payload c.in_default.not-BeginExchange in
    record {
      ok = on_ok c.tell.result (deals_told _ _ _ _ _ none) c.tell.ensures.ok;
      err = on_err c.tell.result (deals_stay _ _ _ _) c.tell.ensures.err;
    }
