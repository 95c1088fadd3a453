use Rattle.sshc_handle_state.proofs.DealingLemmas.{by_err, dealt_first, dealt_front, dealt_last, dealt_none}
use Rattle.sshc_handle_state.proofs.dealing.deal.Goals as goal

pub records-init : goal.records-init
records-init g c = dealt_none _ _ _ _

pub records-preserved : goal.records-preserved
records-preserved g c = dealt_first _ _ _ _ _ _ _ _ _ _ _ _ c.records.invariant (rw c.if-branch.true at c.in_ok-deal_first.ensures)

pub returns-in_err-deal_first : goal.returns-in_err-deal_first
returns-in_err-deal_first g c =
    by_err _ _ _ _ _ _ _ _ c.from_residual.ensures.0
    (dealt_front _ _ _ _ _ _ _ _ _ _ _ c.records.invariant c.in_err-deal_first.ensures)

pub returns : goal.returns
returns g c = dealt_last _ _ c.deal_first.new.output.records _ _ _ _ _ _ _ _ _ c.records.invariant (rw c.if-branch.false at c.in_ok-deal_first.ensures)
