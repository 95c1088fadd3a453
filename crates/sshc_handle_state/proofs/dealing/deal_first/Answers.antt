use Rattle.sshc_handle_state.proofs.DealingLemmas.{deals_none, deals_nothing, first_err, first_packet}
use Rattle.sshc_handle_state.proofs.dealing.deal_first.Goals as goal

pub returns-in_err-hand : goal.returns-in_err-hand
returns-in_err-hand g c = first_err _ _ _ _ _ _ _ _ _ c.from_residual.ensures.0 (deals_none _ _ _ _ _ c.in_err-hand.ensures.err)

pub returns-in-Some : goal.returns-in-Some
returns-in-Some g c = first_packet _ _ _ _ _ _ _ _ c.in-Some.ensures.same c.drop_first.ensures.0 c.in_ok-hand.ensures.ok

pub returns-in_err-record : goal.returns-in_err-record
returns-in_err-record g c = first_err _ _ _ _ _ _ _ _ _ c.from_residual-in_err-record.ensures.0 (deals_nothing _ _ _)

pub returns-in-None : goal.returns-in-None
returns-in-None g c = ((rw c.in-None.is at c.in_ok-record.ensures.ok).0, deals_nothing _ _ _)
