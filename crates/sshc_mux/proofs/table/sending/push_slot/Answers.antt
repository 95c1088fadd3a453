use Rattle.sshc_mux.proofs.TableLemmas.{slot_alone, slot_silent}
use Rattle.sshc_mux.proofs.table.sending.push_slot.Goals as goal

pub returns-in-Some-clause-output : goal.returns-in-Some-clause-output
returns-in-Some-clause-output c = rw c.in-Some.is (rw (slot_alone c.in-Some.channel) c.push_flushed.ensures.output)

pub returns-in-Some-clause-succeeds : goal.returns-in-Some-clause-succeeds
returns-in-Some-clause-succeeds c = rw c.in-Some.is (λ nothing. c.push_flushed.ensures.succeeds (slot_silent c.in-Some.channel nothing))
