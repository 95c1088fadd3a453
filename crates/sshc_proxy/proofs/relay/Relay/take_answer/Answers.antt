use Rattle.sshc_proxy.proofs.TakingLemmas.{answer_taken, ignores, never_forwarded, replies, starves}
use Rattle.sshc_proxy.proofs.relay.Relay.take_answer.Goals as goal

pub returns-in-Answer : goal.returns-in-Answer
returns-in-Answer g c = record {
  turned = λ t before agent r.
      let does = rw (c.as_slice.ensures.value, c.in-Answer.is) at c.take_answer.ensures.row t.accepts in
      c.reply.ensures.turned t before _ _ (rw c.as_slice-in-Answer.ensures.same (replies t before _ _ _ _ (answer_taken t before _ _ _ _ _ r does)));
}

pub returns-in-Forward : goal.returns-in-Forward
returns-in-Forward g c = record {
  turned = λ t before agent r.
      let does = rw (c.as_slice.ensures.value, c.in-Forward.is) at c.take_answer.ensures.row t.accepts in
      absurd (never_forwarded t before before _ _ _ _ does);
}

pub returns-in-Nothing : goal.returns-in-Nothing
returns-in-Nothing g c = record {
  turned = λ t before agent r.
      let does = rw (c.as_slice.ensures.value, c.in-Nothing.is) at c.take_answer.ensures.row t.accepts in
      ignores t before _ _ _ (answer_taken t before _ _ _ _ _ r does);
}

pub returns-in-NoMemory : goal.returns-in-NoMemory
returns-in-NoMemory g c = record {
  turned = λ t before agent r.
      let does = rw (c.as_slice.ensures.value, c.in-NoMemory.is) at c.take_answer.ensures.row t.accepts in
      starves t before _ _ _ (answer_taken t before _ _ _ _ _ r does);
}
