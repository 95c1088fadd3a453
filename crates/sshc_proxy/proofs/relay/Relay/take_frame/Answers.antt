use Rattle.sshc_proxy.specs.ProxyRun.{terms}
use Rattle.sshc_proxy.proofs.TakingLemmas.{asks, frame_taken, ignores, replies, starves}
use Rattle.sshc_proxy.proofs.relay.Relay.take_frame.Goals as goal

pub returns-in-Forward : goal.returns-in-Forward
returns-in-Forward g c =
    let does = rw (c.as_slice.ensures.value, c.in-Forward.is) at c.take_frame.ensures.row in
    record {
      turned = λ before policy r.
          let t = terms (g.V.Verifier.accepts c.args.verifier.now) policy in
          c.ask.ensures.turned t before (rw c.as_slice-in-Forward.ensures.same (asks t before _ _ _ _ (frame_taken t before _ _ _ _ _ r does)));
    }

pub returns-in-Answer : goal.returns-in-Answer
returns-in-Answer g c =
    let does = rw (c.as_slice.ensures.value, c.in-Answer.is) at c.take_frame.ensures.row in
    record {
      turned = λ before policy r.
          let t = terms (g.V.Verifier.accepts c.args.verifier.now) policy in
          c.reply.ensures.turned t before _ _ (rw c.as_slice-in-Answer.ensures.same (replies t before _ _ _ _ (frame_taken t before _ _ _ _ _ r does)));
    }

pub returns-in-Nothing : goal.returns-in-Nothing
returns-in-Nothing g c =
    let does = rw (c.as_slice.ensures.value, c.in-Nothing.is) at c.take_frame.ensures.row in
    record {
      turned = λ before policy r. let t = terms (g.V.Verifier.accepts c.args.verifier.now) policy in ignores t before _ _ _ (frame_taken t before _ _ _ _ _ r does);
    }

pub returns-in-NoMemory : goal.returns-in-NoMemory
returns-in-NoMemory g c =
    let does = rw (c.as_slice.ensures.value, c.in-NoMemory.is) at c.take_frame.ensures.row in
    record {
      turned = λ before policy r. let t = terms (g.V.Verifier.accepts c.args.verifier.now) policy in starves t before _ _ _ (frame_taken t before _ _ _ _ _ r does);
    }
