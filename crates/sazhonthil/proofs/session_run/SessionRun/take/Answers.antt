use Rattle.sazhonthil.proofs.session_run.SessionRun.take.Goals as goal

pub returns : goal.returns
returns c = record {
  takes = rw (← c.self.view_is)
      (record {
        step = c.take_kept-step.result;
        calls = _;
        lines = _;
        takes = c.take_kept-step.ensures.takes;
        left = c.take_kept-step.ensures.records;
        answers = c.answer_of-answer.ensures;
      });
}
