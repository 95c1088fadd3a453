use Rattle.sshc_run.proofs.words.run_other_words.Goals as goal

pub returns-in-None-clause-hosts : goal.returns-in-None-clause-hosts
returns-in-None-clause-hosts g c = λ asked asks. absurd (c.in-None.ensures.hosts asked asks)
