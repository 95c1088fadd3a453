use Rattle.std.proofs.Common.{refl}
use Rattle.sshc_run.proofs.ScriptArguments.{one_script}
use Rattle.sshc_run.proofs.words.run_words.Goals as goal

pub returns-in-Some-clause-script : goal.returns-in-Some-clause-script
returns-in-Some-clause-script g c = λ host port path is.
    let same = one_script c.args.words.now _ host _ port _ path c.in-Some.ensures.some is in
    rw (same.0, same.1, same.2) c.run_script_words.ensures.gives

pub returns-in-Some-clause-other : goal.returns-in-Some-clause-other
returns-in-Some-clause-other g c = λ none. absurd (none _ _ _ c.in-Some.ensures.some)

pub returns-in-Some-clause-untouched : goal.returns-in-Some-clause-untouched
returns-in-Some-clause-untouched g c = λ none. absurd (none _ _ _ c.in-Some.ensures.some)

pub returns-in-Some-gen_words-clause-other : goal.returns-in-Some-gen_words-clause-other
returns-in-Some-gen_words-clause-other g c = λ no_script none. absurd (none _ _ c.in-Some-gen_words.ensures.some)

pub returns-in-None-gen_words-clause-script : goal.returns-in-None-gen_words-clause-script
returns-in-None-gen_words-clause-script g c = λ host port path is. absurd (c.in-None.ensures.none refl host port path is)

pub returns-in-None-gen_words-clause-generated : goal.returns-in-None-gen_words-clause-generated
returns-in-None-gen_words-clause-generated g c = λ seed count is. absurd (c.in-None-gen_words.ensures.none refl seed count is)
