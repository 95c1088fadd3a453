use Rattle.std.proofs.Common.{refl}
use Rattle.sshc_audit.proofs.WordsLemmas.{audits_apart}
use Rattle.sshc_audit.proofs.words.audit_words.Goals as goal

pub returns-in-Some-clause-words : goal.returns-in-Some-clause-words
returns-in-Some-clause-words g c = λ e asked asks. audits_apart _ _ _ _ c.run_asked.ensures.audits e

pub returns-in-None-clause-words : goal.returns-in-None-clause-words
returns-in-None-clause-words g c = λ e asked asks. c.in-None.ensures.none refl asked asks
