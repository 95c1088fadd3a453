use Rattle.sshc_key.proofs.LineLemmas.{not_read_fault}
use Rattle.sshc_key.proofs.key_files.load_public_key.Goals as goal

pub returns-in-Ok-Text-clause-cause : goal.returns-in-Ok-Text-clause-cause
returns-in-Ok-Text-clause-cause g c = record {
  later = c.read_text.ensures.cause.later;
  same = λ no. c.read_text.ensures.cause.same (λ e. absurd cc);
  fault = λ is. absurd (not_read_fault _ _ c.public_key_text.ensures is);
}
