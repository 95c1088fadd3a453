use Rattle.std.proofs.Common.{rules}
use Rattle.sshc_ask.proofs.AnswerLemmas.{part_read}
use Rattle.sshc_ask.proofs.exchange.read_answer.Goals as goal

pub returns-clause-read : goal.returns-clause-read
returns-clause-read g c = part_read c.in_ok-length.length _ _ _ c.read_part.result c.in_ok-length.ensures.read (search rules) c.read_part.ensures.read
