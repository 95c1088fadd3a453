use Rattle.std.proofs.Common.{sym, refl}
use Rattle.sshc_audit.specs.Lines.{line_seen}
use Rattle.sshc_audit.proofs.SeenLemmas.{no_line_doubled, seen_answer, seen_next}
use Rattle.sshc_audit.proofs.doubled.is_doubled.Goals as goal

pub returns-in-None-clause-answer : goal.returns-in-None-clause-answer
returns-in-None-clause-answer c = λ earlier seen. no_line_doubled earlier c.args.part.now (sym c.in-None.ensures)

pub returns-in_ok-insert-in-Some-clause-answer : goal.returns-in_ok-insert-in-Some-clause-answer
returns-in_ok-insert-in-Some-clause-answer c = λ earlier seen.
    seen_answer c.args.seen.now earlier c.args.part.now (line_seen c.in-Some.line) (c.is_revoked.result, c.in-Some.line.host, c.in-Some.line.key) _ seen (sym c.in-Some.ensures) (c.is_revoked.ensures, refl, refl) c.in_ok-insert-in-Some.ensures.added

pub returns-in_ok-insert-in-Some-clause-seen : goal.returns-in_ok-insert-in-Some-clause-seen
returns-in_ok-insert-in-Some-clause-seen c = λ earlier seen.
    seen_next c.args.seen.now c.insert.new.self earlier c.args.part.now (line_seen c.in-Some.line) (c.is_revoked.result, c.in-Some.line.host, c.in-Some.line.key) seen (sym c.in-Some.ensures) (c.is_revoked.ensures, refl, refl) c.in_ok-insert-in-Some.ensures.updates
