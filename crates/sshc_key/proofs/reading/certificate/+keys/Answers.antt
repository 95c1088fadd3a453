use Rattle.std.proofs.Common.{◌<◌, sym, ap, ◌∙◌, arith}
use Rattle.std.specs.Prelude.{Ok}
use Rattle.sshc_key.specs.KeyGrammar.{Key}
use Rattle.sshc_key.proofs.Levels.{key_step, tag_fails}
use Rattle.std.proofs.lemmas.Result.{err_from_is_err_and}
use Rattle.sshc_key.proofs.reading.certificate.+keys.Goals as goal

pub key_of-returns-in_ok-new-in-Certified : goal.key_of-returns-in_ok-new-in-Certified
key_of-returns-in_ok-new-in-Certified t c =
    let some : 0 < c.args.levels = omega arith in
    key_step c.args.levels c.args.c.now some ∙ rw (c.in_ok-kind.ensures, c.in-Certified.is, c.in_ok-certificate-in-Certified.ensures)
    (ap (λ (v : Key). Ok (v, c.certificate_of.new.c)) (sym c.in_ok-new-in-Certified.ensures.ok))

pub key_of-returns-in_err-kind : goal.key_of-returns-in_err-kind
key_of-returns-in_err-kind t c =
    let p = err_from_is_err_and c.from_residual.result c.from_residual.ensures.1 in
    let some : 0 < c.args.levels = omega arith in
    rw (p.1, p.2) (tag_fails c.in_err-kind.field-0.0 c.args.levels c.args.c.now some c.in_err-kind.ensures)
