use Rattle.std.proofs.Common.{sym, ◌∙◌}
use Rattle.sshc_run_reader.proofs.Fronts.{head_is}
use Rattle.sshc_run_reader.proofs.script.moment_and_kind.Goals as goal

pub returns : goal.returns
returns c = rw c.new-c.ensures at (head_is _ _ _ _ _ _ _ (c.in_ok-moment.ensures) (c.in_ok-number.ensures) (sym c.from_u8.ensures ∙ c.in-Some.is) c.if-moment-last.false)
