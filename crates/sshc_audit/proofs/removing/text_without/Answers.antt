use Rattle.std.proofs.Common.{rules, sym, []}
use Rattle.sshc_audit.proofs.Loops.{result_is, without_next}
use Rattle.sshc_audit.proofs.removing.text_without.Goals as goal

pub returns-in-None : goal.returns-in-None
returns-in-None c =
    result_is _ _ _ (sym (without_next _ _ _ _ _ _ [] (rw c.in-None.is at c.cut.ensures.none) c.parts.invariant.0 c.in_ok-add_without.ensures)) c.into_text.ensures

pub parts-preserved : goal.parts-preserved
parts-preserved c =
    (without_next _ _ _ _ _ _ _ (rw c.in-Some.is at c.cut.ensures.some) c.parts.invariant.0 c.in_ok-add_without.ensures, search rules)
