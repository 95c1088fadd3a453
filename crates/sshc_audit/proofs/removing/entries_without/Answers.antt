use Rattle.std.proofs.Common.{rules, sym, []}
use Rattle.sshc_audit.proofs.Loops.{result_is, entries_next}
use Rattle.sshc_audit.proofs.removing.entries_without.Goals as goal

pub returns-in-None : goal.returns-in-None
returns-in-None c =
    result_is _ _ _ (sym (entries_next _ _ _ _ _ _ [] (rw c.in-None.is at c.cut.ensures.none) c.entries.invariant.0 c.in_ok-add_entry.ensures)) c.kept.ensures

pub entries-preserved : goal.entries-preserved
entries-preserved c =
    (entries_next _ _ _ _ _ _ _ (rw c.in-Some.is at c.cut.ensures.some) c.entries.invariant.0 c.in_ok-add_entry.ensures, search rules)
