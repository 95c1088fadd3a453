use Rattle.std.proofs.Common.{rules, sym, ◌++◌, ◌∷◌, []}
use Rattle.sshc_audit.proofs.Loops.{result_is, undoubled_next}
use Rattle.sshc_audit.proofs.doubled.drop_doubled.Goals as goal

pub returns-in-None-clause-text : goal.returns-in-None-clause-text
returns-in-None-clause-text c =
    let (earlier, seen, so_far) = c.parts.invariant.0 in
    result_is _ _ _ (sym (undoubled_next _ _ _ _ earlier _ [] (rw c.in-None.is at c.cut.ensures.none) so_far (c.in_ok-add_undoubled.ensures.added earlier seen))) c.into_text.ensures

pub parts-preserved : goal.parts-preserved
parts-preserved c =
    let (earlier, seen, so_far) = c.parts.invariant.0 in (
      (
        earlier ++ _ ∷ [],
        c.in_ok-add_undoubled.ensures.seen earlier seen,
        undoubled_next _ _ _ _ earlier _ _ (rw c.in-Some.is at c.cut.ensures.some) so_far (c.in_ok-add_undoubled.ensures.added earlier seen),
      ),
      search rules,
    )
