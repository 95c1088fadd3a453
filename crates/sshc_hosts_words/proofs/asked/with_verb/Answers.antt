use Rattle.std.proofs.Common.{refl, length, ◌≡◌, arith}
use Rattle.std.specs.Cmp.Lexicographic.{same_text}
use Rattle.sshc_hosts_words.proofs.Parts.{no_words}
use Rattle.sshc_hosts_words.proofs.asked.with_verb.Goals as goal

pub returns-then-eq-clause-some : goal.returns-then-eq-clause-some
returns-then-eq-clause-some c =
    let none : length c.args.last.now ≡ 0 = grind (arith, c.if-is_empty.ensures) in
    (same_text _ _ c.if-eq.ensures, refl, no_words _ none)
