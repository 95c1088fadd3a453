use Rattle.std.proofs.Common.{◌∙◌, sym}
use Rattle.sshc_hosts_words.specs.WordLaws.{same_word, at_place}
use Rattle.sshc_audit.proofs.WordLists.{four_words}
use Rattle.sshc_audit.proofs.asked.four_words.Goals as goal

pub returns-in-Some-clause-some : goal.returns-in-Some-clause-some
returns-in-Some-clause-some c = (
  c.as_str-2.result.now,
  four_words c.args.words.now _ _ _ _ c.requires
      (at_place c.args.words.now 0 _ _ c.index-words-0.is (sym c.as_str.ensures.same ∙ same_word _ _ c.if-ne.ensures))
      (at_place c.args.words.now 1 _ _ c.index-words-1.is (sym c.as_str-in-Some.ensures.same))
      (at_place c.args.words.now 2 _ _ c.index-words-2.is (sym c.as_str-2.ensures.same))
      (at_place c.args.words.now 3 _ _ c.index-words-3.is (sym c.as_str-in-Some-2.ensures.same)),
  c.in-Some.ensures.some,
)
