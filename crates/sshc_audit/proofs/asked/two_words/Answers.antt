use Rattle.std.proofs.Common.{◌∙◌, sym}
use Rattle.sshc_hosts_words.specs.WordLaws.{same_word, at_place}
use Rattle.sshc_audit.proofs.WordLists.{two_words}
use Rattle.sshc_audit.proofs.asked.two_words.Goals as goal

pub returns-clause-some : goal.returns-clause-some
returns-clause-some c =
    two_words c.args.words.now _ _ c.requires
    (at_place c.args.words.now 0 _ _ c.index-words-0.is (sym c.as_str.ensures.same ∙ same_word _ _ c.if-ne.ensures))
    (at_place c.args.words.now 1 _ _ c.index-words-1.is (sym c.as_str-2.ensures.same))
