use Rattle.std.proofs.Common.{◌≡◌, ◌∙◌, length, sym, arith}
use Rattle.sshc_hosts_words.specs.WordLaws.{same_word, at_place}
use Rattle.sshc_run.proofs.WordLists.{three_words}
use Rattle.sshc_run.proofs.gen_words.gen_words.Goals as goal

pub returns-in-Some-Some-clause-some : goal.returns-in-Some-Some-clause-some
returns-in-Some-Some-clause-some c =
    let three : length c.args.words.now ≡ 3 = omega (arith, c.if-words-ne3.false) in (
      c.as_str-2.result.now,
      c.as_str-3.result.now,
      three_words c.args.words.now _ _ _ three
          (at_place c.args.words.now 0 _ _ c.index-words-0.is (sym c.as_str.ensures.same ∙ same_word _ _ c.if-ne.ensures))
          (at_place c.args.words.now 1 _ _ c.index-words-1.is (sym c.as_str-2.ensures.same))
          (at_place c.args.words.now 2 _ _ c.index-words-2.is (sym c.as_str-3.ensures.same)),
      c.in-Some-Some.ensures.some,
      c.in-Some-Some.ensures'.some,
    )
