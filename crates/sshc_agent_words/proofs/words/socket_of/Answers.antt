use Rattle.std.proofs.Common.{◌≡◌, ◌∙◌, length, refl, sym, arith}
use Rattle.std.specs.Cmp.Lexicographic.{same_text}
use Rattle.sshc_agent_words.proofs.TwoWords.{at_place, two_words}
use Rattle.sshc_agent_words.proofs.words.socket_of.Goals as goal

pub returns-then-eq : goal.returns-then-eq
returns-then-eq c =
    let two : length c.args.words.now ≡ 2 = omega (arith, c.in-len2.len_at_least, c.in-len2.len_below) in (
      (λ _. (
        c.socket-item.result,
        two_words c.args.words.now _ _ two
            (at_place c.args.words.now 0 _ _ c.agent-item.is (sym c.as_str.ensures.same ∙ same_text _ _ c.if-eq.ensures))
            c.socket-item.is,
      )),
      (λ _. refl),
    )
