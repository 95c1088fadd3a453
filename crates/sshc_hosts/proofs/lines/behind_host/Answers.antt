use Rattle.std.proofs.Common.{sym, ◌∙◌, true, false, rules}
use Rattle.std.proofs.lemmas.Bool.{eqb-true}
use Rattle.sshc_hosts.proofs.EntryLemmas.{at_space, cut_behind, is_comma, no_third, not_in_first}
use Rattle.sshc_hosts.proofs.lines.behind_host.Goals as goal

pub returns-in_default : goal.returns-in_default
returns-in_default c = no_third _ _ c.in_default.ensures.none ∙ c.entries.invariant.0

pub returns-in-true-true : goal.returns-in-true-true
returns-in-true-true c =
    sym (at_space c.args.host.now _ _ _ _ true c.in-Some.ensures.some (eqb-true _ 32 c.in-true-true.is-1) (sym c.in-true-true.is-0 ∙ c.in_ok-is_host.ensures)) ∙ c.entries.invariant.0

pub returns-in-true-false : goal.returns-in-true-false
returns-in-true-false c =
    cut_behind c.args.host.now _ _ _ _ _ _ c.in-Some.ensures.some (is_comma _ _ _ _ c.in-Some.ensures.some c.in-true-false.is-1) (sym c.in-true-false.is-0 ∙ c.in_ok-is_host.ensures) c.cut.ensures.none c.cut.ensures.some ∙ c.entries.invariant.0

pub returns-in-false-true : goal.returns-in-false-true
returns-in-false-true c =
    sym (at_space c.args.host.now _ _ _ _ false c.in-Some.ensures.some (eqb-true _ 32 c.in-false-true.is-1) (sym c.in-false-true.is-0 ∙ c.in_ok-is_host.ensures)) ∙ c.entries.invariant.0

pub entries-preserved : goal.entries-preserved
entries-preserved c = (
  not_in_first c.args.host.now _ _ _ _ c.in-Some.ensures.some (is_comma _ _ _ _ c.in-Some.ensures.some c.in-false-false.is-1) (sym c.in-false-false.is-0 ∙ c.in_ok-is_host.ensures) ∙ c.entries.invariant.0,
  search rules,
)
