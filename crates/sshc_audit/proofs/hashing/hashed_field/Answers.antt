use Rattle.std.proofs.Common.{rules, [], refl, sym, ◌∙◌, subst}
use Rattle.sshc_hosts.specs.MatchingLines.{parts_at}
use Rattle.sshc_audit.specs.Joining.{Joined}
use Rattle.sshc_audit.specs.Hashing.{entry_needs, hashed_or_same}
use Rattle.sshc_audit.proofs.SaltLemmas.{SoFar, entry_only, loop_first, loop_next, made_all}
use Rattle.sshc_audit.proofs.hashing.hashed_field.Goals as goal

pub entries-init : goal.entries-init
entries-init g c = (
  subst (λ (out : Joined). SoFar entry_needs hashed_or_same (parts_at 44 c.args.field.now) (parts_at 44 c.args.field.now) 44 (g.S.Salts.state c.args.salts.now) (g.S.Salts.state c.args.salts.now) out) (sym c.new-out.ensures)
      (loop_first entry_needs hashed_or_same entry_only (parts_at 44 c.args.field.now) 44 (g.S.Salts.state c.args.salts.now)),
  refl,
  search rules,
)

pub returns-in-None-clause-made : goal.returns-in-None-clause-made
returns-in-None-clause-made g c =
    made_all entry_needs hashed_or_same entry_only _ 44 _ _ _ _
    (loop_next entry_needs hashed_or_same entry_only _ 44 _ _ _ [] _ _ _ _ (rw c.in-None.is at c.cut.ensures.none) c.entries.invariant.0 c.in_ok-add_entry.ensures.made)
    c.in_ok-into_text-in-None.ensures

pub entries-preserved : goal.entries-preserved
entries-preserved g c = (
  loop_next entry_needs hashed_or_same entry_only _ 44 _ _ _ _ _ _ _ _ (rw c.in-Some.is at c.cut.ensures.some) c.entries.invariant.0 c.in_ok-add_entry.ensures.made,
  c.in_ok-add_entry.ensures.cause.same (λ is. absurd cc) ∙ c.entries.invariant.1,
  search rules,
)
