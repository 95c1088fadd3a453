use Rattle.std.proofs.Common.{rules, [], refl, sym, ◌∙◌, subst}
use Rattle.sshc_hosts.specs.MatchingLines.{parts_at}
use Rattle.sshc_audit.specs.Joining.{Joined}
use Rattle.sshc_audit.specs.Hashing.{part_needs, hashed_part}
use Rattle.sshc_audit.proofs.SaltLemmas.{SoFar, part_only, loop_first, loop_next, made_all}
use Rattle.sshc_audit.proofs.HashingLaws.{hashes}
use Rattle.sshc_audit.proofs.hashing.hash_names.Goals as goal

pub parts-init : goal.parts-init
parts-init g c = (
  subst (λ (out : Joined). SoFar part_needs hashed_part (parts_at 10 c.args.text.now) (parts_at 10 c.args.text.now) 10 (g.S.Salts.state c.args.salts.now) (g.S.Salts.state c.args.salts.now) out) (sym c.new-out.ensures)
      (loop_first part_needs hashed_part part_only (parts_at 10 c.args.text.now) 10 (g.S.Salts.state c.args.salts.now)),
  refl,
  search rules,
)

pub returns-in-None-clause-hashed : goal.returns-in-None-clause-hashed
returns-in-None-clause-hashed g c =
    let made = made_all part_needs hashed_part part_only _ 10 _ _ _ _
    (loop_next part_needs hashed_part part_only _ 10 _ _ _ [] _ _ _ _ (rw c.in-None.is at c.cut.ensures.none) c.parts.invariant.0 c.in_ok-add_part.ensures.made)
    c.in_ok-into_text-in-None.ensures in
    hashes c.args.text.now _ _ made.salts _ made.took made.count made.same

pub parts-preserved : goal.parts-preserved
parts-preserved g c = (
  loop_next part_needs hashed_part part_only _ 10 _ _ _ _ _ _ _ _ (rw c.in-Some.is at c.cut.ensures.some) c.parts.invariant.0 c.in_ok-add_part.ensures.made,
  c.in_ok-add_part.ensures.cause.same (λ is. absurd cc) ∙ c.parts.invariant.1,
  search rules,
)
