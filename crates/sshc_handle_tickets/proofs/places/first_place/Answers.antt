use Rattle.std.proofs.Common.{rules, arith, subst}
use Rattle.std.proofs.lemmas.Bool.Decides.{nat_tests}
use Rattle.std.specs.BTreeSet.{IsKeyRangeOf}
use Rattle.std.specs.declared.ops.Bound.TheVariants.{Included, Unbounded}
use Rattle.sshc_handle_tickets.specs.Places.{place_cmp}
use Rattle.sshc_handle_tickets.proofs.PlaceLemmas.{found, other, none}
use Rattle.sshc_handle_tickets.proofs.places.first_place.Goals as goal

pub returns-in-Some-clause-found : goal.returns-in-Some-clause-found
returns-in-Some-clause-found c = found c.args.places.now c.args.number c.in-Some.first.now _ (subst (IsKeyRangeOf place_cmp (Included (c.args.number, 0)) Unbounded c.args.places.now) c.in-Some.ensures.steps (c.range.ensures.in_range tt)) (grind (arith, nat_tests, c.if-first-number.true))

pub returns-in_default-clause-none : goal.returns-in_default-clause-none
returns-in_default-clause-none c = other c.args.places.now c.args.number c.in-Some.first.now _ (subst (IsKeyRangeOf place_cmp (Included (c.args.number, 0)) Unbounded c.args.places.now) c.in-Some.ensures.steps (c.range.ensures.in_range tt)) (grind (arith, nat_tests, c.if-first-number.false))

pub returns-in_default-2-clause-none : goal.returns-in_default-2-clause-none
returns-in_default-2-clause-none c = none c.args.places.now c.args.number (subst (IsKeyRangeOf place_cmp (Included (c.args.number, 0)) Unbounded c.args.places.now) (search (rules, c.next.ensures.steps, c.in_default.is)) (c.range.ensures.in_range tt))
