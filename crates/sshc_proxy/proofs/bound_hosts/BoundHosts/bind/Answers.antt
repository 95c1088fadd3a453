use Rattle.std.proofs.Common.{ℕ, List, Result, Ok, Err, ap, sym, ◌∙◌}
use Rattle.std.specs.Prelude.{OnErr}
use Rattle.std.specs.BTreeMap.{is_at}
use Rattle.std.specs.Map.{set_value}
use Rattle.std.specs.Ordering.{nat_cmp}
use Rattle.std.proofs.lemmas.Map.Steps.{set_value_same}
use Rattle.sshc_wire.specs.declared.error.NoMemory.{NoMemory}
use Rattle.sshc_proxy.proofs.bound_hosts.BoundHosts.bind.Goals as goal

on_err : (r : Result (Unit {0}) NoMemory) (P Q : Type 0) → (P → Q) → OnErr r P → OnErr r Q
on_err (Ok u) P Q f h = h
on_err (Err e) P Q f h = f h

-- the list of hosts stays, and so does the map
pub returns-in-Some-clause-err : goal.returns-in-Some-clause-err
returns-in-Some-clause-err c =
    let entries : List (ℕ × List (List ℕ)) = c.self.inside.hosts.entries in
    on_err c.push.result _ _
    (λ same.
    let written = (c.get_mut.follows.holds c.push.new.self).0 in
    written ∙ ap (λ (hosts : List (List ℕ)). set_value (is_at (nat_cmp c.args.conn)) entries hosts) same
    ∙ set_value_same (is_at (nat_cmp c.args.conn)) entries c.in-Some.hosts.now (sym c.in-Some.ensures.value) ∙ c.self.view_is)
    c.push.ensures.err
