use Rattle.std.proofs.Common.{refl, arith, ap, ◌∙◌, ◌≡◌, ℕ, Option, is_some, if◌then◌else◌}
use Rattle.sshc_mux.proofs.IndexLemmas.{indexed_remove, taken_lookup}
use Rattle.sshc_mux.proofs.NumbersLemmas.{apart_without}
use Rattle.sshc_mux.proofs.table.remove.Goals as goal

pub compact-requires-clause-indexed : goal.compact-requires-clause-indexed
compact-requires-clause-indexed c =
    let one : (if is_some c.remove.result then 1 else 0) ≡ 1 =
    ap (λ (o : Option ℕ). let count : ℕ = if is_some o then 1 else 0 in count) c.remove.ensures.value ∙ ap (λ b. let count : ℕ = if b then 1 else 0 in count) (taken_lookup _ _ _ _ c.requires.indexed c.requires.place.found) in
    indexed_remove _ _ _ _ _ _ c.requires.apart c.requires.place refl c.remove.ensures.updates.0 (omega (arith, one, c.remove.ensures.len)) c.requires.indexed

pub compact-requires-clause-apart : goal.compact-requires-clause-apart
compact-requires-clause-apart c = rw (← c.requires.place.gone) (apart_without _ _ c.requires.apart)
