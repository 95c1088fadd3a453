use Rattle.std.proofs.Common.{ℕ, zero, suc, ◌≡◌, false, eqb, arith, ◌<◌, vec_len}
use Rattle.sshc_run_script.proofs.RunLoop.{one_more}
use Rattle.sshc_run_script.proofs.turn.at_limit.Goals as goal

not_empty : (n : ℕ) → false ≡ eqb n 0 → 0 < n
not_empty zero h = cc
not_empty (suc n) h = omega arith

pub returns-in-Ok-clause-gives : goal.returns-in-Ok-clause-gives
returns-in-Ok-clause-gives g c =
    one_more _ _ _ c.in-Ok.ensures.bound (let some : 0 < vec_len c.in-Ok.bytes = not_empty _ c.if-is_empty.ensures in omega (arith, some)) c.in-Ok.ensures.bytes
