-- A script with one block more.
use Rattle.std.proofs.Common.{◌≡◌, refl, ℕ, ◌+◌, suc, arith}
use Rattle.sshc_run.specs.Blocks.{drawing, with_block}

suc_is : (k : ℕ) → k + 1 ≡ suc k
suc_is k = omega arith

pub next_drawing : (seed k : ℕ) → drawing seed (k + 1) ≡ with_block (k + 1) (drawing seed k)
unfolding drawing
next_drawing seed k = rw (suc_is k) refl
