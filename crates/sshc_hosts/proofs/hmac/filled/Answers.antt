use Rattle.std.proofs.Common.{◌≡◌, ℕ, ◌-◌, List, ◌++◌, length, replicate, drop, ap, ◌∙◌}
use Rattle.std.proofs.lemmas.List.{drop-replicate}
use Rattle.sshc_hosts.proofs.hmac.filled.Goals as goal

-- zeros remain after the bytes that overwrite the first ones
written : (now bytes : List ℕ) → now ≡ bytes → now ++ drop (length bytes) (replicate 64 0) ≡ bytes ++ replicate (64 - length bytes) 0
written now bytes same = ap (λ front. front ++ drop (length bytes) (replicate 64 0)) same ∙ ap (λ rest. bytes ++ rest) (drop-replicate (length bytes) 64 0)

pub returns : goal.returns
returns c = written _ _ c.copy_from_slice.ensures.after
