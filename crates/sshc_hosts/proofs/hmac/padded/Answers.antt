use Rattle.std.proofs.Common.{◌≡◌, ℕ, ◌+◌, ◌<◌, List, ◌++◌, length, take, drop, get_or, bit_xor, arith}
use Rattle.std.proofs.Math.ListN.{set}
use Rattle.std.proofs.lemmas.Grind.{common_steps}
use Rattle.std.proofs.lemmas.List.{get_or_default}
use Rattle.std.proofs.lemmas.List.Edits.{map_over_more}
use Rattle.sshc_hosts.specs.Hmac.{padded_by}
use Rattle.sshc_hosts.proofs.hmac.padded.Goals as goal

-- one more byte is padded
padded_more : (pad i : ℕ) (block now : List ℕ) → length now ≡ length block → i < length block → now ≡ padded_by pad (take i block) ++ drop i block
    → set now i (bit_xor (get_or now i 0) pad) ≡ padded_by pad (take (i + 1) block) ++ drop (i + 1) block
padded_more pad i block now same within so_far =
    let read : get_or now i 0 ≡ get_or now i (get_or now i 0) = get_or_default now i 0 (get_or now i 0) (omega arith) in
    map_over_more (λ k. bit_xor k pad) block now i (get_or now i 0) within so_far read

pub loop-k-preserved : goal.loop-k-preserved
loop-k-preserved c = padded_more _ _ _ _ (grind (arith, common_steps)) (omega arith) c.loop-k.invariant
