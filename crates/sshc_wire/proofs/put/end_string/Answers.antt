use Rattle.std.proofs.Common.{rules}
use Rattle.sshc_wire.specs.Wire.{u32_text}
use Rattle.sshc_wire.proofs.Ended.{ended}
use Rattle.sshc_wire.proofs.put.end_string.Goals as goal

pub returns-clause-ok : goal.returns-clause-ok
unfolding u32_text
returns-clause-ok c =
    ended c.args.out.now.items _ _ _ c.args.at c.args.out.now.len _ (search rules) (search rules) (rw c.as_mut_slice.ensures.value at c.split_at_mut-string.ensures.front)
    (rw (c.split_at_mut-string.ensures.back, c.as_mut_slice.ensures.value) at c.split_at_mut-size.ensures.back) (rw c.to_be_bytes.ensures at c.copy_from_slice.ensures.after) (search rules)
