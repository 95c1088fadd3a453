use Rattle.std.proofs.Common.{rules}
use Rattle.sshc_mux.proofs.AddingLemmas.{extended_added}
use Rattle.sshc_mux.proofs.packets.push_extended.Goals as goal

pub returns-clause-ok : goal.returns-clause-ok
returns-clause-ok c = extended_added _ _ _ _ _ _ _ (search rules) c.extended_head-head.ensures c.in_ok-push_packet.ensures.ok c.in_ok-push_packet.ensures.same
