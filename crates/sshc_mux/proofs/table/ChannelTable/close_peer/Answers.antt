use Rattle.std.proofs.Common.{◌≡◌, true, arith}
use Rattle.sshc_mux.specs.ChannelTable.{is_up, last_packets}
use Rattle.sshc_mux.specs.ChannelAccount.{PeerClose}
use Rattle.sshc_mux.proofs.LegalLemmas.{did_part}
use Rattle.sshc_mux.proofs.TableLemmas.{held, take_nothing, did_take}
use Rattle.sshc_mux.proofs.KeptLemmas.{some_wait, room_left, kept_remove}
use Rattle.sshc_mux.proofs.table.ChannelTable.close_peer.Goals as goal

pub recounted-self-inside-requires-clause-some : goal.recounted-self-inside-requires-clause-some
recounted-self-inside-requires-clause-some c = some_wait _ _ _ _ _ _ _ _ (held _ _ _ _ _ _ c.as_slice.ensures.value c.in-Some.ensures c.index.ensures c.in-Some-index.is) c.self.invariant c.waits.ensures

pub recounted-self-inside-requires-clause-room : goal.recounted-self-inside-requires-clause-room
recounted-self-inside-requires-clause-room c = room_left _ _ _ _ _ _ _ _ _ (held _ _ _ _ _ _ c.as_slice.ensures.value c.in-Some.ensures c.index.ensures c.in-Some-index.is) c.self.invariant c.as_slice.ensures.value (omega arith) c.waits.ensures

pub invariant_of-self : goal.invariant_of-self
invariant_of-self c = kept_remove _ _ _ _ _ _ _ _ _ _ (held _ _ _ _ _ _ c.as_slice.ensures.value c.in-Some.ensures c.index.ensures c.in-Some-index.is) c.self.invariant c.remove.ensures.left c.remove.ensures.indexed _ c.waits.ensures c.recounted-self-inside.ensures

pub returns-then-not-is_established-clause-part : goal.returns-then-not-is_established-clause-part
returns-then-not-is_established-clause-part c = rw (← c.self.view_is) (did_part (PeerClose c.args.id.0) _ _ c.self.invariant.1 (take_nothing _ _ _ is_up last_packets _ _ (held _ _ _ _ _ _ c.as_slice.ensures.value c.in-Some.ensures c.index.ensures c.in-Some-index.is) (cc)))

pub returns-clause-part : goal.returns-clause-part
returns-clause-part c = rw (← c.self.view_is) (did_part (PeerClose c.args.id.0) _ _ c.self.invariant.1 (did_take _ _ _ is_up last_packets _ c.remove.new.slots.items _ (held _ _ _ _ _ _ c.as_slice.ensures.value c.in-Some.ensures c.index.ensures c.in-Some-index.is) (let up : is_up c.in-Some-index.channel ≡ true = cc in up) c.remove.ensures.left))
