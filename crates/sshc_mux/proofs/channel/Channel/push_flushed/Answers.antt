use Rattle.std.proofs.Common.{◌≡◌, true, false}
use Rattle.sshc_wire.specs.OutgoingLaws.{grows_on}
use Rattle.sshc_mux.proofs.AddingLemmas.{after_error, grew, none_grew}
use Rattle.sshc_mux.proofs.FlushLemmas.{flushed_said, no_bytes_go, no_ends_go}
use Rattle.sshc_mux.proofs.channel.Channel.push_flushed.Goals as goal

pub returns-clause-output : goal.returns-clause-output
returns-clause-output c =
    flushed_said _ _ _ _ _ _ _ _ c.room-room.ensures.room (rw (← c.self.view_is) c.in_ok-is_empty.ensures.output) (rw (← c.self.view_is) c.in_ok-is_empty.ensures.all) c.in_ok-push_ends.ensures.output

pub returns-in_err-is_empty-clause-succeeds : goal.returns-in_err-is_empty-clause-succeeds
returns-in_err-is_empty-clause-succeeds c =
    λ none. let no : false ≡ true = c.in_err-is_empty.ensures.succeeds (rw (← c.self.view_is) at (no_bytes_go _ _ _ _ c.room-room.ensures.room none)) in absurd (cc)

pub returns-in_err-push_ends-clause-succeeds : goal.returns-in_err-push_ends-clause-succeeds
returns-in_err-push_ends-clause-succeeds c =
    λ none. let no : false ≡ true = c.in_err-push_ends.ensures.succeeds (no_ends_go _ _ _ _ _ c.room-room.ensures.room (rw (← c.self.view_is) c.in_ok-is_empty.ensures.all) none) in absurd (cc)

pub returns-in_err-push_ends-clause-some : goal.returns-in_err-push_ends-clause-some
returns-in_err-push_ends-clause-some c = after_error _ _ (grows_on _ _ _ (grew _ _ _ _ (none_grew _) c.in_ok-is_empty.ensures.output) c.in_err-push_ends.ensures.some)
