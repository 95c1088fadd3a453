-- When the user may be asked for an event.
use Rattle.std.specs.Prelude.{Bool, not, ◌&&◌, ◌||◌}
use Rattle.sshc_auth.specs.OpeningState.{is_awaiting}
use Rattle.sshc_mux.specs.ChannelTable.{any_waits}
use Rattle.sshc_client_table.specs.SessionState.{SessionState, exchanging, runs}

-- an answer is awaited; or no exchange runs, nothing waits on a channel, and the session hasn't ended
abbrev pub wants_user_events : SessionState → Bool
wants_user_events s =
    is_awaiting s.opening.phase || not (exchanging s) && not (any_waits s.table.channels) && runs s.life
