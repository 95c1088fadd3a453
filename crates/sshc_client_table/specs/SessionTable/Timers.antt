-- Rows of timers. A keepalive is sent whatever exchange runs.
use Rattle.std.specs.Prelude.{ℕ, ◌+◌, ◌^◌, ◌-◌, min, Bool, true, not, ◌&&◌, nat_lt, [], ◌∷◌, Option, Some, None, ◌==◌, if◌then◌else◌}
use Rattle.sshc_auth.specs.declared.error.Error.TheVariants.{InactivityTimeout, KeepaliveTimeout}
use Rattle.sshc_client_table.specs.Messages.{KeepAlive}
use Rattle.sshc_client_table.specs.SessionState.{SessionState}
use Rattle.sshc_client_table.specs.Moves.{Asks, Misses}
use Rattle.sshc_client_table.specs.SessionRow.{SessionRow, behind_moves, passed_over, plain_row, refused}

-- more keepalives in a row than may stay unanswered; 0 means that there is no bound
abbrev pub are_too_many : ℕ → ℕ → Bool
are_too_many most count = not (most == 0) && nat_lt most count

abbrev pub missed_row : SessionState → SessionRow
missed_row s =
    if are_too_many s.settings.keepalive_max (min (s.keepalives + 1) (2 ^ 64 - 1))
    then behind_moves (Misses ∷ []) (refused KeepaliveTimeout)
    else plain_row (Misses ∷ Asks (KeepAlive true) ∷ [])

abbrev pub keepalive_row : Option ℕ → SessionState → SessionRow
keepalive_row None s = passed_over
keepalive_row (Some interval) s = missed_row s

unfoldable pub keepalive_timer_row : SessionState → SessionRow
keepalive_timer_row s = keepalive_row s.settings.keepalive_interval s

-- nothing came for as long as the settings allow
abbrev pub inactivity_timer_row : SessionState → SessionRow
inactivity_timer_row s = if s.opening.settings.inactivity then refused InactivityTimeout else passed_over
