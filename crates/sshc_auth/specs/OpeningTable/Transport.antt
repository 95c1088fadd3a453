-- Rows of the transport's other events and of timers.
use Rattle.std.specs.Prelude.{if◌then◌else◌}
use Rattle.sshc_auth.specs.declared.error.Error.TheVariants.{InactivityTimeout, TransportFailed}
use Rattle.sshc_auth.specs.OpeningState.{OpeningState}
use Rattle.sshc_auth.specs.Row.{Row, passed_over, refused}

abbrev pub transport_failed_row : Row
transport_failed_row = refused TransportFailed

-- nothing came for as long as the settings allow
abbrev pub inactivity_timer_row : OpeningState → Row
inactivity_timer_row s = if s.settings.inactivity then refused InactivityTimeout else passed_over s
