-- When a timer of a session runs out. The code keeps moments of 64 bits.
use Rattle.std.specs.Prelude.{ℕ, ◌-◌, Bool, false, nat_le, max, min, Option, Some, None, unwrap_or}
use Rattle.sshc_handle_state.specs.declared.timers.Timers.{Timers}

-- so much time has passed since a moment
abbrev pub has_passed : Option ℕ → ℕ → ℕ → Bool
has_passed None since now = false
has_passed (Some span) since now = nat_le span (now - since)

-- the moment of the last transport event; before the first turn it is now
abbrev pub heard_at : ℕ → Timers → ℕ
heard_at now t = unwrap_or t.heard now

-- the first turn's moment counts as that of a transport event
abbrev pub begun : ℕ → Timers → Timers
begun now t = record t { heard = Some (heard_at now t) }

-- nothing came since the last transport event for as long as the settings allow
abbrev pub is_inactive : ℕ → Timers → Bool
is_inactive now t = has_passed t.inactivity_timeout (heard_at now t) now

-- a keepalive is due, by the later of the last transport event and the last keepalive timer
abbrev pub is_keepalive_due : ℕ → Timers → Bool
is_keepalive_due now t = has_passed t.keepalive_interval (max (heard_at now t) t.beat) now

-- ---- until a timer runs out

-- so much of a span since a moment is left
abbrev pub left_of : Option ℕ → ℕ → ℕ → Option ℕ
left_of None since now = None
left_of (Some span) since now = Some (span - (now - since))

-- the sooner of two, if there is one
abbrev pub sooner : Option ℕ → Option ℕ → Option ℕ
sooner None other = other
sooner (Some one) None = Some one
sooner (Some one) (Some other) = Some (min one other)

-- so long after a moment the next timer runs out
abbrev pub due_in : ℕ → Timers → Option ℕ
due_in now t = sooner (left_of t.inactivity_timeout (heard_at now t) now) (left_of t.keepalive_interval (max (heard_at now t) t.beat) now)
