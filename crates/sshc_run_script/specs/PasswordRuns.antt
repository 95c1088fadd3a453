-- Over a whole run a password is written at most as often as it was asked for (RFC 4252, section 8). Stated of the
-- packet that requests to log a user in by a password, and of the session's events among all that ask for it; the code
-- keeps no count.
use Rattle.std.specs.Prelude.{◌≡◌, ◌≤◌, ◌+◌, ℕ, List, [], ◌∷◌, Option, Some, Result, Ok, Err}
use Rattle.sshc_wire.specs.Wire.{IsShort}
use Rattle.sshc_auth_event.specs.declared.event.Event.{Event}
use Rattle.sshc_auth.specs.Passwords.{password_packet, times_asked, times_written}
use Rattle.sshc_run_reader.specs.declared.error.EventError.{EventError}
use Rattle.sshc_run_reader.specs.EventReading.{event_of}
use Rattle.sshc_run_reader.specs.Script.{Frame, taken}
use Rattle.sshc_run_script.specs.Part.{own_events}
use Rattle.sshc_run_script.specs.ScriptRun.{Run}
use Rattle.sshc_run_script.specs.SessionPart.{session_own}

-- 1 if the event that the fields encode asks for it
abbrev pub times_asked_by : List ℕ → Result Event EventError → ℕ
times_asked_by packet (Ok event) = times_asked packet event
times_asked_by packet (Err e) = 0

-- how many of the events ask for it
abbrev pub times_asked_in : List ℕ → List Frame → ℕ
times_asked_in packet [] = 0
times_asked_in packet (frame ∷ frames) = times_asked_by packet (event_of frame.kind frame.fields) + times_asked_in packet frames

-- for every user and password, the run's records have the packet at most as often as the session's events among the
-- first ask for it
abbrev pub PasswordsAreAsked : ℕ → (List ℕ → Run) → Option (List ℕ) → Type 0
PasswordsAreAsked max table script =
    (bytes : List ℕ) → script ≡ Some bytes → (user password : List ℕ) → IsShort user →
    times_written (password_packet user password) (table bytes).records ≤ times_asked_in (password_packet user password) (own_events session_own (taken max bytes))
