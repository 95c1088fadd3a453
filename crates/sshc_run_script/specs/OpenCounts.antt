-- Over a whole run no more opens of ours are answered than were asked for (RFC 4254, section 5.1). A count over whole
-- lists; the code keeps one table, in which each open waits with its ticket.
use Rattle.std.specs.Prelude.{ℕ, ◌+◌, ◌≤◌, Bool, true, false, if◌then◌else◌, List, [], ◌∷◌, Option}
use Rattle.sshc_wire.specs.declared.record.Record.{Record}
use Rattle.sshc_wire.specs.declared.record.Record.TheVariants.{Resolved}
use Rattle.sshc_wire.specs.declared.resolution.Resolution.TheVariants.{ChannelOpened, ChannelOpenFailed}
use Rattle.sshc_key.specs.Asking.{Answer}
use Rattle.sshc_mux.specs.ChannelAccount.{Call, OpenUser}
use Rattle.sshc_client_packets.specs.HostKeyProof.{Accepts}
use Rattle.sshc_run_script.specs.ChannelRuns.{calls_along, said_along}
use Rattle.sshc_run_script.specs.Configured.{RunSettings}
use Rattle.sshc_run_script.specs.KnownHosts.{Hosts}
use Rattle.sshc_run_script.specs.SessionPaths.{EachPath}

-- a record that answers an open of ours: it was confirmed, or it failed
abbrev pub is_open_answer : Record → Bool
is_open_answer (Resolved ticket (ChannelOpened id)) = true
is_open_answer (Resolved ticket (ChannelOpenFailed reason)) = true
is_open_answer output = false

-- how many of these records answer an open of ours
abbrev pub opens_answered : List Record → ℕ
opens_answered [] = 0
opens_answered (output ∷ records) = (if is_open_answer output then 1 else 0) + opens_answered records

-- how many of these calls of the channel table open a channel of ours
abbrev pub opens_asked : List Call → ℕ
opens_asked [] = 0
opens_asked (OpenUser window packet ticket ∷ calls) = 1 + opens_asked calls
opens_asked (call ∷ calls) = opens_asked calls

-- along each path of the session no more opens are answered than were asked for
abbrev pub OpensAreCounted : Hosts → Accepts → RunSettings → ℕ → List Answer → Option (List ℕ) → Type 0
OpensAreCounted hosts accepts settings max answers script = EachPath hosts accepts settings max answers script (λ steps s. opens_answered (said_along steps) ≤ opens_asked (calls_along accepts steps))
