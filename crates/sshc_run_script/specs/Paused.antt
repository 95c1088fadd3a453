-- How contracts see a run between two of its events: what it judges by, the session and the agent, and what is left of
-- the bound on its events.
use Rattle.std.specs.Prelude.{◌+◌, ◌*◌, ◌<◌, ◌^◌, ℕ, List, Bool, true, false, Result, Ok}
use Rattle.std.specs.Coded.{Coded, codes}
use Rattle.sshc_client_state.specs.StateCode.{session_code}
use Rattle.sshc_key.specs.PairCode.{key_pair_code}
use Rattle.sshc_auth.specs.declared.ended.Ended.{Ended}
use Rattle.sshc_auth.specs.declared.ended.Ended.TheVariants.{ScriptEnd}
use Rattle.sshc_client_packets.specs.HostKeyProof.{Accepts}
use Rattle.sshc_client_state.specs.Start.{new_session}
use Rattle.sshc_client_table.specs.SessionState.{SessionState}
use Rattle.sshc_client.specs.declared.config.Config.{Config}
use Rattle.sshc_run_agent.specs.AgentTurns.{Served, idle}
use Rattle.sshc_run_script.specs.declared.error.RunError.{RunError}
use Rattle.sshc_run_script.specs.Configured.{run_settings_of}
use Rattle.sshc_run_script.specs.KnownHosts.{Hosts}
use Rattle.sshc_run_script.specs.Ready.{IsReady}
use Rattle.sshc_run_script.specs.RunTurn.{RunState, kept, run_turn}
use Rattle.sshc_run_script.specs.ScriptRun.{Spot, Table, run, spot}

-- the host text and the known hosts text, the session, the agent, the place of the next event, the last moment, how
-- many events may still be taken, and whether an event ended the run or was refused
pub record Paused : Type 0 where
  pub hosts : Hosts
  pub session : SessionState
  pub agents : Served
  pub place : ℕ
  pub last : ℕ
  pub remaining : ℕ
  pub over : Bool

abbrev pub paused : Hosts → SessionState → Served → ℕ → ℕ → ℕ → Bool → Paused
paused hosts session agents place last remaining over = record {
  hosts = hosts;
  session = session;
  agents = agents;
  place = place;
  last = last;
  remaining = remaining;
  over = over;
}

pub paused_code : Coded Paused
paused_code = hlevel (codes, key_pair_code, session_code)

-- before its first event, by the host text, the known hosts text and the configuration
abbrev pub started : List ℕ → List ℕ → Config → Paused
started host known c =
    paused (record { host = host; known = known }) (new_session (run_settings_of c).session (run_settings_of c).opening) (idle (run_settings_of c).agent_asks) 0 0 c.max_events false

-- unless it is over, the session is ready for its next event, and places fit their number
abbrev pub CanGoOn : Bool → SessionState → ℕ → ℕ → Type 0
CanGoOn true s place remaining = Unit {0}
CanGoOn false s place remaining = IsReady s × (place + 262148 * remaining < 2 ^ 63)

-- the state in the run by recursion over bytes
abbrev pub spot_of : Paused → Spot RunState
spot_of p = spot p.place p.last (kept p.session p.agents)

abbrev pub table_from : Paused → Accepts → Table RunState
table_from p accepts = run (run_turn p.hosts accepts)

-- whether an event ended the run or was refused; at the end of what was handed in the run only pauses
abbrev pub is_stopped : Result Ended RunError → Bool
is_stopped (Ok ScriptEnd) = false
is_stopped answer = true
