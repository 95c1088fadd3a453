-- A run over memory by the default settings, except for the number of events that it takes.
use Rattle.std.proofs.Common.{◌≡◌, ℕ, false, List, [], Option, Some, Result}
use Rattle.sshc_key.specs.Signers.{SignCall}
use Rattle.sshc_auth.specs.declared.ended.Ended.{Ended}
use Rattle.sshc_toy.specs.ToyPair.{toy_accepts}
use Rattle.sshc_client.specs.Configured.{IsDefault}
use Rattle.sshc_client.specs.declared.config.Config.{Config}
use Rattle.sshc_run_script.specs.Configured.{RunSettings, run_settings_of}
use Rattle.sshc_run_script.specs.KnownHosts.{Hosts}
use Rattle.sshc_run_script.specs.Outcome.{streams, Ends}
use Rattle.sshc_run_script.specs.RunTurn.{run_machine}
use Rattle.sshc_run_script.specs.ScriptRun.{script_run}
use Rattle.sshc_run_script.specs.Words.{default_run}
use Rattle.sshc_run_script.specs.declared.error.RunError.{RunError}
use Rattle.sshc_run.specs.GenWords.{gen_events, gen_hosts, is_fault, RunGives}

pub settings_same : (d : Config) → IsDefault d → run_settings_of d ≡ default_run
settings_same d default =
    rw (default.window_size, default.anonymous, default.inactivity_timeout, default.maximum_packet_size, default.keepalive_interval, default.keepalive_max, default.agent_asks)

pub run_gives : (hosts : Hosts) (settings : RunSettings) (n : ℕ) (script text : List ℕ) (left held held' left' : Option (List ℕ)) (reads reads' : ℕ) (calls calls' : List SignCall) (answer : Result Ended RunError) →
    hosts ≡ gen_hosts → settings ≡ default_run → n ≡ gen_events → left ≡ Some script → held ≡ Some [] → reads ≡ 0 → calls ≡ [] → held' ≡ Some text → is_fault answer ≡ false →
    Ends n 0 0 (script_run (run_machine hosts toy_accepts settings) n) (streams left held reads calls) (streams left' held' reads' calls') answer → RunGives script answer text
run_gives hosts settings n script text left held held' left' reads reads' calls calls' answer e1 e2 e3 e4 e5 e6 e7 e8 none ends =
    (left', reads', calls', none, rw (e1, e2, e3, e4, e5, e6, e7, e8) at ends)
