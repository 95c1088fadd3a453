-- The command-line arguments, the line that reports a run's result, and the exit status.
use Rattle.std.specs.Prelude.{◌≡◌, ◌⊎◌, ℕ, Bool, true, false, List, [], ◌∷◌, ◌++◌, Option, None, Result, Ok, Err, codes}
use Rattle.std.specs.Fmt.{decimal}
use Rattle.sshc_wire.specs.Contents.{IsFound}
use Rattle.sshc_wire.specs.Faults.{Rose}
use Rattle.sshc_wire.specs.declared.files.Found.TheVariants as found
use Rattle.sshc_key.specs.Asking.{Answer}
use Rattle.sshc_hosts.specs.HostText.{host_text}
use Rattle.sshc_auth.specs.declared.ended.Ended.{Ended}
use Rattle.sshc_auth.specs.declared.ended.Ended.TheVariants as ends
use Rattle.sshc_auth.specs.declared.opening.Settings.{Settings}
use Rattle.sshc_client_packets.specs.HostKeyProof.{Accepts}
use Rattle.sshc_run_script.specs.declared.error.RunError.{RunError}
use Rattle.sshc_run_script.specs.declared.error.RunError.TheVariants as errors
use Rattle.sshc_hosts_words.specs.Adding.{Adds}
use Rattle.sshc_hosts_words.specs.Port.{IsPort}
use Rattle.sshc_run_script.specs.Configured.{RunSettings}
use Rattle.sshc_run_script.specs.RunOutside.{RunOutside, SinkState}
use Rattle.sshc_run_script.specs.RunPromises.{RunAsked, RunPromises, table_of}
use Rattle.sshc_run_script.specs.ScriptRun.{Run}

-- ---- the arguments

-- `script HOST PORT KNOWN`
abbrev pub IsScriptWords : List (List ℕ) → List ℕ → ℕ → List ℕ → Type 0
IsScriptWords words host port path = (word : List ℕ) × (words ≡ codes "script" ∷ host ∷ word ∷ path ∷ []) × IsPort word port

-- ---- how a run is reported

-- the name of an end
abbrev pub end_name : Ended → List ℕ
end_name (ends.RemoteDisconnect info) = codes "remote-disconnect"
end_name ends.Disconnected = codes "disconnected"
end_name ends.Closed = codes "closed"
end_name ends.ScriptEnd = codes "script-end"

-- the name of an error, with its place or line
abbrev pub error_name : RunError → List ℕ
error_name errors.NoMemory = codes "no-memory"
error_name errors.ReadFault = codes "read-fault"
error_name errors.WriteFault = codes "write-fault"
error_name errors.SignerFault = codes "signer-fault"
error_name (errors.BadEvent place) = codes "bad-event " ++ decimal place
error_name (errors.OutOfTurn place) = codes "out-of-turn " ++ decimal place
error_name errors.ScriptTooLong = codes "script-too-long"
error_name errors.TransportFailed = codes "transport-failed"
error_name errors.UnknownKey = codes "unknown-key"
error_name (errors.KeyChanged line) = codes "key-changed " ++ decimal line
error_name errors.Decode = codes "decode"
error_name errors.SshKey = codes "ssh-key"
error_name errors.Inconsistent = codes "inconsistent"
error_name errors.Pending = codes "pending"
error_name errors.NoAuthMethod = codes "no-auth-method"
error_name errors.NotAuthenticated = codes "not-authenticated"
error_name errors.SshEncoding = codes "ssh-encoding"
error_name errors.InvalidDisconnect = codes "invalid-disconnect"
error_name errors.RecvError = codes "recv-error"
error_name errors.KeepaliveTimeout = codes "keepalive-timeout"
error_name errors.InactivityTimeout = codes "inactivity-timeout"
error_name (errors.Revoked line) = codes "revoked " ++ decimal line
error_name errors.RekeyKey = codes "rekey-key"

-- the line that reports a result
abbrev pub answer_line : Result Ended RunError → List ℕ
answer_line (Ok e) = codes "ended " ++ end_name e ++ 10 ∷ []
answer_line (Err e) = codes "error " ++ error_name e ++ 10 ∷ []

-- errors in their order, from 20; 41 isn't used
abbrev pub error_status : RunError → ℕ
error_status errors.NoMemory = 20
error_status errors.ReadFault = 21
error_status errors.WriteFault = 22
error_status errors.SignerFault = 23
error_status (errors.BadEvent place) = 24
error_status (errors.OutOfTurn place) = 25
error_status errors.ScriptTooLong = 26
error_status errors.TransportFailed = 27
error_status errors.UnknownKey = 28
error_status (errors.KeyChanged line) = 29
error_status errors.Decode = 30
error_status errors.SshKey = 31
error_status errors.Inconsistent = 32
error_status errors.Pending = 33
error_status errors.NoAuthMethod = 34
error_status errors.NotAuthenticated = 35
error_status errors.SshEncoding = 36
error_status errors.InvalidDisconnect = 37
error_status errors.RecvError = 38
error_status errors.KeepaliveTimeout = 39
error_status errors.InactivityTimeout = 40
error_status (errors.Revoked line) = 42
error_status errors.RekeyKey = 43

abbrev pub status_of : Result Ended RunError → ℕ
status_of (Ok e) = 0
status_of (Err e) = error_status e

-- ---- the line that reports a run

-- a write of the run failed
abbrev pub is_write_fault : Result Ended RunError → Bool
is_write_fault (Err errors.WriteFault) = true
is_write_fault answer = false

abbrev pub TellsBy : Bool → Result Ended RunError → Option (List ℕ) → Option (List ℕ) → ℕ → ℕ → ℕ → Type 0
TellsBy true answer held now faults faults' status = (status ≡ 22) × (now ≡ held)
TellsBy false answer held now faults faults' status = Adds (answer_line answer) (status_of answer) held now faults faults' status

-- the line that reports the result is added; after a failed write of the run nothing is
abbrev pub Tells : Result Ended RunError → Option (List ℕ) → Option (List ℕ) → ℕ → ℕ → ℕ → Type 0
Tells answer held now faults faults' status = TellsBy (is_write_fault answer) answer held now faults faults' status

-- ---- a run by the arguments

-- the text of the known hosts file, if the files show it; a file that can't be opened is an empty text
abbrev pub IsKnownText : Option (List (List ℕ × List ℕ)) → List ℕ → List ℕ → Type 0
IsKnownText files path known = IsFound files path (found.Text known) ⊎ (IsFound files path found.NotOpened × (known ≡ []))

-- the settings of a run by arguments, and how many events it takes: the default ones
abbrev pub default_settings : Settings
default_settings = record { window_size = 2097152; anonymous = false; inactivity = false }

abbrev pub default_run : RunSettings
default_run = record { opening = default_settings; session = record { max_packet_size = 32768; keepalive_interval = None; keepalive_max = 3; remote_sshid = [] }; agent_asks = false }

abbrev pub default_events : ℕ
default_events = 8192

-- a run of a script, with all guarantees of `run_script`, and then the line that reports its result
abbrev pub RunsBy : RunAsked → RunOutside → RunOutside → ℕ → Type 0
RunsBy asked before now status =
    (answer : Result Ended RunError) × (behind : SinkState)
    × RunPromises asked before (record now { sink = behind }) answer
    × Tells answer behind.held now.sink.held behind.faults now.sink.faults status

-- the inputs of the run of the arguments: the known hosts text of the file, what the verifier accepts, and the default
-- settings
abbrev pub words_asked : Accepts → List ℕ → ℕ → List ℕ → RunAsked
words_asked accepts host port known = record {
  hosts = record { host = host_text host port; known = known };
  accepts = accepts;
  settings = default_run;
  max_events = default_events;
}

-- the table of such a run
abbrev pub words_table : Accepts → List ℕ → ℕ → List ℕ → List Answer → List ℕ → Run
words_table accepts host port known = table_of (words_asked accepts host port known)

-- nothing was read, and the signer wasn't asked; this line is added
abbrev pub AddsOnly : List ℕ → ℕ → RunOutside → RunOutside → ℕ → Type 0
AddsOnly line number before now status =
    (now.source ≡ before.source) × (now.calls ≡ before.calls) × Adds line number before.sink.held now.sink.held before.sink.faults now.sink.faults status

-- the result for a known hosts text: the run over it, or memory ran out before the run
abbrev pub TextGives : RunAsked → RunOutside → RunOutside → ℕ → Type 0
TextGives asked before now status = RunsBy asked before now status ⊎ AddsOnly (answer_line (Err errors.NoMemory)) 20 before now status

-- what the arguments `script HOST PORT KNOWN` do: the run over the known hosts text, or a line that reports why there
-- is no run
abbrev pub ScriptGives : Accepts → List ℕ → ℕ → List ℕ → Option (List (List ℕ × List ℕ)) → RunOutside → RunOutside → ℕ → ℕ → ℕ → Type 0
ScriptGives accepts host port path files before now fails fails' status =
    ((known : List ℕ) × IsKnownText files path known × TextGives (words_asked accepts host port known) before now status)
    ⊎ ((IsFound files path found.NotText ⊎ Rose fails fails') × AddsOnly (codes "error known-file" ++ 10 ∷ []) 3 before now status)
    ⊎ AddsOnly (answer_line (Err errors.NoMemory)) 20 before now status
