-- The arguments `gen SEED N`: a run of a generated script, and its report. One equation on the list of arguments, and
-- the run by its table; the code keeps the script and the lines in memory.
use Rattle.std.specs.Prelude.{◌≡◌, ◌⊎◌, ℕ, ◌≤◌, ◌<◌, ◌^◌, Bool, true, false, List, [], ◌∷◌, ◌++◌, Option, Some, Result, Err, codes}
use Rattle.std.specs.Str.Parse.{IsNumeral, digits_value}
use Rattle.sshc_hosts.specs.HostText.{host_text}
use Rattle.sshc_toy.specs.ToyPair.{toy_accepts}
use Rattle.sshc_hosts_words.specs.Adding.{Adds}
use Rattle.sshc_key.specs.Asking.{Answer}
use Rattle.sshc_key.specs.Signers.{SignCall}
use Rattle.sshc_auth.specs.declared.ended.Ended.{Ended}
use Rattle.sshc_run_script.specs.declared.error.RunError.{RunError}
use Rattle.sshc_run_script.specs.declared.error.RunError.TheVariants as errors
use Rattle.sshc_run_script.specs.KnownHosts.{Hosts}
use Rattle.sshc_run_script.specs.Outcome.{streams, Ends}
use Rattle.sshc_run_script.specs.RunTurn.{run_machine}
use Rattle.sshc_run_script.specs.ScriptRun.{Run, script_run}
use Rattle.sshc_run_script.specs.Words.{default_run, answer_line, status_of}
use Rattle.sshc_run.specs.Blocks.{generated}
use Rattle.sshc_run.specs.Events.{Script}
use Rattle.sshc_run.specs.Summary.{Summed, summary_lines, summed}

-- ---- the arguments

-- a decimal number below 2^64
abbrev pub IsSeed : List ℕ → ℕ → Type 0
IsSeed word seed = IsNumeral 10 word × (digits_value 10 word ≡ seed) × (seed < 2 ^ 64)

-- a decimal number from 1 to 100000
abbrev pub IsBlockCount : List ℕ → ℕ → Type 0
IsBlockCount word count = IsNumeral 10 word × (digits_value 10 word ≡ count) × (1 ≤ count) × (count ≤ 100000)

-- `gen SEED N`
abbrev pub IsGenWords : List (List ℕ) → ℕ → ℕ → Type 0
IsGenWords words seed count =
    (first : List ℕ) × (second : List ℕ) × (words ≡ codes "gen" ∷ first ∷ second ∷ []) × IsSeed first seed × IsBlockCount second count

-- ---- the run

-- `localhost` at port 13265, and the known hosts text that accepts the host key of generated scripts
abbrev pub gen_hosts : Hosts
gen_hosts = record {
  host = host_text (codes "localhost") 13265;
  known = codes "[localhost]:13265 ssh-ed25519 AAAAC3NzaC1lZDI1NTE5AAAAIJdD7y3aLq454yWBdwLWbieU1ebz9/cu7/QEXn9OIeZJ" ++ 10 ∷ [];
}

-- the settings are the default ones, except for the number of events that a run takes
abbrev pub gen_events : ℕ
gen_events = 300000

abbrev pub gen_table : List Answer → List ℕ → Run
gen_table = script_run (run_machine gen_hosts toy_accepts default_run) gen_events

-- a read or a write failed
abbrev pub is_fault : Result Ended RunError → Bool
is_fault (Err errors.ReadFault) = true
is_fault (Err errors.WriteFault) = true
is_fault answer = false

-- a run of these bytes over memory, of which no read and no write fails, has this result and writes this text
abbrev pub RunGives : List ℕ → Result Ended RunError → List ℕ → Type 0
RunGives script answer text =
    (left : Option (List ℕ)) × (reads : ℕ) × (calls : List SignCall) × (is_fault answer ≡ false)
    × Ends gen_events 0 0 gen_table (streams (Some script) (Some []) 0 []) (streams left (Some text) reads calls) answer

-- the events of the script, and a run of it whose text has this summary
abbrev pub IsRunOf : Script → ℕ → Summed → Result Ended RunError → Type 0
IsRunOf script events summary answer =
    (events ≡ script.events) × ((text : List ℕ) × (summary ≡ summed text) × RunGives script.text answer text)

-- ---- the report

-- the run of the script of the seed and the count, reported with the status of its result: the summary of its text, and
-- the line of the result; or memory ran out before the run
abbrev pub GenGives : ℕ → ℕ → Option (List ℕ) → Option (List ℕ) → ℕ → ℕ → ℕ → Type 0
GenGives seed count held now faults faults' status =
    ((answer : Result Ended RunError) × (text : List ℕ) × RunGives (generated seed count).text answer text
    × Adds (summary_lines (generated seed count).events (summed text) ++ answer_line answer) (status_of answer) held now faults faults' status)
    ⊎ Adds (answer_line (Err errors.NoMemory)) 20 held now faults faults' status
