-- How contracts see a session of the C library, and what its calls do: the promises are those of a run whose events come
-- one at a time (PausedRuns of sshc_run_script), with a verifier that accepts nothing.
use Rattle.std.specs.Prelude.{◌≡◌, ◌++◌, ℕ, false, List}
use Rattle.std.specs.Coded.{Coded, codes}
use Rattle.sshc_key.specs.PairCode.{key_pair_code}
use Rattle.sshc_key.specs.Signers.{SignCall}
use Rattle.sshc_client_state.specs.StateCode.{session_code}
use Rattle.sshc_client_packets.specs.HostKeyProof.{Accepts}
use Rattle.sshc_hosts.specs.HostText.{host_text}
use Rattle.sshc_run_script.specs.Paused.{Paused}
use Rattle.sshc_run_script.specs.PausedRuns.{Takes}
use Rattle.sshc_run_script.specs.RecordLines.{text_lines}
use Rattle.sshc_run_script.specs.RunPromises.{RunAsked}
use Rattle.sshc_run_script.specs.declared.run_step.RunStep.{RunStep}
use Rattle.sazhonthil.specs.declared.settings.Settings.{Settings}
use Rattle.sazhonthil.specs.declared.step_answer.StepAnswer.{StepAnswer}
use Rattle.sazhonthil.specs.SettingsKept.{run_settings}
use Rattle.sazhonthil.specs.StepAnswers.{answer_of}

-- the run, and the texts of its records that weren't read yet (a record's number and fields, docs/FORMATS.md)
pub record Taking : Type 0 where
  pub run : Paused
  pub left : List (List ℕ)

pub taking_code : Coded Taking
taking_code = hlevel (codes, key_pair_code, session_code)

-- no proof of a host key is accepted
abbrev pub accepts_none : Accepts
accepts_none = λ _ _ _. false

-- what the run is asked: the host, the known hosts text and the settings that were handed in
abbrev pub asked_by : Settings → List ℕ → ℕ → List ℕ → RunAsked
asked_by settings host port known = record {
  hosts = record { host = host_text host port; known = known };
  accepts = accepts_none;
  settings = run_settings settings;
  max_events = settings.max_events;
}

-- the run took the events, for some calls of the signer, which refuses each; their records are left after those that were
-- (the promises of a run speak of the lines of records, of which each tells its record); and this is the answer
pub record TakesEvents (old : Taking) (events : List ℕ) (new : Taking) (answer : StepAnswer) : Type 0 where
  pub step : RunStep
  pub calls : List SignCall
  pub lines : List ℕ
  pub takes : Takes accepts_none old.run events calls lines new.run step
  pub left : text_lines new.left ≡ text_lines old.left ++ lines
  pub answers : answer ≡ answer_of step
