-- What a run of a script guarantees, in one record. `run_script` has it as its clause `promises`, and the run by the
-- command-line arguments `script HOST PORT KNOWN` has it too. If a field mentions the tables, they are those of
-- docs/TABLES.md, over the events of the script's bytes.
use Rattle.std.specs.Prelude.{ℕ, List, Result}
use Rattle.sshc_hosts.specs.HostText.{host_text}
use Rattle.sshc_key.specs.Asking.{Answer}
use Rattle.sshc_key.specs.Signers.{SignCall, since}
use Rattle.sshc_auth.specs.OpeningState.{OpeningState}
use Rattle.sshc_auth.specs.declared.ended.Ended.{Ended}
use Rattle.sshc_client_packets.specs.HostKeyProof.{Accepts}
use Rattle.sshc_client.specs.declared.config.Config.{Config}
use Rattle.sshc_run_script.specs.declared.error.RunError.{RunError}
use Rattle.sshc_run_script.specs.AgentRuns.{HasOneHistory}
use Rattle.sshc_run_script.specs.Askers.{AreCallsByAsker}
use Rattle.sshc_run_script.specs.Causes.{IsCaused}
use Rattle.sshc_run_script.specs.ChannelRuns.{AreAccounted}
use Rattle.sshc_run_script.specs.Configured.{RunSettings, run_settings_of}
use Rattle.sshc_run_script.specs.Headline.{IsGated, IsPrefix, IsDone, IsKept, IsComplete}
use Rattle.sshc_run_script.specs.KnownHosts.{Hosts}
use Rattle.sshc_run_script.specs.Machine.{Machine}
use Rattle.sshc_run_script.specs.OpenAnswers.{OpensAreAnswered}
use Rattle.sshc_run_script.specs.OpenCounts.{OpensAreCounted}
use Rattle.sshc_run_script.specs.OpenSteps.{StepsKeepLaws}
use Rattle.sshc_run_script.specs.OpenedKey.{IsOpenedByAccepted}
use Rattle.sshc_run_script.specs.OpeningFirst.{IsOpeningFirst, IsOpeningDone, IsOpeningComplete}
use Rattle.sshc_run_script.specs.Outcome.{Ends}
use Rattle.sshc_run_script.specs.Part.{own_answers}
use Rattle.sshc_run_script.specs.PasswordRuns.{PasswordsAreAsked}
use Rattle.sshc_run_script.specs.ReplyOrder.{AreInOrder}
use Rattle.sshc_run_script.specs.RunOutside.{RunOutside, CountsMoved, faults_of, streams_of}
use Rattle.sshc_run_script.specs.RunTurn.{run_machine}
use Rattle.sshc_run_script.specs.ScriptRun.{Run, script_run, answers_of}
use Rattle.sshc_run_script.specs.SessionPart.{session_own, IsAgentCause}
use Rattle.sshc_run_script.specs.SignedRequests.{AreSigned, CallsAreCounted}
use Rattle.sshc_run_script.specs.Turn.{opening_machine}

-- ---- the inputs of a run

-- the host and the known hosts text, the signatures that the verifier accepts, the settings, and the most events that
-- are taken
pub record RunAsked : Type 0 where
  pub hosts : Hosts
  pub accepts : Accepts
  pub settings : RunSettings
  pub max_events : ℕ

-- the inputs of `run_script`, by its arguments
abbrev pub run_asked : List ℕ → ℕ → List ℕ → Accepts → Config → RunAsked
run_asked host port known accepts config = record {
  hosts = record { host = host_text host port; known = known };
  accepts = accepts;
  settings = run_settings_of config;
  max_events = config.max_events;
}

-- ---- the tables

-- the run by the tables, for the signer's answers in order and a script
abbrev pub table_of : RunAsked → List Answer → List ℕ → Run
table_of asked = script_run (run_machine asked.hosts asked.accepts asked.settings) asked.max_events

-- the table of the opening alone
abbrev pub opening_table : RunAsked → Machine OpeningState
opening_table asked = opening_machine asked.hosts asked.settings.opening

-- the calls of the signer in the run
abbrev pub calls_since : RunOutside → RunOutside → List SignCall
calls_since before now = since before.calls now.calls

-- the signer's answers to the session in the run
abbrev pub session_answers : RunOutside → RunOutside → List Answer
session_answers before now = own_answers session_own (calls_since before now)

-- the run by the tables, for the signer's answers in the run
abbrev pub answered_table : RunAsked → RunOutside → RunOutside → List ℕ → Run
answered_table asked before now = table_of asked (answers_of (calls_since before now))

-- ---- the guarantees

pub record RunPromises (asked : RunAsked) (before now : RunOutside) (answer : Result Ended RunError) : Type 0 where
  -- what was read, what was written, the signer's calls and the result, by the tables over the script's events
  pub run : Ends asked.max_events 0 0 (table_of asked) (streams_of before) (streams_of now) answer
  -- no payload is written, not even in part, unless the known hosts text accepts the host key of the first exchange
  pub gate : IsGated asked.hosts asked.max_events (streams_of before) (streams_of now)
  -- the bytes that are written are a prefix of the lines of the whole script's records, however the run ends
  pub prefix : IsPrefix (answered_table asked before now) (streams_of before) (streams_of now)
  -- Ok is the end of the whole script by the tables, and all its records are written
  pub done : IsDone (answered_table asked before now) (streams_of before) (streams_of now) answer
  -- with every error but WriteFault and NoMemory all records of the events before it are written, and those of its own
  -- row
  pub kept : IsKept (answered_table asked before now) (streams_of before) (streams_of now) answer
  -- if the tables accept every event of a script, the result is its end or out of memory, if no count of faults rises
  pub complete : IsComplete (answered_table asked before now) (streams_of before) (faults_of before) (faults_of now) answer
  -- each end and each error has its cause: a state that the tables come to and the event there, or what follows the
  -- events
  pub causes : IsCaused asked.hosts asked.accepts asked.settings asked.max_events (answers_of (calls_since before now)) before.source.left answer
  -- the session's records that are written are a prefix of the opening table's outputs or, once that table opens the
  -- session, all of them followed by more, whatever events of agents are in between
  pub opening : IsOpeningFirst (opening_table asked) session_own asked.max_events (streams_of before) (streams_of now)
  -- if that table opens the session, the first exchange has a plain host key that the known hosts text accepts by its
  -- meaning: all its lines for the host can be read, none revokes or contradicts the key, and one records it
  pub accepted : IsOpenedByAccepted asked.hosts (opening_table asked) session_own asked.max_events (calls_since before now) before.source.left
  -- if that table opens the session, with Ok all of its outputs are written; else exactly these are, and Ok is the
  -- table's end
  pub opening_done : IsOpeningDone (opening_table asked) session_own asked.max_events (streams_of before) (streams_of now) answer
  -- for a valid script of whose agents' events none stops the run, the result is its end or out of memory, if no count
  -- of faults rises
  pub opening_complete : IsOpeningComplete (opening_table asked) session_own IsAgentCause asked.max_events (streams_of before) (streams_of now)
      (faults_of before) (faults_of now) answer
  -- at each state that the session comes to, our global requests that were answered are the first of those written, in
  -- order
  pub replies : AreInOrder asked.hosts asked.accepts asked.settings asked.max_events (session_answers before now) before.source.left
  -- at each state that the session comes to, each channel has its account: the channels are the result of the rows'
  -- calls, and the packets of channels that the open session writes are those of these calls
  pub channels : AreAccounted asked.hosts asked.accepts asked.settings asked.max_events (session_answers before now) before.source.left
  -- an open of ours is answered while it waits, with its own ticket, and then waits no more
  pub opens : OpensAreAnswered asked.hosts asked.accepts asked.settings asked.max_events (session_answers before now) before.source.left
  -- at each state that the session comes to, no more opens of ours were answered than were asked for
  pub opens_once : OpensAreCounted asked.hosts asked.accepts asked.settings asked.max_events (session_answers before now) before.source.left
  -- at each state that the session comes to, its session id is the first exchange's hash, and what it asks the signer,
  -- or outputs to be signed, is the signed text of that id and of a request that an earlier event asked for
  pub signed : AreSigned asked.hosts asked.accepts asked.settings asked.max_events (session_answers before now) before.source.left
  -- the session asks the signer at most once for each event that asks to authenticate by a key of which the pair is
  -- available
  pub calls : CallsAreCounted asked.max_events (answered_table asked before now) before.source.left
  -- for every user and password, the packet that asks for the user by the password is among the records at most as
  -- often as the session's events ask for it
  pub passwords : PasswordsAreAsked asked.max_events (answered_table asked before now) before.source.left
  -- the signer was called as the tables call it over the whole script, and each call had the next answer of its asker
  pub askers : AreCallsByAsker (run_machine asked.hosts asked.accepts asked.settings) asked.max_events (calls_since before now) before.source.left
  -- each event of an open session, the last one too, has the laws of a step: how requests and opens of ours are answered,
  -- and that no bytes of a channel are written while keys are exchanged
  pub steps : StepsKeepLaws asked.hosts asked.accepts asked.settings asked.max_events (session_answers before now) before.source.left
  -- the agent's records are those of one history of one agent that holds nothing at first: its inputs are those of the
  -- agents' events, its locks hold, and each signature of it is permitted
  pub agents : HasOneHistory asked.settings.agent_asks asked.max_events (answered_table asked before now) before.source.left
  -- how the counts of the source and the sink changed, and that a fault is returned if and only if its count rose
  pub counts : CountsMoved before now answer
