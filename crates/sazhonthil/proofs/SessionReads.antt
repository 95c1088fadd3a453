-- What a session's calls do, from the clauses of what they call.
use Rattle.std.proofs.Common.{◌≡◌, ◌≢◌, ℕ, List, [], ◌∷◌, drop, Some, None, slice_get, refl, ap, subst, ◌∙◌, arith}
use Rattle.sshc_c_calls.specs.CopiedOut.{CopiedOut}
use Rattle.sshc_client.specs.declared.config.Config.{Config}
use Rattle.sshc_client_packets.specs.HostKeyProof.{Accepts}
use Rattle.sshc_hosts.specs.HostText.{host_text}
use Rattle.sshc_run_script.specs.Configured.{RunSettings}
use Rattle.sshc_run_script.specs.Paused.{Paused}
use Rattle.sshc_run_script.specs.PausedRuns.{IsRun, nothing_yet}
use Rattle.sshc_run_script.specs.RunPromises.{RunAsked, run_asked}
use Rattle.sazhonthil.specs.declared.settings.Settings.{Settings}
use Rattle.sazhonthil.specs.RecordReads.{ReadsRecord, TakesFirst}
use Rattle.sazhonthil.specs.SettingsKept.{Keeps, run_settings}
use Rattle.sazhonthil.specs.Taking.{Taking, accepts_none, asked_by}

-- ---- the start

abbrev pub asked_as : List ℕ → ℕ → List ℕ → RunSettings → ℕ → RunAsked
asked_as host port known settings events = record {
  hosts = record { host = host_text host port; known = known };
  accepts = accepts_none;
  settings = settings;
  max_events = events;
}

pub starts : (settings : Settings) (config : Config) (host : List ℕ) (port : ℕ) (known : List ℕ) (run : Paused) → Keeps settings config
    → ((accepts : Accepts) → IsRun (run_asked host port known accepts config) nothing_yet run) → IsRun (asked_by settings host port known) nothing_yet run
starts settings config host port known run keeps is =
    let asked : run_asked host port known accepts_none config ≡ asked_by settings host port known
    = ap (λ (s : RunSettings). asked_as host port known s config.max_events) keeps.settings ∙ ap (asked_as host port known (run_settings settings)) keeps.events in
    subst (λ (asked : RunAsked). IsRun asked nothing_yet run) asked (is accepts_none)

-- ---- records

abbrev pub taking : Paused → List (List ℕ) → Taking
taking run left = record { run = run; left = left }

-- a record was there, was copied, and goes
pub copied_first : (run : Paused) (left : List (List ℕ)) (bytes before after : List ℕ) (size status : ℕ) → Some bytes ≡ slice_get left 0 → status ≡ 0 →
    CopiedOut bytes before after size status → ReadsRecord (taking run left) (taking run (drop 1 left)) before after size status
copied_first run [] bytes before after size status is ok copied = absurd cc
copied_first run (first ∷ left) bytes before after size status is ok copied =
    let same : bytes ≡ first = cc in
    subst (λ (b : List ℕ). TakesFirst b left (taking run (first ∷ left)) (taking run left) before after size status) same
    (record {
      counted = copied.counted;
      copied = λ fits. ((copied.copied fits).0, refl, (copied.copied fits).1);
      no_room = λ more. absurd (omega (arith, ok, (copied.no_room more).0));
    })

-- it stays
pub kept_first : (run : Paused) (left : List (List ℕ)) (bytes before after : List ℕ) (size status : ℕ) → Some bytes ≡ slice_get left 0 → status ≢ 0 →
    CopiedOut bytes before after size status → ReadsRecord (taking run left) (taking run left) before after size status
kept_first run [] bytes before after size status is other copied = absurd cc
kept_first run (first ∷ left) bytes before after size status is other copied =
    let same : bytes ≡ first = cc in
    subst (λ (b : List ℕ). TakesFirst b left (taking run (first ∷ left)) (taking run (first ∷ left)) before after size status) same
    (record {
      counted = copied.counted;
      copied = λ fits. absurd (other (copied.copied fits).0);
      no_room = λ more. ((copied.no_room more).0, refl, (copied.no_room more).1);
    })

-- none was there
pub none_left : (run : Paused) (left : List (List ℕ)) (before : List ℕ) → None ≡ slice_get left 0 → ReadsRecord (taking run left) (taking run left) before before 0 6
none_left run [] before is = record { told = (refl, refl); same = (refl, refl) }
none_left run (first ∷ left) before is = absurd cc
