-- What a run keeps of the settings that a caller in C hands in.
use Rattle.std.specs.Prelude.{◌≡◌, ◌==◌, not, false, if◌then◌else◌, ℕ, Bool, [], Option, Some, None, is_some}
use Rattle.sshc_run_script.specs.Configured.{RunSettings, run_settings_of}
use Rattle.sshc_client.specs.declared.config.Config.{Config}
use Rattle.sazhonthil.specs.declared.settings.Settings.{Settings}

-- 0 is no interval
abbrev pub interval_of : ℕ → Option ℕ
interval_of milliseconds = if milliseconds == 0 then None else Some milliseconds

-- any number but 0 is yes
abbrev pub is_yes : ℕ → Bool
is_yes number = not (number == 0)

abbrev pub run_settings : Settings → RunSettings
run_settings s = record {
  opening = record { window_size = s.window_size; anonymous = is_yes s.anonymous; inactivity = is_some (interval_of s.inactivity_timeout) };
  session = record { max_packet_size = s.maximum_packet_size; keepalive_interval = interval_of s.keepalive_interval; keepalive_max = s.keepalive_max; remote_sshid = [] };
  agent_asks = false;
}

-- the configuration keeps the settings
pub record Keeps (s : Settings) (c : Config) : Type 0 where
  pub settings : run_settings_of c ≡ run_settings s
  pub events : c.max_events ≡ s.max_events
