-- The default settings of a client, and which of them a session and its opening keep.
use Rattle.std.specs.Prelude.{◌≡◌, ℕ, List, false, None, is_some, codes}
use Rattle.sshc_auth.specs.declared.opening.Settings.{Settings}
use Rattle.sshc_client_table.specs.declared.settings.SessionSettings.{SessionSettings}
use Rattle.sshc_client.specs.declared.config.Config.{Config}

pub record IsDefault (c : Config) : Type 0 where
  pub client_id : c.client_id ≡ codes "SSH-2.0-russh_0.65.1"
  pub window_size : c.window_size ≡ 2097152
  pub maximum_packet_size : c.maximum_packet_size ≡ 32768
  pub channel_buffer_size : c.channel_buffer_size ≡ 100
  pub inactivity_timeout : c.inactivity_timeout ≡ None
  pub keepalive_interval : c.keepalive_interval ≡ None
  pub keepalive_max : c.keepalive_max ≡ 3
  pub anonymous : c.anonymous ≡ false
  pub nodelay : c.nodelay ≡ false
  pub max_events : c.max_events ≡ 8192
  pub agent_asks : c.agent_asks ≡ false

-- which settings the opening keeps
abbrev pub settings_of : Config → Settings
settings_of c = record { window_size = c.window_size; anonymous = c.anonymous; inactivity = is_some c.inactivity_timeout }

-- which settings an open session keeps, beside the server's identification string
abbrev pub session_settings_of : Config → List ℕ → SessionSettings
session_settings_of c remote_sshid = record {
  max_packet_size = c.maximum_packet_size;
  keepalive_interval = c.keepalive_interval;
  keepalive_max = c.keepalive_max;
  remote_sshid = remote_sshid;
}
