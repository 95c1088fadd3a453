-- The settings that a run keeps of its configuration.
use Rattle.std.specs.Prelude.{Bool, []}
use Rattle.sshc_auth.specs.declared.opening.Settings.{Settings}
use Rattle.sshc_client_table.specs.declared.settings.SessionSettings.{SessionSettings}
use Rattle.sshc_client.specs.declared.config.Config.{Config}
use Rattle.sshc_client.specs.Configured.{session_settings_of, settings_of}

-- the settings of a session and an agent: those that the session's opening keeps, those that the session keeps besides,
-- and whether the agent asks for each request
pub record RunSettings : Type 0 where
  pub opening : Settings
  pub session : SessionSettings
  pub agent_asks : Bool

abbrev pub run_settings_of : Config → RunSettings
run_settings_of c = record { opening = settings_of c; session = session_settings_of c []; agent_asks = c.agent_asks }
