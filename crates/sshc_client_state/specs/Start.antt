-- A session at the start of its connection: its opening begins, and there are no channels and no requests.
use Rattle.std.specs.Prelude.{List, [], ◌∷◌, Option, Some, None}
use Rattle.sshc_auth.specs.declared.opening.Settings.{Settings}
use Rattle.sshc_auth.specs.OpeningState.{start}
use Rattle.sshc_mux.specs.ChannelAccount.{no_channels}
use Rattle.sshc_client_table.specs.declared.life.Life.TheVariants.{Runs}
use Rattle.sshc_client_table.specs.declared.settings.SessionSettings.{SessionSettings}
use Rattle.sshc_client_table.specs.SessionState.{SessionState}

-- the first of a list, if there is one
abbrev pub first_of : {A : Type 0} → List A → Option A
first_of [] = None
first_of (x ∷ xs) = Some x

-- the handler is first passed our window of a new channel
abbrev pub new_session : SessionSettings → Settings → SessionState
new_session settings opening = record {
  settings = settings;
  opening = start opening;
  table = no_channels 0;
  replies = [];
  keepalives = 0;
  window_target = opening.window_size;
  records = [];
  life = Runs;
}
