-- Ends that hold text of the server's.
use Rattle.sshc_auth.specs.declared.ended.Ended.{Ended}
use Rattle.sshc_auth.specs.declared.ended.Ended.TheVariants.{RemoteDisconnect}

abbrev pub IsRemote : Ended → Type 0
IsRemote (RemoteDisconnect info) = Unit {0}
IsRemote ended = ⊥
