-- How a row ends a session, as the code keeps it in two words; nothing else depends on it.
use Rattle.sshc_auth.specs.declared.ended.Ended.{Ended}
use Rattle.sshc_auth.specs.declared.ended.Ended.TheVariants as ends
use Rattle.sshc_auth.specs.declared.ending.SmallEnd.{SmallEnd}
use Rattle.sshc_auth.specs.declared.ending.SmallEnd.TheVariants as small

abbrev pub end_in : SmallEnd → Ended
end_in (small.RemoteDisconnect info) = ends.RemoteDisconnect info.value
end_in small.Disconnected = ends.Disconnected
end_in small.Closed = ends.Closed
