-- What a call of a handle can state without the value under the lock, which others change meanwhile.
use Rattle.std.specs.Prelude.{◌≡◌}
use Rattle.sshc_wire.specs.declared.channel_id.ChannelId.{ChannelId}
use Rattle.sshc_wire.specs.declared.channel_record.ChannelRecord.{ChannelRecord}
use Rattle.sshc_auth_event.specs.declared.channel_msg.ChannelMsg.{ChannelMsg}
use Rattle.sshc_auth.specs.declared.error.Error.{Error}
use Rattle.sshc_auth.specs.declared.error.Error.TheVariants.{Disconnect, NoMemory}
use Rattle.sshc_handle_messages.specs.Happened.{channel_msg}

-- how a session ended isn't known: it was refused, or memory ran out
abbrev pub IsEndError : Error → Type 0
IsEndError Disconnect = Unit {0}
IsEndError NoMemory = Unit {0}
IsEndError e = ⊥

-- a message of the channel is what some record of it reports
abbrev pub IsReported : ChannelId → ChannelMsg → Type 0
IsReported id msg = (happened : ChannelRecord) × (msg ≡ channel_msg id happened)
