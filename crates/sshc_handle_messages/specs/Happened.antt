-- What happened on a channel (RFC 4254, sections 5 and 6), as its user sees it: the same fields, with the channel's
-- number if it opens, and without the description of a refusal. A table from records to messages.
use Rattle.sshc_wire.specs.declared.channel_id.ChannelId.{ChannelId}
use Rattle.sshc_wire.specs.declared.channel_record.ChannelRecord.{ChannelRecord}
use Rattle.sshc_wire.specs.declared.channel_record.ChannelRecord.TheVariants as records
use Rattle.sshc_auth_event.specs.declared.channel_msg.ChannelMsg.{ChannelMsg}
use Rattle.sshc_auth_event.specs.declared.channel_msg.ChannelMsg.TheVariants as output

abbrev pub channel_msg : ChannelId → ChannelRecord → ChannelMsg
channel_msg id (records.Open max_packet_size window_size) = output.Open id max_packet_size window_size
channel_msg id records.Success = output.Success
channel_msg id records.Failure = output.Failure
channel_msg id records.Close = output.Close
channel_msg id records.Eof = output.Eof
channel_msg id (records.OpenFailure reason description language) = output.OpenFailure reason
channel_msg id (records.Data body) = output.Data body
channel_msg id (records.ExtendedData ext body) = output.ExtendedData ext body
channel_msg id (records.XonXoff client_can_do) = output.XonXoff client_can_do
channel_msg id (records.ExitStatus exit_status) = output.ExitStatus exit_status
channel_msg id (records.ExitSignal signal_name core_dumped error_message lang_tag) =
    output.ExitSignal signal_name core_dumped error_message lang_tag
channel_msg id (records.WindowAdjusted new_size) = output.WindowAdjusted new_size
