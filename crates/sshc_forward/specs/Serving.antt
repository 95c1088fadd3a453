-- What the threads of a pair make of what they read and hear, and of what is to be done.
use Rattle.std.specs.Prelude.{◌≡◌, ℕ, ◌<◌, List, length, Option, None, Some, Result, Ok, Err}
use Rattle.sshc_wire.specs.Contents.{prepend, IsAtEnd}
use Rattle.sshc_wire.specs.Faults.{Rose}
use Rattle.sshc_wire.specs.declared.error.NoMemory.{NoMemory}
use Rattle.sshc_auth_event.specs.declared.channel_msg.ChannelMsg.{ChannelMsg}
use Rattle.sshc_auth_event.specs.declared.channel_msg.ChannelMsg.TheVariants as msgs
use Rattle.sshc_forward_core.specs.declared.output.FwdOutput.{FwdOutput}
use Rattle.sshc_forward_core.specs.declared.output.FwdOutput.TheVariants as outputs
use Rattle.sshc_forward_core.specs.declared.served.PairEvent.{PairEvent}
use Rattle.sshc_forward_core.specs.declared.served.PairEvent.TheVariants as events
use Rattle.sshc_forward.specs.declared.deeds.Deed.{Deed}
use Rattle.sshc_forward.specs.declared.deeds.Deed.TheVariants as deeds

-- the event for what is heard on the channel; nothing for what is passed over
abbrev pub channel_event : Option ChannelMsg → Option PairEvent
channel_event None = Some events.ChannelClose
channel_event (Some (msgs.Data body)) = Some (events.Data body)
channel_event (Some msgs.Eof) = Some events.ChannelEof
channel_event (Some msgs.Close) = Some events.ChannelClose
channel_event (Some msg) = None

-- what is done for an output
abbrev pub deed_for : FwdOutput → Deed
deed_for (outputs.SendData channel bytes) = deeds.Submit (msgs.Data bytes)
deed_for (outputs.SendEof channel) = deeds.Submit msgs.Eof
deed_for (outputs.CloseChannel channel) = deeds.Submit msgs.Close
deed_for (outputs.WriteBytes stream bytes) = deeds.Write bytes
deed_for output = deeds.Nothing

-- the event for what a read returned: bytes, at least one, which are the next of the stream; its end, if nothing is left;
-- or its failure, which was counted
abbrev pub StreamReads : Option (List ℕ) → Option (List ℕ) → ℕ → ℕ → Result PairEvent NoMemory → Type 0
StreamReads old new faults faults' (Ok (events.Bytes bytes)) = (old ≡ prepend bytes new) × (0 < length bytes)
StreamReads old new faults faults' (Ok events.StreamEnd) = (old ≡ new) × IsAtEnd new
StreamReads old new faults faults' (Ok events.StreamFailed) = (old ≡ new) × Rose faults faults'
StreamReads old new faults faults' (Ok event) = ⊥
StreamReads old new faults faults' (Err e) = Unit {0}
