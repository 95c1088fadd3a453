-- Records: what a session or an agent reports, as a number and fields. A record below 40 (hexadecimal) is a session's.
-- Each definition is the whole text; the code appends part by part.
use Rattle.std.specs.Prelude.{ℕ, Option, Some, None, List, [], ◌∷◌, ◌++◌, map}
use Rattle.sshc_wire.specs.Wire.{bool_text, counted_text, names_text, string_text, u32_text}
use Rattle.sshc_wire.specs.Methods.{method_name}
use Rattle.sshc_wire.specs.Reasons.{open_failure_code}
use Rattle.sshc_wire.specs.Signals.{signal_name}
use Rattle.sshc_wire.specs.declared.hash_alg.HashAlg.{HashAlg}
use Rattle.sshc_wire.specs.declared.hash_alg.HashAlg.TheVariants.{Sha256, Sha512}
use Rattle.sshc_wire.specs.declared.message_type.MessageType.{MessageType}
use Rattle.sshc_wire.specs.declared.message_type.MessageType.TheVariants as messages
use Rattle.sshc_wire.specs.declared.resolution.HostKeysFault.{HostKeysFault}
use Rattle.sshc_wire.specs.declared.resolution.HostKeysFault.TheVariants as proofs
use Rattle.sshc_wire.specs.declared.resolution.Resolution.{Resolution}
use Rattle.sshc_wire.specs.declared.resolution.Resolution.TheVariants as resolved
use Rattle.sshc_wire.specs.declared.auth_record.Prompt.{Prompt}
use Rattle.sshc_wire.specs.declared.auth_record.AuthRecord.{AuthRecord}
use Rattle.sshc_wire.specs.declared.auth_record.AuthRecord.TheVariants as auth
use Rattle.sshc_wire.specs.declared.auth_record.GssapiRecord.{GssapiRecord}
use Rattle.sshc_wire.specs.declared.auth_record.GssapiRecord.TheVariants as gssapi
use Rattle.sshc_wire.specs.declared.channel_record.ChannelRecord.{ChannelRecord}
use Rattle.sshc_wire.specs.declared.channel_record.ChannelRecord.TheVariants as channels
use Rattle.sshc_wire.specs.declared.channel_record.ServerOpen.{ServerOpen}
use Rattle.sshc_wire.specs.declared.channel_record.ServerOpen.TheVariants as opens
use Rattle.sshc_wire.specs.declared.agent_record.AgentFault.{AgentFault}
use Rattle.sshc_wire.specs.declared.agent_record.AgentFault.TheVariants as faults
use Rattle.sshc_wire.specs.declared.agent_record.AgentRecord.{AgentRecord}
use Rattle.sshc_wire.specs.declared.agent_record.AgentRecord.TheVariants as agent
use Rattle.sshc_wire.specs.declared.record.Record.{Record}
use Rattle.sshc_wire.specs.declared.record.Record.TheVariants.{Payload, BeginExchange, Opened, Resolved, Auth, KexDone, AuthBanner, Channel, ServerOpened, HostKeysAnnounced, Agent}

-- the hash of an RSA signature, in one byte
abbrev pub hash_number : Option HashAlg → ℕ
hash_number None = 0
hash_number (Some Sha256) = 1
hash_number (Some Sha512) = 2

-- why host keys aren't proved, in one byte
abbrev pub proof_number : HostKeysFault → ℕ
proof_number proofs.SshEncoding = 0
proof_number proofs.WrongServerSig = 1

-- a resolution's number and fields
abbrev pub resolution_text : Resolution → List ℕ
resolution_text resolved.AuthSuccess = 0x00 ∷ []
resolution_text (resolved.AuthFailure methods partial) = 0x01 ∷ names_text (map method_name methods) ++ bool_text partial
resolution_text resolved.ExtInfoSeen = 0x02 ∷ []
resolution_text (resolved.SigAlgs known names) = 0x03 ∷ bool_text known ++ names_text names
resolution_text (resolved.ChannelOpened id) = 0x04 ∷ u32_text id.0
resolution_text (resolved.ChannelOpenFailed reason) = 0x05 ∷ u32_text (open_failure_code reason)
resolution_text (resolved.ForwardPort port) = 0x06 ∷ u32_text port
resolution_text resolved.Done = 0x07 ∷ []
resolution_text resolved.Denied = 0x08 ∷ []
resolution_text resolved.Pong = 0x09 ∷ []
resolution_text resolved.HostKeysProved = 0x0a ∷ []
resolution_text (resolved.HostKeysRefused fault) = 0x0b ∷ proof_number fault ∷ []
resolution_text (resolved.GlobalReply body) = 0x0c ∷ string_text body
resolution_text resolved.Dropped = 0x0d ∷ []

-- a prompt, and whether the answer may be shown
abbrev pub prompt_text : Prompt → List ℕ
prompt_text p = string_text p.prompt ++ bool_text p.echo

-- a step of a GSSAPI authentication: the record's number, the ticket, the fields
unfoldable pub gssapi_text : ℕ → GssapiRecord → List ℕ
gssapi_text ticket (gssapi.Response mechanism mic) = 0x08 ∷ u32_text ticket ++ string_text mechanism ++ string_text mic
gssapi_text ticket (gssapi.Token token mic) = 0x09 ∷ u32_text ticket ++ string_text token ++ string_text mic
gssapi_text ticket (gssapi.Error major minor message) = 0x0a ∷ u32_text ticket ++ u32_text major ++ u32_text minor ++ string_text message
gssapi_text ticket (gssapi.ErrorToken token) = 0x0b ∷ u32_text ticket ++ string_text token

-- what the user is asked for: the record's number, the ticket, the fields
unfoldable pub auth_text : ℕ → AuthRecord → List ℕ
auth_text ticket (auth.SignRequest key hash body) = 0x05 ∷ u32_text ticket ++ string_text key ++ hash_number hash ∷ string_text body
auth_text ticket (auth.SignRequestCert cert hash body) = 0x06 ∷ u32_text ticket ++ string_text cert ++ hash_number hash ∷ string_text body
auth_text ticket (auth.AuthInfoRequest name instructions prompts) = 0x07 ∷ u32_text ticket ++ string_text name ++ string_text instructions ++ counted_text prompt_text prompts
auth_text ticket (auth.Gssapi step) = gssapi_text ticket step

-- what happens on a channel: the record's number, the channel's number, the fields
unfoldable pub channel_text : ℕ → ChannelRecord → List ℕ
channel_text channel (channels.Open packet window) = 0x22 ∷ u32_text channel ++ u32_text packet ++ u32_text window
channel_text channel channels.Success = 0x23 ∷ u32_text channel
channel_text channel channels.Failure = 0x24 ∷ u32_text channel
channel_text channel channels.Close = 0x25 ∷ u32_text channel
channel_text channel channels.Eof = 0x26 ∷ u32_text channel
channel_text channel (channels.OpenFailure reason description language) = 0x27 ∷ u32_text channel ++ u32_text (open_failure_code reason) ++ string_text description ++ string_text language
channel_text channel (channels.Data body) = 0x29 ∷ u32_text channel ++ string_text body
channel_text channel (channels.ExtendedData ext body) = 0x2a ∷ u32_text channel ++ u32_text ext ++ string_text body
channel_text channel (channels.XonXoff can_do) = 0x2b ∷ u32_text channel ++ bool_text can_do
channel_text channel (channels.ExitStatus status) = 0x2c ∷ u32_text channel ++ u32_text status
channel_text channel (channels.ExitSignal signal dumped message language) = 0x2d ∷ u32_text channel ++ string_text (signal_name signal) ++ bool_text dumped ++ string_text message ++ string_text language
channel_text channel (channels.WindowAdjusted size) = 0x2e ∷ u32_text channel ++ u32_text size

-- a channel that the server opens: the number of its type, the fields
unfoldable pub open_text : ServerOpen → List ℕ
open_text opens.Session = 0 ∷ []
open_text (opens.DirectTcpIp host port originator from) = 1 ∷ string_text host ++ u32_text port ++ string_text originator ++ u32_text from
open_text (opens.DirectStreamLocal path) = 2 ∷ string_text path
open_text (opens.X11 originator from) = 3 ∷ string_text originator ++ u32_text from
open_text (opens.ForwardedTcpIp address port originator from) = 4 ∷ string_text address ++ u32_text port ++ string_text originator ++ u32_text from
open_text (opens.ForwardedStreamLocal path) = 5 ∷ string_text path
open_text opens.AgentForward = 6 ∷ []
open_text opens.Unknown = 7 ∷ []

-- the kind of an agent's message, in one byte
abbrev pub message_number : MessageType → ℕ
message_number messages.RequestKeys = 0
message_number messages.AddKeys = 1
message_number messages.RemoveKeys = 2
message_number messages.RemoveAllKeys = 3
message_number messages.Sign = 4
message_number messages.Lock = 5
message_number messages.Unlock = 6

-- why an agent closes a connection, in one byte
abbrev pub fault_number : AgentFault → ℕ
fault_number faults.TooLong = 1
fault_number faults.Unreadable = 2
fault_number faults.SignerRefused = 3

-- what an agent reports: the record's number, the connection, the fields
unfoldable pub agent_text : ℕ → AgentRecord → List ℕ
agent_text conn (agent.Answer frame) = 0x40 ∷ u32_text conn ++ string_text frame
agent_text conn (agent.AskRequest message) = 0x41 ∷ u32_text conn ++ message_number message ∷ []
agent_text conn (agent.AskKey key) = 0x42 ∷ u32_text conn ++ string_text key
agent_text conn (agent.Closed fault) = 0x43 ∷ u32_text conn ++ fault_number fault ∷ []

-- a record's number and fields
abbrev pub record_text : Record → List ℕ
record_text (Payload packet) = 0x01 ∷ packet
record_text BeginExchange = 0x02 ∷ []
record_text Opened = 0x03 ∷ []
record_text (Resolved ticket resolution) = 0x04 ∷ u32_text ticket.0 ++ resolution_text resolution
record_text (Auth ticket asked) = auth_text ticket.0 asked
record_text (KexDone kex) = 0x20 ∷ string_text kex
record_text (AuthBanner banner) = 0x21 ∷ string_text banner
record_text (Channel id happened) = channel_text id.0 happened
record_text (ServerOpened id opened) = 0x28 ∷ u32_text id.0 ++ open_text opened
record_text (HostKeysAnnounced keys) = 0x2f ∷ counted_text string_text keys
record_text (Agent conn answer) = agent_text conn answer

-- a session payload is a record for the transport
abbrev pub IsPayload : Record → Type 0
IsPayload (Payload packet) = Unit {0}
IsPayload output = ⊥

-- the answer to a ticket
abbrev pub IsResolved : Record → Type 0
IsResolved (Resolved ticket resolution) = Unit {0}
IsResolved output = ⊥
