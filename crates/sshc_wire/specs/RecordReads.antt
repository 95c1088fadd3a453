-- How the fields of a record are read. What was written is read as what was written; other bytes are read as some record's fields,
-- or have a fault. Each reader is a function on the whole list; the code moves a cursor.
use Rattle.std.specs.Prelude.{ℕ, Option, Some, None, List, Ok, ◌==◌, if◌then◌else◌}
use Rattle.std.specs.Int.{w32}
use Rattle.std.specs.List.{filter_map}
use Rattle.sshc_wire.specs.Counted.{times_at}
use Rattle.sshc_wire.specs.Format.{made_at}
use Rattle.sshc_wire.specs.Methods.{method_of}
use Rattle.sshc_wire.specs.Names.{names_in}
use Rattle.sshc_wire.specs.Reads.{Reader, ◌>>=◌, boolean_at, byte_at, number_at, string_at}
use Rattle.sshc_wire.specs.Reasons.{open_failure_of}
use Rattle.sshc_wire.specs.Signals.{signal_of}
use Rattle.sshc_wire.specs.declared.error.WireError.{WireError}
use Rattle.sshc_wire.specs.declared.ticket.Ticket.{Ticket}
use Rattle.sshc_wire.specs.declared.channel_id.ChannelId.{ChannelId}
use Rattle.sshc_wire.specs.declared.channel_open_failure.ChannelOpenFailure.{ChannelOpenFailure}
use Rattle.sshc_wire.specs.declared.channel_open_failure.ChannelOpenFailure.TheVariants.{AdministrativelyProhibited}
use Rattle.sshc_wire.specs.declared.methods.MethodKind.{MethodKind}
use Rattle.sshc_wire.specs.declared.hash_alg.HashAlg.{HashAlg}
use Rattle.sshc_wire.specs.declared.hash_alg.HashAlg.TheVariants.{Sha256, Sha512}
use Rattle.sshc_wire.specs.declared.signal.Sig.{Sig}
use Rattle.sshc_wire.specs.declared.message_type.MessageType.{MessageType}
use Rattle.sshc_wire.specs.declared.message_type.MessageType.TheVariants as messages
use Rattle.sshc_wire.specs.declared.resolution.HostKeysFault.{HostKeysFault}
use Rattle.sshc_wire.specs.declared.resolution.HostKeysFault.TheVariants as proofs
use Rattle.sshc_wire.specs.declared.resolution.Resolution.{Resolution}
use Rattle.sshc_wire.specs.declared.resolution.Resolution.TheVariants as resolved
use Rattle.sshc_wire.specs.declared.auth_record.Prompt.{Prompt}
use Rattle.sshc_wire.specs.declared.auth_record.AuthRecord.{AuthRecord}
use Rattle.sshc_wire.specs.declared.auth_record.AuthRecord.TheVariants as auth
use Rattle.sshc_wire.specs.declared.auth_record.GssapiRecord.{GssapiRecord}
use Rattle.sshc_wire.specs.declared.auth_record.GssapiRecord.TheVariants as gssapi
use Rattle.sshc_wire.specs.declared.channel_record.ChannelRecord.{ChannelRecord}
use Rattle.sshc_wire.specs.declared.channel_record.ChannelRecord.TheVariants as channels
use Rattle.sshc_wire.specs.declared.channel_record.ServerOpen.{ServerOpen}
use Rattle.sshc_wire.specs.declared.channel_record.ServerOpen.TheVariants as opens
use Rattle.sshc_wire.specs.declared.agent_record.AgentFault.{AgentFault}
use Rattle.sshc_wire.specs.declared.agent_record.AgentFault.TheVariants as faults
use Rattle.sshc_wire.specs.declared.agent_record.AgentRecord.{AgentRecord}
use Rattle.sshc_wire.specs.declared.agent_record.AgentRecord.TheVariants as agent

-- ---- parts

-- the names in a string
unfoldable pub name_list_at : Reader WireError (List (List ℕ))
name_list_at bytes = made_at names_in string_at bytes

-- the methods of which these are the names, without unknown names
unfoldable pub method_list_at : Reader WireError (List MethodKind)
method_list_at bytes = made_at (λ names. filter_map method_of names) name_list_at bytes

-- a number, and that many strings
unfoldable pub strings_at : Reader WireError (List (List ℕ))
strings_at bytes = do
  count ← number_at w32 bytes
  times_at count.0 string_at count.1

unfoldable pub prompt_at : Reader WireError Prompt
prompt_at bytes = do
  prompt ← string_at bytes
  echo ← boolean_at prompt.1
  Ok (record { prompt = prompt.0; echo = echo.0 }, echo.1)

-- a number, and that many prompts
unfoldable pub prompts_at : Reader WireError (List Prompt)
prompts_at bytes = do
  count ← number_at w32 bytes
  times_at count.0 prompt_at count.1

abbrev pub hash_of : ℕ → Option HashAlg
hash_of n = if n == 1 then Some Sha256 else (if n == 2 then Some Sha512 else None)

abbrev pub proof_of : ℕ → HostKeysFault
proof_of n = if n == 0 then proofs.SshEncoding else proofs.WrongServerSig

abbrev pub message_of : ℕ → MessageType
message_of n =
    if n == 0 then messages.RequestKeys
    else (if n == 1 then messages.AddKeys
    else (if n == 2 then messages.RemoveKeys
    else (if n == 3 then messages.RemoveAllKeys
    else (if n == 4 then messages.Sign
    else (if n == 5 then messages.Lock
    else messages.Unlock)))))

abbrev pub fault_of : ℕ → AgentFault
fault_of n = if n == 1 then faults.TooLong else (if n == 2 then faults.Unreadable else faults.SignerRefused)

-- the reason, or the first one for a number that isn't a reason's
abbrev pub reason_in : Option ChannelOpenFailure → ChannelOpenFailure
reason_in (Some reason) = reason
reason_in None = AdministrativelyProhibited

unfoldable pub reason_at : Reader WireError ChannelOpenFailure
reason_at bytes = made_at (λ code. reason_in (open_failure_of code)) (number_at w32) bytes

-- a signal's name
unfoldable pub signal_at : Reader WireError Sig
signal_at bytes = made_at (λ name. signal_of name) string_at bytes

-- ---- how a ticket is resolved

unfoldable pub auth_failure_at : Reader WireError Resolution
auth_failure_at bytes = do
  methods ← method_list_at bytes
  partial ← boolean_at methods.1
  Ok (resolved.AuthFailure methods.0 partial.0, partial.1)

unfoldable pub sig_algs_at : Reader WireError Resolution
sig_algs_at bytes = do
  known ← boolean_at bytes
  names ← name_list_at known.1
  Ok (resolved.SigAlgs known.0 names.0, names.1)

abbrev pub resolution_by : ℕ → Reader WireError Resolution
resolution_by number bytes =
    if number == 0x00 then Ok (resolved.AuthSuccess, bytes)
    else (if number == 0x01 then auth_failure_at bytes
    else (if number == 0x02 then Ok (resolved.ExtInfoSeen, bytes)
    else (if number == 0x03 then sig_algs_at bytes
    else (if number == 0x04 then made_at (λ id. resolved.ChannelOpened (record { 0 = id })) (number_at w32) bytes
    else (if number == 0x05 then made_at (λ reason. resolved.ChannelOpenFailed reason) reason_at bytes
    else (if number == 0x06 then made_at (λ port. resolved.ForwardPort port) (number_at w32) bytes
    else (if number == 0x07 then Ok (resolved.Done, bytes)
    else (if number == 0x08 then Ok (resolved.Denied, bytes)
    else (if number == 0x09 then Ok (resolved.Pong, bytes)
    else (if number == 0x0a then Ok (resolved.HostKeysProved, bytes)
    else (if number == 0x0b then made_at (λ n. resolved.HostKeysRefused (proof_of n)) byte_at bytes
    else (if number == 0x0c then made_at (λ body. resolved.GlobalReply body) string_at bytes
    else Ok (resolved.Dropped, bytes)))))))))))))

unfoldable pub resolution_at : Reader WireError Resolution
resolution_at bytes = do
  number ← byte_at bytes
  resolution_by number.0 number.1

-- the ticket, and how it is resolved
unfoldable pub resolved_at : Reader WireError (Ticket × Resolution)
resolved_at bytes = do
  ticket ← number_at w32 bytes
  resolution ← resolution_at ticket.1
  Ok ((record { 0 = ticket.0 }, resolution.0), resolution.1)

-- ---- what the user is asked for

unfoldable pub sign_request_at : Reader WireError AuthRecord
sign_request_at bytes = do
  key ← string_at bytes
  hash ← byte_at key.1
  body ← string_at hash.1
  Ok (auth.SignRequest key.0 (hash_of hash.0) body.0, body.1)

unfoldable pub sign_request_cert_at : Reader WireError AuthRecord
sign_request_cert_at bytes = do
  cert ← string_at bytes
  hash ← byte_at cert.1
  body ← string_at hash.1
  Ok (auth.SignRequestCert cert.0 (hash_of hash.0) body.0, body.1)

unfoldable pub info_request_at : Reader WireError AuthRecord
info_request_at bytes = do
  name ← string_at bytes
  instructions ← string_at name.1
  prompts ← prompts_at instructions.1
  Ok (auth.AuthInfoRequest name.0 instructions.0 prompts.0, prompts.1)

unfoldable pub gssapi_response_at : Reader WireError GssapiRecord
gssapi_response_at bytes = do
  mechanism ← string_at bytes
  mic ← string_at mechanism.1
  Ok (gssapi.Response mechanism.0 mic.0, mic.1)

unfoldable pub gssapi_token_at : Reader WireError GssapiRecord
gssapi_token_at bytes = do
  token ← string_at bytes
  mic ← string_at token.1
  Ok (gssapi.Token token.0 mic.0, mic.1)

unfoldable pub gssapi_error_at : Reader WireError GssapiRecord
gssapi_error_at bytes = do
  major ← number_at w32 bytes
  minor ← number_at w32 major.1
  message ← string_at minor.1
  Ok (gssapi.Error major.0 minor.0 message.0, message.1)

abbrev pub gssapi_by : ℕ → Reader WireError GssapiRecord
gssapi_by number bytes =
    if number == 0x08 then gssapi_response_at bytes
    else (if number == 0x09 then gssapi_token_at bytes
    else (if number == 0x0a then gssapi_error_at bytes
    else made_at (λ token. gssapi.ErrorToken token) string_at bytes))

abbrev pub asked_by : ℕ → Reader WireError AuthRecord
asked_by number bytes =
    if number == 0x05 then sign_request_at bytes
    else (if number == 0x06 then sign_request_cert_at bytes
    else (if number == 0x07 then info_request_at bytes
    else made_at (λ step. auth.Gssapi step) (gssapi_by number) bytes))

-- the ticket, and what is asked for under the record's number
unfoldable pub asked_at : ℕ → Reader WireError (Ticket × AuthRecord)
asked_at number bytes = do
  ticket ← number_at w32 bytes
  asked ← asked_by number ticket.1
  Ok ((record { 0 = ticket.0 }, asked.0), asked.1)

-- ---- what happens on a channel

unfoldable pub confirmed_at : Reader WireError ChannelRecord
confirmed_at bytes = do
  packet ← number_at w32 bytes
  window ← number_at w32 packet.1
  Ok (channels.Open packet.0 window.0, window.1)

unfoldable pub open_failure_at : Reader WireError ChannelRecord
open_failure_at bytes = do
  reason ← reason_at bytes
  description ← string_at reason.1
  language ← string_at description.1
  Ok (channels.OpenFailure reason.0 description.0 language.0, language.1)

unfoldable pub extended_data_at : Reader WireError ChannelRecord
extended_data_at bytes = do
  ext ← number_at w32 bytes
  body ← string_at ext.1
  Ok (channels.ExtendedData ext.0 body.0, body.1)

unfoldable pub exit_signal_at : Reader WireError ChannelRecord
exit_signal_at bytes = do
  signal ← signal_at bytes
  dumped ← boolean_at signal.1
  message ← string_at dumped.1
  language ← string_at message.1
  Ok (channels.ExitSignal signal.0 dumped.0 message.0 language.0, language.1)

abbrev pub happened_by : ℕ → Reader WireError ChannelRecord
happened_by number bytes =
    if number == 0x22 then confirmed_at bytes
    else (if number == 0x23 then Ok (channels.Success, bytes)
    else (if number == 0x24 then Ok (channels.Failure, bytes)
    else (if number == 0x25 then Ok (channels.Close, bytes)
    else (if number == 0x26 then Ok (channels.Eof, bytes)
    else (if number == 0x27 then open_failure_at bytes
    else (if number == 0x29 then made_at (λ body. channels.Data body) string_at bytes
    else (if number == 0x2a then extended_data_at bytes
    else (if number == 0x2b then made_at (λ can_do. channels.XonXoff can_do) boolean_at bytes
    else (if number == 0x2c then made_at (λ status. channels.ExitStatus status) (number_at w32) bytes
    else (if number == 0x2d then exit_signal_at bytes
    else made_at (λ size. channels.WindowAdjusted size) (number_at w32) bytes))))))))))

-- the channel, and what happened there under the record's number
unfoldable pub happened_at : ℕ → Reader WireError (ChannelId × ChannelRecord)
happened_at number bytes = do
  id ← number_at w32 bytes
  happened ← happened_by number id.1
  Ok ((record { 0 = id.0 }, happened.0), happened.1)

-- ---- a channel that the server opens

unfoldable pub direct_tcpip_at : Reader WireError ServerOpen
direct_tcpip_at bytes = do
  host ← string_at bytes
  port ← number_at w32 host.1
  originator ← string_at port.1
  from ← number_at w32 originator.1
  Ok (opens.DirectTcpIp host.0 port.0 originator.0 from.0, from.1)

unfoldable pub x11_at : Reader WireError ServerOpen
x11_at bytes = do
  originator ← string_at bytes
  from ← number_at w32 originator.1
  Ok (opens.X11 originator.0 from.0, from.1)

unfoldable pub forwarded_tcpip_at : Reader WireError ServerOpen
forwarded_tcpip_at bytes = do
  address ← string_at bytes
  port ← number_at w32 address.1
  originator ← string_at port.1
  from ← number_at w32 originator.1
  Ok (opens.ForwardedTcpIp address.0 port.0 originator.0 from.0, from.1)

abbrev pub open_by : ℕ → Reader WireError ServerOpen
open_by number bytes =
    if number == 0 then Ok (opens.Session, bytes)
    else (if number == 1 then direct_tcpip_at bytes
    else (if number == 2 then made_at (λ path. opens.DirectStreamLocal path) string_at bytes
    else (if number == 3 then x11_at bytes
    else (if number == 4 then forwarded_tcpip_at bytes
    else (if number == 5 then made_at (λ path. opens.ForwardedStreamLocal path) string_at bytes
    else (if number == 6 then Ok (opens.AgentForward, bytes)
    else Ok (opens.Unknown, bytes)))))))

unfoldable pub open_at : Reader WireError ServerOpen
open_at bytes = do
  number ← byte_at bytes
  open_by number.0 number.1

-- the channel's number with us, and what the server opens
unfoldable pub opened_at : Reader WireError (ChannelId × ServerOpen)
opened_at bytes = do
  id ← number_at w32 bytes
  opened ← open_at id.1
  Ok ((record { 0 = id.0 }, opened.0), opened.1)

-- ---- what an agent reports

abbrev pub answer_by : ℕ → Reader WireError AgentRecord
answer_by number bytes =
    if number == 0x40 then made_at (λ frame. agent.Answer frame) string_at bytes
    else (if number == 0x41 then made_at (λ n. agent.AskRequest (message_of n)) byte_at bytes
    else (if number == 0x42 then made_at (λ key. agent.AskKey key) string_at bytes
    else made_at (λ n. agent.Closed (fault_of n)) byte_at bytes))

-- the connection, and what is reported there under the record's number
unfoldable pub answer_at : ℕ → Reader WireError (ℕ × AgentRecord)
answer_at number bytes = do
  conn ← number_at w32 bytes
  answer ← answer_by number conn.1
  Ok ((conn.0, answer.0), answer.1)
