-- That what a handle's threads share may be sent to another thread, field by field. A search over the whole of it stops
-- at its bounds.
use denote.RattleType.{RattleType}
use denote.Param.Send.{IsSend, IsSync, sendable}
use Rattle.std.proofs.Crossing.{crosses}
use Rattle.circular_buffer.proofs.heap.HeapCircularBuffer.TheSendSync as ring
use Rattle.sshc_wire.proofs.octets.Octets.TheSendSync as octets
use Rattle.sshc_wire.proofs.text.Text.TheSendSync as text
use Rattle.sshc_wire.proofs.outbox.Outbox.TheSendSync as outbox
use Rattle.sshc_key.proofs.pair.PairData.TheSendSync as pair_data
use Rattle.sshc_key.proofs.signature.Signature.TheSendSync as signature
use Rattle.sshc_key.proofs.agent.AgentSessionBinding.TheSendSync as binding
use Rattle.sshc_key.proofs.key_data.Certificate.TheLaws.TheKnot as knot
use Rattle.sshc_key.specs.contracts.key_data.KeyData as KeyData
use Rattle.sshc_key.specs.contracts.key_data.Certificate as Certificate
use Rattle.sshc_key.specs.contracts.public_key.PublicKey as PublicKey
use Rattle.sshc_key.specs.contracts.pair.PrivateKey as PrivateKey
use Rattle.sshc_key.specs.contracts.identity.PrivateKeyWithHashAlg as PrivateKeyWithHashAlg
use Rattle.sshc_transport.proofs.exchange.ExchangeResult.TheSendSync as exchange
use Rattle.sshc_transport.proofs.pending.PendingCount.TheSendSync as pending
use Rattle.sshc_auth_event.specs.contracts.event.Event as Event
use Rattle.sshc_auth_event.specs.contracts.method.Method as Method
use Rattle.sshc_auth_event.proofs.channel_msg.ChannelMsg.TheSendSync as channel_msg
use Rattle.sshc_auth.specs.contracts.opening.Opening as Opening
use Rattle.sshc_auth_event.specs.contracts.shared_method.SharedMethod as SharedMethod
use Rattle.sshc_auth.proofs.opening.Settings.TheSendSync as settings
use Rattle.sshc_auth.proofs.opening.Phase.TheSendSync as phase
use Rattle.sshc_auth.proofs.opening.Class.TheSendSync as class
use Rattle.sshc_auth.proofs.opening.Waiter.TheSendSync as waiter
use Rattle.sshc_mux.proofs.table.ChannelTable.TheSendSync as table
use Rattle.sshc_client_table.proofs.reply_entry.ReplyKind.TheSendSync as reply_kind
use Rattle.sshc_client_table.specs.contracts.reply_entry.ReplyEntry as ReplyEntry
use Rattle.sshc_client_table.proofs.settings.SessionSettings.TheSendSync as session_settings
use Rattle.sshc_client_state.specs.contracts.connection.Connection as Connection
use Rattle.sshc_client.specs.contracts.session.Session as Session
use Rattle.sshc_handle_tickets.proofs.tickets.Tickets.TheSendSync as tickets
use Rattle.sshc_handle_state.proofs.end.End.TheSendSync as end
use Rattle.sshc_handle_state.proofs.timers.Timers.TheSendSync as timers
use Rattle.sshc_handle_state.specs.contracts.state.HandleState as HandleState
use Rattle.sshc_handle.specs.contracts.shared.Shared as Shared
use Rattle.sshc_handle.specs.contracts.handle.Handle as Handle

key_send : IsSend (KeyData.the_field).row
key_send = search (octets.the_send, text.the_send, signature.the_send, knot.crosses, sendable, crosses) depth 60 fits 60000

certificate_send : IsSend Certificate.the_row
certificate_send = search (octets.the_send, text.the_send, signature.the_send, knot.crosses, sendable, crosses) depth 60 fits 60000

public_send : IsSend PublicKey.the_row
public_send = let k = key_send in search (text.the_send, sendable, crosses) depth 60 fits 60000

private_send : IsSend PrivateKey.the_row
private_send = let p = public_send in search (pair_data.the_field_send, sendable, crosses) depth 60 fits 60000

hashed_send : IsSend PrivateKeyWithHashAlg.the_row
hashed_send = let p = private_send in search (sendable, crosses) depth 60 fits 60000

method_send : IsSend (Method.the_field).row
method_send =
    let p = private_send in let h = hashed_send in let k = public_send in let c = certificate_send in
    search (octets.the_send, text.the_send, sendable, crosses) depth 60 fits 60000

-- a method is shared between threads, so its parts may be seen from each of them

key_sync : IsSync (KeyData.the_field).row
key_sync = search (octets.the_sync, text.the_sync, signature.the_sync, knot.crosses, sendable, crosses) depth 60 fits 60000

certificate_sync : IsSync Certificate.the_row
certificate_sync = search (octets.the_sync, text.the_sync, signature.the_sync, knot.crosses, sendable, crosses) depth 60 fits 60000

public_sync : IsSync PublicKey.the_row
public_sync = let k = key_sync in search (text.the_sync, sendable, crosses) depth 60 fits 60000

private_sync : IsSync PrivateKey.the_row
private_sync = let p = public_sync in search (pair_data.the_field_sync, sendable, crosses) depth 60 fits 60000

hashed_sync : IsSync PrivateKeyWithHashAlg.the_row
hashed_sync = let p = private_sync in search (sendable, crosses) depth 60 fits 60000

method_sync : IsSync (Method.the_field).row
method_sync =
    let p = private_sync in let h = hashed_sync in let k = public_sync in let c = certificate_sync in
    search (octets.the_sync, text.the_sync, sendable, crosses) depth 60 fits 60000

method_shared : IsSend SharedMethod.the_row
method_shared = let m = method_send in let n = method_sync in search (sendable, crosses) depth 60 fits 60000

opening_send : IsSend Opening.the_row
opening_send =
    let m = method_shared in
    search (octets.the_send, text.the_send, settings.the_field_send, phase.the_field_send, class.the_field_send, waiter.the_field_send, pending.the_send, sendable, crosses) depth 60 fits 60000

entry_send : IsSend (ReplyEntry.the_field).row
entry_send = let k = public_send in search (reply_kind.the_field_send, sendable, crosses) depth 60 fits 60000

connection_send : IsSend Connection.the_row
connection_send =
    let o = opening_send in let a = entry_send in
    search (table.the_send, ring.the_send, outbox.the_send, session_settings.the_field_send, sendable, crosses) depth 60 fits 60000

session_send : IsSend Session.the_row
session_send = let c = connection_send in search (sendable, crosses) depth 60 fits 60000

event_send : IsSend (Event.the_field).row
event_send =
    let m = method_shared in let k = public_send in
    search (octets.the_send, text.the_send, exchange.the_field_send, channel_msg.the_field_send, sendable, crosses) depth 90 fits 90000

module _ (H E : RattleType) where
  pub state_send : IsSend H → IsSend (HandleState.the_row H)
  state_send h =
      let s = session_send in let e = event_send in
      search (binding.the_field_send, tickets.the_send, end.the_field_send, timers.the_field_send, sendable, crosses) depth 60 fits 60000

  shared_send : IsSend H → IsSend (Shared.the_row H)
  shared_send h = let s = state_send h in search (sendable, crosses) depth 60 fits 60000

  shared_sync : IsSend H → IsSync (Shared.the_row H)
  shared_sync h = let s = state_send h in search (sendable, crosses) depth 60 fits 60000

  pub handle_sync : IsSend H → IsSync (Handle.the_row H E)
  handle_sync h = let s = shared_send h in let t = shared_sync h in search (sendable, crosses) depth 60 fits 60000

  pub handle_send : IsSend H → IsSend (Handle.the_row H E)
  handle_send h = let s = shared_send h in let t = shared_sync h in search (sendable, crosses) depth 60 fits 60000
