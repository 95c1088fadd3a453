-- The core of an agent may be sent to another thread, shown field by field.
use denote.Param.Send.{IsSend, sendable}
use Rattle.std.proofs.Crossing.{crosses}
use Rattle.std.proofs.MapsCrossing as maps
use Rattle.sshc_wire.proofs.list.List.TheSendSync as list
use Rattle.sshc_wire.proofs.octets.Octets.TheSendSync as octets
use Rattle.sshc_wire.proofs.text.Text.TheSendSync as text
use Rattle.sshc_key.proofs.pair.PairData.TheSendSync as pair_data
use Rattle.sshc_key.proofs.signature.Signature.TheSendSync as signature
use Rattle.sshc_key.proofs.key_data.Certificate.TheLaws.TheKnot as knot
use Rattle.sshc_key.specs.contracts.key_data.KeyData as KeyData
use Rattle.sshc_key.specs.contracts.public_key.PublicKey as PublicKey
use Rattle.sshc_key.specs.contracts.pair.PrivateKey as PrivateKey
use Rattle.indexmap.proofs.map.IndexMap.TheSendSync as indexed
use Rattle.sshc_agent_core.proofs.connections.Connections.TheSendSync as connections
use Rattle.sshc_agent_core.specs.contracts.key_list.HeldKey as HeldKey
use Rattle.sshc_agent_core.specs.contracts.key_list.KeyList as KeyList
use Rattle.sshc_agent_core.specs.contracts.agent_core.AgentCore as AgentCore

key_send : IsSend (KeyData.the_field).row
key_send = search (octets.the_send, text.the_send, signature.the_send, knot.crosses, sendable, crosses, maps.crosses) depth 30 fits 20000

public_send : IsSend PublicKey.the_row
public_send = let k = key_send in search (text.the_send, sendable, crosses) depth 20 fits 20000

pub private_send : IsSend PrivateKey.the_row
private_send = let p = public_send in search (pair_data.the_field_send, sendable, crosses) depth 20 fits 20000

held_send : IsSend (HeldKey.the_field).row
held_send = let p = private_send in search (octets.the_send, sendable, crosses) depth 20 fits 20000

keys_send : IsSend KeyList.the_row
keys_send = let h = held_send in search (indexed.the_send, list.the_send, octets.the_send, sendable, crosses, maps.crosses) depth 30 fits 20000

pub core_send : IsSend AgentCore.the_row
core_send = let k = keys_send in search (connections.the_send, octets.the_send, sendable, crosses) depth 20 fits 20000
