-- The signer may be sent to another thread: it keeps the calls of the toy signer, each with a key.
use denote.Param.Send.{IsSend, sendable}
use Rattle.std.proofs.Crossing.{crosses}
use Rattle.sshc_wire.proofs.octets.Octets.TheSendSync as octets
use Rattle.sshc_agent.proofs.Sending.{private_send}
use Rattle.sshc_toy.specs.contracts.keeping.Kept as Kept
use Rattle.sshc_toy.specs.contracts.keeping.Calls as Calls
use Rattle.sshc_toy.specs.contracts.signer.ToySigner as ToySigner
use Rattle.sshc_agent_words.specs.contracts.signer.FreshSigner as FreshSigner

kept_send : IsSend (Kept.the_field).row
kept_send = let p = private_send in search (octets.the_send, sendable, crosses) depth 20 fits 20000

calls_send : IsSend Calls.the_row
calls_send = let k = kept_send in search (sendable, crosses) depth 20 fits 20000

toy_send : IsSend ToySigner.the_row
toy_send = let c = calls_send in search (sendable, crosses) depth 20 fits 20000

pub signer_send : IsSend FreshSigner.the_row
signer_send = let t = toy_send in search (sendable, crosses) depth 20 fits 20000
