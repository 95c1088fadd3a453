use Rattle.sshc_client_packets.proofs.PacketGrammar.{channel_packets, requests, server_opens, written_opens, written_ports}
use Rattle.sshc_client_packets.proofs.law.packet_grammar.Goals as goal

pub returns-clause-channels : goal.returns-clause-channels
returns-clause-channels c = channel_packets

pub returns-clause-requests : goal.returns-clause-requests
returns-clause-requests c = requests

pub returns-clause-opens : goal.returns-clause-opens
returns-clause-opens c = server_opens

pub returns-clause-written_opens : goal.returns-clause-written_opens
returns-clause-written_opens c = λ asked fits. written_opens asked fits

pub returns-clause-ports : goal.returns-clause-ports
returns-clause-ports c = λ port small. written_ports port small
