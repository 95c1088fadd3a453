use Rattle.std.proofs.Common.{◌≡◌, drop}
use Rattle.sshc_client_packets.specs.HostKeyProof.{proof_judged}
use Rattle.sshc_client_packets.proofs.host_key_proof.judge_from.Given as goal

-- the rest of the reply is judged by the remaining keys
abbrev pub invariant-loop-key : goal.invariant-loop-key
invariant-loop-key g l = proof_judged (g.V.Verifier.accepts l.verifier) l.session_id (drop l.key-index l.keys) l.c ≡ proof_judged (g.V.Verifier.accepts l.verifier) l.session_id l.keys l.reply
