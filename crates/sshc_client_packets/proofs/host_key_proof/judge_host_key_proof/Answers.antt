use Rattle.std.proofs.Common.{arith}
use Rattle.sshc_client_packets.proofs.ProofLemmas.{judged_is_proof}
use Rattle.sshc_client_packets.proofs.host_key_proof.judge_host_key_proof.Goals as goal

pub returns-clause-proof : goal.returns-clause-proof
returns-clause-proof g c = judged_is_proof (g.V.Verifier.accepts c.args.verifier.now) c.args.session_id.now c.args.keys.now c.args.reply.now (λ i. omega (arith, c.type_inv.reply i))
