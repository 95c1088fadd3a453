use Rattle.std.proofs.Common.{◌∙◌, append_assoc}
use Rattle.sshc_client_packets.proofs.host_key_proof.put_proof.Goals as goal

pub returns : goal.returns
returns c = c.in_ok-put_blob.ensures ∙ rw (c.in_ok-put_string.ensures.ok, c.in_ok-put_words.ensures) (simp append_assoc)
