use Rattle.std.proofs.Common.{◌∙◌, append_assoc}
use Rattle.sshc_auth_request.proofs.requests.put_gssapi.Goals as goal

pub returns : goal.returns
returns c = c.in_ok-put_octets.ensures ∙ rw c.in_ok-put_text.ensures.ok (simp append_assoc)
