use Rattle.std.proofs.Common.{◌∙◌, append_assoc}
use Rattle.sshc_auth_request.proofs.requests.put_keyboard_interactive.Goals as goal

pub returns : goal.returns
returns c = c.in_ok-put_text-2.ensures.ok ∙ rw (c.in_ok-put_empty.ensures, c.in_ok-put_text.ensures.ok, c.as_str.ensures.same) (simp append_assoc)
