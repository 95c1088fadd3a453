use Rattle.std.proofs.Common.{◌≡◌, ◌∙◌, sym, ap, subst, arith}
use Rattle.std.proofs.lemmas.Grind.{common_steps}
use Rattle.std.specs.Prelude.{Ok, string_bytes}
use Rattle.std.specs.Str.{IsUtf8}
use Rattle.std.proofs.lemmas.Str.{IsUtf8-string_bytes}
use Rattle.sshc_key.specs.Algorithms.{key_base64, openssh_text}
use Rattle.sshc_key.specs.KeyText.{decoded_key}
use Rattle.sshc_key.proofs.WrittenLines.{written_is_loaded}
use Rattle.sshc_key.proofs.public_key.PublicKey.to_openssh.Goals as goal

pub returns-clause-again : goal.returns-clause-again
returns-clause-again c is =
    let text : string_bytes c.push_comment.new.line ≡ openssh_text c.args.self.now.0 c.args.self.now.1 = grind (arith, common_steps) in
    let comment : c.self.inside.comment ≡ c.args.self.now.1 = cc in
    let utf8 : IsUtf8 c.args.self.now.1 = subst IsUtf8 comment c.as_str-2.ensures.utf8 in
    let decodes : decoded_key (key_base64 c.args.self.now.0) ≡ Ok c.args.self.now.0 = ap decoded_key (sym c.in_ok-base64.ensures.text) ∙ c.in_ok-base64.ensures.again is.fits is.nesting in
    written_is_loaded c.args.self.now (string_bytes c.push_comment.new.line) text (IsUtf8-string_bytes c.push_comment.new.line) utf8 decodes is
