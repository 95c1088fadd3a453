use Rattle.std.proofs.Common.{rules, ◌≡◌}
use Rattle.std.proofs.lemmas.Fn.{always_returns_same}
use Rattle.std.specs.Char.{is_whitespace}
use Rattle.sshc_key.proofs.LineLemmas as lines
use Rattle.sshc_key.proofs.key_files.white_space_parts.Goals as goal

pub returns : goal.returns
returns c = lines.white_space_parts c.args.text.now c.utf8.text _ (always_returns_same _ (λ a r. r ≡ is_whitespace a.0) _ (λ a r f called. search rules)) c.split_once.result c.split_once.ensures.cases
