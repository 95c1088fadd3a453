use Rattle.std.proofs.Common.{rules, tests}
use Rattle.std.proofs.lemmas.Iterator.{YieldsList-from_map_by}
use Rattle.std.proofs.lemmas.Iterator.Consumers.{YieldsList-at}
use Rattle.std.proofs.lemmas.Iterator.Search.{find_from_yields_List}
use Rattle.std.proofs.lemmas.Iterator.Splits.{YieldsList-from_lines}
use Rattle.std.specs.Str.{trim}
use Rattle.sshc_key.specs.KeyFiles.{is_key_line, key_line}
use Rattle.sshc_key.proofs.key_files.key_line.Goals as goal

pub returns : goal.returns
unfolding key_line
returns c = find_from_yields_List is_key_line _ _ c.find.result c.find.ensures.ran (YieldsList-from_map_by _ (λ line. line.now) trim (YieldsList-at c.map.ensures.source (YieldsList-from_lines c.args.text.now c.lines.ensures.rest)) c.map.ensures.closure (λ x r q k. search (rules, tests))) (λ x b q k. search (rules, tests))
