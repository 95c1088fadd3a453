use Rattle.std.proofs.Common.{◌≡◌, ◌++◌, take}
use Rattle.std.specs.List.{flat_map}
use Rattle.sshc_key.specs.KeyGrammar.{option_text}
use Rattle.sshc_key.proofs.writing.certificate.put_each_option.Given as goal

abbrev pub invariant-loop-option : goal.invariant-loop-option
invariant-loop-option l = l.out.items ≡ l.fn.out.items ++ flat_map option_text (take l.option-index l.options)
