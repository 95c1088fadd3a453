use Rattle.std.proofs.Common.{◌≡◌, ◌++◌, take}
use Rattle.std.specs.List.{flat_map}
use Rattle.sshc_wire.specs.Wire.{string_text}
use Rattle.sshc_auth_request.proofs.parts.put_texts.Given as goal

abbrev pub invariant-loop-one : goal.invariant-loop-one
invariant-loop-one l = l.out.items ≡ l.initial.out.items ++ flat_map string_text (take l.one-index l.all)
