use Rattle.std.proofs.Common.{map, take}
use Rattle.std.specs.List.{flat_map}
use Rattle.sshc_wire.specs.Methods.{method_name}
use Rattle.sshc_wire.specs.Names.{behind_comma}
use Rattle.sshc_wire.proofs.Extended.{after_error, extended_on}
use Rattle.sshc_wire.proofs.methods.put_rest.Goals as goal

pub returns-in_err-put_behind_comma-clause-err : goal.returns-in_err-put_behind_comma-clause-err
returns-in_err-put_behind_comma-clause-err c =
    after_error c.from_residual.result _
    (extended_on c.args.out.now.items c.loop-method.out.items c.put_behind_comma.new.out.items c.in_err-put_behind_comma.ensures.err
    (flat_map behind_comma (map method_name (take c.loop-method.method-index c.args.methods.now)), c.loop-method.invariant))
