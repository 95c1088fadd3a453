use Rattle.std.proofs.Common.{take}
use Rattle.std.specs.List.{flat_map}
use Rattle.sshc_wire.specs.Names.{behind_comma}
use Rattle.sshc_wire.proofs.Extended.{after_error, extended_on}
use Rattle.sshc_wire.proofs.names.put_rest.Goals as goal

pub returns-in_err-put_behind_comma-clause-err : goal.returns-in_err-put_behind_comma-clause-err
returns-in_err-put_behind_comma-clause-err c =
    after_error c.from_residual.result _
    (extended_on c.args.out.now.items c.loop-name.out.items c.put_behind_comma.new.out.items c.in_err-put_behind_comma.ensures.err
    (flat_map behind_comma (take c.loop-name.name-index c.args.names.now), c.loop-name.invariant))
