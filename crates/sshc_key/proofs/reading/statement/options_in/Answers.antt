use Rattle.std.proofs.Common.{◌<◌, length, rules}
use Rattle.std.proofs.lemmas.Result.{err_from_is_err_and}
use Rattle.sshc_key.specs.KeyReading.{option_at}
use Rattle.sshc_wire.specs.Whole.{all_at}
use Rattle.sshc_key.specs.KeyLaws.Lists.{goes_on, ends, is_done, option_takes}
use Rattle.sshc_key.proofs.reading.statement.options_in.Goals as goal

pub returns-in_err-item : goal.returns-in_err-item
returns-in_err-item c =
    let p = err_from_is_err_and c.from_residual.result c.from_residual.ensures.1 in
    let more : 0 < length c.loop-c.c = search rules in
    rw (p.1, p.2) (ends option_at c.in_err-item.field-0.0 c.loop-c.items c.loop-c.c (all_at option_at c.args.bytes.now) more c.in_err-item.ensures c.loop-c.invariant)

pub loop-c-smaller : goal.loop-c-smaller
loop-c-smaller c = option_takes c.loop-c.c c.in_ok-item.item c.option_of.new.c c.in_ok-item.ensures

pub loop-c-preserved : goal.loop-c-preserved
loop-c-preserved c = rw c.in_ok-push.ensures.ok (goes_on option_at c.loop-c.items c.loop-c.c c.in_ok-item.item c.option_of.new.c (all_at option_at c.args.bytes.now) option_takes c.in_ok-item.ensures c.loop-c.invariant)

pub returns : goal.returns
returns c = is_done option_at c.loop-c.items c.loop-c.c (all_at option_at c.args.bytes.now) (search rules) c.loop-c.invariant
