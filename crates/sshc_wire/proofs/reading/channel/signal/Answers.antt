use Rattle.sshc_wire.proofs.ReadingLemmas.{signal_read}
use Rattle.sshc_wire.proofs.reading.channel.signal.Goals as goal

pub returns : goal.returns
returns c = signal_read c.args.c.now c.in_ok-text.field-0.now c.text.new.self c.in_ok-from_name.field-0 c.in_ok-text.ensures.reads c.in_ok-from_name.ensures
