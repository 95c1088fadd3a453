use Rattle.std.proofs.Common.{ap, get_or}
use Rattle.sshc_hosts.proofs.EntryLemmas.{cuts, entry_after, no_space}
use Rattle.sshc_hosts.proofs.lines.cut_entry.Goals as goal

pub range_from-requires : goal.range_from-requires
range_from-requires c later = entry_after _ _ c.utf8.text c.in-Some.ensures

pub returns-in-None-clause-none : goal.returns-in-None-clause-none
returns-in-None-clause-none c = no_space _ _ c.first_end.ensures c.in-None.is

pub returns-in-Some-clause-some : goal.returns-in-Some-clause-some
returns-in-Some-clause-some c = cuts _ _ _ _ _ c.in-Some.ensures c.range.ensures.value (ap (λ t. get_or t c.in-Some.i 0) c.as_bytes.ensures.value) c.range_from.ensures.value
