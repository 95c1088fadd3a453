use Rattle.sshc_mux.specs.ChannelAccount.{FlushAll}
use Rattle.sshc_mux.proofs.LegalLemmas.{did_part}
use Rattle.sshc_mux.proofs.TableLemmas.{did_flush}
use Rattle.sshc_mux.proofs.KeptLemmas.{kept_flush}
use Rattle.sshc_mux.proofs.table.ChannelTable.flush_all.Goals as goal

pub invariant_of-self : goal.invariant_of-self
invariant_of-self c = kept_flush _ _ _ _ _ _ c.self.invariant c.count_all_flushed-self-inside.ensures.flushed c.count_all_flushed-self-inside.ensures.waiting

pub returns-clause-did : goal.returns-clause-did
returns-clause-did c =
    rw (← c.self.view_is) (did_flush (tt {0}) _ _ _ _ c.args.out.now c.say_flushed.new.out c.as_slice.ensures.value c.count_all_flushed-self-inside.ensures.flushed
    c.in_ok-say_flushed.ensures.ok c.in_ok-say_flushed.ensures.same)

pub returns-clause-part : goal.returns-clause-part
returns-clause-part c = did_part FlushAll _ _ (rw (← c.self.view_is) c.self.invariant.1) (returns-clause-did c).0
