use Rattle.sshc_mux.proofs.IndexLemmas.{Noted}
use Rattle.sshc_mux.proofs.table.renumber.Given as goal

abbrev pub invariant-loop-at : goal.invariant-loop-at
invariant-loop-at l = Noted l.index.entries l.slots l.at
