use Rattle.std.proofs.Common.{◌≡◌, ◌≤◌, ◌+◌, ◌++◌, length}
use Rattle.std.specs.Vec.{vec_capacity}
use Rattle.std.specs.Vec.Iter.{into_iter_items}
use Rattle.sshc_auth.specs.Extensions.{last_listed, names_of, still_waiting}
use Rattle.sshc_auth.proofs.extension.take_extensions.Given as goal

abbrev pub invariant-loop-extension : goal.invariant-loop-extension
invariant-loop-extension l =
    record {
      room : length l.seen.items + length (into_iter_items l.extension-iterator) ≤ vec_capacity l.seen;
      listed : last_listed (into_iter_items l.extension-iterator) l.sig_algs ≡ last_listed l.fn.extensions.items l.fn.sig_algs;
      seen : l.seen.items ++ names_of (into_iter_items l.extension-iterator) ≡ l.fn.seen.items ++ names_of l.fn.extensions.items;
      waiting : still_waiting (into_iter_items l.extension-iterator) l.waiters.items ≡ still_waiting l.fn.extensions.items l.fn.waiters.items;
    }
