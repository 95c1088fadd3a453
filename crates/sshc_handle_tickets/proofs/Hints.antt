-- Lemmas by which several goals of a function are proved, in sets.
use Rattle.sshc_handle_tickets.proofs.Free.{free_found, free_later, free_none}
use Rattle.sshc_handle_tickets.proofs.Over.{count_over, first_dropped, none_cut, none_dropped, none_front, some_cut, some_front, without_dropped}

pub ruleset free = (free_found, free_later, free_none, count_over)

pub ruleset take_dropped = (first_dropped, none_dropped, without_dropped)

pub ruleset take_behind = (some_front, some_cut, none_front, none_cut)
