-- Lemmas by which several goals of a function are proved, in sets.
use Rattle.sshc_handle_tickets.proofs.Firsts.{first_cut, first_found, none_cut, none_found, passed_on}

pub ruleset first_reply = (first_found, first_cut, none_found, none_cut, passed_on)
