-- Lemmas by which several goals of a function are proved, in sets.
use Rattle.sshc_c_calls.proofs.Asking.{asked_none, asked_some, starved}

pub ruleset ask_input = (asked_none, asked_some, starved)
