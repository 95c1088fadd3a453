-- Lemmas by which several goals of a function are proved, in sets.
use Rattle.sshc_run_agent.proofs.ServedSteps.{bytes_event_all, bytes_event_first, bytes_event_made, event_none, none_gained}

pub ruleset take_bytes = (bytes_event_made, bytes_event_first, bytes_event_all, event_none, none_gained)
