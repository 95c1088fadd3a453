-- Lemmas by which several goals of a function are proved, in sets.
use Rattle.sshc_proxy.proofs.FrameLemmas.{fault_in_length, length_read, no_memory_in_length}
use Rattle.sshc_proxy.proofs.ListingLemmas.{count_seen, text_seen}
use Rattle.sshc_proxy.proofs.PolicyLemmas.{added, passed, stops}

pub ruleset listing_body = (count_seen, text_seen)

pub ruleset parse_policy = (passed, added, stops)

pub ruleset read_length = (length_read, fault_in_length, no_memory_in_length)
