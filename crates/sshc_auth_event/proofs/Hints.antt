-- Lemmas by which several goals of a function are proved, in sets.
use Rattle.sshc_auth_event.proofs.SameKeyLemmas.{certificate_other, certificates_apart, missing_kept, missing_key, plain_apart, plain_other}

pub ruleset is_same_key = (plain_apart, certificates_apart, missing_kept, missing_key, plain_other, certificate_other)
