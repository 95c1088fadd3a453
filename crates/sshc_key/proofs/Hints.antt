-- Lemmas by which several goals of a function are proved, in sets.
use Rattle.sshc_key.specs.KeyLaws.Blobs.{fails_whole, more_follows}

pub ruleset parse_whole_public_key = (fails_whole, more_follows)
