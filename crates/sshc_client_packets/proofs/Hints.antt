-- Lemmas by which several goals of a function are proved, in sets.
use Rattle.std.proofs.lemmas.List.{append_assoc}

pub ruleset joined = (append_assoc)
