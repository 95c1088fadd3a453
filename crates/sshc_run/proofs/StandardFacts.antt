-- Examples computed from the definitions.
use Rattle.std.proofs.Common.{◌≡◌, refl}
use Rattle.sshc_run.specs.Draws.{drawn, next_number}
use Rattle.sshc_run.specs.Blocks.{block_of, drawing, generated}

-- the first state after the seed 0 draws the last of eight blocks
pub first_of_zero : drawn 8 (next_number 0) ≡ 7
unfolding drawn next_number
first_of_zero = refl

-- so a script of one block has eight events: the login's five, an open channel's two, and one packet IGNORE
eight_events : (generated 0 1).events ≡ 8
unfolding drawing block_of drawn next_number
eight_events = refl
