-- Numbers drawn from a seed, one after the other.
use Rattle.std.specs.Prelude.{ℕ, ◌+◌, ◌*◌, ◌^◌, ◌/◌, ◌%◌}

-- the state after this one
unfoldable pub next_number : ℕ → ℕ
next_number x = (x * 6364136223846793005 + 1442695040888963407) % 2 ^ 64

-- the number that is drawn below a bound by this state: by its upper 31 bits
unfoldable pub drawn : ℕ → ℕ → ℕ
drawn bound x = x / 2 ^ 33 % bound
