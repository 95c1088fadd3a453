-- Bytes that are copied to the front of the caller's memory: all of them or none, and how many there are.
use Rattle.std.specs.Prelude.{◌≡◌, ◌≤◌, ◌<◌, ◌++◌, ℕ, List, length, drop}

pub record CopiedOut (bytes before after : List ℕ) (size status : ℕ) : Type 0 where
  -- how many bytes there are
  pub counted : size ≡ length bytes
  -- where all fit they are at the front, and what was behind them is as it was
  pub copied : length bytes ≤ length before → (status ≡ 0) × (after ≡ bytes ++ drop (length bytes) before)
  -- where they don't fit nothing is written
  pub no_room : length before < length bytes → (status ≡ 7) × (after ≡ before)
