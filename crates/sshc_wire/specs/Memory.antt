-- What contracts see of sources, sinks and files over memory: plain data. The calls of the numbers in failing fail.
use Rattle.std.specs.Prelude.{ℕ, Bool, List, ◌==◌}
use Rattle.std.specs.List.{list_any}

-- whether the call of this number is one that fails
abbrev pub is_failing : List ℕ → ℕ → Bool
is_failing failing call = list_any (λ n. n == call) failing

-- the bytes that remain, the numbers of the calls that fail, and how many calls were made, moved nothing and failed
pub record HeldSource : Type 0 where
  pub left : List ℕ
  pub failing : List ℕ
  pub calls : ℕ
  pub empty : ℕ
  pub faults : ℕ

-- the bytes that were written
pub record HeldSink : Type 0 where
  pub contents : List ℕ
  pub failing : List ℕ
  pub calls : ℕ
  pub empty : ℕ
  pub faults : ℕ

-- paths and bytes; reads and appends are numbered together
pub record HeldFiles : Type 0 where
  pub contents : List (List ℕ × List ℕ)
  pub failing : List ℕ
  pub calls : ℕ
  pub read_faults : ℕ
  pub append_faults : ℕ
