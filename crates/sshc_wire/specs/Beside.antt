-- What a stream that is read and written keeps on its other side: plain data. A read leaves what was written, and a write what is
-- still to be read.
use Rattle.std.specs.Prelude.{ℕ, List, Option, None}

-- bytes, where they are known, and how many calls were made, moved nothing and failed
pub record Beside : Type 0 where
  pub bytes : Option (List ℕ)
  pub calls : ℕ
  pub empty : ℕ
  pub faults : ℕ

abbrev pub side : Option (List ℕ) → ℕ → ℕ → ℕ → Beside
side bytes calls empty faults = record { bytes = bytes; calls = calls; empty = empty; faults = faults }

-- a source that is no sink, and a sink that is no source, have no other side
abbrev pub no_side : Beside
no_side = side None 0 0 0
