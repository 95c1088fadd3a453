-- What a read of the next record of a session does, by the records that are left.
use Rattle.std.specs.Prelude.{◌≡◌, ◌≤◌, ◌<◌, ◌++◌, ℕ, List, [], ◌∷◌, length, drop}
use Rattle.sazhonthil.specs.Taking.{Taking}

-- the first of the records that are left is copied and goes, if it fits; else nothing changes
pub record TakesFirst (bytes : List ℕ) (rest : List (List ℕ)) (old new : Taking) (before after : List ℕ) (size status : ℕ) : Type 0 where
  pub counted : size ≡ length bytes
  pub copied : length bytes ≤ length before → (status ≡ 0) × (new ≡ record old { left = rest }) × (after ≡ bytes ++ drop (length bytes) before)
  pub no_room : length before < length bytes → (status ≡ 7) × (new ≡ old) × (after ≡ before)

-- no record is left, and nothing changes
pub record HasNone (old new : Taking) (before after : List ℕ) (size status : ℕ) : Type 0 where
  pub told : (status ≡ 6) × (size ≡ 0)
  pub same : (new ≡ old) × (after ≡ before)

abbrev pub ReadsLeft : List (List ℕ) → Taking → Taking → List ℕ → List ℕ → ℕ → ℕ → Type 0
ReadsLeft [] old new before after size status = HasNone old new before after size status
ReadsLeft (bytes ∷ rest) old new before after size status = TakesFirst bytes rest old new before after size status

abbrev pub ReadsRecord : Taking → Taking → List ℕ → List ℕ → ℕ → ℕ → Type 0
ReadsRecord old new before after size status = ReadsLeft old.left old new before after size status
