-- Texts that are joined with a separator while they are written.
use Rattle.std.specs.Prelude.{ℕ, Bool, true, false, List, [], ◌∷◌, ◌++◌, Option, Some, None, if◌then◌else◌}

-- what was written, whether nothing was added yet, and the byte between each two texts
pub record Joined : Type 0 where
  pub separator : ℕ
  pub text : List ℕ
  pub is_first : Bool

-- nothing was added yet
abbrev pub nothing_joined : ℕ → Joined
nothing_joined separator = record { separator = separator; text = []; is_first = true }

-- the separator, unless nothing was added before
abbrev pub lead : Bool → ℕ → List ℕ
lead is_first separator = if is_first then [] else separator ∷ []

-- more of the text that was added last
abbrev pub with_piece : Joined → List ℕ → Joined
with_piece out piece = record out { text = out.text ++ piece }

-- the start of one more text
abbrev pub with_start : Joined → Joined
with_start out = record out { text = out.text ++ lead out.is_first out.separator; is_first = false }

-- one more text, if there is one
abbrev pub with_text : Joined → Option (List ℕ) → Joined
with_text out None = out
with_text out (Some text) = with_piece (with_start out) text
