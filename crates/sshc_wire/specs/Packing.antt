-- Texts in one list of bytes, one after the other, and where each of them is. Nothing here depends on what the texts are.
use Rattle.std.specs.Prelude.{◌≡◌, ℕ, ◌+◌, List, [], ◌∷◌, ◌++◌, length, map, slice_range}
use Rattle.sshc_wire.specs.declared.place.Place.{Place}

-- texts in a row
abbrev pub joined : List (List ℕ) → List ℕ
joined [] = []
joined (t ∷ texts) = t ++ joined texts

-- the text at a place
abbrev pub text_of : List ℕ → Place → List ℕ
text_of bytes p = slice_range bytes p.start p.stop

-- the texts at the places
abbrev pub texts_in : List ℕ → List Place → List (List ℕ)
texts_in bytes places = map (text_of bytes) places

-- where the texts are, if the first one begins there
abbrev pub places_from : ℕ → List (List ℕ) → List Place
places_from start [] = []
places_from start (t ∷ texts) = record { start = start; stop = start + length t } ∷ places_from (start + length t) texts

-- the bytes are some texts in a row, and the places are where they are
pub record IsPacked (bytes : List ℕ) (places : List Place) : Type 0 where
  pub texts : List (List ℕ)
  pub row : bytes ≡ joined texts
  pub laid : places ≡ places_from 0 texts
