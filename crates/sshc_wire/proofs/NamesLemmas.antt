-- The first of the names in a list, and names joined by commas.
use Rattle.std.proofs.Common.{◌≡◌, ℕ, ◌<◌, ◌≤◌, Bool, true, false, cond, ltb, List, [], ◌∷◌, ◌++◌, length, refl, ap, ◌∙◌, append-nil, append_assoc, arith}
use Rattle.std.specs.Prelude.{filter}
use Rattle.std.specs.List.{slice_split, position_or_len, before_first, after_first, onto_first, flat_map, join_with_byte}
use Rattle.std.proofs.lemmas.Bool.{lt-ltb}
use Rattle.std.proofs.lemmas.List.Concat.{flat_map-cons}
use Rattle.std.proofs.lemmas.List.Splits.{slice_split_first, slice_split-cons_no}
use Rattle.sshc_wire.specs.Names.{is_comma, is_name, behind_comma, names_in}

-- ---- the first name

step : (name : List ℕ) (parts : List (List ℕ)) (b : Bool) → is_name name ≡ b → filter is_name (name ∷ parts) ≡ cond b (name ∷ filter is_name parts) (filter is_name parts)
step name parts true e = rw e refl
step name parts false e = rw e refl

split : (text : List ℕ) → position_or_len is_comma text < length text → names_in text ≡ cond (is_name (before_first is_comma text)) (before_first is_comma text ∷ names_in (after_first is_comma text)) (names_in (after_first is_comma text))
unfolding names_in
split text h = ap (filter is_name) (slice_split_first is_comma text 0 h) ∙ step (before_first is_comma text) (slice_split is_comma (after_first is_comma text)) _ refl

-- a name before a comma comes first
pub names_first : (text : List ℕ) → position_or_len is_comma text < length text → 0 < length (before_first is_comma text)
    → names_in text ≡ before_first is_comma text ∷ names_in (after_first is_comma text)
names_first text h some = let is : is_name (before_first is_comma text) ≡ true = lt-ltb _ _ some in rw (split text h, is) refl

-- an empty one is dropped
pub names_skipped : (text : List ℕ) → position_or_len is_comma text < length text → length (before_first is_comma text) ≡ 0 → names_in text ≡ names_in (after_first is_comma text)
names_skipped text h none = let is : is_name (before_first is_comma text) ≡ false = ap (ltb 0) none in rw (split text h, is) refl

whole_case : (x : ℕ) (xs : List ℕ) (b : Bool) → is_comma x ≡ b → length (x ∷ xs) ≤ position_or_len is_comma (x ∷ xs)
    → (length xs ≤ position_or_len is_comma xs → slice_split is_comma xs ≡ xs ∷ []) → slice_split is_comma (x ∷ xs) ≡ (x ∷ xs) ∷ []
whole_case x xs true e h later = absurd (let z = rw e at h in omega (arith, z))
whole_case x xs false e h later = slice_split-cons_no is_comma x xs e ∙ ap (onto_first x) (later (let z = rw e at h in omega (arith, z)))

whole : (xs : List ℕ) → length xs ≤ position_or_len is_comma xs → slice_split is_comma xs ≡ xs ∷ []
whole [] h = refl
whole (x ∷ xs) h = whole_case x xs (is_comma x) refl h (whole xs)

-- a text without commas is one name
pub names_whole : (text : List ℕ) → position_or_len is_comma text ≡ length text → 0 < length text → names_in text ≡ text ∷ []
unfolding names_in
names_whole text h some =
    let is : is_name text ≡ true = lt-ltb _ _ some in
    ap (filter is_name) (whole text (omega (arith, h))) ∙ rw is refl

pub names_none : (text : List ℕ) → length text ≡ 0 → names_in text ≡ []
unfolding names_in
names_none [] h = refl
names_none (b ∷ text) h = absurd (omega (arith, h))

-- ---- joined

pub joined_first : (first : List ℕ) (names : List (List ℕ)) → first ++ flat_map behind_comma names ≡ join_with_byte 44 (first ∷ names)
joined_first first [] = append-nil first
joined_first first (next ∷ names) = ap (λ (t : List ℕ). first ++ t) (flat_map-cons behind_comma next names ∙ ap (λ (t : List ℕ). 44 ∷ t) (joined_first next names))

-- the first name was added to a text, and then the others
pub joined_on : (old mid new first : List ℕ) (names : List (List ℕ)) → mid ≡ old ++ first → new ≡ mid ++ flat_map behind_comma names → new ≡ old ++ join_with_byte 44 (first ∷ names)
joined_on old mid new first names is more =
    more ∙ ap (λ (m : List ℕ). m ++ flat_map behind_comma names) is ∙ append_assoc old first (flat_map behind_comma names) ∙ ap (λ (t : List ℕ). old ++ t) (joined_first first names)
