-- The first matching line that passes a test, before and after a rewriting.
use Rattle.std.proofs.Common.{◌≡◌, ◌⊎◌, inl, inr, ℕ, ◌+◌, Bool, true, false, List, [], ◌∷◌, ◌++◌, length, Option, Some, None, refl, ap, ◌∙◌, arith}
use Rattle.std.specs.Prelude.{map, find, option_map}
use Rattle.std.specs.List.{cons_option, filter_map, enumerate_from}
use Rattle.sshc_hosts.specs.MatchingLines.{LineKey, line_key, numbered_key}
use Rattle.sshc_audit.specs.Rewriting.{Change, left}

-- the matching lines among these, whose first has this number
abbrev pub numbered : List ℕ → ℕ → List (List ℕ) → List (ℕ × LineKey)
numbered host n parts = filter_map (numbered_key host) (enumerate_from n parts)

-- the parts before the rewriting
abbrev pub parts_of : List Change → List (List ℕ)
parts_of changes = map (λ change. change.0) changes

-- one of the keys
abbrev pub Among : LineKey → List LineKey → Type 0
Among x [] = ⊥
Among x (y ∷ ys) = (x ≡ y) ⊎ Among x ys

-- if there is a key it is one of these
abbrev pub IsAmong : Option LineKey → List LineKey → Type 0
IsAmong None xs = Unit {0}
IsAmong (Some x) xs = Among x xs

-- a part matches as its replacement does; a dropped part has the mark and the third field of an earlier one
abbrev pub Follows : List ℕ → List LineKey → List Change → Type 0
Follows host seen [] = Unit {0}
Follows host seen ((part, Some text) ∷ changes) = (line_key host text ≡ line_key host part) × Follows host (cons_option (line_key host part) seen) changes
Follows host seen ((part, None) ∷ changes) = IsAmong (line_key host part) seen × Follows host seen changes

-- two matching lines with the same mark and third field are the same line, by their numbers after n and m
abbrev pub SameFound : List Change → ℕ → ℕ → Option (ℕ × LineKey) → Option (ℕ × LineKey) → Type 0
SameFound changes n m None None = Unit {0}
SameFound changes n m (Some a) (Some b) =
    (a.1 ≡ b.1) × ((before behind : List Change) × (part text : List ℕ) × (changes ≡ before ++ (part, Some text) ∷ behind) × (a.0 ≡ n + length before) × (b.0 ≡ m + length (left before)))
SameFound changes n m a b = ⊥

left_later : (part text : List ℕ) (changes : List Change) (n m : ℕ) (a b : Option (ℕ × LineKey)) → SameFound changes (n + 1) (m + 1) a b → SameFound ((part, Some text) ∷ changes) n m a b
left_later part text changes n m None None h = tt
left_later part text changes n m None (Some b) h = h
left_later part text changes n m (Some a) None h = h
left_later part text changes n m (Some a) (Some b) (same, (before, behind, p, t, is, first, second)) =
    (same, ((part, Some text) ∷ before, behind, p, t, ap (λ (cs : List Change). (part, Some text) ∷ cs) is, omega (arith, first), omega (arith, second)))

dropped_later : (part : List ℕ) (changes : List Change) (n m : ℕ) (a b : Option (ℕ × LineKey)) → SameFound changes (n + 1) m a b → SameFound ((part, None) ∷ changes) n m a b
dropped_later part changes n m None None h = tt
dropped_later part changes n m None (Some b) h = h
dropped_later part changes n m (Some a) None h = h
dropped_later part changes n m (Some a) (Some b) (same, (before, behind, p, t, is, first, second)) =
    (same, ((part, None) ∷ before, behind, p, t, ap (λ (cs : List Change). (part, None) ∷ cs) is, omega (arith, first), omega (arith, second)))

-- the first line that passes a test of its mark and third field
module _ (host : List ℕ) (test : LineKey → Bool) where
  abbrev pub found : List (ℕ × LineKey) → Option (ℕ × LineKey)
  found lines = find (λ line. test line.1) lines

  -- the test fails at each of the keys
  abbrev pub AllFail : List LineKey → Type 0
  AllFail [] = Unit {0}
  AllFail (x ∷ xs) = (test x ≡ false) × AllFail xs

  fails_among : (x : LineKey) (xs : List LineKey) → Among x xs → AllFail xs → test x ≡ false
  fails_among x [] among fail = absurd among
  fails_among x (y ∷ ys) among fail = elim among [ inl is ↦ ap test is ∙ fail.0 | inr later ↦ fails_among x ys later fail.1 ]

  find_skips : (line : ℕ × LineKey) (lines : List (ℕ × LineKey)) → test line.1 ≡ false → found (line ∷ lines) ≡ found lines
  find_skips line lines e = rw e refl

  find_stops : (line : ℕ × LineKey) (lines : List (ℕ × LineKey)) → test line.1 ≡ true → found (line ∷ lines) ≡ Some line
  find_stops line lines e = rw e refl

  at_once : (part text : List ℕ) (field : LineKey) (changes : List Change) (n m : ℕ) (x y : Option (ℕ × LineKey)) → x ≡ Some (n, field) → y ≡ Some (m, field)
      → SameFound ((part, Some text) ∷ changes) n m x y
  at_once part text field changes n m x y is same =
      rw (is, same) (refl, ([], changes, part, text, refl, omega arith, omega arith))

  skipped : (changes : List Change) (n m : ℕ) (x y x' y' : Option (ℕ × LineKey)) → x ≡ x' → y ≡ y' → SameFound changes n m x' y' → SameFound changes n m x y
  skipped changes n m x y x' y' is same h = rw (is, same) h

  left_test : (seen : List LineKey) (part text : List ℕ) (field : LineKey) (changes : List Change) (n m : ℕ) (b : Bool) → test field ≡ b → AllFail seen
      → (AllFail (field ∷ seen) → SameFound changes (n + 1) (m + 1) (found (numbered host (n + 1) (parts_of changes))) (found (numbered host (m + 1) (left changes))))
      → SameFound ((part, Some text) ∷ changes) n m (found ((n, field) ∷ numbered host (n + 1) (parts_of changes))) (found ((m, field) ∷ numbered host (m + 1) (left changes)))
  left_test seen part text field changes n m true e fail later =
      at_once part text field changes n m _ _ (find_stops (n, field) (numbered host (n + 1) (parts_of changes)) e) (find_stops (m, field) (numbered host (m + 1) (left changes)) e)
  left_test seen part text field changes n m false e fail later =
      skipped ((part, Some text) ∷ changes) n m _ _ _ _ (find_skips (n, field) (numbered host (n + 1) (parts_of changes)) e) (find_skips (m, field) (numbered host (m + 1) (left changes)) e)
      (left_later part text changes n m _ _ (later (e, fail)))

  -- a part that is kept, by its key
  left_case : (seen : List LineKey) (part text : List ℕ) (changes : List Change) (n m : ℕ) (o : Option LineKey) → AllFail seen
      → (AllFail (cons_option o seen) → SameFound changes (n + 1) (m + 1) (found (numbered host (n + 1) (parts_of changes))) (found (numbered host (m + 1) (left changes))))
      → SameFound ((part, Some text) ∷ changes) n m (found (cons_option (option_map (λ key. (n, key)) o) (numbered host (n + 1) (parts_of changes))))
      (found (cons_option (option_map (λ key. (m, key)) o) (numbered host (m + 1) (left changes))))
  left_case seen part text changes n m None fail later = left_later part text changes n m _ _ (later fail)
  left_case seen part text changes n m (Some field) fail later = left_test seen part text field changes n m (test field) refl fail later

  -- a part that is dropped, by its key
  dropped_case : (seen : List LineKey) (part : List ℕ) (changes : List Change) (n m : ℕ) (o : Option LineKey) → IsAmong o seen → AllFail seen
      → SameFound changes (n + 1) m (found (numbered host (n + 1) (parts_of changes))) (found (numbered host m (left changes)))
      → SameFound ((part, None) ∷ changes) n m (found (cons_option (option_map (λ key. (n, key)) o) (numbered host (n + 1) (parts_of changes)))) (found (numbered host m (left changes)))
  dropped_case seen part changes n m None among fail later = dropped_later part changes n m _ _ later
  dropped_case seen part changes n m (Some field) among fail later =
      skipped ((part, None) ∷ changes) n m _ _ _ _ (find_skips (n, field) (numbered host (n + 1) (parts_of changes)) (fails_among field seen among fail)) refl
      (dropped_later part changes n m _ _ later)

  same_text_case : (part text : List ℕ) (changes : List Change) (n m : ℕ) (o o' : Option LineKey) → o' ≡ o
      → SameFound ((part, Some text) ∷ changes) n m (found (cons_option (option_map (λ key. (n, key)) o) (numbered host (n + 1) (parts_of changes))))
      (found (cons_option (option_map (λ key. (m, key)) o) (numbered host (m + 1) (left changes))))
      → SameFound ((part, Some text) ∷ changes) n m (found (cons_option (option_map (λ key. (n, key)) o) (numbered host (n + 1) (parts_of changes))))
      (found (cons_option (option_map (λ key. (m, key)) o') (numbered host (m + 1) (left changes))))
  same_text_case part text changes n m o o' same h = rw same h

  -- the first line that passes a test is the same line before and after
  pub found_same : (seen : List LineKey) (changes : List Change) (n m : ℕ) → Follows host seen changes → AllFail seen
      → SameFound changes n m (found (numbered host n (parts_of changes))) (found (numbered host m (left changes)))
  found_same seen [] n m follows fail = tt
  found_same seen ((part, Some text) ∷ changes) n m follows fail =
      same_text_case part text changes n m (line_key host part) (line_key host text) follows.0
      (left_case seen part text changes n m (line_key host part) fail (λ more. found_same (cons_option (line_key host part) seen) changes (n + 1) (m + 1) follows.1 more))
  found_same seen ((part, None) ∷ changes) n m follows fail =
      dropped_case seen part changes n m (line_key host part) follows.0 fail (found_same seen changes (n + 1) m follows.1 fail)
