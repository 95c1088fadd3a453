-- Rewriting a known hosts text part by part, and which verdicts agree before and after it.
-- Whole lists of parts, and two judgements that are compared; the code edits one text.
use Rattle.std.specs.Prelude.{◌≡◌, ℕ, ◌+◌, Bool, List, ◌∷◌, ◌++◌, length, Option, Some, Result, Err}
use Rattle.std.specs.List.{filter_map, join_with_byte}
use Rattle.sshc_key.specs.KeyGrammar.{Key}
use Rattle.sshc_key.specs.declared.error.Error.{Error}
use Rattle.sshc_key.specs.declared.error.Error.TheVariants.{KeyChanged, Revoked}
use Rattle.sshc_hosts.specs.Judgement.{judged}

-- a part of the text and its replacement; None if it is dropped
abbrev pub Change : Type 0
Change = List ℕ × Option (List ℕ)

-- the replacements of the parts, without the dropped ones
abbrev pub left : List Change → List (List ℕ)
left changes = filter_map (λ change. change.1) changes

-- the new text: the replacements, with a line feed between each two
abbrev pub rewritten : List Change → List ℕ
rewritten changes = join_with_byte 10 (left changes)

-- the line with number n is kept, and its new number is m
abbrev pub IsSameLine : List Change → ℕ → ℕ → Type 0
IsSameLine changes n m =
    (before behind : List Change) × (part text : List ℕ)
    × (changes ≡ before ++ (part, Some text) ∷ behind) × (n ≡ length before + 1) × (m ≡ length (left before) + 1)

-- two verdicts agree if they are equal except for the number of a line, and the lines that they name are the same line
abbrev pub Agree : List Change → Result Bool Error → Result Bool Error → Type 0
Agree changes (Err (KeyChanged n)) (Err (KeyChanged m)) = IsSameLine changes n m
Agree changes (Err (KeyChanged n)) after = ⊥
Agree changes (Err (Revoked n)) (Err (Revoked m)) = IsSameLine changes n m
Agree changes (Err (Revoked n)) after = ⊥
Agree changes before after = after ≡ before

-- the verdicts on each key agree before and after the rewriting
abbrev pub Agrees : List ℕ → List Change → List ℕ → Type 0
Agrees text changes host = (key : Key) → Agree changes (judged text host key) (judged (rewritten changes) host key)
