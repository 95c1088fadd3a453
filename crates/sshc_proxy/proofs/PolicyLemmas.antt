-- Reading a policy line by line: the lines so far, and those that are left.
use Rattle.std.proofs.Common.{◌≡◌, ℕ, ◌+◌, Bool, true, false, List, [], ◌∷◌, ◌++◌, Option, Some, None, Err, refl, ap, sym, ◌∙◌, append_assoc}
use Rattle.std.specs.Prelude.{find, option_map, if◌then◌else◌, ◌==◌}
use Rattle.std.specs.List.{cons_option, enumerate_from, filter_map, onto_first}
use Rattle.sshc_proxy.specs.declared.error.PolicyError.{PolicyError}
use Rattle.sshc_proxy.specs.declared.error.PolicyError.TheVariants.{BadLine, NoMemory}
use Rattle.sshc_hosts.specs.MatchingLines.{parts_at}
use Rattle.sshc_proxy.specs.Policy.{AddsLine, Reads, Rule, bad_line, first_bad, is_bad, rule_in, rule_of}

abbrev Numbered : Type 0
Numbered = ℕ × List ℕ

found_by : (b : Bool) (line : Numbered) (rest : Option Numbered) → b ≡ true → option_map (λ x. x.0) (if b then Some line else rest) ≡ Some line.0
found_by true line rest e = refl
found_by false line rest e = absurd cc

passed_by : (b : Bool) (line : Numbered) (rest : Option Numbered) → b ≡ false → (if b then Some line else rest) ≡ rest
passed_by true line rest e = absurd cc
passed_by false line rest e = refl

cons_one : (o : Option Rule) (xs : List Rule) → cons_option o xs ≡ cons_option o [] ++ xs
cons_one None xs = refl
cons_one (Some x) xs = refl

-- a line that isn't bad
pub passed : (number : ℕ) (line : List ℕ) (rest : List (List ℕ)) → is_bad line ≡ false → first_bad number (line ∷ rest) ≡ first_bad (number + 1) rest
passed number line rest e = ap (option_map (λ x. x.0)) (passed_by (is_bad line) (number, line) (find (λ l. is_bad l.1) (enumerate_from (number + 1) rest)) e)

-- its rule is the next
pub added : (before after : List Rule) (line : List ℕ) (rest : List (List ℕ)) → after ≡ before ++ filter_map rule_of (line ∷ []) → before ++ filter_map rule_of (line ∷ rest) ≡ after ++ filter_map rule_of rest
added before after line rest is =
    ap (λ (xs : List Rule). before ++ xs) (cons_one (rule_of line) (filter_map rule_of rest)) ∙ sym (append_assoc before (cons_option (rule_of line) []) (filter_map rule_of rest))
    ∙ ap (λ (xs : List Rule). xs ++ filter_map rule_of rest) (sym is)

-- reading stops at a line
pub stops : (text line : List ℕ) (rest : List (List ℕ)) (number : ℕ) (before after : List Rule) (e : PolicyError) → bad_line text ≡ first_bad number (line ∷ rest)
    → AddsLine line number before after (Err e) → Reads text (Err e)
stops text line rest number before after NoMemory so_far adds = tt
stops text line rest number before after (BadLine n) so_far (bad, is) =
    so_far ∙ found_by (is_bad line) (number, line) (find (λ l. is_bad l.1) (enumerate_from (number + 1) rest)) bad ∙ ap (λ (k : ℕ). Some k) (sym is)

-- ---- a line with more than three fields

abbrev IsFull : List (List ℕ) → Type 0
IsFull [] = ⊥
IsFull (part ∷ parts) = Unit {0}

first_full : (x : ℕ) (parts : List (List ℕ)) (b : Bool) → IsFull (if b then [] ∷ parts else onto_first x parts)
first_full x parts true = tt
first_full x [] false = tt
first_full x (part ∷ parts) false = tt

-- there is a part
parts_full : (c : ℕ) (xs : List ℕ) → IsFull (parts_at c xs)
parts_full c [] = tt
parts_full c (x ∷ xs) = first_full x (parts_at c xs) (x == c)

too_many : (word key host : List ℕ) (parts : List (List ℕ)) → IsFull parts → None ≡ rule_in (word ∷ key ∷ host ∷ parts)
too_many word key host [] full = absurd full
too_many word key host (part ∷ parts) full = refl

pub long_line : (line word key host one two three : List ℕ) → parts_at 32 line ≡ word ∷ parts_at 32 one → parts_at 32 one ≡ key ∷ parts_at 32 two → parts_at 32 two ≡ host ∷ parts_at 32 three
    → None ≡ rule_in (parts_at 32 line)
long_line line word key host one two three a b c =
    let all : parts_at 32 line ≡ word ∷ key ∷ host ∷ parts_at 32 three = a ∙ ap (λ (ps : List (List ℕ)). word ∷ ps) b ∙ ap (λ (ps : List (List ℕ)). word ∷ key ∷ ps) c in
    too_many word key host (parts_at 32 three) (parts_full 32 three) ∙ ap rule_in (sym all)
