-- The lines of two texts, one after the other, and which of them match.
use Rattle.std.proofs.Common.{◌≡◌, ℕ, suc, ◌+◌, ◌-◌, ◌<◌, Bool, true, false, List, [], ◌∷◌, ◌++◌, length, take, drop, refl, ap, sym, ◌∙◌, arith, append_assoc, drop-cons, eq-eqb, get_or}
use Rattle.std.proofs.Math.Seq.{drop-length}
use Rattle.std.specs.Prelude.{◌==◌, if◌then◌else◌}
use Rattle.std.specs.List.{onto_first, filter_map, enumerate_from, cons_option}
use Rattle.std.proofs.lemmas.List.{take-append-drop, append-nil}
use Rattle.std.proofs.lemmas.Bool.Decides.{nat_tests}
use Rattle.std.proofs.lemmas.List.Splits.{slice_split_none, slice_split_at, slice_split-cons_yes}
use Rattle.std.proofs.lemmas.List.Elements.{filter_map-append}
use Rattle.sshc_hosts.specs.MatchingLines.{LineKey, parts_at, numbered_key, matching}
use Rattle.sshc_hosts.specs.Learning.{ends_line, added_line, Lacks}

-- ---- parts

onto_first-onto_first : (x y : ℕ) (parts others : List (List ℕ)) → onto_first x (onto_first y parts ++ others) ≡ onto_first x (onto_first y parts) ++ others
onto_first-onto_first x y [] others = refl
onto_first-onto_first x y (part ∷ parts) others = refl

onto_first_case : (x y c : ℕ) (ys : List ℕ) (others : List (List ℕ)) (b : Bool) → (y == c) ≡ b → onto_first x (parts_at c (y ∷ ys) ++ others) ≡ onto_first x (parts_at c (y ∷ ys)) ++ others
onto_first_case x y c ys others true e = rw e refl
onto_first_case x y c ys others false e = rw e (onto_first-onto_first x y (parts_at c ys) others)

-- a byte before the first of some parts
onto_first-parts : (x c : ℕ) (xs : List ℕ) (others : List (List ℕ)) → onto_first x (parts_at c xs ++ others) ≡ onto_first x (parts_at c xs) ++ others
onto_first-parts x c [] others = refl
onto_first-parts x c (y ∷ ys) others = onto_first_case x y c ys others (y == c) refl

parts_case : (c x : ℕ) (xs ys : List ℕ) (b : Bool) → (x == c) ≡ b → parts_at c (xs ++ c ∷ ys) ≡ parts_at c xs ++ parts_at c ys → parts_at c ((x ∷ xs) ++ c ∷ ys) ≡ parts_at c (x ∷ xs) ++ parts_at c ys
parts_case c x xs ys true e later = rw e (ap (λ (parts : List (List ℕ)). [] ∷ parts) later)
parts_case c x xs ys false e later = rw e (ap (onto_first x) later ∙ onto_first-parts x c xs (parts_at c ys))

-- the parts of two texts with the byte between them
pub parts_at-append : (c : ℕ) (xs ys : List ℕ) → parts_at c (xs ++ c ∷ ys) ≡ parts_at c xs ++ parts_at c ys
parts_at-append c [] ys = slice_split-cons_yes (λ b. b == c) c ys (eq-eqb c c refl)
parts_at-append c (x ∷ xs) ys = parts_case c x xs ys (x == c) refl (parts_at-append c xs ys)

-- a text without the byte is one part
pub parts_at-lacking : (c : ℕ) (xs : List ℕ) → Lacks xs c → parts_at c xs ≡ xs ∷ []
parts_at-lacking c xs none = slice_split_none (λ b. b == c) xs none

-- the first part ends at the first such byte
pub parts_at-first : (c : ℕ) (xs ys : List ℕ) → Lacks xs c → parts_at c (xs ++ c ∷ ys) ≡ xs ∷ parts_at c ys
parts_at-first c xs ys none = slice_split_at (λ b. b == c) xs c ys none (eq-eqb c c refl)

-- ---- numbered lines

enumerate_from-append : (n : ℕ) (xs ys : List (List ℕ)) → enumerate_from n (xs ++ ys) ≡ enumerate_from n xs ++ enumerate_from (n + length xs) ys
enumerate_from-append n [] ys = ap (λ m. enumerate_from m ys) (omega arith)
enumerate_from-append n (x ∷ xs) ys =
    let more : n + 1 + length xs ≡ n + length (x ∷ xs) = omega arith in
    ap (λ (lines : List (ℕ × List ℕ)). (n, x) ∷ lines) (enumerate_from-append (n + 1) xs ys ∙ ap (λ m. enumerate_from (n + 1) xs ++ enumerate_from m ys) more)

-- the matching lines among those of a number and after it
abbrev pub matching_from : List ℕ → ℕ → List ℕ → List (ℕ × LineKey)
matching_from host n text = filter_map (numbered_key host) (enumerate_from n (parts_at 10 text))

-- the matching lines of two texts, with a line feed between them
pub matching-append : (host xs ys : List ℕ) → matching (xs ++ 10 ∷ ys) host ≡ matching xs host ++ matching_from host (1 + length (parts_at 10 xs)) ys
matching-append host xs ys =
    ap (λ parts. filter_map (numbered_key host) (enumerate_from 1 parts)) (parts_at-append 10 xs ys)
    ∙ ap (filter_map (numbered_key host)) (enumerate_from-append 1 (parts_at 10 xs) (parts_at 10 ys))
    ∙ filter_map-append (numbered_key host) (enumerate_from 1 (parts_at 10 xs)) (enumerate_from (1 + length (parts_at 10 xs)) (parts_at 10 ys))

-- an empty line after a text matches nothing
pub matching-line_feed : (host xs : List ℕ) → matching (xs ++ 10 ∷ []) host ≡ matching xs host
matching-line_feed host xs = matching-append host xs [] ∙ append-nil (matching xs host)

-- a line and its line feed
matching_from-line : (host line : List ℕ) (n : ℕ) → Lacks line 10 → matching_from host n (line ++ 10 ∷ []) ≡ cons_option (numbered_key host (n, line)) []
matching_from-line host line n whole =
    ap (λ parts. filter_map (numbered_key host) (enumerate_from n parts)) (parts_at-first 10 line [] whole)

-- a line after a text and a line feed
pub matching-line : (host xs line : List ℕ) → Lacks line 10 → matching (xs ++ 10 ∷ (line ++ 10 ∷ [])) host ≡ matching xs host ++ cons_option (numbered_key host (1 + length (parts_at 10 xs), line)) []
matching-line host xs line whole =
    matching-append host xs (line ++ 10 ∷ []) ∙ ap (λ found. matching xs host ++ found) (matching_from-line host line (1 + length (parts_at 10 xs)) whole)

-- ---- a line that is added

-- a text by its last byte
by_last : (text : List ℕ) (i byte : ℕ) → length text ≡ i + 1 → get_or text i 0 ≡ byte → text ≡ take i text ++ byte ∷ []
by_last text i byte long last =
    let within : i < length text = omega arith in
    let all : suc i ≡ length text = omega arith in
    let rest : drop (suc i) text ≡ [] = ap (λ n. drop n text) all ∙ drop-length text in
    let behind : drop i text ≡ byte ∷ [] = drop-cons text i 0 within ∙ ap (λ b. b ∷ drop (suc i) text) last ∙ ap (λ later. byte ∷ later) rest in
    sym (take-append-drop i text) ∙ ap (λ end. take i text ++ end) behind

-- a text that ends with a line feed, by the text before it
before_line_feed : (text : List ℕ) → ends_line text ≡ true → text ≡ take (length text - 1) text ++ 10 ∷ []
before_line_feed [] ends = absurd (cc)
before_line_feed (b ∷ text) ends = by_last (b ∷ text) (length (b ∷ text) - 1) 10 (omega arith) (let last : get_or (b ∷ text) (length (b ∷ text) - 1) 0 ≡ 10 = grind (arith, nat_tests, ends) in last)

-- the number of a line that is added
abbrev pub added_number : (old : List ℕ) (b : Bool) → ℕ
added_number old true = 1 + length (parts_at 10 (take (length old - 1) old))
added_number old false = 1 + length (parts_at 10 old)

added_case : (host old line : List ℕ) (b : Bool) → ends_line old ≡ b → Lacks line 10
    → matching (old ++ ((if b then [] else 10 ∷ []) ++ line ++ 10 ∷ [])) host ≡ matching old host ++ cons_option (numbered_key host (added_number old b, line)) []
added_case host old line true ends whole =
    let body : List ℕ = take (length old - 1) old in
    let is : old ≡ body ++ 10 ∷ [] = before_line_feed old ends in
    let now : old ++ (line ++ 10 ∷ []) ≡ body ++ 10 ∷ (line ++ 10 ∷ []) = ap (λ front. front ++ (line ++ 10 ∷ [])) is ∙ append_assoc body (10 ∷ []) (line ++ 10 ∷ []) in
    let before : matching old host ≡ matching body host = ap (λ text. matching text host) is ∙ matching-line_feed host body in
    ap (λ text. matching text host) now ∙ matching-line host body line whole ∙ ap (λ found. found ++ cons_option (numbered_key host (added_number old true, line)) []) (sym before)
added_case host old line false ends whole = matching-line host old line whole

-- the matching lines after a line was added: those that matched before, and perhaps the line
pub matching-added : (host old line : List ℕ) → Lacks line 10
    → matching (old ++ added_line old line) host ≡ matching old host ++ cons_option (numbered_key host (added_number old (ends_line old), line)) []
matching-added host old line whole = added_case host old line (ends_line old) refl whole
