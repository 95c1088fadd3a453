-- The first entry of a host field, by the index of the first comma or space, and the text after the field.
use Rattle.std.proofs.Common.{◌≡◌, ℕ, suc, ◌+◌, ◌-◌, ◌<◌, Bool, true, false, List, [], ◌∷◌, ◌++◌, length, take, drop, get_or, Option, Some, None, refl, ap, sym, ◌∙◌, arith, drop-cons, ◌⊎◌, inl, inr, Bor, option_copied, IfNone, IfSome}
use Rattle.std.specs.Prelude.{◌==◌, ◌||◌, if◌then◌else◌}
use Rattle.std.specs.List.{All, list_any, onto_first, slice_range}
use Rattle.std.proofs.lemmas.Bool.{eqb-true}
use Rattle.std.proofs.lemmas.List.{take-append-drop, get_or-take, length-take}
use Rattle.std.proofs.lemmas.List.Elements.{All-from_get_or}
use Rattle.std.proofs.lemmas.List.Splits.{slice_split_none, slice_split_at, slice_split-cons_yes, slice_split-cons_no}
use Rattle.std.proofs.lemmas.Str.{IsCharBoundary-before_ascii, IsCharBoundary-after_ascii}
use Rattle.std.specs.Str.{IsCharBoundary, IsUtf8}
use Rattle.memchr.specs.Find.{IsFirstByte, is_byte2}
use Rattle.sshc_hosts.specs.MatchingLines.{parts_at, field_matches, entry_matches, third_field}
use Rattle.sshc_hosts.specs.Entries.{CutsEntry, second, key_behind}

-- ---- the first comma or space

neither : (a b : Bool) → ((a || b) ≡ true → ⊥) → (a ≡ false) × (b ≡ false)
neither true b h = absurd (h refl)
neither false true h = absurd (h refl)
neither false false h = (refl, refl)

one_of : (a b : ℕ) (p q : Bool) → (a == 44) ≡ p → (b == 32) ≡ q → (p || q) ≡ true → (a ≡ 44) ⊎ (b ≡ 32)
one_of a b true q ha hb h = inl (eqb-true a 44 ha)
one_of a b false true ha hb h = inr (eqb-true b 32 hb)
one_of a b false false ha hb h = let e : false ≡ true = h in absurd (cc)

is_one : (a b : ℕ) → (a == 44 || b == 32) ≡ true → (a ≡ 44) ⊎ (b ≡ 32)
is_one a b h = one_of a b (a == 44) (b == 32) refl refl h

-- an index that was found
pub found_at : (xs : List ℕ) (i : ℕ) → IsFirstByte (is_byte2 44 32) xs (Some i) → (i < length xs) × ((get_or xs i 0 ≡ 44) ⊎ (get_or xs i 0 ≡ 32))
found_at xs i (before, here) = (before.high, is_one (get_or xs i 0) (get_or xs i 0) here)

low_byte : (b : ℕ) → (b ≡ 44) ⊎ (b ≡ 32) → b < 128
low_byte b (inl is) = omega (arith, is)
low_byte b (inr is) = omega (arith, is)

pub entry_before : (xs : List ℕ) (i : ℕ) → IsFirstByte (is_byte2 44 32) xs (Some i) → IsCharBoundary xs i
entry_before xs i found = let (within, is) = found_at xs i found in IsCharBoundary-before_ascii xs i within (low_byte _ is)

pub entry_after : (xs : List ℕ) (i : ℕ) → IsUtf8 xs → IsFirstByte (is_byte2 44 32) xs (Some i) → IsCharBoundary xs (i + 1)
entry_after xs i text found = let (within, is) = found_at xs i found in IsCharBoundary-after_ascii xs i text within (low_byte _ is)

-- no comma and no space before it
lacks_both : (xs : List ℕ) (i : ℕ) → IsFirstByte (is_byte2 44 32) xs (Some i) → (k : ℕ) → k < i → (get_or xs k 0 == 44 ≡ false) × (get_or xs k 0 == 32 ≡ false)
lacks_both xs i (before, here) k lt = neither _ _ (before.before k (omega arith) lt)

front_at : (xs : List ℕ) (i k : ℕ) → i < length xs → k < length (take i xs) → (k < i) × (get_or (take i xs) k 0 ≡ get_or xs k 0)
front_at xs i k within lt =
    let below : k < i = let long = length-take i xs in omega (arith, long, lt) in
    (below, get_or-take i xs k 0 below)

pub no_space : (xs : List ℕ) (r : Option ℕ) → IsFirstByte (is_byte2 44 32) xs r → r ≡ None → All (λ b. (b == 32) ≡ false) xs
no_space xs None nowhere is = All-from_get_or (λ b. (b == 32) ≡ false) xs 0 (λ k lt. (neither _ _ (nowhere k (omega arith) lt)).1)
no_space xs (Some i) found is = let e : Some i ≡ None = is in absurd (cc)

pub cuts : (xs : List ℕ) (i : ℕ) (front rest : List ℕ) (mark : ℕ) → IsFirstByte (is_byte2 44 32) xs (Some i)
    → front ≡ slice_range xs 0 i → mark ≡ get_or xs i 0 → rest ≡ drop (i + 1) xs → CutsEntry xs front mark rest
cuts xs i front rest mark found is_front is_mark is_rest =
    let (within, is) = found_at xs i found in
    let short : i - 0 ≡ i = omega arith in
    let front_is : front ≡ take i xs = is_front ∙ ap (λ n. take n xs) short in
    let next : suc i ≡ i + 1 = omega arith in
    let behind : drop i xs ≡ mark ∷ rest = drop-cons xs i 0 within ∙ ap (λ b. b ∷ drop (suc i) xs) (sym is_mark) ∙ ap (λ later. mark ∷ later) (ap (λ n. drop n xs) next ∙ sym is_rest) in
    record {
      whole = sym (take-append-drop i xs) ∙ ap (λ end. take i xs ++ end) behind ∙ ap (λ start. start ++ mark ∷ rest) (sym front_is);
      no_comma = rw front_is (All-from_get_or (λ b. (b == 44) ≡ false) (take i xs) 0 (λ k lt. let (below, same) = front_at xs i k within lt in ap (λ b. b == 44) same ∙ (lacks_both xs i found k below).0));
      no_space = rw front_is (All-from_get_or (λ b. (b == 32) ≡ false) (take i xs) 0 (λ k lt. let (below, same) = front_at xs i k within lt in ap (λ b. b == 32) same ∙ (lacks_both xs i found k below).1));
      ends = rw is_mark is;
    }

-- ---- the third field by the first entry

third_is : (host field : List ℕ) (parts : List (List ℕ)) (b : Bool) → field_matches host field ≡ b → third_field host (field ∷ parts) ≡ (if b then second parts else None)
third_is host field [] true h = refl
third_is host field [] false h = refl
third_is host field (name ∷ []) true h = refl
third_is host field (name ∷ []) false h = refl
third_is host field (name ∷ key ∷ later) b h = ap (λ (c : Bool). if c then Some key else None) h

one_entry : (b : Bool) → (b || false) ≡ b
one_entry true = refl
one_entry false = refl

-- an entry that ends at a space is the whole field
whole_field : (host entry : List ℕ) → All (λ b. (b == 44) ≡ false) entry → field_matches host entry ≡ entry_matches host entry
whole_field host entry no_comma =
    ap (λ parts. list_any (λ e. entry_matches host e) parts) (slice_split_none (λ b. b == 44) entry no_comma) ∙ one_entry (entry_matches host entry)

pub at_space : (host text entry rest : List ℕ) (mark : ℕ) (b : Bool) → CutsEntry text entry mark rest → mark ≡ 32 → b ≡ entry_matches host entry
    → third_field host (parts_at 32 text) ≡ (if b then second (parts_at 32 rest) else None)
at_space host text entry rest mark b cut is matches =
    let text_is : text ≡ entry ++ 32 ∷ rest = cut.whole ∙ ap (λ m. entry ++ m ∷ rest) is in
    let parts : parts_at 32 text ≡ entry ∷ parts_at 32 rest = ap (λ t. parts_at 32 t) text_is ∙ slice_split_at (λ c. c == 32) entry 32 rest cut.no_space refl in
    ap (third_field host) parts ∙ third_is host entry (parts_at 32 rest) b (whole_field host entry cut.no_comma ∙ sym matches)

abbrev pub Begins : List (List ℕ) → Type 0
Begins parts = (first : List ℕ) × (more : List (List ℕ)) × (parts ≡ first ∷ more)

begins_more : (c x : ℕ) (xs : List ℕ) (b : Bool) → (x == c) ≡ b → Begins (parts_at c xs) → Begins (parts_at c (x ∷ xs))
begins_more c x xs true h later = ([], parts_at c xs, slice_split-cons_yes (λ b. b == c) x xs h)
begins_more c x xs false h (first, more, is) = (x ∷ first, more, slice_split-cons_no (λ b. b == c) x xs h ∙ ap (onto_first x) is)

-- the parts of a text are never an empty list
pub some_part : (c : ℕ) (xs : List ℕ) → Begins (parts_at c xs)
some_part c [] = ([], [], refl)
some_part c (x ∷ xs) = begins_more c x xs (x == c) refl (some_part c xs)

-- bytes before the first part
led : (c : ℕ) (xs ys first : List ℕ) (more : List (List ℕ)) → All (λ b. (b == c) ≡ false) xs → parts_at c ys ≡ first ∷ more → parts_at c (xs ++ ys) ≡ (xs ++ first) ∷ more
led c [] ys first more lacks is = is
led c (x ∷ xs) ys first more lacks is =
    slice_split-cons_no (λ b. b == c) x (xs ++ ys) (lacks 0 0 (omega arith))
    ∙ ap (onto_first x) (led c xs ys first more (λ k d lt. lacks (suc k) d (omega arith)) is)

comma_field : (host entry first : List ℕ) → All (λ b. (b == 44) ≡ false) entry → field_matches host (entry ++ 44 ∷ first) ≡ (entry_matches host entry || field_matches host first)
comma_field host entry first lacks = ap (λ parts. list_any (λ e. entry_matches host e) parts) (slice_split_at (λ b. b == 44) entry 44 first lacks refl)

comma_parts : (text entry rest first : List ℕ) (mark : ℕ) (more : List (List ℕ)) → CutsEntry text entry mark rest → mark ≡ 44 → parts_at 32 rest ≡ first ∷ more
    → parts_at 32 text ≡ (entry ++ 44 ∷ first) ∷ more
comma_parts text entry rest first mark more cut is parts =
    ap (λ t. parts_at 32 t) (cut.whole ∙ ap (λ m. entry ++ m ∷ rest) is) ∙ led 32 entry (44 ∷ rest) (44 ∷ first) more cut.no_space (ap (onto_first 44) parts)

or_yes : (a b : Bool) → a ≡ true → (a || b) ≡ true
or_yes true b h = refl
or_yes false b h = let e : false ≡ true = h in absurd (cc)

or_no : (a b : Bool) → a ≡ false → (a || b) ≡ b
or_no false b h = refl
or_no true b h = let e : true ≡ false = h in absurd (cc)

-- a field with the host in its first entry
pub in_first : (host text entry rest first : List ℕ) (mark : ℕ) (more : List (List ℕ)) → CutsEntry text entry mark rest → mark ≡ 44 → true ≡ entry_matches host entry → parts_at 32 rest ≡ first ∷ more
    → third_field host (parts_at 32 text) ≡ second more
in_first host text entry rest first mark more cut is matches parts =
    ap (third_field host) (comma_parts text entry rest first mark more cut is parts)
    ∙ third_is host (entry ++ 44 ∷ first) more true (comma_field host entry first cut.no_comma ∙ or_yes _ _ (sym matches))

-- a field whose first entry isn't the host
pub not_in_first : (host text entry rest : List ℕ) (mark : ℕ) → CutsEntry text entry mark rest → mark ≡ 44 → false ≡ entry_matches host entry
    → third_field host (parts_at 32 rest) ≡ third_field host (parts_at 32 text)
not_in_first host text entry rest mark cut is matches =
    let (first, more, parts) = some_part 32 rest in
    let same : field_matches host (entry ++ 44 ∷ first) ≡ field_matches host first = comma_field host entry first cut.no_comma ∙ or_no _ _ (sym matches) in
    ap (third_field host) parts ∙ third_is host first more (field_matches host first) refl
    ∙ sym (ap (third_field host) (comma_parts text entry rest first mark more cut is parts) ∙ third_is host (entry ++ 44 ∷ first) more (field_matches host first) same)

comma_by : (mark : ℕ) → (mark ≡ 44) ⊎ (mark ≡ 32) → (mark == 32) ≡ false → mark ≡ 44
comma_by mark (inl is) isnt = is
comma_by mark (inr is) isnt = let e : true ≡ false = ap (λ m. m == 32) (sym is) ∙ isnt in absurd (cc)

-- a mark that is no space is a comma
pub is_comma : (text entry rest : List ℕ) (mark : ℕ) → CutsEntry text entry mark rest → (mark == 32) ≡ false → mark ≡ 44
is_comma text entry rest mark cut isnt = comma_by mark cut.ends isnt

-- the text after a field with the host in its first entry, by the text after the next space
pub cut_behind : (host text entry rest first : List ℕ) (mark : ℕ) (r : Option (Bor (List ℕ))) → CutsEntry text entry mark rest → mark ≡ 44 → true ≡ entry_matches host entry
    → IfNone r (parts_at 32 rest ≡ first ∷ []) → IfSome r (λ b. parts_at 32 rest ≡ first ∷ parts_at 32 b.now)
    → key_behind (option_copied r) ≡ third_field host (parts_at 32 text)
cut_behind host text entry rest first mark None cut is matches none some = sym (in_first host text entry rest first mark [] cut is matches none)
cut_behind host text entry rest first mark (Some b) cut is matches none some = sym (in_first host text entry rest first mark (parts_at 32 b.now) cut is matches some)

-- a line with no space has no third field
pub no_third : (host text : List ℕ) → All (λ b. (b == 32) ≡ false) text → None ≡ third_field host (parts_at 32 text)
no_third host text lacks = sym (ap (third_field host) (slice_split_none (λ b. b == 32) text lacks))
