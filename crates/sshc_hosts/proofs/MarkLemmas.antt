-- The mark of a line by its first byte, and by its first field.
use Rattle.std.proofs.Common.{◌≡◌, ◌≢◌, ℕ, Bool, true, false, List, [], ◌∷◌, Option, Some, None, refl, ap, sym, ◌∙◌, Bor, option_copied, IfNone, IfSome}
use Rattle.std.specs.Prelude.{◌==◌, ◌&&◌, if◌then◌else◌, bytes_eq}
use Rattle.std.specs.List.{onto_first}
use Rattle.std.proofs.lemmas.Bool.{false_from_ne_true}
use Rattle.std.proofs.lemmas.List.Splits.{slice_split-cons_yes, slice_split-cons_no}
use Rattle.std.proofs.lemmas.Slice.Eq.{bytes_eq-Decides}
use Rattle.sshc_hosts.specs.declared.marks.Mark.TheVariants.{Recorded, Revoked}
use Rattle.sshc_hosts.specs.MatchingLines.{parts_at, revoked_mark, marked, begins_mark, fields_behind}
use Rattle.sshc_hosts.proofs.EntryLemmas.{some_part}

-- the mark of fields by whether the first of them is one
pub marked_by : (first : List ℕ) (fields : List (List ℕ)) (b : Bool) → bytes_eq first revoked_mark ≡ b → marked (first ∷ fields) ≡ (if b then (Revoked, fields) else (Recorded, first ∷ fields))
marked_by first fields b e = ap (λ (c : Bool). if c then (Revoked, fields) else (Recorded, first ∷ fields)) e

-- a first field that isn't the mark
pub no_mark : (first : List ℕ) (fields : List (List ℕ)) → first ≢ revoked_mark → marked (first ∷ fields) ≡ (Recorded, first ∷ fields)
no_mark first fields apart =
    marked_by first fields false (false_from_ne_true (bytes_eq first revoked_mark) (λ e. apart ((bytes_eq-Decides first revoked_mark).0 e)))

and_false : (a b : Bool) → a ≡ false → (a && b) ≡ false
and_false true b e = absurd cc
and_false false b e = refl

by_byte : (b : ℕ) (rest : List ℕ) (space : Bool) → (b == 64) ≡ false → (b == 32) ≡ space → marked (parts_at 32 (b ∷ rest)) ≡ (Recorded, parts_at 32 (b ∷ rest))
by_byte b rest true apart e =
    let parts : parts_at 32 (b ∷ rest) ≡ [] ∷ parts_at 32 rest = slice_split-cons_yes (λ c. c == 32) b rest e in
    ap marked parts ∙ ap (λ (fields : List (List ℕ)). (Recorded, fields)) (sym parts)
by_byte b rest false apart e =
    let (first, more, is) = some_part 32 rest in
    let parts : parts_at 32 (b ∷ rest) ≡ (b ∷ first) ∷ more = slice_split-cons_no (λ c. c == 32) b rest e ∙ ap (onto_first b) is in
    ap marked parts ∙ marked_by (b ∷ first) more false (and_false (b == 64) _ apart) ∙ ap (λ (fields : List (List ℕ)). (Recorded, fields)) (sym parts)

-- a line that doesn't begin with `@` has no mark
pub unmarked : (line : List ℕ) → begins_mark line ≡ false → marked (parts_at 32 line) ≡ (Recorded, parts_at 32 line)
unmarked [] apart = refl
unmarked (b ∷ rest) apart = by_byte b rest (b == 32) apart refl

-- the fields behind a mark, as the text behind the first space has them
pub behind_mark : (line first : List ℕ) (rest : Option (Bor (List ℕ))) → first ≡ revoked_mark
    → IfNone rest (parts_at 32 line ≡ first ∷ []) → IfSome rest (λ r. parts_at 32 line ≡ first ∷ parts_at 32 r.now)
    → marked (parts_at 32 line) ≡ (Revoked, fields_behind (option_copied rest))
behind_mark line first None is none some = ap marked (none ∙ ap (λ (f : List ℕ). f ∷ []) is)
behind_mark line first (Some r) is none some = ap marked (some ∙ ap (λ (f : List ℕ). f ∷ parts_at 32 r.now) is)

-- a line whose first field isn't the mark
pub other_field : (line first : List ℕ) (rest : Option (Bor (List ℕ))) → first ≢ revoked_mark
    → IfNone rest (parts_at 32 line ≡ first ∷ []) → IfSome rest (λ r. parts_at 32 line ≡ first ∷ parts_at 32 r.now)
    → marked (parts_at 32 line) ≡ (Recorded, parts_at 32 line)
other_field line first None apart none some = ap marked none ∙ no_mark first [] apart ∙ ap (λ (fields : List (List ℕ)). (Recorded, fields)) (sym none)
other_field line first (Some r) apart none some = ap marked some ∙ no_mark first _ apart ∙ ap (λ (fields : List (List ℕ)). (Recorded, fields)) (sym some)
