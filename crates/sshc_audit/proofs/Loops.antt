-- What remains to be done in a turn of a loop over parts or entries.
use Rattle.std.proofs.Common.{◌≡◌, ℕ, Bool, true, false, List, [], ◌∷◌, ◌++◌, Option, Some, None, Result, IfOk, refl, ap, sym, ◌∙◌, subst}
use Rattle.std.specs.Prelude.{if◌then◌else◌, filter, map}
use Rattle.std.specs.List.{cons_option}
use Rattle.sshc_audit.specs.Joining.{Joined, with_text}
use Rattle.sshc_audit.specs.Rewriting.{left}
use Rattle.sshc_audit.specs.Doubled.{is_doubled, undoubled}
use Rattle.sshc_audit.specs.Removing.{stays, part_without}
use Rattle.sshc_audit.proofs.Parts.{joined_on, joined_any, joined_next, any_next}

-- a result by another name
pub result_is : {T E : Type 0} (r : Result T E) (a b : T) → a ≡ b → IfOk r (λ t. t ≡ a) → IfOk r (λ t. t ≡ b)
result_is {T} r a b e h = subst (λ (x : T). IfOk r (λ t. t ≡ x)) e h

-- ---- parts without doubled lines

pub undoubled_next : (out out' : Joined) (whole part : List ℕ) (earlier parts behind : List (List ℕ)) → parts ≡ part ∷ behind
    → whole ≡ joined_on out (left (undoubled earlier parts)) → out' ≡ with_text out (if is_doubled earlier part then None else Some part)
    → whole ≡ joined_on out' (left (undoubled (earlier ++ part ∷ []) behind))
undoubled_next out out' whole part earlier parts behind is so_far added =
    so_far ∙ ap (λ (ps : List (List ℕ)). joined_on out (left (undoubled earlier ps))) is
    ∙ joined_next out (if is_doubled earlier part then None else Some part) (left (undoubled (earlier ++ part ∷ []) behind))
    ∙ ap (λ (o : Joined). joined_on o (left (undoubled (earlier ++ part ∷ []) behind))) (sym added)

-- ---- entries that stay

filter_option : (p : List ℕ → Bool) (x : List ℕ) (xs : List (List ℕ)) (b : Bool) → p x ≡ b → filter p (x ∷ xs) ≡ cons_option (if b then Some x else None) (filter p xs)
filter_option p x xs true e = rw e refl
filter_option p x xs false e = rw e refl

pub entries_next : (out out' : Joined) (host entry : List ℕ) (whole : Option (List ℕ)) (entries behind : List (List ℕ)) → entries ≡ entry ∷ behind
    → whole ≡ joined_any out (filter (stays host) entries) → out' ≡ with_text out (if stays host entry then Some entry else None)
    → whole ≡ joined_any out' (filter (stays host) behind)
entries_next out out' host entry whole entries behind is so_far added =
    so_far ∙ ap (λ (es : List (List ℕ)). joined_any out (filter (stays host) es)) is
    ∙ ap (joined_any out) (filter_option (stays host) entry behind (stays host entry) refl)
    ∙ any_next out (if stays host entry then Some entry else None) (filter (stays host) behind)
    ∙ ap (λ (o : Joined). joined_any o (filter (stays host) behind)) (sym added)

-- ---- parts without the host

-- the parts that remain once the host is removed from them
abbrev pub left_without : List ℕ → List (List ℕ) → List (List ℕ)
left_without host parts = left (map (λ part. (part, part_without host part)) parts)

pub without_next : (out out' : Joined) (host whole part : List ℕ) (parts behind : List (List ℕ)) → parts ≡ part ∷ behind
    → whole ≡ joined_on out (left_without host parts) → out' ≡ with_text out (part_without host part) → whole ≡ joined_on out' (left_without host behind)
without_next out out' host whole part parts behind is so_far added =
    so_far ∙ ap (λ (ps : List (List ℕ)). joined_on out (left_without host ps)) is ∙ joined_next out (part_without host part) (left_without host behind)
    ∙ ap (λ (o : Joined). joined_on o (left_without host behind)) (sym added)
