-- The set of the compared fields of earlier lines.
use Rattle.std.proofs.Common.{◌≡◌, ℕ, Bool, true, false, List, [], ◌∷◌, ◌++◌, Option, Some, None, refl, ap, sym, ◌∙◌}
use Rattle.std.specs.Prelude.{◌||◌, not, if◌then◌else◌}
use Rattle.std.specs.List.{list_any}
use Rattle.std.specs.HashSet.{HashSet, contains, UpdatesBy}
use Rattle.sshc_hosts.specs.MatchingLines.{is_revoked}
use Rattle.sshc_audit.specs.Lines.{Line, line_of}
use Rattle.sshc_audit.specs.Doubled.{both_say, is_doubled, SeenEntry, same_said, says, IsSeen}

any_same : (p q : List ℕ → Bool) (xs : List (List ℕ)) → ((x : List ℕ) → p x ≡ q x) → list_any p xs ≡ list_any q xs
any_same p q [] same = refl
any_same p q (x ∷ xs) same = ap (λ (b : Bool). b || list_any p xs) (same x) ∙ ap (λ (b : Bool). q x || b) (any_same p q xs same)

any_false : (p : List ℕ → Bool) (xs : List (List ℕ)) → ((x : List ℕ) → p x ≡ false) → list_any p xs ≡ false
any_false p [] none = refl
any_false p (x ∷ xs) none = ap (λ (b : Bool). b || list_any p xs) (none x) ∙ any_false p xs none

or_last : (a b c : Bool) → ((a || b) || c) ≡ (a || (b || c))
or_last true b c = refl
or_last false b c = refl

any_last : (p : List ℕ → Bool) (xs : List (List ℕ)) (x : List ℕ) → list_any p (xs ++ x ∷ []) ≡ (list_any p xs || (p x || false))
any_last p [] x = refl
any_last p (y ∷ xs) x = ap (λ (b : Bool). p y || b) (any_last p xs x) ∙ sym (or_last (p y) (list_any p xs) (p x || false))

none_says : (o : Option Line) → both_say o None ≡ false
none_says None = refl
none_says (Some line) = refl

-- a part that isn't a line isn't doubled
pub no_line_doubled : (earlier : List (List ℕ)) (part : List ℕ) → line_of part ≡ None → false ≡ is_doubled earlier part
no_line_doubled earlier part is =
    sym (any_false (λ other. both_say (line_of other) (line_of part)) earlier (λ other. ap (both_say (line_of other)) is ∙ none_says (line_of other)))

-- the compared fields of a line, as the set keeps them
abbrev pub IsKept : SeenEntry → Line → Type 0
IsKept seen_entry line = (seen_entry.0 ≡ is_revoked line.mark) × (seen_entry.1.now ≡ line.host) × (seen_entry.2.now ≡ line.key)

kept_says : (seen_entry : SeenEntry) (line : Line) (o : Option Line) → IsKept seen_entry line → says seen_entry o ≡ both_say o (Some line)
kept_says seen_entry line None is = refl
kept_says seen_entry line (Some other) is = rw (is.0, is.1, is.2) refl

not_not : (b : Bool) → not (not b) ≡ b
not_not true = refl
not_not false = refl

-- a line that was added to the set because it was not there isn't doubled
pub seen_answer : {S : Type 0} (seen : HashSet SeenEntry S) (earlier : List (List ℕ)) (part : List ℕ) (line : Line) (seen_entry : SeenEntry) (added : Bool) → IsSeen seen earlier → line_of part ≡ Some line
    → IsKept seen_entry line → added ≡ not (contains same_said seen seen_entry) → not added ≡ is_doubled earlier part
seen_answer seen earlier part line seen_entry added is line_is kept new =
    ap not new ∙ not_not _ ∙ is seen_entry
    ∙ any_same (λ other. says seen_entry (line_of other)) (λ other. both_say (line_of other) (line_of part)) earlier
    (λ other. kept_says seen_entry line (line_of other) kept ∙ ap (both_say (line_of other)) (sym line_is))

cond_or : (b any : Bool) → (if b then true else any) ≡ (any || (b || false))
cond_or true true = refl
cond_or true false = refl
cond_or false true = refl
cond_or false false = refl

kept_is : (seen_entry q : SeenEntry) (line : Line) → IsKept seen_entry line
    → same_said seen_entry q ≡ says q (Some line)
kept_is seen_entry q line is = rw (is.0, is.1, is.2) refl

-- the set after the line was added
pub seen_next : {S : Type 0} (seen seen' : HashSet SeenEntry S) (earlier : List (List ℕ)) (part : List ℕ) (line : Line) (seen_entry : SeenEntry) → IsSeen seen earlier → line_of part ≡ Some line → IsKept seen_entry line
    → UpdatesBy same_said (same_said seen_entry) seen seen' true
    → IsSeen seen' (earlier ++ part ∷ [])
seen_next seen seen' earlier part line seen_entry is line_is kept updates q =
    updates.0 q ∙ ap (λ (b : Bool). if b then true else contains same_said seen q) (kept_is seen_entry q line kept) ∙ ap (λ (b : Bool). if says q (Some line) then true else b) (is q)
    ∙ cond_or (says q (Some line)) (list_any (λ other. says q (line_of other)) earlier)
    ∙ ap (λ (o : Option Line). list_any (λ other. says q (line_of other)) earlier || (says q o || false)) (sym line_is)
    ∙ sym (any_last (λ other. says q (line_of other)) earlier part)
