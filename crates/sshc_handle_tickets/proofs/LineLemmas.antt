-- Things by place: the first that passes a test stands at the first of the places where one passes.
use Rattle.std.proofs.Common.{◌≡◌, refl, sym, ap, subst, ◌∙◌, ℕ, ◌+◌, ◌<◌, ◌≤◌, arith, Bool, true, false, true≢false, ◌||◌, List, [], ◌∷◌, ◌++◌, length, Option, Some, None, is_some, if◌then◌else◌}
use Rattle.std.specs.Option.{IfNone, IfSome}
use Rattle.std.proofs.lemmas.Bool.Decides.{nat_tests}
use Rattle.std.specs.declared.cmp.Ordering.TheVariants.{Less, Greater}
use Rattle.std.specs.Ordering.{is_eq, nat_cmp}
use Rattle.std.specs.BTreeMap.{insert_entry, is_at}
use Rattle.std.specs.List.{AllByRecursion, list_any}
use Rattle.std.specs.List.Sorted.{IsStrictlySortedBy}
use Rattle.std.specs.Map.{keys_of, remove_entry, values_of}
use Rattle.sshc_handle_tickets.specs.Lines.{first_of, without_first}
use Rattle.sshc_handle_tickets.specs.Places.{IsAt, at_place, passes}

by_case : {P : Type 0} (b : Bool) → (b ≡ true → P) → (b ≡ false → P) → P
by_case true when_true when_false = when_true refl
by_case false when_true when_false = when_false refl

itself : (k : ℕ) → is_eq (nat_cmp k k) ≡ true
itself k = grind (arith, nat_tests)

apart : (p k q : ℕ) → nat_cmp k q ≡ Less → p ≤ k → is_eq (nat_cmp p q) ≡ false
apart p k q below small = grind (arith, nat_tests, below, small)

reaches : (p k : ℕ) → is_eq (nat_cmp p k) ≡ true → p ≤ k
reaches p k same = grind (arith, nat_tests, same)

-- nothing stands at a place before all
pub nothing_before : {X : Type 0} (k : ℕ) (entries : List (ℕ × X)) → AllByRecursion (λ q. nat_cmp k q ≡ Less) (keys_of entries) → (p : ℕ) → p ≤ k → at_place p entries ≡ None
nothing_before k [] all p small = refl
nothing_before k (e ∷ es) all p small = rw (apart p k e.0 all.0 small) (nothing_before k es all.1 p small)

-- ---- where the first entry passes, and where it doesn't

module _ {X : Type 0} (test : X → Bool) (e : ℕ × X) (es : List (ℕ × X)) where
  first_passes : (place : ℕ) → is_eq (nat_cmp place e.0) ≡ true → test e.1 ≡ true →
      (first_of test (values_of (e ∷ es)) ≡ at_place place (e ∷ es)) × (without_first test (values_of (e ∷ es)) ≡ values_of (remove_entry (is_at (nat_cmp place)) (e ∷ es)))
  unfolding first_of without_first
  first_passes place hit good = rw good (rw hit (refl, refl))

  first_fails : (place : ℕ) → is_eq (nat_cmp place e.0) ≡ false → test e.1 ≡ false →
      (first_of test (values_of es) ≡ at_place place es) × (without_first test (values_of es) ≡ values_of (remove_entry (is_at (nat_cmp place)) es)) →
      (first_of test (values_of (e ∷ es)) ≡ at_place place (e ∷ es)) × (without_first test (values_of (e ∷ es)) ≡ values_of (remove_entry (is_at (nat_cmp place)) (e ∷ es)))
  unfolding first_of without_first
  first_fails place miss bad later = rw bad (rw miss (later.0, ap (λ ys. e.1 ∷ ys) later.1))

  -- what is at another place than the first's
  at_other : (p : ℕ) → is_eq (nat_cmp p e.0) ≡ false → at_place p (e ∷ es) ≡ at_place p es
  at_other p miss = rw miss refl

  at_this : (p : ℕ) → is_eq (nat_cmp p e.0) ≡ true → at_place p (e ∷ es) ≡ Some e.1
  at_this p hit = rw hit refl

  -- a place at which a later thing passes is not the first's
  later_place : AllByRecursion (λ q. nat_cmp e.0 q ≡ Less) (keys_of es) → (p : ℕ) → passes test (at_place p es) ≡ true → is_eq (nat_cmp p e.0) ≡ false
  later_place all p good =
      by_case (is_eq (nat_cmp p e.0)) (λ hit. absurd (true≢false (sym good ∙ ap (passes test) (nothing_before e.0 es all p (reaches p e.0 hit))))) (λ miss. miss)

  -- if the first passes, the first of the places is its own
  own_place : AllByRecursion (λ q. nat_cmp e.0 q ≡ Less) (keys_of es) → (place : ℕ) → IsAt (λ p. passes test (at_place p (e ∷ es))) place → test e.1 ≡ true → is_eq (nat_cmp place e.0) ≡ true
  own_place all place at good =
      by_case (is_eq (nat_cmp place e.0)) (λ hit. hit)
      (λ miss.
      let small : place ≤ e.0 = at.least e.0 (ap (passes test) (at_this e.0 (itself e.0)) ∙ good) in
      absurd (true≢false (sym at.passes ∙ ap (passes test) (at_other place miss ∙ nothing_before e.0 es all place small))))

  -- if it doesn't, the first of the places is one of the others'
  other_place : (place : ℕ) → IsAt (λ p. passes test (at_place p (e ∷ es))) place → test e.1 ≡ false → is_eq (nat_cmp place e.0) ≡ false
  other_place place at bad =
      by_case (is_eq (nat_cmp place e.0)) (λ hit. absurd (true≢false (sym at.passes ∙ ap (passes test) (at_this place hit) ∙ bad))) (λ miss. miss)

  rest_at : AllByRecursion (λ q. nat_cmp e.0 q ≡ Less) (keys_of es) → (place : ℕ) → IsAt (λ p. passes test (at_place p (e ∷ es))) place → is_eq (nat_cmp place e.0) ≡ false → IsAt (λ p. passes test (at_place p es)) place
  rest_at all place at miss =
      record {
        passes = sym (ap (passes test) (at_other place miss)) ∙ at.passes;
        least = λ p good. at.least p (ap (passes test) (at_other p (later_place all p good)) ∙ good);
      }

-- the first that passes stands at the first place, and the others are what is left when it is taken from there
pub first_by : {X : Type 0} (test : X → Bool) (entries : List (ℕ × X)) (place : ℕ) → IsStrictlySortedBy nat_cmp (keys_of entries) → IsAt (λ p. passes test (at_place p entries)) place →
    (first_of test (values_of entries) ≡ at_place place entries) × (without_first test (values_of entries) ≡ values_of (remove_entry (is_at (nat_cmp place)) entries))
unfolding IsStrictlySortedBy
first_by test [] place sorted at = absurd (true≢false (sym at.passes))
first_by test (e ∷ es) place sorted at =
    by_case (test e.1)
    (λ good. first_passes test e es place (own_place test e es sorted.0 place at good) good)
    (λ bad.
    let miss : is_eq (nat_cmp place e.0) ≡ false = other_place test e es place at bad in
    first_fails test e es place miss bad (first_by test es place sorted.1 (rest_at test e es sorted.0 place at miss)))

-- each half apart
pub first_found : {X : Type 0} (test : X → Bool) (entries : List (ℕ × X)) (place : ℕ) → IsStrictlySortedBy nat_cmp (keys_of entries) → IsAt (λ p. passes test (at_place p entries)) place →
    first_of test (values_of entries) ≡ at_place place entries
first_found test entries place sorted at = (first_by test entries place sorted at).0

pub first_cut : {X : Type 0} (test : X → Bool) (entries : List (ℕ × X)) (place : ℕ) → IsStrictlySortedBy nat_cmp (keys_of entries) → IsAt (λ p. passes test (at_place p entries)) place →
    without_first test (values_of entries) ≡ values_of (remove_entry (is_at (nat_cmp place)) entries)
first_cut test entries place sorted at = (first_by test entries place sorted at).1

-- where nothing passes at any place, nothing passes
pub none_by : {X : Type 0} (test : X → Bool) (entries : List (ℕ × X)) → IsStrictlySortedBy nat_cmp (keys_of entries) → ((p : ℕ) → passes test (at_place p entries) ≡ false) → list_any test (values_of entries) ≡ false
unfolding IsStrictlySortedBy
none_by test [] sorted none = refl
none_by test (e ∷ es) sorted none =
    rw (sym (ap (passes test) (at_this test e es e.0 (itself e.0))) ∙ none e.0)
    (none_by test es sorted.1
    (λ p. by_case (is_eq (nat_cmp p e.0)) (λ hit. ap (passes test) (nothing_before e.0 es sorted.0 p (reaches p e.0 hit)))
    (λ miss. sym (ap (passes test) (at_other test e es p miss)) ∙ none p)))

any_first : (a b : Bool) → a ≡ true → a || b ≡ true
any_first a b good = rw good refl

any_later : (a b : Bool) → b ≡ true → a || b ≡ true
any_later true b good = refl
any_later false b good = good

-- where something passes at some place, something passes
pub some_by : {X : Type 0} (test : X → Bool) (entries : List (ℕ × X)) (place : ℕ) → passes test (at_place place entries) ≡ true → list_any test (values_of entries) ≡ true
some_by test [] place good = absurd (true≢false (sym good))
some_by test (e ∷ es) place good =
    by_case (is_eq (nat_cmp place e.0))
    (λ hit. any_first (test e.1) _ (sym (ap (passes test) (at_this test e es place hit)) ∙ good))
    (λ miss. any_later (test e.1) _ (some_by test es place (sym (ap (passes test) (at_other test e es place miss)) ∙ good)))

none_passes : {A : Type 0} (test : A → Bool) (xs : List A) → list_any test xs ≡ false → (first_of test xs ≡ None) × (without_first test xs ≡ xs)
unfolding first_of without_first
none_passes test [] none = (refl, refl)
none_passes test (x ∷ xs) none =
    by_case (test x)
    (λ good. absurd (true≢false (sym (any_first (test x) (list_any test xs) good) ∙ none)))
    (λ bad. let later = none_passes test xs (sym (ap (λ b. b || list_any test xs) bad) ∙ none) in rw bad (later.0, ap (λ ys. x ∷ ys) later.1))

pub none_first : {X : Type 0} (test : X → Bool) (entries : List (ℕ × X)) → IsStrictlySortedBy nat_cmp (keys_of entries) → ((p : ℕ) → passes test (at_place p entries) ≡ false) → first_of test (values_of entries) ≡ None
none_first test entries sorted none = (none_passes test (values_of entries) (none_by test entries sorted none)).0

pub none_rest : {X : Type 0} (test : X → Bool) (entries : List (ℕ × X)) → IsStrictlySortedBy nat_cmp (keys_of entries) → ((p : ℕ) → passes test (at_place p entries) ≡ false) → without_first test (values_of entries) ≡ values_of entries
none_rest test entries sorted none = (none_passes test (values_of entries) (none_by test entries sorted none)).1

-- ---- what is put behind all others

after : (k next : ℕ) → k < next → nat_cmp next k ≡ Greater
after k next small = grind (arith, nat_tests, small)

different : (k next : ℕ) → k < next → is_eq (nat_cmp next k) ≡ false
different k next small = grind (arith, nat_tests, small)

pub free_behind : {X : Type 0} (next : ℕ) (entries : List (ℕ × X)) → AllByRecursion (λ k. k < next) (keys_of entries) → at_place next entries ≡ None
free_behind next [] all = refl
free_behind next (e ∷ es) all = rw (different e.0 next all.0) (free_behind next es all.1)

pub put_behind : {X : Type 0} (next : ℕ) (x : X) (entries : List (ℕ × X)) → AllByRecursion (λ k. k < next) (keys_of entries) → values_of (insert_entry nat_cmp entries next x) ≡ values_of entries ++ x ∷ []
put_behind next x [] all = refl
put_behind next x (e ∷ es) all = rw (after e.0 next all.0) (ap (λ ys. e.1 ∷ ys) (put_behind next x es all.1))

pub below_put : {X : Type 0} (next : ℕ) (x : X) (entries : List (ℕ × X)) → AllByRecursion (λ k. k < next) (keys_of entries) → AllByRecursion (λ k. k < next + 1) (keys_of (insert_entry nat_cmp entries next x))
below_put next x [] all = (omega arith, tt)
below_put next x (e ∷ es) all = rw (after e.0 next all.0) (omega (arith, all.0), below_put next x es all.1)

pub below_taken : {X : Type 0} (next : ℕ) (test : ℕ → Bool) (entries : List (ℕ × X)) → AllByRecursion (λ k. k < next) (keys_of entries) → AllByRecursion (λ k. k < next) (keys_of (remove_entry test entries))
below_taken next test [] all = tt
below_taken next test (e ∷ es) all = by_case (test e.0) (λ hit. rw hit all.1) (λ miss. rw miss (all.0, below_taken next test es all.1))

-- ---- how many are left

pub without_fewer : {A : Type 0} (test : A → Bool) (xs : List A) → length (without_first test xs) ≤ length xs
unfolding without_first
without_fewer test [] = omega arith
without_fewer test (x ∷ xs) = by_case (test x) (λ good. rw good (omega arith)) (λ bad. let fewer = without_fewer test xs in rw bad (omega (arith, fewer)))

pub without_one : {A : Type 0} (test : A → Bool) (xs : List A) (x : A) → first_of test xs ≡ Some x → length (without_first test xs) + 1 ≡ length xs
unfolding first_of without_first
without_one test [] x found = absurd (true≢false (sym (ap is_some found)))
without_one test (z ∷ xs) x found =
    by_case (test z)
    (λ good. rw good (omega arith))
    (λ bad. let one = without_one test xs x (subst (λ b. (if b then Some z else first_of test xs) ≡ Some x) bad found) in rw bad (omega (arith, one)))

pub one_less : {A : Type 0} (test : A → Bool) (xs : List A) (o : Option A) → o ≡ first_of test xs → IfSome o (λ x. length (without_first test xs) + 1 ≡ length xs)
one_less test xs None found = tt
one_less test xs (Some x) found = without_one test xs x (sym found)

-- ---- whether one passes, by the first place

pub any_by : {X : Type 0} (test : X → Bool) (entries : List (ℕ × X)) (o : Option ℕ) → IsStrictlySortedBy nat_cmp (keys_of entries) → IfSome o (λ place. IsAt (λ p. passes test (at_place p entries)) place) →
    IfNone o ((p : ℕ) → passes test (at_place p entries) ≡ false) → is_some o ≡ list_any test (values_of entries)
any_by test entries None sorted found none = sym (none_by test entries sorted none)
any_by test entries (Some place) sorted found none = sym (some_by test entries place found.passes)
