-- Things in the order in which they came, each with the number of its ticket or of its channel.
use Rattle.std.specs.Prelude.{ℕ, Bool, false, nat_eq, if◌then◌else◌, List, [], ◌∷◌, Option, Some, None, is_some}

-- ---- those that pass a test

-- the first that passes, if there is one
unfoldable pub first_of : {A : Type 0} → (A → Bool) → List A → Option A
first_of test [] = None
first_of test (x ∷ xs) = if test x then Some x else first_of test xs

-- all but the first that passes
unfoldable pub without_first : {A : Type 0} → (A → Bool) → List A → List A
without_first test [] = []
without_first test (x ∷ xs) = if test x then xs else x ∷ without_first test xs

-- ---- those of a number

abbrev pub is_number : ℕ → Option ℕ → Bool
is_number number None = false
is_number number (Some named) = nat_eq named number

-- the test of those that a function gives this number
abbrev pub has_number : {A : Type 0} → (A → Option ℕ) → ℕ → A → Bool
has_number number_of number x = is_number number (number_of x)

-- the test of those that a function gives some number
abbrev pub has_some : {A : Type 0} → (A → Option ℕ) → A → Bool
has_some number_of x = is_some (number_of x)

-- the number that a function gives what is there
abbrev pub number_in : {A : Type 0} → (A → Option ℕ) → Option A → Option ℕ
number_in number_of None = None
number_in number_of (Some x) = number_of x
