-- The places of things, by their numbers.
use Rattle.std.specs.Prelude.{◌≡◌, ℕ, ◌≤◌, Bool, true, false, nat_eq, ◌&&◌, ◌||◌, not, List, Option, Some, None}
use Rattle.std.specs.Ordering.{nat_cmp, ordering_then}
use Rattle.std.specs.declared.cmp.Ordering.{Ordering}
use Rattle.std.specs.BTreeSet.{BTreeSet, contains}
use Rattle.std.specs.BTreeMap.{is_at}
use Rattle.std.specs.Map.{lookup}
use Rattle.sshc_handle_tickets.specs.Lines.{has_number, has_some, is_number}

-- by number, and of one number by place
abbrev pub place_cmp : ℕ × ℕ → ℕ × ℕ → Ordering
place_cmp x y = ordering_then (nat_cmp x.0 y.0) (nat_cmp x.1 y.1)

-- whether something of this number stands at this place
abbrev pub stands : BTreeSet (ℕ × ℕ) → ℕ → ℕ → Bool
stands places number place = contains place_cmp places (number, place)

-- the test passes at this place, and at none before it
pub record IsAt (test : ℕ → Bool) (place : ℕ) : Type 0 where
  pub passes : test place ≡ true
  pub least : (p : ℕ) → test p ≡ true → place ≤ p

-- whether something is at this place
abbrev pub is_there : BTreeSet ℕ → ℕ → Bool
is_there places place = contains nat_cmp places place

-- ---- a place that is noted, and one that is forgotten

-- whether these are the number and the place
abbrev pub is_this : Option ℕ → ℕ → ℕ → ℕ → Bool
is_this number place n p = is_number n number && nat_eq place p

-- the place is noted for the number, if there is one
abbrev pub Notes : Option ℕ → ℕ → BTreeSet (ℕ × ℕ) → BTreeSet (ℕ × ℕ) → Type 0
Notes number place old new = (n p : ℕ) → stands new n p ≡ is_this number place n p || stands old n p

-- nothing else changes
abbrev pub Keeps : Option ℕ → ℕ → BTreeSet (ℕ × ℕ) → BTreeSet (ℕ × ℕ) → Type 0
Keeps number place old new = (n p : ℕ) → is_this number place n p ≡ false → stands new n p ≡ stands old n p

abbrev pub Forgets : Option ℕ → ℕ → BTreeSet (ℕ × ℕ) → BTreeSet (ℕ × ℕ) → Type 0
Forgets number place old new = (n p : ℕ) → stands new n p ≡ not (is_this number place n p) && stands old n p

abbrev pub NotesHappened : Bool → ℕ → BTreeSet ℕ → BTreeSet ℕ → Type 0
NotesHappened happened place old new = (p : ℕ) → is_there new p ≡ happened && nat_eq place p || is_there old p

abbrev pub KeepsHappened : Bool → ℕ → BTreeSet ℕ → BTreeSet ℕ → Type 0
KeepsHappened happened place old new = (p : ℕ) → happened && nat_eq place p ≡ false → is_there new p ≡ is_there old p

abbrev pub ForgetsHappened : Bool → ℕ → BTreeSet ℕ → BTreeSet ℕ → Type 0
ForgetsHappened happened place old new = (p : ℕ) → is_there new p ≡ not (happened && nat_eq place p) && is_there old p

-- ---- things with their places

-- what is at this place, among things with their places
abbrev pub at_place : {X : Type 0} → ℕ → List (ℕ × X) → Option X
at_place place entries = lookup (is_at (nat_cmp place)) entries

-- whether there is one that passes
abbrev pub passes : {X : Type 0} → (X → Bool) → Option X → Bool
passes test None = false
passes test (Some x) = test x

-- the places of the numbers are those of the things that have them
pub record IsIndexed {X : Type 0} (ticket channel : X → Option ℕ) (entries : List (ℕ × X)) (of_tickets on_channels : BTreeSet (ℕ × ℕ)) (happened : BTreeSet ℕ) : Type 0 where
  pub tickets : (number place : ℕ) → stands of_tickets number place ≡ passes (has_number ticket number) (at_place place entries)
  pub channels : (number place : ℕ) → stands on_channels number place ≡ passes (has_number channel number) (at_place place entries)
  pub somewhere : (place : ℕ) → is_there happened place ≡ passes (has_some channel) (at_place place entries)
