-- Deadlines beside the keys: at each moment the blobs of the keys whose deadline it is, in no order. Said by counts.
use Rattle.std.specs.Prelude.{◌≡◌, ℕ, ◌≤◌, Bool, true, false, not, ◌&&◌, ◌==◌, nat_le, List, [], ◌∷◌, ◌++◌, filter, sum_by, bytes_eq, Option, Some, None, if◌then◌else◌}
use Rattle.sshc_agent_core.specs.declared.key_list.HeldKey.{HeldKey}
use Rattle.sshc_agent_core.specs.KeyList.{is_key}

-- the blobs at a moment, if there is a list
abbrev pub Lists : Type 0
Lists = ℕ → Option (List (List ℕ))

abbrev pub listed_at : Option (List (List ℕ)) → List (List ℕ)
listed_at None = []
listed_at (Some blobs) = blobs

abbrev pub one : Bool → ℕ
one true = 1
one false = 0

-- how often a blob stands in a list
abbrev pub times : List ℕ → List (List ℕ) → ℕ
times blob blobs = sum_by (λ b. one (bytes_eq b blob)) blobs

abbrev pub is_then : Option ℕ → ℕ → Bool
is_then None moment = false
is_then (Some deadline) moment = deadline == moment

-- the key has this blob and this deadline
abbrev pub is_due : List ℕ → ℕ → HeldKey → Bool
is_due blob moment key = is_then key.deadline moment && is_key blob key

-- how many keys have this blob and this deadline
abbrev pub due_in : List ℕ → ℕ → List HeldKey → ℕ
due_in blob moment keys = sum_by (λ k. one (is_due blob moment k)) keys

-- how many keys have this blob
abbrev pub named_in : List ℕ → List HeldKey → ℕ
named_in blob keys = sum_by (λ k. one (is_key blob k)) keys

-- no two keys have the same blob
abbrev pub AreApart : List HeldKey → Type 0
AreApart keys = (blob : List ℕ) → named_in blob keys ≤ 1

-- the blob of each held key with a deadline stands once, in the list of that deadline; nothing else stands in a list, and
-- no list is empty
pub record Agree (keys : List HeldKey) (at : ℕ → Option (List (List ℕ))) : Type 0 where
  pub counts : (moment : ℕ) (blob : List ℕ) → times blob (listed_at (at moment)) ≡ due_in blob moment keys
  pub full : (moment : ℕ) → at moment ≡ Some [] → ⊥

-- ---- what a call does to the lists

abbrev pub unless_empty : List (List ℕ) → Option (List (List ℕ))
unless_empty [] = None
unless_empty (b ∷ blobs) = Some (b ∷ blobs)

-- the list without this blob
abbrev pub others : List ℕ → List (List ℕ) → List (List ℕ)
others blob blobs = filter (λ b. not (bytes_eq b blob)) blobs

abbrev pub IsSame : Lists → Lists → Type 0
IsSame old new = (q : ℕ) → new q ≡ old q

-- the blob stands last in the list of the moment
abbrev pub IsAdded : ℕ → List ℕ → Lists → Lists → Type 0
IsAdded moment blob old new =
    (q : ℕ) → new q ≡ (if moment == q then Some (listed_at (old q) ++ blob ∷ []) else old q)

-- the blob stands no more in the list of the moment
abbrev pub IsDropped : ℕ → List ℕ → Lists → Lists → Type 0
IsDropped moment blob old new =
    (q : ℕ) → new q ≡ (if moment == q then unless_empty (others blob (listed_at (old q))) else old q)

-- the lists up to the moment are gone
abbrev pub IsCut : ℕ → Lists → Lists → Type 0
IsCut now old new = (q : ℕ) → new q ≡ (if nat_le q now then None else old q)

-- the blob of a key that is added, if it has a deadline
abbrev pub Adds : Option ℕ → List ℕ → Lists → Lists → Type 0
Adds None blob old new = IsSame old new
Adds (Some moment) blob old new = IsAdded moment blob old new

-- the blob of a key that goes, if it has a deadline
abbrev pub Drops : Option ℕ → List ℕ → Lists → Lists → Type 0
Drops None blob old new = IsSame old new
Drops (Some moment) blob old new = IsDropped moment blob old new

-- what is left at the deadline of a blob that goes, if it has one
abbrev pub Leaves : Option ℕ → List ℕ → Lists → Option (List (List ℕ)) → Type 0
Leaves None blob old rest = Unit {0}
Leaves (Some moment) blob old rest = rest ≡ unless_empty (others blob (listed_at (old moment)))

-- what is left, where there was a list
abbrev pub if_there : Option (List (List ℕ)) → Option (List (List ℕ)) → Option (List (List ℕ))
if_there None old = None
if_there (Some blobs) None = None
if_there (Some blobs) (Some old) = Some blobs

-- what is left is in the place of the list at the moment; the others are the same
pub record IsReplaced (moment : ℕ) (rest : Option (List (List ℕ))) (old new : Lists) : Type 0 where
  pub list : new moment ≡ if_there rest (old moment)
  pub others : (q : ℕ) → (moment ≡ q → ⊥) → new q ≡ old q

abbrev pub IsReplacedAt : Option ℕ → Option (List (List ℕ)) → Lists → Lists → Type 0
IsReplacedAt None rest old new = IsSame old new
IsReplacedAt (Some moment) rest old new = IsReplaced moment rest old new

-- the lists with the blob last in that of its deadline, if it has one
abbrev pub added : Option ℕ → List ℕ → Lists → ℕ → Option (List (List ℕ))
added deadline blob old q = if is_then deadline q then Some (listed_at (old q) ++ blob ∷ []) else old q

-- the blob goes from the list of one deadline to that of another
abbrev pub IsMoved : Option ℕ → Option ℕ → List ℕ → Lists → Lists → Type 0
IsMoved before deadline blob old new = Drops before blob (added deadline blob old) new
