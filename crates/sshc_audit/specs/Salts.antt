-- Salts: what contracts see of their source, and why there is none.
-- Whole lists of salts; the code asks for one after another.
use Rattle.std.specs.Prelude.{◌≡◌, ℕ, ◌≤◌, ◌+◌, List, ◌++◌, length, Option, Result, IsErrOf, IfSome, option_map}
use Rattle.std.specs.List.{AllByRecursion}
use Rattle.base64.specs.GeneralPurpose.{IsBytes}
use Rattle.sshc_wire.specs.Faults.{Rose}
use Rattle.sshc_audit.specs.declared.error.AuditError.{AuditError}
use Rattle.sshc_audit.specs.declared.error.AuditError.TheVariants.{SaltFault}

-- the salts that were returned, those that remain, if contracts see them, and how often there was none
pub record SaltState : Type 0 where
  pub given : List (List ℕ)
  pub left : Option (List (List ℕ))
  pub faults : ℕ

-- as many bytes as a digest of SHA-1 has
abbrev pub IsSalt : List ℕ → Type 0
IsSalt salt = (length salt ≡ 20) × IsBytes salt

-- the salts, and then the remaining ones
abbrev pub before_left : List (List ℕ) → Option (List (List ℕ)) → Option (List (List ℕ))
before_left salts left = option_map (λ rest. salts ++ rest) left

-- these salts were returned in between
pub record Took (before after : SaltState) (salts : List (List ℕ)) : Type 0 where
  pub given : after.given ≡ before.given ++ salts
  pub left : before.left ≡ before_left salts after.left
  pub sized : AllByRecursion IsSalt salts

-- some salts were returned in between, at most `most`
pub record TookAtMost (before after : SaltState) (most : ℕ) : Type 0 where
  pub salts : List (List ℕ)
  pub took : Took before after salts
  pub few : length salts ≤ most

-- if contracts see the salts, there are fewer than these
abbrev pub Wants : SaltState → ℕ → Type 0
Wants before count = IfSome before.left (λ salts. (length salts + 1) ≤ count)

-- a count never falls; a fault is returned only if the count rose, and with any other result the count stays the same
pub record HasSaltCause {T : Type 0} (before now : ℕ) (result : Result T AuditError) : Type 0 where
  pub later : before ≤ now
  pub fault : IsErrOf result SaltFault → Rose before now
  pub same : (IsErrOf result SaltFault → ⊥) → now ≡ before
