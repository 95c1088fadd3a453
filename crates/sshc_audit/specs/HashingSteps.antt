-- The result of one step of hashing, with the salts that were returned in it.
use Rattle.std.specs.Prelude.{◌≡◌, ℕ, List, length, Some}
use Rattle.sshc_audit.specs.Joining.{Joined, with_text}
use Rattle.sshc_audit.specs.Salts.{SaltState, Took}

-- as many salts as needed were returned, and the text is the one made with them
pub record Made (before after : SaltState) (needed : ℕ) (make : List (List ℕ) → List ℕ) (text : List ℕ) : Type 0 where
  pub salts : List (List ℕ)
  pub took : Took before after salts
  pub count : length salts ≡ needed
  pub same : text ≡ make salts

-- and the text was added
pub record MadeNext (before after : SaltState) (needed : ℕ) (make : List (List ℕ) → List ℕ) (out out' : Joined) : Type 0 where
  pub salts : List (List ℕ)
  pub took : Took before after salts
  pub count : length salts ≡ needed
  pub added : out' ≡ with_text out (Some (make salts))
