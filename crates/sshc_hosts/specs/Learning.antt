-- The known hosts text after a key was learned, and which hosts can be learned.
-- The whole line comes after the old text; the code appends its parts.
use Rattle.std.specs.Prelude.{◌≡◌, ◌≢◌, ℕ, ◌-◌, ◌<◌, ◌≤◌, Bool, true, false, Result, Ok, Err, List, [], ◌∷◌, ◌++◌, length, slice_index, ◌==◌, if◌then◌else◌, All}
use Rattle.sshc_key.specs.KeyGrammar.{Key, key_text, Fits}
use Rattle.sshc_key.specs.Algorithms.{openssh_text}
use Rattle.sshc_key.specs.Nesting.{markers}
use Rattle.sshc_key.specs.declared.error.Error.{Error}
use Rattle.sshc_hosts.specs.Judgement.{is_certificate, judged}
use Rattle.sshc_hosts.specs.MatchingLines.{is_hashed, is_comment, revoked_mark}

-- the last byte is a line feed
abbrev pub ends_line : List ℕ → Bool
ends_line text = slice_index text (length text - 1) == 10

-- a line feed, unless the old text ends with one; also after an empty text
abbrev pub line_feed_after : List ℕ → List ℕ
line_feed_after old = if ends_line old then [] else 10 ∷ []

-- what is added for a line
abbrev pub added_line : List ℕ → List ℕ → List ℕ
added_line old line = line_feed_after old ++ line ++ 10 ∷ []

-- the text doesn't contain the byte
abbrev pub Lacks : List ℕ → ℕ → Type 0
Lacks text byte = All (λ b. (b == byte) ≡ false) text

-- a host that can be learned: not empty, without space, comma and line feed, read neither as a comment nor as a hash,
-- and with a host text that isn't read as a mark
pub record IsLearnable (host text : List ℕ) : Type 0 where
  pub some : 0 < length host
  pub no_space : Lacks host 32
  pub no_comma : Lacks host 44
  pub no_line_feed : Lacks host 10
  pub no_comment : is_comment host ≡ false
  pub not_hashed : is_hashed host ≡ false
  pub no_mark : text ≢ revoked_mark

-- the text that is added to learn a key for a host text
unfoldable pub learned : List ℕ → List ℕ → Key × List ℕ → List ℕ
learned old host key = added_line old (host ++ 32 ∷ openssh_text key.0 key.1)

-- a key that can be learned: no certificate, in the grammar with few enough markers, and no line feed in its comment
pub record IsLearnableKey (key : Key × List ℕ) : Type 0 where
  pub no_certificate : is_certificate key.0 ≡ false
  pub fits : Fits key.0
  pub nesting : markers (key_text key.0) ≤ 8
  pub one_line : Lacks key.1 10

-- the verdict after the key was learned: it is accepted, unless an old line refuses it
abbrev pub once_learned : Result Bool Error → Result Bool Error
once_learned (Ok accepted) = Ok true
once_learned (Err e) = Err e

-- the judgement before a text is added for a host and a key, and after it: no other host's judgement changes
pub record Learns (old added host : List ℕ) (key : Key) : Type 0 where
  pub accepted : judged (old ++ added) host key ≡ once_learned (judged old host key)
  pub others : (other : List ℕ) (k : Key) → other ≢ host → judged (old ++ added) other k ≡ judged old other k
