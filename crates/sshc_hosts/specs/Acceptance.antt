-- What an accepted key means for the matching lines: each can be read, no line revokes the key or contradicts it, and
-- one records it.
use Rattle.std.proofs.Common.{◌≡◌, ℕ, true, false, List, None, Ok}
use Rattle.std.specs.Prelude.{is_some}
use Rattle.sshc_key.specs.KeyGrammar.{Key}
use Rattle.sshc_hosts.specs.MatchingLines.{matching}
use Rattle.sshc_hosts.specs.Judgement.{KeysByMark, contradicts, first_line, has_key, is_certificate, read_lines}

-- the key is no certificate, the matching lines have these keys, no line revokes the key or contradicts it, and one
-- records it
pub record IsAcceptedBy (text host : List ℕ) (key : Key) : Type 0 where
  pub no_certificate : is_certificate key ≡ false
  pub keys : KeysByMark
  pub all_read : read_lines (matching text host) ≡ Ok keys
  pub none_revokes : first_line (has_key key) keys.revoked ≡ None
  pub none_contradicts : first_line (contradicts key) keys.recorded ≡ None
  pub one_records : is_some (first_line (has_key key) keys.recorded) ≡ true
