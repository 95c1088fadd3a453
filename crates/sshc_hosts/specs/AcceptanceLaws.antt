-- Laws of the definitions in specs/Acceptance.antt.
use Rattle.std.proofs.Common.{◌≡◌, ◌↔◌, ℕ, Bool, true, false, List, Option, Some, None, Result, Ok, Err, refl, sym, ◌∙◌}
use Rattle.std.specs.Prelude.{if◌then◌else◌, is_some}
use Rattle.sshc_wire.specs.Reads.{◌>>=◌}
use Rattle.sshc_key.specs.KeyGrammar.{Key}
use Rattle.sshc_key.specs.declared.error.Error.{Error}
use Rattle.sshc_hosts.specs.MatchingLines.{matching}
use Rattle.sshc_hosts.specs.Judgement.{KeysByMark, contradicts, first_line, has_key, verdict, judged_among, is_certificate, read_lines, marked_keys, judged}
use Rattle.sshc_hosts.specs.Acceptance.{IsAcceptedBy}

-- ---- the law

abbrev accepted : Result Bool Error
accepted = Ok true

by_verdict : (revoking contrary recording : Option ℕ) → verdict revoking contrary recording ≡ accepted
    → (revoking ≡ None) × (contrary ≡ None) × (is_some recording ≡ true)
by_verdict (Some line) contrary recording e = absurd cc
by_verdict None (Some line) recording e = absurd cc
by_verdict None None recording e = (refl, refl, cc)

by_lines : (text host : List ℕ) (key : Key) (keys : Result KeysByMark Error) → read_lines (matching text host) ≡ keys → is_certificate key ≡ false
    → (keys >>= judged_among key) ≡ accepted → IsAcceptedBy text host key
by_lines text host key (Err d) is plain e = absurd cc
by_lines text host key (Ok keys) is plain e =
    let (revokes, contrary, records) =
    by_verdict (first_line (has_key key) keys.revoked) (first_line (contradicts key) keys.recorded) (first_line (has_key key) keys.recorded) e in
    record { no_certificate = plain; keys = keys; all_read = is; none_revokes = revokes; none_contradicts = contrary; one_records = records }

by_kind : (text host : List ℕ) (key : Key) (b : Bool) → is_certificate key ≡ b → (if b then Ok false else (read_lines (matching text host) >>= judged_among key)) ≡ accepted → IsAcceptedBy text host key
by_kind text host key true is e = absurd cc
by_kind text host key false is e = by_lines text host key (read_lines (matching text host)) refl is e

-- a key is accepted exactly then
pub accepted_just : (text host : List ℕ) (key : Key) → (judged text host key ≡ Ok true) ↔ IsAcceptedBy text host key
unfolding judged marked_keys
accepted_just text host key = (
  (λ e. by_kind text host key (is_certificate key) refl e),
  (λ h. rw (h.no_certificate, h.all_read, h.none_revokes, h.none_contradicts, h.one_records) refl),
)

-- a verdict on the keys of the matching lines
pub accepted_among : (text host : List ℕ) (key : Key) (keys : KeysByMark) (r : Result Bool Error) → is_certificate key ≡ false → marked_keys text host ≡ Ok keys → r ≡ judged_among key keys
    → r ≡ Ok true → IsAcceptedBy text host key
unfolding judged
accepted_among text host key keys r plain found is so = (accepted_just text host key).0 (rw (plain, found) (sym is ∙ so))
