-- The tests of a packet before its phase's row (RFC 4253, sections 7 and 11).
use Rattle.std.specs.Prelude.{ℕ, ◌+◌, ◌-◌, ◌*◌, ◌^◌, min, nat_le, nat_lt, Bool, ◌||◌, List, [], Option, Some, None, ◌==◌}
use Rattle.sshc_wire.specs.Reasons.{disconnect_of}
use Rattle.sshc_wire.specs.declared.disconnect.Disconnect.{Disconnect}
use Rattle.sshc_wire.specs.MessageNumbers.{IGNORE, UNIMPLEMENTED, DEBUG}
use Rattle.sshc_auth.specs.declared.ended.Ended.TheVariants.{RemoteDisconnect}
use Rattle.sshc_auth.specs.declared.error.Error.TheVariants.{InvalidDisconnect}
use Rattle.sshc_auth.specs.OpeningState.{OpeningState}
use Rattle.sshc_auth.specs.Row.{Row, ends, refused, reads_number, reads_text}

-- 1, DISCONNECT (RFC 4253, section 11.1): a reason from 1 to 15, a text and its language; the bytes after them are
-- ignored
abbrev pub disconnect_reason_row : Option Disconnect → List ℕ → Row
disconnect_reason_row None rest = refused InvalidDisconnect
disconnect_reason_row (Some reason) rest =
    reads_text rest (λ message after.
    reads_text after (λ language left.
    record { records = []; next = ends (RemoteDisconnect (record { reason_code = reason; message = message; lang_tag = language })) }))

unfoldable pub disconnect_row : List ℕ → Row
disconnect_row body = reads_number body (λ code rest. disconnect_reason_row (disconnect_of code) rest)

-- 2, IGNORE; 3, UNIMPLEMENTED; 4, DEBUG (RFC 4253, section 11)
abbrev pub is_ignored : ℕ → Bool
is_ignored number = (number == IGNORE) || (number == UNIMPLEMENTED) || (number == DEBUG)

-- packets from 50 on wait for an exchange that runs (RFC 4253, section 7.1)
abbrev pub waits_for_exchange : ℕ → Bool
waits_for_exchange number = nat_le 50 number

-- the bytes that were counted, with those of one packet more
abbrev pub counted_with : OpeningState → ℕ → ℕ
counted_with s len = min (s.counted + len) (2 ^ 64 - 1)

-- more than twice our window came while an exchange of ours runs
abbrev pub is_too_much : OpeningState → ℕ → Bool
is_too_much s len = nat_lt (2 * s.settings.window_size) (counted_with s len)
