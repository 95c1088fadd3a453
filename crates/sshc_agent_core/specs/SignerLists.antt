-- Signatures of at most 65536 bytes in a signer's list of calls.
use Rattle.std.specs.Prelude.{ℕ, ◌≤◌, List, [], ◌∷◌, length, Some, None}
use Rattle.sshc_key.specs.Asking.{Answer}
use Rattle.sshc_key.specs.Signers.{SignCall}

abbrev pub IsShortAnswer : Answer → Type 0
IsShortAnswer None = Unit {0}
IsShortAnswer (Some signature) = length signature ≤ 65536

abbrev pub AreShort : List SignCall → Type 0
AreShort [] = Unit {0}
AreShort (call ∷ calls) = IsShortAnswer call.answer × AreShort calls
