-- Whatever the table asks the signer, it asks as the session.
use Rattle.std.proofs.Common.{◌≡◌}
use Rattle.sshc_key.specs.declared.signer.Asker.TheVariants.{Session}
use Rattle.sshc_auth.specs.KeepLaws.{KeepsAsked, KeepsAsking, open_keeps}
use Rattle.sshc_auth.specs.RowNames.{Answer, Asking, asks, done, Event, Kept, kept_of, open_row, OpeningState, Row, Told}

-- whoever asks is the session
abbrev pub AsksAsSession : {A : Type 0} → Asking A → Type 0
AsksAsSession (done x) = Unit {0}
AsksAsSession (asks asked on) = (asked.by ≡ Session) × ((answer : Answer) → AsksAsSession (on answer))

-- a row asks once at most, and says as whom
asked_so : (k : Kept) (event : Event) (row : Asking Row) → KeepsAsked k event row → AsksAsSession row
asked_so k event (done row) keeps = tt
asked_so k event (asks asked on) never = absurd never

asks_so : (k : Kept) (event : Event) (row : Asking Row) → KeepsAsking k event row → AsksAsSession row
asks_so k event (done row) keeps = tt
asks_so k event (asks asked on) (by, signs, each) = (by, λ answer. asked_so k event (on answer) (each answer))

-- the table asks as the session alone
pub asks_as_session : (s : OpeningState) (event : Event) (told : Told) → AsksAsSession (open_row s event told)
asks_as_session s event told = asks_so (kept_of s) event (open_row s event told) (open_keeps s event told)
