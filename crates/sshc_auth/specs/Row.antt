-- What one row of the opening table returns, and what a call that follows it does.
-- A row is plain data: records, and what becomes of the opening. Where the signer is asked, the row depends on its
-- answer.
use Rattle.std.specs.Prelude.{◌≡◌, ◌⊎◌, ◌≤◌, ℕ, Bool, None, List, [], ◌∷◌, ◌++◌, if◌then◌else◌, ◌==◌, Result, Ok, Err}
use Rattle.std.specs.Int.{w32}
use Rattle.sshc_wire.specs.Faults.{Rose}
use Rattle.sshc_wire.specs.declared.error.WireError.{WireError}
use Rattle.sshc_wire.specs.declared.record.Record.{Record}
use Rattle.sshc_wire.specs.declared.record.Record.TheVariants.{Resolved}
use Rattle.sshc_wire.specs.declared.resolution.Resolution.{Resolution}
use Rattle.sshc_wire.specs.declared.ticket.Ticket.{Ticket}
use Rattle.sshc_wire.specs.Outgoing.{Outgoing, shown}
use Rattle.sshc_wire.specs.Names.{names_at}
use Rattle.sshc_wire.specs.Reads.{boolean_at, number_at, string_at, text_at}
use Rattle.sshc_key.specs.Signers.{SignCall}
use Rattle.sshc_key.specs.Asking.{Answer, Asking, SignRequest, asks, done, call_of, Makes, MakesFirst}
use Rattle.sshc_auth.specs.declared.error.Error.{Error}
use Rattle.sshc_auth.specs.declared.error.Error.TheVariants as errors
use Rattle.sshc_auth.specs.declared.ended.Ended.{Ended}
use Rattle.sshc_auth.specs.declared.step.Flow.{Flow}
use Rattle.sshc_auth.specs.declared.step.Flow.TheVariants as flows
use Rattle.sshc_auth.specs.declared.step.Step.{Step}
use Rattle.sshc_auth.specs.declared.step.Step.TheVariants as steps
use Rattle.sshc_auth.specs.OpeningState.{OpeningState, shut}

-- what becomes of the opening
pub data Next : Type 0 where
  stays : OpeningState → Next
  opens : OpeningState → Next
  ends : Ended → Next
  refuses : Error → Next

pub record Row : Type 0 where
  pub records : List Record
  pub next : Next

-- ---- the table's own vocabulary

-- records are added, and the opening goes on from a state
abbrev pub goes : List Record → OpeningState → Row
goes records s = record { records = records; next = stays s }

-- nothing is added and nothing changes
abbrev pub passed_over : OpeningState → Row
passed_over s = goes [] s

abbrev pub refused : Error → Row
refused e = record { records = []; next = refuses e }

-- the record that resolves a ticket; no record for ticket 0
abbrev pub resolved : Ticket → Resolution → List Record
resolved ticket resolution = if ticket.0 == 0 then [] else Resolved ticket resolution ∷ []

-- continues with the part at the front and the bytes after it; where the part is short or isn't text, it is `broken`
abbrev pub with_part : {A B : Type 0} → B → Result (A × List ℕ) WireError → (A → List ℕ → B) → B
with_part broken (Ok x) on = on x.0 x.1
with_part broken (Err e) on = broken

abbrev pub broken_row : Row
broken_row = refused errors.SshEncoding

abbrev pub reads_string : List ℕ → (List ℕ → List ℕ → Row) → Row
reads_string body row = with_part broken_row (string_at body) row

abbrev pub reads_text : List ℕ → (List ℕ → List ℕ → Row) → Row
reads_text body row = with_part broken_row (text_at body) row

abbrev pub reads_names : List ℕ → (List (List ℕ) → List ℕ → Row) → Row
reads_names body row = with_part broken_row (names_at body) row

abbrev pub reads_number : List ℕ → (ℕ → List ℕ → Row) → Row
reads_number body row = with_part broken_row (number_at w32 body) row

abbrev pub reads_boolean : List ℕ → (Bool → List ℕ → Row) → Row
reads_boolean body row = with_part broken_row (boolean_at body) row

-- no bytes remain
abbrev pub ends_at : List ℕ → Row → Row
ends_at [] row = row
ends_at (b ∷ rest) row = broken_row

-- ---- what a call does

-- the opening and the outbox before and after a call
pub record Span : Type 0 where
  pub before : OpeningState
  pub after : OpeningState
  pub old : Outgoing
  pub new : Outgoing

abbrev pub span : OpeningState → OpeningState → Outgoing → Outgoing → Span
span before after old new = record { before = before; after = after; old = old; new = new }

-- the records were added after those that were there, except packets that a muted outbox drops
abbrev pub Adds : List Record → Span → Type 0
Adds records s = (s.new.records ≡ s.old.records ++ shown s.old.muted records) × (s.new.muted ≡ s.old.muted)

-- a call followed a row. An end or a refusal leaves the opening unchanged; out of memory adds no records.
abbrev pub Follows : Row → Span → Result Flow Error → Type 0
Follows row s (Ok flows.Went) = Adds row.records s × (row.next ≡ stays s.after)
Follows row s (Ok flows.Opened) = Adds row.records s × (row.next ≡ opens s.after)
Follows row s (Ok (flows.Ended e)) = Adds row.records s × (row.next ≡ ends e) × (s.after ≡ s.before)
Follows row s (Err e) =
    (s.after ≡ s.before) × (((e ≡ errors.NoMemory) × Adds [] s) ⊎ (Adds row.records s × (row.next ≡ refuses e)))

-- what is known of a signer at one moment: its calls, and how often it refused
pub record SignerAt : Type 0 where
  pub calls : List SignCall
  pub refusals : ℕ

abbrev pub signer_at : List SignCall → ℕ → SignerAt
signer_at calls refusals = record { calls = calls; refusals = refusals }

-- the signer's list gained one call, with its answer; its count never falls, and rose if it refused
pub record KeepsAnswer (asked : SignRequest) (answer : Answer) (was is : SignerAt) : Type 0 where
  pub call : is.calls ≡ was.calls ++ call_of asked answer ∷ []
  pub later : was.refusals ≤ is.refusals
  pub rose : answer ≡ None → Rose was.refusals is.refusals

-- memory ran out, and no records were added
abbrev pub RanOut : SignerAt → SignerAt → Span → Result Flow Error → Type 0
RanOut was is s result = (is.calls ≡ was.calls) × (was.refusals ≤ is.refusals) × (result ≡ Err errors.NoMemory) × (s.after ≡ s.before) × Adds [] s

-- the same of a row that may ask the signer: each question in turn, and then the row of the answers. Memory may run out
-- before each of the calls.
abbrev pub FollowsAsking : Asking Row → SignerAt → SignerAt → Span → Result Flow Error → Type 0
FollowsAsking (done row) was is s result = (is ≡ was) × Follows row s result
FollowsAsking (asks asked on) was is s result =
    RanOut was is s result
    ⊎ ((answer : Answer) × (mid : SignerAt) × KeepsAnswer asked answer was mid × FollowsAsking (on answer) mid is s result)

-- the signer was asked what the row's questions ask, and this row followed, whose records were added
abbrev pub Did : Asking Row → Row → List SignCall → Span → Type 0
Did asking row gained s = Makes asking gained row × Adds row.records s

-- a step followed the row. Unless it returns `Went`, each later step returns `Closed`.
abbrev pub Steps : Asking Row → List SignCall → Span → Step Error → Type 0
Steps asking gained s steps.Went = (row : Row) × Did asking row gained s × (row.next ≡ stays s.after)
Steps asking gained s steps.Opened = (row : Row) × (to : OpeningState) × Did asking row gained s × (row.next ≡ opens to) × (s.after ≡ shut to)
Steps asking gained s (steps.Ended e) = (row : Row) × Did asking row gained s × (row.next ≡ ends e) × (s.after ≡ shut s.before)
Steps asking gained s (steps.Refused e) =
    (s.after ≡ shut s.before)
    × (((e ≡ errors.NoMemory) × Adds [] s × MakesFirst asking gained) ⊎ ((row : Row) × Did asking row gained s × (row.next ≡ refuses e)))
Steps asking gained s steps.Closed = ⊥
