-- A login that asks its caller again and again: rounds that go on, and a last one that has the result. A round is a
-- relation between what stands before it and behind it.
use Rattle.std.specs.Prelude.{◌≡◌, ℕ, zero, suc, Option, Some, None, Result, Ok, Err}
use Rattle.sshc_wire.specs.declared.record.Record.{Record}
use Rattle.sshc_auth.specs.declared.error.Error.{Error}
use Rattle.sshc_handle_calls.specs.declared.with_error.WithError.{WithError}
use Rattle.sshc_handle_calls.specs.declared.with_error.WithError.TheVariants.{Session}

-- so many rounds, one after the other
unfoldable pub Rounds : {W : Type 0} → (W → W → Type 0) → ℕ → W → W → Type 0
Rounds {W} goes zero was is = is ≡ was
Rounds {W} goes (suc n) was is = (mid : W) × Rounds goes n was mid × goes mid is

-- a round that ends with a result
abbrev pub ended : {A E : Type 0} → Result A E → Result (Option A) E
ended (Ok a) = Ok (Some a)
ended (Err e) = Err e

-- rounds without a result, and then one with it
pub record Until {W A E : Type 0} (round : W → W → Result (Option A) E → Type 0) (was is : W) (result : Result A E) : Type 0 where
  pub rounds : ℕ
  pub mid : W
  pub before : Rounds (λ a b. round a b (Ok None)) rounds was mid
  pub last : round mid is (ended result)

-- what a reader has of a record: the result, or the login goes on
abbrev pub read_by : {A E : Type 0} → Option (Result A Error) → Result (Option A) (WithError E)
read_by None = Ok None
read_by (Some (Ok a)) = Ok (Some a)
read_by (Some (Err e)) = Err (Session e)

-- the login goes on, or the error ends it
abbrev pub going_on : {A E : Type 0} → Result (Unit {0}) (WithError E) → Result (Option A) (WithError E)
going_on (Ok u) = Ok None
going_on (Err e) = Err e

abbrev pub of_session : {E : Type 0} → Result (Unit {0}) Error → Result (Unit {0}) (WithError E)
of_session (Ok u) = Ok tt
of_session (Err e) = Err (Session e)

-- what was found in a record, or else the record
abbrev pub or_record : {A : Type 0} → Option A → Record → Result A Record
or_record (Some a) output = Ok a
or_record None output = Err output
