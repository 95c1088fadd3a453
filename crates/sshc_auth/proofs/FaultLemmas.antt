-- `SignerFault`: a call that follows its row is refused with it only where the signer refused and its count of refusals
-- rose.
use Rattle.std.proofs.Common.{◌≤◌, inl, inr, ℕ, Some, None, Err, refl, arith}
use Rattle.sshc_wire.specs.Faults.{Rose}
use Rattle.sshc_auth.specs.declared.error.Error.TheVariants as errors
use Rattle.sshc_auth.specs.CauseLaws.{FaultsOnRefusal, open_faults}
use Rattle.sshc_auth.specs.Causes.{CountRose}
use Rattle.sshc_auth.proofs.Rows.{gains}
use Rattle.sshc_auth.specs.RowNames.{Asking, asks, done, Error, Event, ExchangeResult, FollowsAsking, IsCause, open_row, OpeningState, Row, SignerAt, Span, Told}

rose_on : (before mid now : ℕ) → Rose before mid → mid ≤ now → Rose before now
rose_on before mid now rose later = omega (arith, rose, later)

rose_from : (before mid now : ℕ) → before ≤ mid → Rose mid now → Rose before now
rose_from before mid now later rose = omega (arith, rose, later)

rose_by : (asking : Asking Row) (was is : SignerAt) (at : Span) → FaultsOnRefusal asking → FollowsAsking asking was is at (Err errors.SignerFault) → Rose was.refusals is.refusals
rose_by (done row) was is at never (same, (left, inl memory)) = absurd cc
rose_by (done row) was is at never (same, (left, inr (adds, next))) = absurd (rw next at never)
rose_by (asks asked on) was is at never (inl (calls, later, memory, left, adds)) = absurd cc
rose_by (asks asked on) was is at never (inr (None, mid, keeps, rest)) =
    rose_on was.refusals mid.refusals is.refusals (keeps.rose refl) (gains (on None) mid is at (Err errors.SignerFault) rest).later
rose_by (asks asked on) was is at never (inr (Some signature, mid, keeps, rest)) =
    rose_from was.refusals mid.refusals is.refusals keeps.later (rose_by (on (Some signature)) mid is at (never signature) rest)

-- a call that follows its row is refused with the signer's fault only where the signer's count rose
pub fault_rose : (SaysNo : ExchangeResult → Type 0) (s : OpeningState) (event : Event) (told : Told) (was is : SignerAt) (at : Span) (e : Error) → IsCause SaysNo s event e →
    FollowsAsking (open_row s event told) was is at (Err e) → CountRose was.refusals is.refusals e
fault_rose SaysNo s event told was is at errors.SignerFault cause follows = rose_by (open_row s event told) was is at (open_faults s event told) follows
fault_rose SaysNo s event told was is at e cause follows = tt
