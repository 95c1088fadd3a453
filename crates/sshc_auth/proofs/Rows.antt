-- A call that follows its row is a step.
use Rattle.std.proofs.Common.{◌≡◌, ◌≤◌, ◌⊎◌, inl, inr, ℕ, List, [], ◌∷◌, ◌++◌, length, drop, Result, Ok, Err, ◌∙◌, refl, ap, sym, append-nil, append_assoc, arith}
use Rattle.std.proofs.Math.Seq.{drop-append_seam}
use Rattle.sshc_wire.specs.Outgoing.{Outgoing}
use Rattle.sshc_key.specs.Signers.{SignCall, since}
use Rattle.sshc_key.specs.Asking.{Answer, Asking, SignRequest, done, asks, call_of, Makes, MakesFirst}
use Rattle.sshc_key.specs.AskingLaws.{all_first}
use Rattle.sshc_auth.specs.declared.ended.Ended.{Ended}
use Rattle.sshc_auth.specs.declared.error.Error.{Error}
use Rattle.sshc_auth.specs.declared.error.Error.TheVariants as errors
use Rattle.sshc_auth.specs.declared.step.Flow.{Flow}
use Rattle.sshc_auth.specs.declared.step.Flow.TheVariants as flows
use Rattle.sshc_auth.specs.declared.step.Step.TheVariants as steps
use Rattle.sshc_auth.specs.OpeningState.{OpeningState, shut}
use Rattle.sshc_auth.specs.Row.{Row, Span, SignerAt, signer_at, span, Adds, Follows, FollowsAsking, Steps}
use Rattle.sshc_auth.specs.Stepping.{SignerGrows}

-- ---- by the calls that were gained

-- the calls lead to a row that was followed, or they are the first calls, after which memory ran out
abbrev Gained : Asking Row → List SignCall → Span → Result Flow Error → Type 0
Gained asking gained s result =
    ((row : Row) × Makes asking gained row × Follows row s result)
    ⊎ ((result ≡ Err errors.NoMemory) × (s.after ≡ s.before) × Adds [] s × MakesFirst asking gained)

-- what a signer's list gained, and its count
pub record Gains (asking : Asking Row) (was is : SignerAt) (s : Span) (result : Result Flow Error) : Type 0 where
  pub gained : List SignCall
  pub calls : is.calls ≡ was.calls ++ gained
  pub later : was.refusals ≤ is.refusals
  pub follows : Gained asking gained s result

one_more : (call : SignCall) (asked : SignRequest) (on : Answer → Asking Row) (gained : List SignCall) (s : Span) (result : Result Flow Error) → call ≡ call_of asked call.answer → Gained (on call.answer) gained s result → Gained (asks asked on) (call ∷ gained) s result
one_more call asked on gained s result is (inl (row, makes, follows)) = inl (row, (is, makes), follows)
one_more call asked on gained s result is (inr (memory, same, adds, first)) = inr (memory, same, adds, (is, first))

pub gains : (asking : Asking Row) (was is : SignerAt) (s : Span) (result : Result Flow Error) → FollowsAsking asking was is s result → Gains asking was is s result
gains (done row) was is s result (same, follows) = record {
  gained = [];
  calls = ap (λ (at : SignerAt). at.calls) same ∙ sym (append-nil was.calls);
  later = rw same (omega arith);
  follows = inl (row, refl, follows);
}
gains (asks asked on) was is s result (inl (calls, later, memory, same, adds)) = record {
  gained = [];
  calls = calls ∙ sym (append-nil was.calls);
  later = later;
  follows = inr (memory, same, adds, tt);
}
gains (asks asked on) was is s result (inr (answer, mid, keeps, rest)) =
    let more = gains (on answer) mid is s result rest in
    record {
      gained = call_of asked answer ∷ more.gained;
      calls = more.calls ∙ ap (λ (before : List SignCall). before ++ more.gained) keeps.call ∙ append_assoc was.calls (call_of asked answer ∷ []) more.gained;
      later = omega (arith, keeps.later, more.later);
      follows = one_more (call_of asked answer) asked on more.gained s result refl more.follows;
    }

since_gained : (was is gained : List SignCall) → is ≡ was ++ gained → since was is ≡ gained
since_gained was is gained same = ap (drop (length was)) same ∙ drop-append_seam was gained

gained_since : (asking : Asking Row) (was is : SignerAt) (s : Span) (result : Result Flow Error) → FollowsAsking asking was is s result → Gained asking (since was.calls is.calls) s result
gained_since asking was is s result follows =
    let more = gains asking was is s result follows in
    rw (since_gained was.calls is.calls more.gained more.calls) more.follows

pub signer_grows : (asking : Asking Row) (calls calls' : List SignCall) (refusals refusals' : ℕ) (s : Span) (result : Result Flow Error) → FollowsAsking asking (signer_at calls refusals) (signer_at calls' refusals') s result → SignerGrows calls calls' refusals refusals'
signer_grows asking calls calls' refusals refusals' s result follows =
    let more = gains asking (signer_at calls refusals) (signer_at calls' refusals') s result follows in
    record { gained = rw (since_gained calls calls' more.gained more.calls) more.calls; later = more.later }

-- ---- a call that follows a row, whatever the row asks of the signer, is a step

went_by : (asking : Asking Row) (gained : List SignCall) (s : Span) → Gained asking gained s (Ok flows.Went) → Steps asking gained s steps.Went
went_by asking gained s (inl (row, makes, (adds, next))) = (row, (makes, adds), next)
went_by asking gained s (inr (memory, same, adds, first)) = absurd cc

opened_by : (asking : Asking Row) (gained : List SignCall) (before after : OpeningState) (old new : Outgoing) →
    Gained asking gained (span before after old new) (Ok flows.Opened) → Steps asking gained (span before (shut after) old new) steps.Opened
opened_by asking gained before after old new (inl (row, makes, (adds, next))) = (row, after, (makes, adds), next, refl)
opened_by asking gained before after old new (inr (memory, same, adds, first)) = absurd cc

ended_by : (asking : Asking Row) (gained : List SignCall) (before after : OpeningState) (old new : Outgoing) (e : Ended) →
    Gained asking gained (span before after old new) (Ok (flows.Ended e)) → Steps asking gained (span before (shut after) old new) (steps.Ended e)
ended_by asking gained before after old new e (inl (row, makes, (adds, next, same))) = (row, (makes, adds), next, ap shut same)
ended_by asking gained before after old new e (inr (memory, same, adds, first)) = absurd cc

refused_by : (asking : Asking Row) (gained : List SignCall) (before after : OpeningState) (old new : Outgoing) (e : Error) →
    Gained asking gained (span before after old new) (Err e) → Steps asking gained (span before (shut after) old new) (steps.Refused e)
refused_by asking gained before after old new e (inl (row, makes, (same, inl memory))) = (ap shut same, inl (memory.0, memory.1, all_first asking gained row makes))
refused_by asking gained before after old new e (inl (row, makes, (same, inr (adds, next)))) = (ap shut same, inr (row, (makes, adds), next))
refused_by asking gained before after old new e (inr (memory, same, adds, first)) = let is : e ≡ errors.NoMemory = cc in (ap shut same, inl (is, adds, first))

pub step_went : (asking : Asking Row) (was is : SignerAt) (s : Span) → FollowsAsking asking was is s (Ok flows.Went) → Steps asking (since was.calls is.calls) s steps.Went
step_went asking was is s follows = went_by asking (since was.calls is.calls) s (gained_since asking was is s (Ok flows.Went) follows)

pub step_opened : (asking : Asking Row) (was is : SignerAt) (before after : OpeningState) (old new : Outgoing) →
    FollowsAsking asking was is (span before after old new) (Ok flows.Opened) → Steps asking (since was.calls is.calls) (span before (shut after) old new) steps.Opened
step_opened asking was is before after old new follows = opened_by asking (since was.calls is.calls) before after old new (gained_since asking was is (span before after old new) (Ok flows.Opened) follows)

pub step_ended : (asking : Asking Row) (was is : SignerAt) (before after : OpeningState) (old new : Outgoing) (e : Ended) →
    FollowsAsking asking was is (span before after old new) (Ok (flows.Ended e)) → Steps asking (since was.calls is.calls) (span before (shut after) old new) (steps.Ended e)
step_ended asking was is before after old new e follows = ended_by asking (since was.calls is.calls) before after old new e (gained_since asking was is (span before after old new) (Ok (flows.Ended e)) follows)

pub step_refused : (asking : Asking Row) (was is : SignerAt) (before after : OpeningState) (old new : Outgoing) (e : Error) →
    FollowsAsking asking was is (span before after old new) (Err e) → Steps asking (since was.calls is.calls) (span before (shut after) old new) (steps.Refused e)
step_refused asking was is before after old new e follows = refused_by asking (since was.calls is.calls) before after old new e (gained_since asking was is (span before after old new) (Err e) follows)

-- ---- a packet that is counted

-- the count is put back where the row is refused
pub restored : (asking : Asking Row) (was is : SignerAt) (s after : OpeningState) (n : ℕ) (old new : Outgoing) (e : Error) →
    FollowsAsking asking was is (span (record s { counted = n }) after old new) (Err e) → FollowsAsking asking was is (span s (record after { counted = s.counted }) old new) (Err e)
restored (done row) was is s after n old new e (same, (left, why)) = (same, (ap (λ (t : OpeningState). record t { counted = s.counted }) left, why))
restored (asks asked on) was is s after n old new e (inl (calls, later, memory, left, adds)) = inl (calls, later, memory, ap (λ (t : OpeningState). record t { counted = s.counted }) left, adds)
restored (asks asked on) was is s after n old new e (inr (answer, mid, keeps, rest)) = inr (answer, mid, keeps, restored (on answer) mid is s after n old new e rest)

pub restored_end : (asking : Asking Row) (was is : SignerAt) (s after : OpeningState) (n : ℕ) (old new : Outgoing) (e : Ended) →
    FollowsAsking asking was is (span (record s { counted = n }) after old new) (Ok (flows.Ended e)) → FollowsAsking asking was is (span s (record after { counted = s.counted }) old new) (Ok (flows.Ended e))
restored_end (done row) was is s after n old new e (same, (adds, next, left)) = (same, (adds, next, ap (λ (t : OpeningState). record t { counted = s.counted }) left))
restored_end (asks asked on) was is s after n old new e (inl (calls, later, memory, left, adds)) = absurd cc
restored_end (asks asked on) was is s after n old new e (inr (answer, mid, keeps, rest)) = inr (answer, mid, keeps, restored_end (on answer) mid is s after n old new e rest)

pub counted_went : (asking : Asking Row) (was is : SignerAt) (s s' after : OpeningState) (old new : Outgoing) → FollowsAsking asking was is (span s' after old new) (Ok flows.Went) → FollowsAsking asking was is (span s after old new) (Ok flows.Went)
counted_went (done row) was is s s' after old new follows = follows
counted_went (asks asked on) was is s s' after old new (inl (calls, later, memory, left, adds)) = absurd cc
counted_went (asks asked on) was is s s' after old new (inr (answer, mid, keeps, rest)) = inr (answer, mid, keeps, counted_went (on answer) mid is s s' after old new rest)

pub counted_opened : (asking : Asking Row) (was is : SignerAt) (s s' after : OpeningState) (old new : Outgoing) → FollowsAsking asking was is (span s' after old new) (Ok flows.Opened) → FollowsAsking asking was is (span s after old new) (Ok flows.Opened)
counted_opened (done row) was is s s' after old new follows = follows
counted_opened (asks asked on) was is s s' after old new (inl (calls, later, memory, left, adds)) = absurd cc
counted_opened (asks asked on) was is s s' after old new (inr (answer, mid, keeps, rest)) = inr (answer, mid, keeps, counted_opened (on answer) mid is s s' after old new rest)
