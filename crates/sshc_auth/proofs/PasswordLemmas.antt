-- A password is written at most as often as it was asked for: every step satisfies what each row satisfies.
use Rattle.std.proofs.Common.{◌≡◌, ◌≤◌, ◌+◌, inl, inr, ℕ, Bool, true, false, List, [], ◌∷◌, ◌++◌, Ok, Err, refl, ap, sym, ◌∙◌, subst, append-nil, append_assoc, arith}
use Rattle.std.specs.List.{AllByRecursion}
use Rattle.sshc_wire.specs.declared.record.Record.TheVariants as records
use Rattle.sshc_key.specs.AskingLaws.{always_makes}
use Rattle.sshc_auth.specs.declared.error.Error.TheVariants.{NoMemory}
use Rattle.sshc_auth.specs.declared.step.Step.TheVariants as steps
use Rattle.sshc_auth.specs.PasswordLaws.{FitsNext, Sound, waits_next, written_two, open_sound}
use Rattle.sshc_auth.specs.Passwords.{KeepsPasswords, WritesAsAsked}
use Rattle.sshc_auth.proofs.KeptLemmas.{GateAdds, gate_adds, nothing_added}
use Rattle.sshc_auth.specs.RowNames.{Answered, asked_of, Error, Event, exchange_in, FitsRequest, gained, GateAnswers, GateRefused, HasShortUser, IsResolved, IsShort, kept, Lent, Makes, open_row, OpeningState, Outgoing, password_packet, Record, Row, shown, SignCall, Span, span_of, StaysClosed, Step, Steps, StepsBy, times_asked, times_waiting, times_written, Told}

-- ---- records

none_answered : (packet : List ℕ) (output : List Record) → AllByRecursion IsResolved output → times_written packet output ≡ 0
none_answered packet [] answers = refl
none_answered packet (records.Resolved ticket resolution ∷ output) answers = none_answered packet output answers.1
none_answered packet (records.Payload body ∷ output) answers = absurd answers.0
none_answered packet (one ∷ output) answers = absurd answers.0

kept_at_most : (packet : List ℕ) (muted : Bool) (one : Record) → times_written packet (kept muted one) ≤ times_written packet (one ∷ [])
kept_at_most packet false one = omega arith
kept_at_most packet true (records.Payload body) = omega arith
kept_at_most packet true one = omega arith

-- what is shown of records has no more of them
shown_at_most : (packet : List ℕ) (muted : Bool) (output : List Record) → times_written packet (shown muted output) ≤ times_written packet output
shown_at_most packet muted [] = omega arith
shown_at_most packet muted (one ∷ output) =
    omega (arith, written_two packet (kept muted one) (shown muted output), kept_at_most packet muted one, shown_at_most packet muted output, written_two packet (one ∷ []) output)

-- ---- a step by its result

-- what the table says of the step: the records after those that the gate added, and the state
record Written (packet : List ℕ) (event : Event) (at : Span) : Type 0 where
  more : List Record
  added : at.new.records ≡ at.old.records ++ more
  counted : times_written packet more + times_waiting packet at.after ≤ times_waiting packet at.before + times_asked packet event

module _ (user password : List ℕ) (short : IsShort user) where
  by_row : (s : OpeningState) (event : Event) (told : Told) (calls : List SignCall) (row : Row) → FitsRequest s → HasShortUser event → Makes (open_row s event told) calls row → Sound (password_packet user password) s event row
  by_row s event told calls row fits has makes = always_makes (Sound (password_packet user password) s event) (open_row s event told) calls row (open_sound user password short s event told fits has) makes

  written_by : (s : OpeningState) (event : Event) (told : Told) (calls : List SignCall) (at : Span) (answer : Step Error) → at.before ≡ s → FitsRequest s → HasShortUser event → Steps (open_row s event told) calls at answer → Written (password_packet user password) event at
  written_by s event told calls at steps.Went same fits has (row, (makes, adds), next) =
      let sound = by_row s event told calls row fits has makes in
      let waits : waits_next (password_packet user password) s row.next ≡ times_waiting (password_packet user password) at.after = ap (waits_next (password_packet user password) s) next in
      let before : times_waiting (password_packet user password) at.before ≡ times_waiting (password_packet user password) s = ap (times_waiting (password_packet user password)) same in
      let fewer = shown_at_most (password_packet user password) at.old.muted row.records in
      record { more = shown at.old.muted row.records; added = adds.0; counted = omega (arith, sound.0, waits, before, fewer) }
  written_by s event told calls at steps.Opened same fits has (row, to, (makes, adds), next, after) =
      let sound = by_row s event told calls row fits has makes in
      let waits : waits_next (password_packet user password) s row.next ≡ times_waiting (password_packet user password) to = ap (waits_next (password_packet user password) s) next in
      let left : times_waiting (password_packet user password) at.after ≡ times_waiting (password_packet user password) to = ap (times_waiting (password_packet user password)) after in
      let before : times_waiting (password_packet user password) at.before ≡ times_waiting (password_packet user password) s = ap (times_waiting (password_packet user password)) same in
      let fewer = shown_at_most (password_packet user password) at.old.muted row.records in
      record { more = shown at.old.muted row.records; added = adds.0; counted = omega (arith, sound.0, waits, left, before, fewer) }
  written_by s event told calls at (steps.Ended e) same fits has (row, (makes, adds), next, after) =
      let sound = by_row s event told calls row fits has makes in
      let waits : waits_next (password_packet user password) s row.next ≡ times_waiting (password_packet user password) s = ap (waits_next (password_packet user password) s) next in
      let left : times_waiting (password_packet user password) at.after ≡ times_waiting (password_packet user password) at.before = ap (times_waiting (password_packet user password)) after in
      let before : times_waiting (password_packet user password) at.before ≡ times_waiting (password_packet user password) s = ap (times_waiting (password_packet user password)) same in
      let fewer = shown_at_most (password_packet user password) at.old.muted row.records in
      record { more = shown at.old.muted row.records; added = adds.0; counted = omega (arith, sound.0, waits, left, before, fewer) }
  written_by s event told calls at (steps.Refused e) same fits has (after, inl (memory, adds, first)) =
      let left : times_waiting (password_packet user password) at.after ≡ times_waiting (password_packet user password) at.before = ap (times_waiting (password_packet user password)) after in
      record { more = []; added = adds.0; counted = omega (arith, left) }
  written_by s event told calls at (steps.Refused e) same fits has (after, inr (row, (makes, adds), next)) =
      let sound = by_row s event told calls row fits has makes in
      let waits : waits_next (password_packet user password) s row.next ≡ times_waiting (password_packet user password) s = ap (waits_next (password_packet user password) s) next in
      let left : times_waiting (password_packet user password) at.after ≡ times_waiting (password_packet user password) at.before = ap (times_waiting (password_packet user password)) after in
      let before : times_waiting (password_packet user password) at.before ≡ times_waiting (password_packet user password) s = ap (times_waiting (password_packet user password)) same in
      let fewer = shown_at_most (password_packet user password) at.old.muted row.records in
      record { more = shown at.old.muted row.records; added = adds.0; counted = omega (arith, sound.0, waits, left, before, fewer) }
  written_by s event told calls at steps.Closed same fits has never = absurd never

  fits_by : (s : OpeningState) (event : Event) (told : Told) (calls : List SignCall) (at : Span) (answer : Step Error) → at.before ≡ s → FitsRequest s → HasShortUser event → Steps (open_row s event told) calls at answer → FitsRequest at.after
  fits_by s event told calls at steps.Went same fits has (row, (makes, adds), next) = subst FitsNext next (by_row s event told calls row fits has makes).1
  fits_by s event told calls at steps.Opened same fits has (row, to, (makes, adds), next, after) =
      let opened : FitsRequest to = subst FitsNext next (by_row s event told calls row fits has makes).1 in
      rw after opened
  fits_by s event told calls at (steps.Ended e) same fits has (row, did, next, after) = rw (after, same) fits
  fits_by s event told calls at (steps.Refused e) same fits has (after, why) = rw (after, same) fits
  fits_by s event told calls at steps.Closed same fits has never = absurd never

-- ---- a step with a gate

-- the gate's records, and then those added after them
both_added : (packet : List ℕ) (event : Event) (was is : Lent) (mid : Outgoing) → GateAdds was.outbox mid → Written packet event (span_of (record was { outbox = mid }) is) → WritesAsAsked packet event was is
both_added packet event was is mid gate written = (
  gate.more ++ written.more,
  written.added ∙ ap (λ (before : List Record). before ++ written.more) gate.added ∙ append_assoc was.outbox.records gate.more written.more,
  omega (arith, written_two packet gate.more written.more, none_answered packet gate.more gate.answers, written.counted),
)

refused_writes : {E : Type 0} (gate : GateAnswers E) (event : Event) (e : E) (was is : Lent) (mid : Outgoing) (result : Step E) → GateAdds was.outbox mid → GateRefused e (record was { outbox = mid }) is result → KeepsPasswords event was is
refused_writes gate event e was is mid result adds (refused, shut_so, outbox, calls) = record {
  fits = λ fits has. rw shut_so fits;
  written = λ fits has user password short.
      let left : times_waiting (password_packet user password) is.opening ≡ times_waiting (password_packet user password) was.opening = ap (times_waiting (password_packet user password)) shut_so in
      (adds.more, ap (λ (o : Outgoing). o.records) outbox ∙ adds.added, omega (arith, left, none_answered (password_packet user password) adds.more adds.answers));
}

told_writes : {E : Type 0} (gate : GateAnswers E) (event : Event) (was is : Lent) (mid : Outgoing) (told : Told) (answer : Step Error) → Answered gate (exchange_in event) was.outbox mid (Ok told) (asked_of was.opening event) →
    Steps (open_row was.opening event told) (gained was is) (span_of (record was { outbox = mid }) is) answer → KeepsPasswords event was is
told_writes gate event was is mid told answer answered steps_so =
    let adds = gate_adds gate event was.outbox mid (Ok told) (asked_of was.opening event) answered in
    let at : Span = span_of (record was { outbox = mid }) is in
    record {
      fits = λ fits has. fits_by [] [] (omega arith) was.opening event told (gained was is) at answer refl fits has steps_so;
      written = λ fits has user password short. both_added (password_packet user password) event was is mid adds (written_by user password short was.opening event told (gained was is) at answer refl fits has steps_so);
    }

by_told : {E : Type 0} (gate : GateAnswers E) (event : Event) (was is : Lent) (result : Step E) → StepsBy gate event was is result → KeepsPasswords event was is
by_told gate event was is result (inl refused) = refused_writes gate event (gate.told_as NoMemory) was is was.outbox result (nothing_added was.outbox was.outbox refl) refused
by_told gate event was is result (inr (Ok told, mid, answered, (answer, same, steps_so))) = told_writes gate event was is mid told answer answered steps_so
by_told gate event was is result (inr (Err e, mid, answered, refused)) = refused_writes gate event e was is mid result (gate_adds gate event was.outbox mid (Err e) (asked_of was.opening event) answered) refused

by_closed : {E : Type 0} (gate : GateAnswers E) (event : Event) (was is : Lent) (result : Step E) (closed : Bool) → was.opening.closed ≡ closed → StaysClosed was is result → (was.opening.closed ≡ false → StepsBy gate event was is result) → KeepsPasswords event was is
by_closed gate event was is result true is_so closed row =
    let so = closed is_so in
    record {
      fits = λ fits has. rw so.1 fits;
      written = λ fits has user password short.
          let left : times_waiting (password_packet user password) is.opening ≡ times_waiting (password_packet user password) was.opening = ap (times_waiting (password_packet user password)) so.1 in
          ([], ap (λ (o : Outgoing). o.records) so.2 ∙ sym (append-nil was.outbox.records), omega (arith, left));
    }
by_closed gate event was is result false is_so closed row = by_told gate event was is result (row is_so)

-- a step of the table satisfies it
pub step_passwords : {E : Type 0} (gate : GateAnswers E) (event : Event) (was is : Lent) (result : Step E) → StaysClosed was is result → (was.opening.closed ≡ false → StepsBy gate event was is result) → KeepsPasswords event was is
step_passwords gate event was is result closed row = by_closed gate event was is result was.opening.closed refl closed row
