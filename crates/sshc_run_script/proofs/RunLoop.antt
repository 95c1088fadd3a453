-- A run after some of its events continues, or ends. Nothing here looks into the table.
use Rattle.std.proofs.Common.{◌≡◌, ◌⊎◌, inl, inr, refl, ℕ, suc, ◌+◌, ◌-◌, ◌<◌, ◌≤◌, List, [], ◌∷◌, ◌++◌, length, Option, Result, ap, sym, ◌∙◌, subst, append_assoc, length-append, arith}
use Rattle.std.proofs.lemmas.List.Concat.{flat_map-append}
use Rattle.sshc_wire.specs.ContentsLaws.{prepend-prepend}
use Rattle.sshc_run_script.specs.LoopInvariant.{BringsTo, IsAlong, Pauses, Stays}
use Rattle.sshc_run_script.specs.Prefixes.{IsFront}
use Rattle.sshc_run_script.specs.Outcome.{Moved}
use Rattle.sshc_run_script.proofs.RunNames.{append-nil, prepend, append, WroteFront, append-nothing, prepend-nothing, append-append, Record, SignCall, Answer, Ended, events, RunError, Streams, Ending, told, cut, unread, ending_of, IsCut, IsExact, EndsAs, EndsBy, HasEarlier, HasWritten, HoldsAtMost, Ends, line, lines, Run, Spot, Table, after, answers_of, BringsOn}
use Rattle.sshc_run_script.proofs.AnsweredQuestions.{answers_two, front_before}
use Rattle.sshc_run_script.proofs.RunUnfold.{not_nothing}

-- ---- prefixes of two lists in sequence

-- a shorter prefix of two lists is a shorter prefix of the first, or all of it and a shorter prefix of the second
abbrev FrontOfTwo : List ℕ → List ℕ → List ℕ → ℕ → List ℕ → Type 0
FrontOfTwo a b front c more = ((d : ℕ) × (rest : List ℕ) × (a ≡ front ++ d ∷ rest)) ⊎ ((part : List ℕ) × (front ≡ a ++ part) × (b ≡ part ++ c ∷ more))

front_of_two : (a b front : List ℕ) (c : ℕ) (more : List ℕ) → a ++ b ≡ front ++ c ∷ more → FrontOfTwo a b front c more
front_of_two [] b front c more is = inr (front, refl, is)
front_of_two (x ∷ a) b [] c more is = inl (x, a, refl)
front_of_two (x ∷ a) b (y ∷ front) c more is =
    let same : x ≡ y = cc in
    let tails : a ++ b ≡ front ++ c ∷ more = cc in
    elim (front_of_two a b front c more tails) [
      | inl early ↦ inl (early.0, early.1, rw same (ap (λ (bytes : List ℕ). y ∷ bytes) early.2))
      | inr late ↦ inr (late.0, rw same (ap (λ (bytes : List ℕ). y ∷ bytes) late.1), late.2)
    ]

-- ---- records and calls

lines_two : (a b : List Record) (held mid now : Option (List ℕ)) → mid ≡ append held (lines a) → now ≡ append mid (lines b) → now ≡ append held (lines (a ++ b))
lines_two a b held mid now first second =
    second ∙ ap (λ o. append o (lines b)) first ∙ append-append held (lines a) (lines b) ∙ ap (append held) (sym (flat_map-append line a b))

after_two : (a b : List Record) (p q : List SignCall) (r : Run) → after a p (after b q r) ≡ after (a ++ b) (p ++ q) r
after_two a b p q r = rw (append_assoc a b r.records, append_assoc p q r.calls) refl

-- the answers of two lists of calls, and those that follow
answers_three : (a b : List SignCall) (later : List Answer) → answers_of (a ++ b) ++ later ≡ answers_of a ++ (answers_of b ++ later)
answers_three a b later = ap (λ (x : List Answer). x ++ later) (answers_two a b) ∙ append_assoc (answers_of a) (answers_of b) later

-- what was moved in two parts
pub moved_two : (before mid now : Streams) (given given' : List ℕ) (gained gained' : List SignCall) (records records' : List Record) → Moved before mid given gained (lines records) → Moved mid now given' gained' (lines records') →
    Moved before now (given ++ given') (gained ++ gained') (lines (records ++ records'))
moved_two before mid now given given' gained gained' records records' a b = record {
  read = a.read ∙ ap (prepend given) b.read ∙ prepend-prepend given given' now.left;
  asked = b.asked ∙ ap (λ (x : List SignCall). x ++ gained') a.asked ∙ append_assoc before.calls gained gained';
  wrote = lines_two records records' before.held mid.held now.held a.wrote b.wrote;
  count = omega (arith, a.count, b.count, length-append given given');
}

-- ---- the invariant

-- one event brings a run on by a turn
pub brings_one : {S : Type 0} (table : Table S) (at at' : Spot S) (n : ℕ) (given : List ℕ) (gained : List SignCall) (records : List Record) → BringsOn table at at' given gained records → BringsTo table at (suc n) 1 at' given gained records
brings_one table at at' n given gained records brings =
    let one : n ≡ suc n - 1 = omega arith in
    record {
      on = λ later more. brings.on n later more ∙ ap (λ (m : ℕ). after records gained (table m at' later more)) one;
      counts = λ m more. (let first : 1 + m ≡ suc m = omega arith in rw first (omega (arith, brings.counts m more)));
      early = λ later front b more is. (records, ap (λ (x : List Record). x ++ records) (sym (brings.quiet n (answers_of gained ++ later) front b more is)));
      just = λ later front b more is. brings.just n (answers_of gained ++ later) front b more is;
    }

module _ {S : Type 0} (table : Table S) (first : Spot S) (max : ℕ) where
  -- at the start
  pub brings_none : (at : Spot S) → at ≡ first → BringsTo table first max 0 at [] [] []
  brings_none at is = record {
    on = λ later more. (let all : max - 0 ≡ max = omega arith in rw (all, is) refl);
    counts = λ n more. (let none : 0 + n ≡ n = omega arith in rw (none, is) (omega arith));
    early = λ later front c more none. absurd (not_nothing front c more none);
    just = λ later front c more none. absurd (not_nothing front c more none);
  }

  pub along_none : (at : Spot S) (before : Streams) → at ≡ first → IsAlong table first max 0 at before before
  along_none at before is = (
    [],
    [],
    [],
    record { read = sym (prepend-nothing before.left); asked = sym (append-nil before.calls); wrote = sym (append-nothing before.held); count = omega arith },
    brings_none at is,
  )

  module _ (turns : ℕ) (at : Spot S) (given : List ℕ) (gained : List SignCall) (records : List Record) (so_far : BringsTo table first max turns at given gained records) where
    -- on a shorter prefix of these bytes and others the run comes to its end, with no more than these records; or it is
    -- that of a shorter prefix of the others
    abbrev Meets : Run → List Answer → List ℕ → ℕ → List ℕ → Type 0
    Meets r later given' c more =
        (IsCut r.stop × IsFront r.records records)
        ⊎ ((part : List ℕ) × (given' ≡ part ++ c ∷ more)
        × (r ≡ after records gained (table (max - turns) at later part)))

    front_run : (given' : List ℕ) (later : List Answer) (front : List ℕ) (c : ℕ) (more : List ℕ) →
        given ++ given' ≡ front ++ c ∷ more →
        Meets (table max first (answers_of gained ++ later) front) later given' c more
    front_run given' later front c more is = elim (front_of_two given given' front c more is) [
      | inl early ↦ inl (
        so_far.just later front early.0 early.1 early.2,
        so_far.early later front early.0 early.1 early.2,
      )
      | inr late ↦ inr (
        late.0,
        late.2,
        ap (table max first (answers_of gained ++ later)) late.1
            ∙ so_far.on later late.0,
      )
    ]

    -- it comes to its end there, if it does on each shorter prefix of the others
    cut_more : (given' : List ℕ) (later : List Answer) (front : List ℕ) (c : ℕ) (more : List ℕ) →
        given ++ given' ≡ front ++ c ∷ more →
        ((part : List ℕ) (b : ℕ) (rest : List ℕ) → given' ≡ part ++ b ∷ rest → IsCut (table (max - turns) at later part).stop) →
        IsCut (table max first (answers_of gained ++ later) front).stop
    cut_more given' later front c more is just = elim (front_run given' later front c more is) [
      | inl early ↦ early.0
      | inr late ↦ subst (λ (r : Run). IsCut r.stop) (sym late.2) (just late.0 c more late.1)
    ]

    -- after some turns more
    pub brings_two : (k : ℕ) (at' : Spot S) (given' : List ℕ) (gained' : List SignCall) (records' : List Record) → BringsTo table at (max - turns) k at' given' gained' records' →
        BringsTo table first max (turns + k) at' (given ++ given') (gained ++ gained') (records ++ records')
    brings_two k at' given' gained' records' then_on =
        let left : max - turns - k ≡ max - (turns + k) = omega arith in
        record {
          on = λ later more.
              rw (
                answers_three gained gained' later,
                append_assoc given given' more,
                so_far.on (answers_of gained' ++ later) (given' ++ more),
                then_on.on later more,
                left,
              )
              (after_two records records' gained gained' _);
          counts = λ n more.
              (let sum : turns + k + n ≡ turns + (k + n) = omega arith in
              rw (append_assoc given given' more, sum)
              (omega (arith, so_far.counts (k + n) (given' ++ more), then_on.counts n more)));
          early = λ later front c more is.
              rw (answers_three gained gained' later)
              (elim (front_run given' (answers_of gained' ++ later) front c more is) [
                | inl early ↦ (
                  early.1.0 ++ records',
                  ap (λ (x : List Record). x ++ records') early.1.1
                      ∙ append_assoc _ early.1.0 records',
                )
                | inr late ↦
                    subst (λ (r : Run). IsFront r.records (records ++ records')) (sym late.2)
                    (front_before records _ records' (then_on.early later late.0 c more late.1))
              ]);
          just = λ later front c more is.
              rw (answers_three gained gained' later)
              (cut_more given' (answers_of gained' ++ later) front c more is
              (λ part b rest parts. then_on.just later part b rest parts));
        }

  -- after one turn more
  pub along_more : (turns : ℕ) (at : Spot S) (before now : Streams) (at' : Spot S) (now' : Streams) → turns < max → IsAlong table first max turns at before now →
      (given : List ℕ) × (gained : List SignCall) × (records : List Record) × Moved now now' given gained (lines records) × BringsOn table at at' given gained records → IsAlong table first max (turns + 1) at' before now'
  along_more turns at before now at' now' lt (given, gained, records, so_moved, so_far) (given', gained', records', moved, brings) =
      let one : suc (max - (turns + 1)) ≡ max - turns = omega arith in (
        given ++ given',
        gained ++ gained',
        records ++ records',
        moved_two before now now' given given' gained gained' records records' so_moved moved,
        brings_two turns at given gained records so_far 1 at' given' gained' records'
            (subst (λ (n : ℕ). BringsTo table at n 1 at' given' gained' records') one (brings_one table at at' (max - (turns + 1)) given' gained' records' brings)),
      )

  -- if the run stays where it is
  pub along_still : (turns : ℕ) (at : Spot S) (before now : Streams) (at' : Spot S) (now' : Streams) → IsAlong table first max turns at before now → Stays at at' now now' → IsAlong table first max turns at' before (record now' { reads = before.reads })
  along_still turns at before now at' now' (given, gained, records, moved, so_far) (is, left, held, calls) = (
    given,
    gained,
    records,
    record { read = moved.read ∙ ap (prepend given) (sym left); asked = calls ∙ moved.asked; wrote = held ∙ moved.wrote; count = omega arith },
    subst (λ (x : Spot S). BringsTo table first max turns x given gained records) (sym is) so_far,
  )

  -- ---- where it ends

  module _ (turns : ℕ) (at : Spot S) (before now now' : Streams) (given : List ℕ) (gained : List SignCall) (records : List Record) (moved : Moved before now given gained (lines records)) (so_far : BringsTo table first max turns at given gained records) (given' : List ℕ) (gained' : List SignCall) where
    -- the rest of the run, by what ends it
    abbrev last : Run
    last = table (max - turns) at (answers_of gained') given'

    -- the whole run by what came before and what ends it
    whole_on : table max first (answers_of (gained ++ gained')) (given ++ given') ≡ after records gained last
    whole_on = ap (λ (answers : List Answer). table max first answers (given ++ given')) (answers_two gained gained') ∙ so_far.on (answers_of gained') given'

    exact_end : (a : Result Ended RunError) → IsExact (table (max - turns) at) given' gained' now now' a → IsExact (table max first) (given ++ given') (gained ++ gained') before now' a
    exact_end a exact = record {
      all = rw whole_on (lines_two records last.records before.held now.held now'.held moved.wrote exact.all);
      stop = ap (λ (x : Run). x.stop) whole_on ∙ exact.stop;
      rest = λ later more e.
          rw (
            answers_three gained gained' later,
            append_assoc given given' more,
            so_far.on (answers_of gained' ++ later) (given' ++ more),
            exact.rest later more e,
          ) (sym whole_on);
      just = λ later front c more is.
          rw (answers_three gained gained' later)
          (cut_more turns at given gained records so_far given' (answers_of gained' ++ later) front c more is (λ part b rest parts. exact.just later part b rest parts));
      whole = exact.whole;
    }

    cut_end : WroteFront now.held now'.held (lines last.records) → WroteFront before.held now'.held (lines (table max first (answers_of (gained ++ gained')) (given ++ given')).records)
    cut_end (part, others, due, wrote) = (
      lines records ++ part,
      others,
      ap (λ (x : Run). lines x.records) whole_on ∙ flat_map-append line records last.records ∙ ap (λ (t : List ℕ). lines records ++ t) due ∙ sym (append_assoc (lines records) part others),
      wrote ∙ ap (λ o. append o part) moved.wrote ∙ append-append before.held (lines records) part,
    )

    ends_as : (ending : Ending) (a : Result Ended RunError) → EndsAs ending (table (max - turns) at) given' gained' now now' a → EndsAs ending (table max first) (given ++ given') (gained ++ gained') before now' a
    ends_as told a by = exact_end a by
    ends_as cut a by = cut_end by
    ends_as unread a by = rw whole_on (lines_two records last.records before.held now.held now'.held moved.wrote by)

    -- after what was written before, more was
    held_more : (ending : Ending) (a : Result Ended RunError) → EndsAs ending (table (max - turns) at) given' gained' now now' a → (part : List ℕ) × (now'.held ≡ append now.held part)
    held_more told a by = (lines last.records, by.all)
    held_more cut a (part, others, due, wrote) = (part, wrote)
    held_more unread a by = (lines last.records, by)

    -- all records are written on a shorter prefix of what came before and of what ends it
    early_end : (later : List Answer) (front : List ℕ) (c : ℕ) (more : List ℕ) → HasEarlier (table (max - turns) at) given' gained' now.held now'.held → ((part : List ℕ) × (now'.held ≡ append now.held part)) →
        given ++ given' ≡ front ++ c ∷ more → HasWritten before.held now'.held (lines (table max first (answers_of gained ++ (answers_of gained' ++ later)) front).records)
    early_end later front c more early (part, wrote) is =
        elim (front_run turns at given gained records so_far given' (answers_of gained' ++ later) front c more is) [
          | inl short ↦ (
            lines short.1.0 ++ part,
            wrote ∙ ap (λ o. append o part)
                (moved.wrote ∙ ap (λ (rs : List Record). append before.held (lines rs)) short.1.1)
                ∙ append-append before.held (lines (_ ++ short.1.0)) part
                ∙ ap (append before.held)
                (ap (λ (text : List ℕ). text ++ part) (flat_map-append line _ short.1.0)
                ∙ append_assoc (lines _) (lines short.1.0) part),
          )
          | inr late ↦
              let (rest, own) = early later late.0 c more late.1 in
              let output : List Record = (table (max - turns) at (answers_of gained' ++ later) late.0).records in
              subst (λ (r : Run). HasWritten before.held now'.held (lines r.records)) (sym late.2) (
                rest,
                own ∙ ap (λ o. append o (lines output ++ rest)) moved.wrote
                    ∙ append-append before.held (lines records) (lines output ++ rest)
                    ∙ ap (append before.held)
                    (sym (append_assoc (lines records) (lines output) rest)
                    ∙ ap (λ (text : List ℕ). text ++ rest) (sym (flat_map-append line records output))),
              )
        ]

    -- a turn's bytes hold at most as many events as remained
    holds_more : turns ≤ max → HoldsAtMost (max - turns) at.place at.last given' → HoldsAtMost max first.place first.last (given ++ given')
    holds_more le few =
        let one : turns + suc (max - turns) ≡ suc max = omega arith in
        let whole = ap (λ (m : ℕ). length (events m first.place first.last (given ++ given'))) one in
        let parts = so_far.counts (suc (max - turns)) given' in
        omega (arith, few, whole, parts)

    -- where it ends
    pub brings_end : (a : Result Ended RunError) → turns ≤ max → EndsBy (max - turns) at.place at.last (table (max - turns) at) now now' a given' gained' →
        EndsBy max first.place first.last (table max first) before now' a (given ++ given') (gained ++ gained')
    brings_end a le end = record {
      read = moved.read ∙ ap (prepend given) end.read ∙ prepend-prepend given given' now'.left;
      asked = end.asked ∙ ap (λ (x : List SignCall). x ++ gained') moved.asked ∙ append_assoc before.calls gained gained';
      made = ap (λ (r : Run). r.calls) whole_on ∙ ap (λ (x : List SignCall). gained ++ x) end.made;
      by = ends_as (ending_of a) a end.by;
      early = λ later front c more is.
          rw (answers_three gained gained' later)
          (early_end later front c more end.early (held_more (ending_of a) a end.by) is);
      count = omega (arith, moved.count, end.count, length-append given given');
      few = holds_more le end.few;
    }

  pub along_ends : (turns : ℕ) (at : Spot S) (before now now' : Streams) (a : Result Ended RunError) → turns ≤ max → IsAlong table first max turns at before now → Ends (max - turns) at.place at.last (table (max - turns) at) now now' a →
      Ends max first.place first.last (table max first) before now' a
  along_ends turns at before now now' a le (given, gained, records, moved, so_far) (given', gained', end) =
      (given ++ given', gained ++ gained', brings_end turns at before now now' given gained records moved so_far given' gained' a le end)

  -- the same if a turn remained
  pub turn_ends : (turns : ℕ) (at : Spot S) (before now now' : Streams) (a : Result Ended RunError) → turns < max → IsAlong table first max turns at before now → ((n : ℕ) → Ends (suc n) at.place at.last (table (suc n) at) now now' a) →
      Ends max first.place first.last (table max first) before now' a
  turn_ends turns at before now now' a lt so_far ends =
      let one : suc (max - (turns + 1)) ≡ max - turns = omega arith in
      along_ends turns at before now now' a (omega arith) so_far (subst (λ (n : ℕ). Ends n at.place at.last (table n at) now now' a) one (ends (max - (turns + 1))))

-- the run pauses where it is, with so many events remaining
pub pauses_still : {S : Type 0} (table : Table S) (first : Spot S) (max turns : ℕ) (at : Spot S) (left : ℕ) (at' : Spot S) (before now now' : Streams) → turns + left ≡ max → IsAlong table first max turns at before now → Stays at at' now now' →
    Pauses table first max at' left before now'
pauses_still table first max turns at left at' before now now' count so_far still =
    let taken : turns ≡ max - left = omega (arith, count) in (
      omega (arith, count),
      subst (λ (n : ℕ). IsAlong table first max n at' before (record now' { reads = before.reads })) taken (along_still table first max turns at before now at' now' so_far still),
    )

-- one byte more
pub one_more : (bytes : List ℕ) (old new : Option (List ℕ)) → length bytes ≤ 1 → 0 < length bytes → old ≡ prepend bytes new → (b : ℕ) × (old ≡ prepend (b ∷ []) new)
one_more [] old new few some given = absurd (omega (arith, some))
one_more (b ∷ []) old new few some given = (b, given)
one_more (b ∷ c ∷ rest) old new few some given = absurd (omega (arith, few))
