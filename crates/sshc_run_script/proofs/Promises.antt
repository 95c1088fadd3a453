-- The guarantees of a run by its table.
use Rattle.std.proofs.Common.{◌≡◌, ℕ, List, [], ◌++◌, length, drop, Option, Some, None, Result, Ok, Err, refl, ap, sym, ◌∙◌, subst, inl, inr, arith}
use Rattle.std.specs.Prelude.{◌⊎◌}
use Rattle.std.proofs.Math.Seq.{drop-append_seam}
use Rattle.sshc_wire.specs.Faults.{Rose}
use Rattle.sshc_run_script.specs.declared.error.RunError.TheVariants as errors
use Rattle.sshc_run_script.specs.Headline.{IsGated, IsPrefix, IsDone, KeptBy, IsKept, IsComplete}
use Rattle.sshc_run_script.specs.RunFaults.{fault_counts}
use Rattle.sshc_run_script.proofs.RunNames.{append-nil, prepend, append, WroteFront, prepend-nothing, SignCall, since, Answer, Ended, Accepts, taken, stop_of, RunError, Hosts, ended, Machine, unanswered_stop, Streams, Ending, told, cut, unread, ending_of, IsExact, EndsAs, EndsBy, Ends, HasEarlier, HasWritten, stop_as, lines, Run, at_first, run, script_run, answers_of, answers_since, RunSettings, run_machine}
use Rattle.sshc_run_script.proofs.HostKeyGate.{gated}
use Rattle.sshc_run_script.proofs.RunUnfold.{not_nothing, run_nothing, nothing_held}
use Rattle.sshc_run_script.proofs.Lines.{wrote_all, wrote_nothing}
use Rattle.sshc_run_script.proofs.ScriptExtension.{begins, wrote_longer, Begins}

-- the calls that were added since
pub since_is : (old new gained : List SignCall) → new ≡ old ++ gained → since old new ≡ gained
since_is old new gained is = ap (drop (length old)) is ∙ drop-append_seam old gained

-- the answers are those of the calls
pub with_answers : (P : List Answer → Type 0) (before now : Streams) (gained : List SignCall) → now.calls ≡ before.calls ++ gained → P (answers_of gained) → P (answers_since before.calls now.calls)
with_answers P before now gained asked holds = subst (λ (calls : List SignCall). P (answers_of calls)) (sym (since_is before.calls now.calls gained asked)) holds

-- in each case a prefix of the lines is written
wrote_some : (ending : Ending) (table : List Answer → List ℕ → Run) (given : List ℕ) (gained : List SignCall) (before now : Streams) (a : Result Ended RunError) → EndsAs ending table given gained before now a →
    WroteFront before.held now.held (lines (table (answers_of gained) given).records)
wrote_some told table given gained before now a by = wrote_all before.held now.held (lines (table (answers_of gained) given).records) by.all
wrote_some cut table given gained before now a by = by
wrote_some unread table given gained before now a by = wrote_all before.held now.held (lines (table (answers_of gained) given).records) by

module _ {S : Type 0} (m : Machine S) (max : ℕ) where
  pub by_events : (before now : Streams) (a : Result Ended RunError) → Ends max 0 0 (run m.turn max (at_first m.first)) before now a → Ends max 0 0 (script_run m max) before now a
  unfolding run
  by_events before now a ends = ends

  -- if memory ran out before the first event was read
  pub none_ran : (before : Streams) → Ends max 0 0 (script_run m max) before before (Err errors.NoMemory)
  unfolding run
  none_ran before = (
    [],
    [],
    record {
      read = sym (prepend-nothing before.left);
      asked = sym (append-nil before.calls);
      made = ap (λ (r : Run). r.calls) (run_nothing m.turn max (at_first m.first) []);
      by = wrote_nothing before.held _;
      early = λ later front b more is. absurd (not_nothing front b more is);
      count = omega arith;
      few = nothing_held max 0 0;
    },
  )

  -- a longer script begins in the same way
  pub begins_so : (answers : List Answer) (given more : List ℕ) → Begins (script_run m max answers given) (script_run m max answers (given ++ more))
  unfolding run
  begins_so answers given more = begins m.turn max (at_first m.first) answers given more

  prefix_by : (given bytes : List ℕ) (answers : List Answer) (left held written : Option (List ℕ)) → prepend given left ≡ Some bytes → WroteFront held written (lines (script_run m max answers given).records) →
      WroteFront held written (lines (script_run m max answers bytes).records)
  prefix_by given bytes answers None held written read wrote = absurd cc
  prefix_by given bytes answers (Some more) held written read wrote =
      let same : given ++ more ≡ bytes = cc in
      rw (sym same) (wrote_longer held written _ _ (begins_so answers given more).0 wrote)

  -- the bytes that were written are a prefix of the whole script's records' lines
  pub prefix_of : (before now : Streams) (a : Result Ended RunError) → Ends max 0 0 (script_run m max) before now a → IsPrefix (script_run m max (answers_since before.calls now.calls)) before now
  prefix_of before now a (given, gained, end) = λ bytes output.
      with_answers (λ (answers : List Answer). WroteFront before.held now.held (lines (script_run m max answers bytes).records)) before now gained end.asked
      (prefix_by given bytes (answers_of gained) now.left before.held now.held (sym end.read ∙ output) (wrote_some (ending_of a) (script_run m max) given gained before now a end.by))

pub gate_of : (hosts : Hosts) (accepts : Accepts) (settings : RunSettings) (max : ℕ) (before now : Streams) (a : Result Ended RunError) → Ends max 0 0 (script_run (run_machine hosts accepts settings) max) before now a → IsGated hosts max before now
gate_of hosts accepts settings max before now a (given, gained, end) = (
  given,
  end.read,
  λ no. (
    (script_run (run_machine hosts accepts settings) max (answers_of gained) given).records,
    gated hosts accepts (stop_of max given) (taken max given) (run_machine hosts accepts settings).first (answers_of gained) (record { exchanging = refl; runs = λ same. absurd cc; fresh = refl }, no),
    wrote_some (ending_of a) (script_run (run_machine hosts accepts settings) max) given gained before now a end.by,
  ),
)

-- ---- over any table

-- the table over the whole script is the one over the bytes that were read
same_by : (table : List Answer → List ℕ → Run) (given bytes : List ℕ) (gained : List SignCall) (before now : Streams) (left : Option (List ℕ)) (a : Result Ended RunError) → now.left ≡ left → prepend given left ≡ Some bytes → IsExact table given gained before now a →
    table (answers_of gained) bytes ≡ table (answers_of gained) given
same_by table given bytes gained before now None a is read exact = absurd cc
same_by table given bytes gained before now (Some more) a is read exact =
    let same : bytes ≡ given ++ more = cc in
    ap (table (answers_of gained)) same ∙ ap (λ (answers : List Answer). table answers (given ++ more)) (sym (append-nil (answers_of gained))) ∙ exact.rest [] more is

pub same_table : (table : List Answer → List ℕ → Run) (given bytes : List ℕ) (gained : List SignCall) (before now : Streams) (a : Result Ended RunError) → before.left ≡ prepend given now.left → before.left ≡ Some bytes → IsExact table given gained before now a →
    table (answers_of gained) bytes ≡ table (answers_of gained) given
same_table table given bytes gained before now a read output exact = same_by table given bytes gained before now now.left a refl (sym read ∙ output) exact

pub done_of : (max : ℕ) (table : List Answer → List ℕ → Run) (before now : Streams) (a : Result Ended RunError) → Ends max 0 0 table before now a → IsDone (table (answers_since before.calls now.calls)) before now a
done_of max table before now (Err e) ends = tt
done_of max table before now (Ok e) (given, gained, end) =
    with_answers (λ (answers : List Answer). IsDone (table answers) before now (Ok e)) before now gained end.asked (
      λ last. end.by.whole (ap Ok last),
      λ bytes output.
          (let same : table (answers_of gained) bytes ≡ table (answers_of gained) given = same_table table given bytes gained before now (Ok e) end.read output end.by in
          (ap (λ (r : Run). r.stop) same ∙ end.by.stop, end.by.all ∙ ap (λ (r : Run). append before.held (lines r.records)) (sym same))),
    )

kept_as : (ending : Ending) (table : List Answer → List ℕ → Run) (given : List ℕ) (gained : List SignCall) (before now : Streams) (e : RunError) → EndsAs ending table given gained before now (Err e) → HasEarlier table given gained before.held now.held → KeptBy ending (table (answers_of gained)) given before.held now.held e
kept_as told table given gained before now e by early = (by.stop, by.all)
kept_as cut table given gained before now e by early = λ front b more is.
    subst (λ (answers : List Answer). HasWritten before.held now.held (lines (table answers front).records)) (append-nil (answers_of gained)) (early [] front b more is)
kept_as unread table given gained before now e by early = by

pub kept_of : (max : ℕ) (table : List Answer → List ℕ → Run) (before now : Streams) (a : Result Ended RunError) → Ends max 0 0 table before now a → IsKept (table (answers_since before.calls now.calls)) before now a
kept_of max table before now (Ok e) ends = tt
kept_of max table before now (Err e) (given, gained, end) =
    with_answers (λ (answers : List Answer). IsKept (table answers) before now (Err e)) before now gained end.asked (given, end.read, kept_as (ending_of (Err e)) table given gained before now e end.by end.early)

-- ---- the result, as the table's over the whole script

-- out of memory, or the table's stop, if no count rises
abbrev pub IsTold : List Answer → (List Answer → List ℕ → Run) → List ℕ → Result Ended RunError → Type 0
IsTold answers table bytes a = (a ≡ Err errors.NoMemory) ⊎ ((table answers bytes).stop ≡ stop_as a)

told_exact : (table : List Answer → List ℕ → Run) (given bytes : List ℕ) (gained : List SignCall) (before now : Streams) (a : Result Ended RunError) → before.left ≡ prepend given now.left → before.left ≡ Some bytes → IsExact table given gained before now a →
    IsTold (answers_of gained) table bytes a
told_exact table given bytes gained before now a read output exact = inr (ap (λ (r : Run). r.stop) (same_table table given bytes gained before now a read output exact) ∙ exact.stop)

told_by : (max : ℕ) (table : List Answer → List ℕ → Run) (before now : Streams) (reads reads' writes writes' : ℕ) (a : Result Ended RunError) (given bytes : List ℕ) (gained : List SignCall) → EndsBy max 0 0 table before now a given gained → before.left ≡ Some bytes →
    (a ≡ Err errors.ReadFault → Rose reads reads') → (a ≡ Err errors.WriteFault → Rose writes writes') → (Rose reads reads' → ⊥) → (Rose writes writes' → ⊥) → IsTold (answers_of gained) table bytes a
told_by max table before now reads reads' writes writes' (Ok x) given bytes gained end output r w quiet still = told_exact table given bytes gained before now (Ok x) end.read output end.by
told_by max table before now reads reads' writes writes' (Err errors.NoMemory) given bytes gained end output r w quiet still = inl refl
told_by max table before now reads reads' writes writes' (Err errors.ReadFault) given bytes gained end output r w quiet still = absurd (quiet (r refl))
told_by max table before now reads reads' writes writes' (Err errors.WriteFault) given bytes gained end output r w quiet still = absurd (still (w refl))
told_by max table before now reads reads' writes writes' (Err x) given bytes gained end output r w quiet still = told_exact table given bytes gained before now (Err x) end.read output end.by

pub told_of : (max : ℕ) (table : List Answer → List ℕ → Run) (before now : Streams) (reads reads' writes writes' : ℕ) (a : Result Ended RunError) → Ends max 0 0 table before now a → (bytes : List ℕ) → before.left ≡ Some bytes →
    (a ≡ Err errors.ReadFault → Rose reads reads') → (a ≡ Err errors.WriteFault → Rose writes writes') → (Rose reads reads' → ⊥) → (Rose writes writes' → ⊥) → IsTold (answers_since before.calls now.calls) table bytes a
told_of max table before now reads reads' writes writes' a (given, gained, end) bytes output r w quiet still =
    with_answers (λ (answers : List Answer). IsTold answers table bytes a) before now gained end.asked (told_by max table before now reads reads' writes writes' a given bytes gained end output r w quiet still)

pub answered : (a : Result Ended RunError) → stop_as a ≡ unanswered_stop → ⊥
answered (Ok e) is = cc
answered (Err e) is = cc

pub answer_is : (a : Result Ended RunError) (e : Ended) → stop_as a ≡ ended e → a ≡ Ok e
answer_is (Ok x) e is = let same : x ≡ e = cc in ap Ok same
answer_is (Err x) e is = absurd cc

pub complete_of : (max : ℕ) (table : List Answer → List ℕ → Run) (before now : Streams) (reads reads' writes writes' : ℕ) (a : Result Ended RunError) → Ends max 0 0 table before now a →
    (a ≡ Err errors.ReadFault → Rose reads reads') → (a ≡ Err errors.WriteFault → Rose writes writes') → IsComplete (table (answers_since before.calls now.calls)) before (fault_counts reads writes) (fault_counts reads' writes') a
complete_of max table before now reads reads' writes writes' a ends r w = λ bytes e output good quiet still. by e good (told_of max table before now reads reads' writes writes' a ends bytes output r w quiet still)
  where
    by : {bytes : List ℕ} (e : Ended) → (table (answers_since before.calls now.calls) bytes).stop ≡ ended e → IsTold (answers_since before.calls now.calls) table bytes a → (a ≡ Ok e) ⊎ (a ≡ Err errors.NoMemory)
    by e good (inl memory) = inr memory
    by e good (inr stop) = inl (answer_is a e (sym stop ∙ good))
