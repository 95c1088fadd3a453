-- How the events of whole bytes stop is determined by the bytes, and it is what a run answers.
use Rattle.std.proofs.Common.{◌≡◌, ℕ, ◌+◌, Bool, true, false, List, [], ◌∷◌, ◌++◌, length, Option, Some, None, Result, Ok, Err, refl, sym, ap, subst, ◌∙◌, inl, inr, ◌⊎◌, append_assoc, length-append, arith}
use Rattle.std.specs.FinMap.{len}
use Rattle.std.proofs.lemmas.List.{append-nil}
use Rattle.std.proofs.lemmas.Option.{same_Some}
use Rattle.sshc_wire.specs.Contents.{prepend, IsAtEnd}
use Rattle.sshc_wire.specs.Faults.{Rose}
use Rattle.sshc_forward_core.specs.declared.event.FwdEvent.{FwdEvent}
use Rattle.sshc_forward_core.specs.Forwards.{Forwards, no_pairs, is_taken, effect}
use Rattle.sshc_forward_core.specs.PairAccount.{ran}
use Rattle.sshc_forward_core.specs.declared.error.FwdError.{FwdError}
use Rattle.sshc_forward_core.specs.declared.error.FwdError.TheVariants as errors
use Rattle.sshc_forward_core.specs.EventText.{Front, Finished, NoEvent, Whole, front}
use Rattle.sshc_forward_core.specs.EventReading.{IsWhole}
use Rattle.sshc_forward_core.specs.ForwardRun.{Streams, AreEvents, NoneTaken, Runs}
use Rattle.sshc_forward_core.specs.ForwardPromises.{Stops, StopsAs, WasCut, IsExact, IsComplete, Outside, streams_of, ForwardPromises}

-- from these pairs and this place, the bytes hold these events, none of which is refused, and then stop so
abbrev pub Holds : List FwdEvent → Forwards → ℕ → List ℕ → Result ℕ FwdError → Type 0
Holds [] t place bytes stop = Stops t place bytes stop
Holds (event ∷ events) t place bytes stop =
    (first : List ℕ) × (rest : List ℕ) × (bytes ≡ first ++ rest) × IsWhole event first × (is_taken event t ≡ false)
    × Holds events (effect event t).after (place + length first) rest stop

-- ---- fronts

nothing_left : front [] ≡ Finished
unfolding front
nothing_left = refl

abbrev is_whole : Front → Bool
is_whole Finished = false
is_whole NoEvent = false
is_whole (Whole event rest) = true

abbrev is_finished : Front → Bool
is_finished Finished = true
is_finished NoEvent = false
is_finished (Whole event rest) = false

abbrev event_or : FwdEvent → Front → FwdEvent
event_or d Finished = d
event_or d NoEvent = d
event_or d (Whole event rest) = event

abbrev rest_of : Front → List ℕ
rest_of Finished = []
rest_of NoEvent = []
rest_of (Whole event rest) = rest

no_two : {A : Type 0} → true ≡ false → A
no_two h = absurd cc

not_both : {A : Type 0} (f : Front) (event : FwdEvent) (rest : List ℕ) → f ≡ Whole event rest → is_whole f ≡ false → A
not_both f event rest is none = no_two (sym (ap is_whole is) ∙ none)

same_event : (f : Front) (e d : FwdEvent) (r q : List ℕ) → f ≡ Whole e r → f ≡ Whole d q → e ≡ d
same_event f e d r q a b = sym (ap (event_or e) a) ∙ ap (event_or e) b

same_rest : (f : Front) (e d : FwdEvent) (r q : List ℕ) → f ≡ Whole e r → f ≡ Whole d q → r ≡ q
same_rest f e d r q a b = sym (ap rest_of a) ∙ ap rest_of b

begins : (event : FwdEvent) (bytes first rest : List ℕ) → bytes ≡ first ++ rest → IsWhole event first → front bytes ≡ Whole event rest
begins event bytes first rest is whole = ap front is ∙ whole.is rest

-- ---- a stop is determined

-- where bytes stop, no event begins that isn't refused
goes_on : {A : Type 0} (t : Forwards) (place : ℕ) (bytes : List ℕ) (stop : Result ℕ FwdError) (event : FwdEvent) (rest : List ℕ) →
    Stops t place bytes stop → front bytes ≡ Whole event rest → is_taken event t ≡ false → A
goes_on t place bytes (Ok left) event rest s is free = not_both (front bytes) event rest is (ap is_whole (ap front s.0 ∙ nothing_left))
goes_on t place bytes (Err (errors.BadEvent at)) event rest s is free = not_both (front bytes) event rest is (ap is_whole s.0)
goes_on t place bytes (Err (errors.Taken at)) event rest s is free =
    no_two (sym s.3 ∙ ap (λ (e : FwdEvent). is_taken e t) (same_event (front bytes) s.0 event s.1 rest s.2 is) ∙ free)
goes_on t place bytes (Err errors.NoMemory) event rest s is free = absurd s
goes_on t place bytes (Err errors.ReadFault) event rest s is free = absurd s
goes_on t place bytes (Err errors.WriteFault) event rest s is free = absurd s

one_stop : (t : Forwards) (place : ℕ) (bytes : List ℕ) (a b : Result ℕ FwdError) → Stops t place bytes a → Stops t place bytes b → a ≡ b
one_stop t place bytes (Ok left) (Ok right) x y = ap (λ (n : ℕ). let r : Result ℕ FwdError = Ok n in r) (x.1 ∙ sym y.1)
one_stop t place bytes (Ok left) (Err (errors.BadEvent at)) x y = no_two (sym (ap is_finished (ap front x.0 ∙ nothing_left)) ∙ ap is_finished y.0)
one_stop t place bytes (Ok left) (Err (errors.Taken at)) x y = not_both (front bytes) y.0 y.1 y.2 (ap is_whole (ap front x.0 ∙ nothing_left))
one_stop t place bytes (Err (errors.BadEvent at)) (Ok left) x y = no_two (sym (ap is_finished (ap front y.0 ∙ nothing_left)) ∙ ap is_finished x.0)
one_stop t place bytes (Err (errors.BadEvent at)) (Err (errors.BadEvent by)) x y = ap (λ (n : ℕ). let r : Result ℕ FwdError = Err (errors.BadEvent n) in r) (x.1 ∙ sym y.1)
one_stop t place bytes (Err (errors.BadEvent at)) (Err (errors.Taken by)) x y = not_both (front bytes) y.0 y.1 y.2 (ap is_whole x.0)
one_stop t place bytes (Err (errors.Taken at)) (Ok left) x y = not_both (front bytes) x.0 x.1 x.2 (ap is_whole (ap front y.0 ∙ nothing_left))
one_stop t place bytes (Err (errors.Taken at)) (Err (errors.BadEvent by)) x y = not_both (front bytes) x.0 x.1 x.2 (ap is_whole y.0)
one_stop t place bytes (Err (errors.Taken at)) (Err (errors.Taken by)) x y = ap (λ (n : ℕ). let r : Result ℕ FwdError = Err (errors.Taken n) in r) (x.4 ∙ sym y.4)
one_stop t place bytes (Err errors.NoMemory) b x y = absurd x
one_stop t place bytes (Err errors.ReadFault) b x y = absurd x
one_stop t place bytes (Err errors.WriteFault) b x y = absurd x
one_stop t place bytes a (Err errors.NoMemory) x y = absurd y
one_stop t place bytes a (Err errors.ReadFault) x y = absurd y
one_stop t place bytes a (Err errors.WriteFault) x y = absurd y

same_length : (a b c d : List ℕ) → a ++ b ≡ c ++ d → b ≡ d → length a ≡ length c
same_length a b c d whole tail =
    let sum = sym (length-append a b) ∙ ap length whole ∙ length-append c d in
    let one = ap length tail in
    omega (arith, sum, one)

determined :
    (es ds : List FwdEvent) (t : Forwards) (place : ℕ) (bytes : List ℕ) (a b : Result ℕ FwdError) →
    Holds es t place bytes a → Holds ds t place bytes b → a ≡ b
determined [] [] t place bytes a b x y = one_stop t place bytes a b x y
determined [] (d ∷ ds) t place bytes a b x y = goes_on t place bytes a d y.1 x (begins d bytes y.0 y.1 y.2 y.3) y.4
determined (e ∷ es) [] t place bytes a b x y = goes_on t place bytes b e x.1 y (begins e bytes x.0 x.1 x.2 x.3) x.4
determined (e ∷ es) (d ∷ ds) t place bytes a b x y =
    let here = begins e bytes x.0 x.1 x.2 x.3 in
    let there = begins d bytes y.0 y.1 y.2 y.3 in
    let event : d ≡ e = same_event (front bytes) d e y.1 x.1 there here in
    let tail : y.1 ≡ x.1 = same_rest (front bytes) d e y.1 x.1 there here in
    let size : length y.0 ≡ length x.0 = same_length y.0 y.1 x.0 x.1 (sym y.2 ∙ x.2) tail in
    let moved =
    subst (λ (f : FwdEvent). Holds ds (effect f t).after (place + length x.0) x.1 b) event
    (subst (λ (n : ℕ). Holds ds (effect d t).after (place + n) x.1 b) size
    (subst (λ (l : List ℕ). Holds ds (effect d t).after (place + length y.0) l b) tail y.5)) in
    determined es ds (effect e t).after (place + length x.0) x.1 a b x.5 moved

-- ---- what bytes hold, by their events

holds_from :
    (events : List FwdEvent) (t : Forwards) (place : ℕ) (bytes rest : List ℕ) (stop : Result ℕ FwdError) →
    AreEvents events bytes → NoneTaken events t → Stops (ran events t).after (place + length bytes) rest stop →
    Holds events t place (bytes ++ rest) stop
holds_from [] t place bytes rest stop are free stops =
    let none : bytes ≡ [] = are in
    let there : place + length bytes ≡ place = (let zero = ap length none in omega (arith, zero)) in
    subst (λ (l : List ℕ). Stops t place (l ++ rest) stop) (sym none)
    (subst (λ (n : ℕ). Stops t n rest stop) there stops)
holds_from (e ∷ events) t place bytes rest stop are free stops = (
  are.0,
  are.1 ++ rest,
  ap (λ (l : List ℕ). l ++ rest) are.2 ∙ append_assoc are.0 are.1 rest,
  are.3,
  free.0,
  holds_from events (effect e t).after (place + length are.0) are.1 rest stop are.4 free.1
      (subst (λ (n : ℕ). Stops (ran events (effect e t).after).after n rest stop)
      (let sum = ap length are.2 ∙ length-append are.0 are.1 in omega (arith, sum)) stops),
)

holds_all : (bytes : List ℕ) (stop : Result ℕ FwdError) → StopsAs bytes stop → (events : List FwdEvent) × Holds events no_pairs 0 bytes stop
holds_all bytes stop (events, first, rest, is, are, free, stops) = (
  events,
  subst (λ (l : List ℕ). Holds events no_pairs 0 l stop) (sym is)
      (holds_from events no_pairs 0 first rest stop are free
      (subst (λ (n : ℕ). Stops (ran events no_pairs).after n rest stop) (omega arith) stops)),
)

one_way : (bytes : List ℕ) (a b : Result ℕ FwdError) → StopsAs bytes a → StopsAs bytes b → a ≡ b
one_way bytes a b x y =
    let h = holds_all bytes a x in
    let k = holds_all bytes b y in
    determined h.0 k.0 no_pairs 0 bytes a b h.1 k.1

-- ---- a run stops as its bytes do

-- what was read, and what is left, are the whole bytes
all_bytes : (given : List ℕ) (old new : Option (List ℕ)) (bytes : List ℕ) → old ≡ prepend given new → old ≡ Some bytes →
    (more : List ℕ) × (new ≡ Some more) × (bytes ≡ given ++ more)
all_bytes given old None bytes read known = absurd (let none : None ≡ Some bytes = sym read ∙ known in cc)
all_bytes given old (Some more) bytes read known = (more, refl, same_Some bytes (given ++ more) (sym known ∙ read))

no_more : (new : Option (List ℕ)) (more : List ℕ) → new ≡ Some more → IsAtEnd new → more ≡ []
no_more None more e end = cc
no_more (Some x) more e end = sym (same_Some x more e) ∙ end

stops_as : (old new : Streams) (answer : Result ℕ FwdError) (bytes : List ℕ) → Runs old new answer → old.left ≡ Some bytes → StopsAs bytes answer ⊎ WasCut answer
stops_as old new (Ok left) bytes r known =
    let all = all_bytes (r.bytes ++ []) old.left new.left bytes r.took.read known in
    let end : all.0 ≡ [] = no_more new.left all.0 all.1 r.end in
    inl (r.events, r.bytes, [], all.2 ∙ ap (λ (l : List ℕ). (r.bytes ++ []) ++ l) end ∙ append-nil (r.bytes ++ []), r.took.spelled, r.took.free, (refl, r.pairs))
stops_as old new (Err (errors.BadEvent at)) bytes r known =
    let all = all_bytes (r.bytes ++ r.bad) old.left new.left bytes r.took.read known in
    inl (r.events, r.bytes, r.bad ++ all.0, all.2 ∙ append_assoc r.bytes r.bad all.0, r.took.spelled, r.took.free, (r.is_bad.all all.0 all.1, sym r.place))
stops_as old new (Err (errors.Taken at)) bytes r known =
    let all = all_bytes (r.bytes ++ r.one) old.left new.left bytes r.took.read known in
    inl (r.events, r.bytes, r.one ++ all.0, all.2 ∙ append_assoc r.bytes r.one all.0, r.took.spelled, r.took.free, (r.event, all.0, r.is_event.is all.0, r.taken, sym r.place))
stops_as old new (Err errors.NoMemory) bytes r known = inr tt
stops_as old new (Err errors.ReadFault) bytes r known = inr tt
stops_as old new (Err errors.WriteFault) bytes r known = inr tt

pub run_exact : (old new : Streams) (answer : Result ℕ FwdError) → Runs old new answer → IsExact old.left answer
run_exact old new answer r bytes stop known stops = elim (stops_as old new answer bytes r known) [
  | inl same ↦ inl (one_way bytes answer stop same stops)
  | inr cut ↦ inr cut
]

-- ---- the guarantees of a run

-- a run that was cut, if no count rose, ran out of memory
starved :
    (left : ℕ) (answer : Result ℕ FwdError) → (answer ≡ Ok left) ⊎ WasCut answer →
    (answer ≡ Err errors.ReadFault → ⊥) → (answer ≡ Err errors.WriteFault → ⊥) → (answer ≡ Ok left) ⊎ (answer ≡ Err errors.NoMemory)
starved left answer (inl is) no_read no_write = inl is
starved left (Err errors.NoMemory) (inr cut) no_read no_write = inr refl
starved left (Err errors.ReadFault) (inr cut) no_read no_write = absurd (no_read refl)
starved left (Err errors.WriteFault) (inr cut) no_read no_write = absurd (no_write refl)
starved left (Err (errors.BadEvent at)) (inr cut) no_read no_write = absurd cut
starved left (Err (errors.Taken at)) (inr cut) no_read no_write = absurd cut
starved left (Ok n) (inr cut) no_read no_write = absurd cut

run_complete :
    (before now : Outside) (answer : Result ℕ FwdError) → IsExact before.source.left answer →
    (answer ≡ Err errors.ReadFault → Rose before.source.faults now.source.faults) →
    (answer ≡ Err errors.WriteFault → Rose before.sink.faults now.sink.faults) → IsComplete before now answer
run_complete before now answer exact read_fault write_fault bytes events known are free unread unwritten =
    let left = len (ran events no_pairs).after.pairs in
    starved left answer
    (exact bytes (Ok left) known (events, bytes, [], sym (append-nil bytes), are, free, (refl, refl)))
    (λ e. unread (read_fault e)) (λ e. unwritten (write_fault e))

pub promise :
    (before now : Outside) (answer : Result ℕ FwdError) → Runs (streams_of before) (streams_of now) answer →
    (answer ≡ Err errors.ReadFault → Rose before.source.faults now.source.faults) →
    ((answer ≡ Err errors.ReadFault → ⊥) → now.source.faults ≡ before.source.faults) →
    (answer ≡ Err errors.WriteFault → Rose before.sink.faults now.sink.faults) →
    ((answer ≡ Err errors.WriteFault → ⊥) → now.sink.faults ≡ before.sink.faults) → ForwardPromises before now answer
promise before now answer runs read_fault read_told write_fault write_told = record {
  run = runs;
  exact = run_exact (streams_of before) (streams_of now) answer runs;
  complete = run_complete before now answer (run_exact (streams_of before) (streams_of now) answer runs) read_fault write_fault;
  read_fault = read_fault;
  read_told = read_told;
  write_fault = write_fault;
  write_told = write_told;
}

abbrev error_in : (A : Type 0) → FwdError → Result A FwdError → FwdError
error_in A d (Ok x) = d
error_in A d (Err e) = e

-- one error, of results of different types
pub same_error : (A B : Type 0) (e x : FwdError) → (let r : Result A FwdError = Err e in r) ≡ Err x → (let r : Result B FwdError = Err e in r) ≡ Err x
same_error A B e x h = ap (λ (y : FwdError). let r : Result B FwdError = Err y in r) (ap (error_in A e) h)

-- a count that rose since it was the same
pub rose_since : (a b c : ℕ) → b ≡ a → Rose b c → Rose a c
rose_since a b c same rose = subst (λ (n : ℕ). Rose n c) same rose
