-- Over a whole run no more opens are answered than were asked for. The count along the way is that of the answers and
-- of a list of numbers that has each one under which an open still waits.
use Rattle.std.proofs.Common.{◌≡◌, ◌⊎◌, inl, inr, ℕ, suc, ◌+◌, ◌≤◌, Bool, true, false, if◌then◌else◌, List, [], ◌∷◌, ◌++◌, length, drop, Option, Some, None, refl, ap, sym, ◌∙◌, subst, arith}
use Rattle.std.specs.List.{AllByRecursion}
use Rattle.std.proofs.lemmas.Bool.{eqb-true}
use Rattle.sshc_wire.specs.declared.record.Record.TheVariants.{Resolved}
use Rattle.sshc_wire.specs.declared.resolution.Resolution.{Resolution}
use Rattle.sshc_wire.specs.declared.resolution.Resolution.TheVariants.{ChannelOpened, ChannelOpenFailed}
use Rattle.sshc_wire.specs.declared.ticket.Ticket.{Ticket}
use Rattle.sshc_wire.specs.Outgoing.{listed}
use Rattle.sshc_mux.specs.ChannelState.{TableState}
use Rattle.sshc_mux.specs.ChannelTable.{ChannelPacket, records_of}
use Rattle.sshc_mux.specs.ChannelTable.Opens.{awaited, next_number}
use Rattle.sshc_mux.specs.ChannelAccount.{Call, OpenUser}
use Rattle.sshc_client_table.specs.Moves.{Move, after, calls_in, calls_of, deed_of, did, onto, done as when_done}
use Rattle.sshc_client_table.specs.OpensOnce.{AnswersOne, NoOpenAnswer, call_opens, is_number}
use Rattle.sshc_run_script.specs.ChannelRuns.{calls_along, calls_at, calls_by, said_along, said_open}
use Rattle.sshc_run_script.specs.OpenAnswers.{AnswersOnce, AnswersOpens, OpensAreAnswered, moves_by}
use Rattle.sshc_run_script.specs.OpenCounts.{OpensAreCounted, is_open_answer, opens_answered, opens_asked}
use Rattle.sshc_run_script.proofs.RunNames.{Record, SignCall, Answer, Makes, Accepts, SessionState, is_open, all_moves, event_of, Frame, RunSettings, Hosts, SessionTurn, said_by, session_turn}
use Rattle.sshc_run_script.proofs.RunSteps.{session_along}
use Rattle.sshc_run_script.proofs.SessionTurns.{turn_by, default_row}

-- ---- a list of numbers

-- the number is in the list
abbrev IsIn : ℕ → List ℕ → Type 0
IsIn n [] = ⊥
IsIn n (m ∷ numbers) = (m ≡ n) ⊎ IsIn n numbers

-- a list without one number that is in it
record Without (id : ℕ) (numbers : List ℕ) : Type 0 where
  others : List ℕ
  size : length numbers ≡ suc (length others)
  rest : (n : ℕ) → IsIn n numbers → (n ≡ id) ⊎ IsIn n others

without : (id : ℕ) (numbers : List ℕ) → IsIn id numbers → Without id numbers
without id [] never = absurd never
without id (m ∷ numbers) (inl is) = record {
  others = numbers;
  size = refl;
  rest = λ n there. elim there [ inl same ↦ inl (sym same ∙ is) | inr more ↦ inr more ];
}
without id (m ∷ numbers) (inr there) =
    let less = without id numbers there in
    record {
      others = m ∷ less.others;
      size = ap suc less.size;
      rest = λ n more. elim more [
        | inl same ↦ inr (inl same)
        | inr later ↦ elim (less.rest n later) [ inl is ↦ inl is | inr other ↦ inr (inr other) ]
      ];
    }

-- ---- answers among records

answered_two : (a b : List Record) → opens_answered (a ++ b) ≡ opens_answered a + opens_answered b
answered_two [] b = omega arith
answered_two (r ∷ a) b = let rest = answered_two a b in omega (arith, rest)

answered_onto : (a b : List Record) → opens_answered (onto a b) ≡ opens_answered a + opens_answered b
answered_onto a [] = omega arith
answered_onto a (r ∷ b) = answered_two a (r ∷ b)

silent_one : (r : Record) → NoOpenAnswer r → is_open_answer r ≡ false
silent_one (Resolved ticket (ChannelOpened id)) none = absurd none
silent_one (Resolved ticket (ChannelOpenFailed reason)) none = absurd none
silent_one r none = refl

silent : (rs : List Record) → AllByRecursion NoOpenAnswer rs → opens_answered rs ≡ 0
silent [] none = refl
silent (r ∷ rs) (here, rest) = let one : is_open_answer r ≡ false = silent_one r here in let more = silent rs rest in rw one (omega (arith, more))

packets_silent : (output : List ChannelPacket) → opens_answered (records_of output) ≡ 0
packets_silent [] = refl
packets_silent (s ∷ output) = let rest = packets_silent output in omega (arith, rest)

resolved_most : (b : Bool) (ticket : Ticket) (resolution : Resolution) → opens_answered (if b then [] else Resolved ticket resolution ∷ []) ≤ 1
resolved_most true ticket resolution = omega arith
resolved_most false ticket resolution =
    elim (is_open_answer (Resolved ticket resolution)) as (λ b. (if b then 1 else 0) + 0 ≤ 1)
    [ true ↦ omega arith | false ↦ omega arith ]

-- ---- opens that wait

-- each number under which an open waits is in the list
abbrev Covers : TableState → List ℕ → Type 0
Covers t numbers = (n : ℕ) → (awaited n t ≡ None) ⊎ IsIn n numbers

abbrev or_one : Option ℕ → List ℕ → List ℕ
or_one None numbers = numbers
or_one (Some id) numbers = id ∷ numbers

or_there : (o : Option ℕ) (numbers : List ℕ) (n : ℕ) → IsIn n numbers ⊎ (is_number n o ≡ true) →
    IsIn n (or_one o numbers)
or_there None numbers n (inl there) = there
or_there None numbers n (inr is) = absurd cc
or_there (Some id) numbers n (inl there) = inr there
or_there (Some id) numbers n (inr is) = inl (eqb-true id n is)

-- with the number that a call opens
abbrev with_opened : Option Call → TableState → List ℕ → List ℕ
with_opened (Some (OpenUser window packet ticket)) t numbers = or_one (next_number t) numbers
with_opened call t numbers = numbers

opened_there : (call : Option Call) (t : TableState) (numbers : List ℕ) (n : ℕ) →
    IsIn n numbers ⊎ (call_opens n call t ≡ true) →
    IsIn n (with_opened call t numbers)
opened_there (Some (OpenUser window packet ticket)) t numbers n either = or_there (next_number t) numbers n either
opened_there call t numbers n (inl there) = there
opened_there call t numbers n (inr is) = absurd cc

-- a call opens at most one
opened_size : (call : Option Call) (t : TableState) (numbers : List ℕ) →
    length (with_opened call t numbers) ≤ length numbers + opens_asked (listed call)
opened_size None t numbers = omega arith
opened_size (Some (OpenUser window packet ticket)) t numbers =
    elim (next_number t) as (λ o. length (or_one o numbers) ≤ length numbers + (1 + 0))
    [ None ↦ omega arith | Some id ↦ omega arith ]
opened_size (Some call) t numbers = omega arith

-- with these answers, a list of the opens that wait is no longer than one from before and these requests
record Counted (answered asked : ℕ) (numbers : List ℕ) (t : TableState) : Type 0 where
  waiting : List ℕ
  covers : Covers t waiting
  most : answered + length waiting ≤ length numbers + asked

-- ---- one move

module _ (m : Move) (s : SessionState) (once : AnswersOnce m s) (numbers : List ℕ)
    (covers : Covers s.table numbers) where
  abbrev opened : List ℕ
  opened = with_opened (deed_of m s).call s.table numbers

  opens_at : (n : ℕ) → IsIn n numbers ⊎ (call_opens n (deed_of m s).call s.table ≡ true) → IsIn n opened
  opens_at n either = opened_there (deed_of m s).call s.table numbers n either

  -- an open that waits after a move did so before, or the move opens it
  keeps : Covers (after m s).table opened
  keeps n = by (covers n) (call_opens n (deed_of m s).call s.table) refl
    where
      by : (awaited n s.table ≡ None) ⊎ IsIn n numbers → (b : Bool) → call_opens n (deed_of m s).call s.table ≡ b →
          (awaited n (after m s).table ≡ None) ⊎ IsIn n opened
      by (inr there) b is = inr (opens_at n (inl there))
      by (inl none) true is = inr (opens_at n (inr is))
      by (inl none) false is = inl (once.stays n none is)

  -- one that is answered waited, and waits no more
  waited : (one : AnswersOne s (after m s) (deed_of m s).says) → IsIn one.id numbers
  waited one = elim (covers one.id) [ inl none ↦ absurd (let waits = one.waited in cc) | inr there ↦ there ]

  others_cover : (one : AnswersOne s (after m s) (deed_of m s).says) (less : Without one.id opened) →
      Covers (after m s).table less.others
  others_cover one less n = elim (keeps n) [
    | inl none ↦ inl none
    | inr there ↦ elim (less.rest n there) [
      | inl same ↦ inl (subst (λ (k : ℕ). awaited k (after m s).table ≡ None) (sym same) one.waits)
      | inr other ↦ inr other
    ]
  ]

  move_counts : AllByRecursion NoOpenAnswer (deed_of m s).says ⊎ AnswersOne s (after m s) (deed_of m s).says →
      Counted (opens_answered (deed_of m s).says) (opens_asked (calls_of m s)) numbers (after m s).table
  move_counts (inl none) =
      let no = silent (deed_of m s).says none in
      let size = opened_size (deed_of m s).call s.table numbers in
      record { waiting = opened; covers = keeps; most = omega (arith, no, size) }
  move_counts (inr one) =
      let few : opens_answered (deed_of m s).says ≤ 1 =
      subst (λ (rs : List Record). opens_answered rs ≤ 1) (sym one.says_so) (resolved_most _ _ _) in
      let less = without one.id opened (opens_at one.id (inl (waited one))) in
      let size = opened_size (deed_of m s).call s.table numbers in
      record { waiting = less.others; covers = others_cover one less; most = omega (arith, few, less.size, size) }

-- ---- many moves

-- of what a move adds to the records, the packets of its call are no answers
after_answered : (m : Move) (s : SessionState) → opens_answered (after m s).records ≡ opens_answered s.records + opens_answered (deed_of m s).says
unfolding after
after_answered m s =
    let packets : opens_answered (records_of (did (deed_of m s).call s.table).output) ≡ 0 = packets_silent (did (deed_of m s).call s.table).output in
    let inner = answered_onto s.records (records_of (did (deed_of m s).call s.table).output) in
    let outer = answered_onto (onto s.records (records_of (did (deed_of m s).call s.table).output)) (deed_of m s).says in
    omega (arith, packets, inner, outer)

asked_two : (a b : List Call) → opens_asked (a ++ b) ≡ opens_asked a + opens_asked b
asked_two [] b = omega arith
asked_two (OpenUser window packet ticket ∷ a) b = let rest = asked_two a b in omega (arith, rest)
asked_two (call ∷ a) b = asked_two a b

-- each of these moves answers opens once, after those before it
abbrev Each : List Move → SessionState → Type 0
Each moves s = (front : List Move) (m : Move) (back : List Move) → moves ≡ front ++ m ∷ back →
    AnswersOnce m (when_done front s)

moves_count : (moves : List Move) (s : SessionState) → Each moves s → (numbers : List ℕ) → Covers s.table numbers →
    Counted (opens_answered (when_done moves s).records)
    (opens_answered s.records + opens_asked (calls_in moves s)) numbers (when_done moves s).table
moves_count [] s each numbers covers = record { waiting = numbers; covers = covers; most = omega arith }
moves_count (m ∷ moves) s each numbers covers =
    let once = each [] m moves refl in
    let here = move_counts m s once numbers covers once.waits in
    let later : Each moves (after m s) =
    λ front m' back is. each (m ∷ front) m' back (ap (λ (ms : List Move). m ∷ ms) is) in
    let rest = moves_count moves (after m s) later here.waiting here.covers in
    let calls = asked_two (calls_of m s) (calls_in moves (after m s)) in
    record {
      waiting = rest.waiting;
      covers = rest.covers;
      most = omega (arith, here.most, rest.most, after_answered m s, calls);
    }

-- ---- a run

module _ (hosts : Hosts) (accepts : Accepts) where
  -- from a state whose opens that wait are in a list
  abbrev Counts : SessionState → SessionState → List Call → List Record → Type 0
  Counts s t calls output = (numbers : List ℕ) → Covers s.table numbers →
      Counted (opens_answered output) (opens_asked calls) numbers t.table

  counts_none : (s : SessionState) (output : List Record) → opens_answered output ≡ 0 → Counts s s [] output
  counts_none s output none numbers covers = record { waiting = numbers; covers = covers; most = omega (arith, none) }

  row_counts : (moves : List Move) (s : SessionState) → s.records ≡ [] → Each moves s →
      Counts s (when_done moves s) (calls_in moves s) (said_by moves s)
  row_counts moves s none each numbers covers =
      let all = moves_count moves s each numbers covers in
      let output : said_by moves s ≡ (when_done moves s).records =
      ap (λ (rs : List Record). drop (length rs) (when_done moves s).records) none in
      record {
        waiting = all.waiting;
        covers = all.covers;
        most = omega (arith, all.most, ap opens_answered none, ap opens_answered output);
      }

  turn_counts : (s : SessionState) (frame : Frame) (gained : List SignCall) (t : SessionTurn) → s.records ≡ [] → Makes (session_turn hosts accepts s frame) gained t →
      Each (moves_by accepts s (event_of frame.kind frame.fields)) s →
      Counts s t.state (calls_at accepts s frame) (said_open (is_open s.opening.phase) t.records)
  turn_counts s frame gained t none =
      turn_by hosts accepts s frame
      (λ read gained t. Each (moves_by accepts s read) s →
      Counts s t.state (calls_by accepts s read) (said_open (is_open s.opening.phase) t.records))
      (λ event on. rw on (row_counts (all_moves (default_row accepts s event)) s none))
      (λ event gained t un makes. rw un (λ each. counts_none s [] refl))
      (λ e each. counts_none s _
      (elim (is_open s.opening.phase) as (λ opened. opens_answered (said_open opened []) ≡ 0)
      [ true ↦ refl | false ↦ refl ])) gained t

  -- along each path of the session
  pub counted : (settings : RunSettings) (max : ℕ) (answers : List Answer) (script : Option (List ℕ)) →
      OpensAreAnswered hosts accepts settings max answers script →
      OpensAreCounted hosts accepts settings max answers script
  counted settings max answers script opens = λ bytes is steps s path.
      let so = session_along hosts accepts
      (λ s steps s'. AllByRecursion (AnswersOpens accepts) steps →
      Counts s s' (calls_along accepts steps) (said_along steps)) (λ s each. counts_none s [] refl)
      (λ s frame gained t steps s' ready makes on later each numbers covers.
      let here = turn_counts s frame gained t ready.taken makes each.0 numbers covers in
      let rest = later each.1 here.waiting here.covers in
      let calls = asked_two (calls_at accepts s frame) (calls_along accepts steps) in
      let output = answered_two (said_open (is_open s.opening.phase) t.records) (said_along steps) in
      record { waiting = rest.waiting; covers = rest.covers; most = omega (arith, here.most, rest.most, calls, output) })
      settings max answers script bytes is steps s path (opens bytes is steps s path) [] (λ n. inl refl)
      in
      omega (arith, so.most)
