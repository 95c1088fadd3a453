-- The records of a script are the first of those of a longer one.
use Rattle.std.proofs.Common.{◌≡◌, ℕ, zero, suc, ◌≤◌, Bool, true, false, List, [], ◌∷◌, ◌++◌, length, take, drop, Option, Result, Ok, Err, nat_lt, refl, ap, sym, ◌∙◌, append_assoc, length-append, arith}
use Rattle.std.specs.Prelude.{◌||◌, if◌then◌else◌}
use Rattle.std.specs.Int.{w32, from_be_bytes}
use Rattle.std.proofs.lemmas.List.{take-append-le, drop-append-le}
use Rattle.std.proofs.lemmas.Bool.Decides.{nat_tests}
use Rattle.std.proofs.lemmas.List.Concat.{flat_map-append}
use Rattle.sshc_run_script.specs.Prefixes.{IsFront}
use Rattle.sshc_run_script.proofs.RunNames.{append-nil, WroteFront, Record, Answer, Asking, done, asks, call_of, EventError, Head, Front, End, Bad, Whole, whole_front, sized_front, front, frame_at, head_at, stop, Onward, stopped, unanswered_stop, TurnOf, Turns, line, lines, Run, Spot, spot_after, run, run_on, asked_run, after, events_run, events}
use Rattle.sshc_run_script.proofs.AnsweredQuestions.{front_before}

-- ---- a whole event is still the first of longer bytes

whole_more : (read : Result Head EventError) (after more : List ℕ) (head : Head) (rest : List ℕ) → whole_front read after ≡ Whole head rest → whole_front read (after ++ more) ≡ Whole head (rest ++ more)
whole_more (Ok x) after more head rest h =
    let same : x ≡ head = cc in
    let left : after ≡ rest = cc in
    ap (λ (y : Head). Whole y (after ++ more)) same ∙ ap (λ bytes. Whole head (bytes ++ more)) left
whole_more (Err e) after more head rest h = absurd cc

abbrev is_out : ℕ → List ℕ → Bool
is_out n bytes = nat_lt n 9 || nat_lt 262144 n || nat_lt (length bytes) n

sized_by : (b : Bool) (last n : ℕ) (bytes : List ℕ) → is_out n bytes ≡ b → sized_front last n bytes ≡ (if b then Bad else whole_front (head_at last (take n bytes)) (drop n bytes))
unfolding sized_front
sized_by b last n bytes h = rw h refl

is_in_more : (n : ℕ) (bytes more : List ℕ) → is_out n bytes ≡ false → is_out n (bytes ++ more) ≡ false
is_in_more n bytes more h = let longer = length-append bytes more in grind (arith, nat_tests)

enough : (n : ℕ) (bytes : List ℕ) → is_out n bytes ≡ false → n ≤ length bytes
enough n bytes h = grind (arith, nat_tests)

sized_more_by : (b : Bool) (last n : ℕ) (bytes more : List ℕ) (head : Head) (rest : List ℕ) → is_out n bytes ≡ b → sized_front last n bytes ≡ Whole head rest → sized_front last n (bytes ++ more) ≡ Whole head (rest ++ more)
sized_more_by true last n bytes more head rest out h = let bad : Bad ≡ Whole head rest = sym (sized_by true last n bytes out) ∙ h in absurd cc
sized_more_by false last n bytes more head rest out h =
    let whole : whole_front (head_at last (take n bytes)) (drop n bytes) ≡ Whole head rest = sym (sized_by false last n bytes out) ∙ h in
    let size : n ≤ length bytes = enough n bytes out in
    sized_by false last n (bytes ++ more) (is_in_more n bytes more out)
    ∙ rw (take-append-le n bytes more size, drop-append-le n bytes more size) (whole_more (head_at last (take n bytes)) (drop n bytes) more head rest whole)

pub front_more : (last : ℕ) (bytes more : List ℕ) (head : Head) (rest : List ℕ) → front last bytes ≡ Whole head rest → front last (bytes ++ more) ≡ Whole head (rest ++ more)
unfolding front
front_more last (a ∷ b ∷ c ∷ d ∷ bytes) more head rest h =
    let n : ℕ = from_be_bytes w32 (a ∷ b ∷ c ∷ d ∷ []) in
    sized_more_by (is_out n bytes) last n bytes more head rest refl h
front_more last bytes more head rest h = absurd cc

-- ---- the records

-- a run whose records and calls are the first of another's
abbrev pub Begins : Run → Run → Type 0
Begins first whole = IsFront first.records whole.records × IsFront first.calls whole.calls

-- calls of the signer, and a run after them that begins in the same way
asked_begins : {A : Type 0} (asking : Asking A) (answers : List Answer) (short long : A → List Answer → Run) → ((x : A) (left : List Answer) → Begins (short x left) (long x left)) →
    Begins (asked_run unanswered_stop asking answers short) (asked_run unanswered_stop asking answers long)
asked_begins (done x) answers short long begins = begins x answers
asked_begins (asks asked on) [] short long begins = (([], refl), ([], refl))
asked_begins (asks asked on) (answer ∷ answers) short long begins =
    let so = asked_begins (on answer) answers short long begins in
    (so.0, front_before (call_of asked answer ∷ []) (asked_run unanswered_stop (on answer) answers short).calls (asked_run unanswered_stop (on answer) answers long).calls so.1)

module _ {S : Type 0} (turn : Turns S) where
  turn_begins : (t : TurnOf S) (next : Onward) (r r' : Run) → Begins r r' → Begins (run_on t next r) (run_on t next r')
  turn_begins t (stopped x) r r' later = (([], sym (append-nil t.records)), ([], refl))
  turn_begins t next r r' (records, calls) = (front_before t.records r.records r'.records records, calls)

  front_begins : (n : ℕ) (at : Spot S) (answers : List Answer) (bytes more : List ℕ) (f : Front) → front at.last bytes ≡ f →
      ((at' : Spot S) (left : List Answer) (rest : List ℕ) →
      Begins (run turn n at' left rest) (run turn n at' left (rest ++ more))) →
      Begins (run turn (suc n) at answers bytes) (run turn (suc n) at answers (bytes ++ more))
  unfolding run events stop events_run
  front_begins n at answers bytes more End f rest = rw (f, run, events, stop, events_run) ((_, refl), (_, refl))
  front_begins n at answers bytes more Bad f rest = rw (f, run, events, stop, events_run) ((_, refl), (_, refl))
  front_begins n at answers bytes more (Whole head tail) f rest =
      rw (front_more at.last bytes more head tail f, f, run, events, stop, events_run)
      (asked_begins (turn at.state (frame_at at.place head)) answers _ _ (λ t left. turn_begins t t.next _ _ (rest (spot_after at head t.state) left tail)))

  -- the records and calls of a script are the first of those of a longer one
  pub begins : (n : ℕ) (at : Spot S) (answers : List Answer) (bytes more : List ℕ) → Begins (run turn n at answers bytes) (run turn n at answers (bytes ++ more))
  unfolding run events stop events_run
  begins zero at answers bytes more = (([], refl), ([], refl))
  begins (suc n) at answers bytes more = front_begins n at answers bytes more (front at.last bytes) refl (λ at' left rest. begins n at' left rest more)

pub wrote_longer : (held written : Option (List ℕ)) (first whole : List Record) → IsFront first whole → WroteFront held written (lines first) → WroteFront held written (lines whole)
wrote_longer held written first whole (rest, is) (part, others, due, wrote) =
    (part, others ++ lines rest, ap lines is ∙ flat_map-append line first rest ∙ ap (λ bytes. bytes ++ lines rest) due ∙ append_assoc part others (lines rest), wrote)
