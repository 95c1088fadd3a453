-- The state behind the mutex when one entry is added, and when nothing is.
use Rattle.std.proofs.Common.{◌≡◌, ◌<◌, ◌≤◌, ℕ, ◌+◌, List, [], ◌∷◌, ◌++◌, length, None, refl, sym, ap, subst, ◌∙◌, arith, length-append, true, false, ◌==◌, if◌then◌else◌, nat_lt}
use Rattle.std.proofs.lemmas.Bool.{eq-eqb}
use Rattle.std.proofs.lemmas.Bool.Decides.{nat_tests}
use Rattle.sshc_key.specs.Signers.{SignCall}
use Rattle.sshc_agent_core.specs.declared.entry.Entry.{Entry}
use Rattle.sshc_agent_core.specs.declared.input.AgentInput.{AgentInput}
use Rattle.sshc_agent_core.specs.declared.input.AgentOutput.{AgentOutput}
use Rattle.sshc_agent_core.specs.AgentHistory.{count_of}
use Rattle.sshc_agent_core.specs.AgentList.{AgentList}
use Rattle.sshc_agent_core.specs.AgentTable.{Steps}
use Rattle.sshc_agent_core.specs.StepLaws.{step_entry, step_others}
use Rattle.sshc_agent_shared.specs.declared.counts.Counts.{Counts}
use Rattle.sshc_agent_shared.specs.Calls.{call_of, entry_of, entry_weight, journal_weight}
use Rattle.sshc_agent_shared.specs.Closing.{Tells}
use Rattle.sshc_agent_shared.specs.Counting.{count_in}
use Rattle.sshc_agent_shared.specs.Kept.{Adds, IsHistoryFrom, IsHistoryOf, IsKept, SeatState, SharedState, due, weight_of}
use Rattle.sshc_agent_shared.proofs.Histories.{count_push, entries_weigh, history_push, weight_push}

pub kept_same :
    (start : AgentList) (list : AgentList) (h h' : List Entry) (counts counts' : Counts) (total total' amount parts made weight limit : ℕ)
    → IsKept start list h counts total amount parts made weight limit
    → h' ≡ h → ((c : ℕ) → count_in counts' c ≡ count_in counts c) → total' ≡ total
    → IsKept start list h' counts' total' amount parts made weight limit
kept_same start list h h' counts counts' total total' amount parts made weight limit k same counted book =
    record {
      history = subst (λ (j : List Entry). IsHistoryFrom start j list) (sym same) k.history;
      counted = λ c. counted c ∙ (k.counted c ∙ ap (count_of c) (sym same));
      book = book ∙ (k.book ∙ ap (length {A = Entry}) (sym same));
      spare = k.spare;
      parted = k.parted;
      weighs = k.weighs ∙ ap (journal_weight made) (sym same);
      within = k.within;
      small = k.small;
    }

pub kept_push :
    (start : AgentList) (list list' : AgentList) (h h' : List Entry) (counts counts' : Counts) (total total' amount parts made weight weight' limit conn number now : ℕ) (input : AgentInput) (gained : List SignCall) (output : AgentOutput)
    → IsKept start list h counts total amount parts made weight limit
    → number ≡ count_of conn h
    → Steps now conn input list list' gained output
    → h' ≡ h ++ entry_of conn number now input output ∷ []
    → ((c : ℕ) → count_in counts' c ≡ count_in counts c + (if conn == c then 1 else 0))
    → total' ≡ total + 1
    → weight' ≡ weight + entry_weight input
    → weight' ≤ limit
    → IsKept start list' h' counts' total' amount parts made weight' limit
kept_push start list list' h h' counts counts' total total' amount parts made weight weight' limit conn number now input gained output k numbered step is counted book weighs within =
    let e = entry_of conn number now input output in
    record {
      history = subst (λ (j : List Entry). IsHistoryFrom start j list') (sym is) (history_push start h list list' e k.history (step_entry list list' e gained step refl) numbered);
      counted = λ c. counted c ∙ (ap (λ (n : ℕ). n + (if conn == c then 1 else 0)) (k.counted c) ∙ sym (ap (count_of c) is ∙ count_push c h e));
      book = book ∙ (ap (λ (n : ℕ). n + 1) k.book ∙ sym (ap (length {A = Entry}) is ∙ length-append h (e ∷ [])));
      spare = k.spare;
      parted = k.parted;
      weighs = weighs ∙ (ap (λ (n : ℕ). n + entry_weight input) k.weighs ∙ sym (ap (journal_weight made) is ∙ weight_push made h e));
      within = within;
      small = k.small;
    }

pub due_none : (s : SharedState) (seat : SeatState) (input : AgentInput) → length seat.calls ≡ count_of seat.conn s.journal → weight_of s + entry_weight input ≤ s.limit → due s seat input ≡ None
due_none s seat input same within =
    let a : (length seat.calls == count_of seat.conn s.journal) ≡ true = eq-eqb _ _ same in
    let b : nat_lt s.limit (weight_of s + entry_weight input) ≡ false = grind (arith, nat_tests) in
    rw (a, b) refl

pub journal_short : (start : AgentList) (list : AgentList) (h : List Entry) (counts : Counts) (total amount parts made weight limit : ℕ) → IsKept start list h counts total amount parts made weight limit → length h < 4294967296
journal_short start list h counts total amount parts made weight limit k = omega (arith, k.weighs, k.within, k.small, entries_weigh made h)

-- what the caller of a call that was answered knows
pub tells_from : (old new : SharedState) (before after : SeatState) (now : ℕ) (input : AgentInput) (gained : List SignCall) (output : AgentOutput) → Adds old new before after now input gained output → IsHistoryOf old.asks old.journal old.list → Tells before after (call_of now input output) gained
tells_from old new before after now input gained output adds history =
    record {
      step = record { earlier = old.journal; legal = record { asks = old.asks; last = old.list; leads = history.leads; numbers = history.numbers }; next = new.list; step = adds.step; others = step_others now before.conn input old.list new.list gained output adds.step };
      numbered = adds.numbered;
      added = adds.seat;
    }
