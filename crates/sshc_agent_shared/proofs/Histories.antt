-- A history that is one entry longer.
use Rattle.std.proofs.Common.{◌≡◌, ◌≤◌, ℕ, ◌+◌, ◌*◌, List, [], ◌∷◌, ◌++◌, length, filter, refl, sym, ap, subst, ◌∙◌, arith, length-append, append_assoc, sum_by, cond, Bool, true, false, ◌==◌}
use Rattle.std.proofs.lemmas.List.{append-nil}
use Rattle.std.proofs.lemmas.List.Sums.{sum_by_push, sum_by-cons}
use Rattle.std.proofs.lemmas.List.Elements.{filter-append}
use Rattle.sshc_agent_core.specs.declared.entry.Entry.{Entry}
use Rattle.sshc_agent_core.specs.AgentHistory.{AreNumbered, IsEntry, Leads, count_of}
use Rattle.sshc_agent_core.specs.AgentList.{AgentList}
use Rattle.sshc_agent_shared.specs.Calls.{entry_weight, journal_weight}
use Rattle.sshc_agent_shared.specs.Kept.{IsHistoryFrom}

pub leads_push : (entries : List Entry) (before mid after : AgentList) (e : Entry) → Leads before entries mid → IsEntry mid e after → Leads before (entries ++ e ∷ []) after
leads_push [] before mid after e is entry = (after, subst (λ (l : AgentList). IsEntry l e after) (sym is) entry, refl)
leads_push (x ∷ entries) before mid after e (first, one, more) entry = (first, one, leads_push entries first mid after e more entry)

pub numbers_push : (earlier entries : List Entry) (e : Entry) → AreNumbered earlier entries → e.number ≡ count_of e.conn (earlier ++ entries) → AreNumbered earlier (entries ++ e ∷ [])
numbers_push earlier [] e numbers number = (number ∙ ap (count_of e.conn) (append-nil earlier), tt)
numbers_push earlier (x ∷ entries) e numbers number =
    (numbers.0, numbers_push (earlier ++ x ∷ []) entries e numbers.1 (number ∙ ap (count_of e.conn) (sym (append_assoc earlier (x ∷ []) entries))))

pub history_push : (start : AgentList) (journal : List Entry) (list list' : AgentList) (e : Entry) → IsHistoryFrom start journal list → IsEntry list e list' → e.number ≡ count_of e.conn journal → IsHistoryFrom start (journal ++ e ∷ []) list'
history_push start journal list list' e history entry number =
    record { leads = leads_push journal _ list list' e history.leads entry; numbers = numbers_push [] journal e history.numbers number }

one_or_none : (b : Bool) (e : Entry) → length (cond b (e ∷ []) []) ≡ cond b 1 0
one_or_none true e = refl
one_or_none false e = refl

pub count_push : (conn : ℕ) (journal : List Entry) (e : Entry) → count_of conn (journal ++ e ∷ []) ≡ count_of conn journal + cond (e.conn == conn) 1 0
count_push conn journal e =
    ap (length {A = Entry}) (filter-append (λ (x : Entry). x.conn == conn) journal (e ∷ []))
    ∙ (length-append (filter (λ (x : Entry). x.conn == conn) journal) (filter (λ (x : Entry). x.conn == conn) (e ∷ []))
    ∙ ap (λ (n : ℕ). count_of conn journal + n) (one_or_none (e.conn == conn) e))

pub weight_push : (seats : ℕ) (journal : List Entry) (e : Entry) → journal_weight seats (journal ++ e ∷ []) ≡ journal_weight seats journal + entry_weight e.input
weight_push seats journal e = omega (arith, sum_by_push (λ (x : Entry). entry_weight x.input) journal e)

-- each entry weighs at least 64
sum_at_least : (journal : List Entry) → 64 * length journal ≤ sum_by (λ (e : Entry). entry_weight e.input) journal
sum_at_least [] = omega arith
sum_at_least (e ∷ journal) = omega (arith, sum_at_least journal, sum_by-cons (λ (x : Entry). entry_weight x.input) e journal)

pub entries_weigh : (seats : ℕ) (journal : List Entry) → 64 * length journal ≤ journal_weight seats journal
entries_weigh seats journal = omega (arith, sum_at_least journal)

if_one : (b : Bool) (e : Entry) (n m : ℕ) → n ≤ m → length (cond b (e ∷ []) []) + n ≤ m + 1
if_one true e n m le = omega (arith, le)
if_one false e n m le = omega (arith, le)

filter_cons : (b : Bool) (e : Entry) (es : List Entry) (n : ℕ) → length es ≤ n → length (cond b (e ∷ es) es) ≤ n + 1
filter_cons true e es n le = omega (arith, le)
filter_cons false e es n le = omega (arith, le)

pub count_at_most : (conn : ℕ) (journal : List Entry) → count_of conn journal ≤ length journal
count_at_most conn [] = omega arith
count_at_most conn (e ∷ journal) = omega (arith, filter_cons (e.conn == conn) e (filter (λ (x : Entry). x.conn == conn) journal) (length journal) (count_at_most conn journal))
