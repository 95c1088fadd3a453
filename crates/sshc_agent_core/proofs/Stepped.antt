-- A step as the row of its input, and one that ran out of memory.
use Rattle.std.proofs.Common.{◌≡◌, ℕ, Bool, true, false, cond, not, List, [], ◌∷◌, Option, Some, None, Ok, Err, refl, sym, ap, subst, ◌∙◌, inl, inr}
use Rattle.std.specs.Option.{is_some}
use Rattle.std.specs.Prelude.{if◌then◌else◌}
use Rattle.std.specs.Ordering.{nat_cmp, is_eq, match_ordering}
use Rattle.std.specs.declared.cmp.Ordering.{Ordering}
use Rattle.std.specs.declared.cmp.Ordering.TheVariants.{Less, Equal, Greater}
use Rattle.std.specs.Cmp.{nat_cmp_is}
use Rattle.std.specs.BTreeMap.{insert_entry, is_at}
use Rattle.std.specs.Map.{remove_entry}
use Rattle.sshc_key.specs.Asking.{Answer, Makes}
use Rattle.sshc_agent_core.specs.declared.connections.Standing.{Standing}
use Rattle.sshc_agent_core.specs.declared.connections.Standing.TheVariants.{Open, Closed}
use Rattle.sshc_agent_core.specs.declared.input.AgentInput.{AgentInput}
use Rattle.sshc_agent_core.specs.declared.input.AgentOutput.{AgentOutput}
use Rattle.sshc_agent_core.specs.declared.input.AgentOutput.TheVariants as outputs
use Rattle.sshc_agent_core.specs.declared.input.Cause.TheVariants as causes
use Rattle.sshc_agent_core.specs.AgentList.{AgentList, aged, seen, standing, starved}
use Rattle.sshc_agent_core.specs.AgentTable.{Steps, agent_row, is_shut, seen_row}
use Rattle.sshc_agent_core.specs.Connections.{is_new, standing_of, with_standing, without}
use Rattle.sshc_agent_core.specs.Asked.{asked_of}
use Rattle.sshc_agent_core.specs.Turn.{FollowsTold, asked_in, told_calls}
use Rattle.sshc_agent_core.proofs.Telling.{told_first}
use Rattle.std.proofs.lemmas.Bool.{both_ways}

-- the row's answer
pub goes : (now conn : ℕ) (input : AgentInput) (before mid after : AgentList) (answer : Option Answer) (output : AgentOutput)
    → mid ≡ seen conn (aged now before) → FollowsTold (seen_row conn input mid) mid after answer (Ok output) → Steps now conn input before after (told_calls (asked_of now conn input before) answer) output
unfolding agent_row asked_of
goes now conn input before mid after answer output is follows =
    inl (subst (λ (m : AgentList). Makes (seen_row conn input m) (told_calls (asked_in (seen_row conn input m)) answer) (record { next = after; output = output })) is follows)

abbrev Conns : Type 0
Conns = List (ℕ × Standing)

removed_by : (o : Ordering) (conn : ℕ) (v : Standing) (e : ℕ × Standing) (es : Conns) → nat_cmp conn e.0 ≡ o → is_eq (nat_cmp conn conn) ≡ true
    → (is_eq o ≡ true → ⊥) → remove_entry (is_at (nat_cmp conn)) (insert_entry nat_cmp es conn v) ≡ es
    → remove_entry (is_at (nat_cmp conn)) (match_ordering o ((conn, v) ∷ e ∷ es) ((e.0, v) ∷ es) (e ∷ insert_entry nat_cmp es conn v)) ≡ e ∷ es
removed_by Less conn v e es is same other rest = ap (λ (b : Bool). cond b (e ∷ es) ((conn, v) ∷ remove_entry (is_at (nat_cmp conn)) (e ∷ es))) same
removed_by Equal conn v e es is same other rest = absurd (other refl)
removed_by Greater conn v e es is same other rest =
    ap (λ (b : Bool). cond b (insert_entry nat_cmp es conn v) (e ∷ remove_entry (is_at (nat_cmp conn)) (insert_entry nat_cmp es conn v))) (ap is_eq is)
    ∙ ap (λ (rest' : Conns). e ∷ rest') rest

found_not : (b : Bool) (v : Standing) (o : Option Standing) → cond b (Some v) o ≡ None → (b ≡ false) × (o ≡ None)
found_not true v o e = absurd cc
found_not false v o e = (refl, e)

same_number : (n : ℕ) → is_eq (nat_cmp n n) ≡ true
same_number n = sym (ap is_eq (nat_cmp_is n n Equal refl))

-- a connection that is seen and forgotten leaves no trace
forgotten : (conns : Conns) (conn : ℕ) (v : Standing) → standing_of conns conn ≡ None → without (with_standing conns conn v) conn ≡ conns
forgotten [] conn v absent = ap (λ (b : Bool). cond b [] ((conn, v) ∷ [])) (same_number conn)
forgotten (e ∷ es) conn v absent =
    let first = found_not (is_at (nat_cmp conn) e.0) e.1 (standing_of es conn) absent in
    removed_by (nat_cmp conn e.0) conn v e es refl (same_number conn) (both_ways _ first.0) (forgotten es conn v first.1)

absent_of : (o : Option Standing) → not (is_some o) ≡ true → o ≡ None
absent_of None e = refl
absent_of (Some x) e = absurd cc

-- the connections after memory ran out
left_new : (now conn : ℕ) (before : AgentList) (b : Bool) → b ≡ is_new before.conns conn → (mid : AgentList) → mid ≡ seen conn (aged now before)
    → cond b (record mid { conns = without mid.conns conn }) (standing conn Closed mid) ≡ starved now conn before
left_new now conn before true is mid same =
    let absent : standing_of before.conns conn ≡ None = absent_of (standing_of before.conns conn) (sym is) in
    ap (λ (l : AgentList). record l { conns = without l.conns conn }) same
    ∙ ap (λ (b : Bool). record (aged now before) { conns = without (cond b (with_standing before.conns conn Open) before.conns) conn }) (sym is)
    ∙ ap (λ (cs : Conns). record (aged now before) { conns = cs }) (forgotten before.conns conn Open absent)
    ∙ ap (λ (b : Bool). cond b (aged now before) (standing conn Closed (aged now before))) is
left_new now conn before false is mid same =
    ap (λ (l : AgentList). standing conn Closed l) same
    ∙ ap (λ (b : Bool). standing conn Closed (record (aged now before) { conns = cond b (with_standing before.conns conn Open) before.conns })) (sym is)
    ∙ ap (λ (b : Bool). cond b (aged now before) (standing conn Closed (aged now before))) is

open_by : (conn : ℕ) (before : AgentList) (b : Bool) → b ≡ is_new before.conns conn → is_shut (standing_of (cond b (with_standing before.conns conn Open) before.conns) conn) ≡ false → is_shut (standing_of before.conns conn) ≡ false
open_by conn before true is e = ap is_shut (absent_of (standing_of before.conns conn) (sym is))
open_by conn before false is e = e

-- memory ran out after the start
pub starves : (now conn : ℕ) (input : AgentInput) (before mid stays after : AgentList) (answer : Option Answer) (new : Bool)
    → mid ≡ seen conn (aged now before) → new ≡ is_new before.conns conn → stays ≡ mid
    → is_shut (standing_of mid.conns conn) ≡ false → after ≡ (if new then record stays { conns = without stays.conns conn } else standing conn Closed stays)
    → Steps now conn input before after (told_calls (asked_of now conn input before) answer) (outputs.Closed causes.NoMemory)
unfolding asked_of
starves now conn input before mid stays after answer new is fresh same unshut is_after =
    inr (record {
      closed = refl;
      list = is_after ∙ left_new now conn before new fresh stays (same ∙ is);
      asked = told_first (agent_row now conn input before) answer;
      open_before = open_by conn before (is_new before.conns conn) refl (subst (λ (m : AgentList). is_shut (standing_of m.conns conn) ≡ false) is unshut);
    })

new_by : (o : Option Standing) → o ≡ None → not (is_some o) ≡ true
new_by None e = refl
new_by (Some x) e = absurd cc

-- memory ran out at the start, for a new connection
pub starves_new : (now conn : ℕ) (input : AgentInput) (before after : AgentList) (answer : Option Answer)
    → after ≡ aged now before → standing_of before.conns conn ≡ None → Steps now conn input before after (told_calls (asked_of now conn input before) answer) (outputs.Closed causes.NoMemory)
unfolding asked_of
starves_new now conn input before after answer is absent =
    let fresh = new_by (standing_of before.conns conn) absent in
    inr (record {
      closed = refl;
      list = is ∙ ap (λ (b : Bool). cond b (aged now before) (standing conn Closed (aged now before))) (sym fresh);
      asked = told_first (agent_row now conn input before) answer;
      open_before = ap is_shut absent;
    })
