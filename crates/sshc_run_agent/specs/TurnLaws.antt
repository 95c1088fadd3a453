-- The turn of an agent's event is a piece of the agent's history (sshc_agent_core): each input is one entry, in order, with
-- its signature and its output, which is reported. So what holds of every history holds of the turns of a run.
use Rattle.std.proofs.Common.{◌≡◌, inl, ℕ, List, [], ◌∷◌, ◌++◌, refl, sym, ap, subst, ◌∙◌}
use Rattle.sshc_wire.specs.declared.record.Record.{Record}
use Rattle.sshc_key.specs.Signers.{SignCall}
use Rattle.sshc_key.specs.Asking.{Asking, done, asks, Makes, asked_on, then_asks}
use Rattle.sshc_agent_core.specs.declared.entry.Entry.{Entry}
use Rattle.sshc_agent_core.specs.declared.input.AgentInput.{AgentInput}
use Rattle.sshc_agent_core.specs.AgentHistory.{AreNumbered, IsEntry, Leads, count_of, signature_in}
use Rattle.sshc_agent_core.specs.AgentList.{AgentList}
use Rattle.sshc_agent_core.specs.AgentTable.{agent_row}
use Rattle.sshc_agent_core.specs.Turn.{Outcome}
use Rattle.sshc_run_agent.specs.declared.event.AgentEvent.{AgentEvent}
use Rattle.sshc_run_agent.specs.AgentTurns.{AgentTurn, AfterInput, Served, agent_turn, behind, conn_of, each_turn, event_bytes, event_inputs, input_turn, kept_with, records_of, said_on}

-- ---- requests to the signer, taken apart

-- the outcome of a mapped request is the mapped outcome
pub on_made : {A : Type 0} {B : Type 0} (f : A → B) (asking : Asking A) (gained : List SignCall) (y : B) → Makes (asked_on f asking) gained y → (x : A) × Makes asking gained x × (f x ≡ y)
on_made f (done x) [] y is = (x, refl, is)
on_made f (done x) (call ∷ gained) y never = absurd never
on_made f (asks asked on) [] y never = absurd never
on_made f (asks asked on) (call ∷ gained) y (is, makes) = let rest = on_made f (on call.answer) gained y makes in (rest.0, (is, rest.1), rest.2)

-- two in a row: the calls of the first and then those of the second
pub record TwoMade {A : Type 0} {B : Type 0} (asking : Asking A) (f : A → Asking B) (gained : List SignCall) (y : B) : Type 0 where
  pub first : List SignCall
  pub second : List SignCall
  pub mid : A
  pub all : gained ≡ first ++ second
  pub one : Makes asking first mid
  pub two : Makes (f mid) second y

pub two_made : {A : Type 0} {B : Type 0} (asking : Asking A) (f : A → Asking B) (gained : List SignCall) (y : B) → Makes (then_asks asking f) gained y → TwoMade asking f gained y
two_made (done x) f gained y makes = record { first = []; second = gained; mid = x; all = refl; one = refl; two = makes }
two_made (asks asked on) f [] y never = absurd never
two_made (asks asked on) f (call ∷ gained) y (is, makes) =
    let rest = two_made (on call.answer) f gained y makes in
    record { first = call ∷ rest.first; second = rest.second; mid = rest.mid; all = ap (λ (g : List SignCall). call ∷ g) rest.all; one = (is, rest.one); two = rest.two }

-- ---- a turn as entries

-- the records that the entries report
abbrev pub reported : List Entry → List Record
reported [] = []
reported (e ∷ entries) = records_of e.conn e.output ++ reported entries

-- they are these inputs of one connection at one moment, in order
abbrev pub AreInputs : ℕ → ℕ → List AgentInput → List Entry → Type 0
AreInputs now conn [] [] = Unit {0}
AreInputs now conn [] (e ∷ entries) = ⊥
AreInputs now conn (input ∷ inputs) [] = ⊥
AreInputs now conn (input ∷ inputs) (e ∷ entries) = (e.moment ≡ now) × (e.conn ≡ conn) × (e.input ≡ input) × AreInputs now conn inputs entries

-- after an earlier history these entries lead from one state to another, with numbers that continue, and they report
-- these records
pub record IsPiece (now conn : ℕ) (inputs : List AgentInput) (earlier : List Entry) (before : AgentList) (records : List Record) (after : AgentList) : Type 0 where
  pub entries : List Entry
  pub leads : Leads before entries after
  pub numbers : AreNumbered earlier entries
  pub inputs_are : AreInputs now conn inputs entries
  pub reports : records ≡ reported entries

module _ (now conn : ℕ) where
  -- the entry of an input
  abbrev entry_of : List Entry → AgentInput → List SignCall → Outcome → Entry
  entry_of earlier input gained o = record { conn = conn; number = count_of conn earlier; moment = now; input = input; signature = signature_in gained; output = o.output }

  is_entry : (earlier : List Entry) (input : AgentInput) (l : AgentList) (gained : List SignCall) (o : Outcome) → Makes (agent_row now conn input l) gained o → IsEntry l (entry_of earlier input gained o) o.next
  is_entry earlier input l gained o makes = record { gained = gained; step = inl makes; signature = refl }

  -- the turn of inputs is a piece of the history
  pub each_piece : (inputs : List AgentInput) (earlier : List Entry) (l : AgentList) (gained : List SignCall) (t : AfterInput) → Makes (each_turn now conn inputs l) gained t → IsPiece now conn inputs earlier l t.records t.list
  unfolding each_turn
  each_piece [] earlier l [] t is =
      subst (λ (x : AfterInput). IsPiece now conn [] earlier l x.records x.list) is (record { entries = []; leads = refl; numbers = tt; inputs_are = tt; reports = refl })
  each_piece [] earlier l (call ∷ gained) t never = absurd never
  each_piece (input ∷ inputs) earlier l gained t makes =
      let parts = two_made (input_turn now conn input l) (λ x. asked_on (behind x.records) (each_turn now conn inputs x.list)) gained t makes in
      let row = on_made (said_on conn) (agent_row now conn input l) parts.first parts.mid parts.one in
      let later = on_made (behind parts.mid.records) (each_turn now conn inputs parts.mid.list) parts.second t parts.two in
      let e : Entry = entry_of earlier input parts.first row.0 in
      let piece = each_piece inputs (earlier ++ e ∷ []) parts.mid.list parts.second later.0 later.1 in
      let list : row.0.next ≡ parts.mid.list = ap (λ (x : AfterInput). x.list) row.2 in
      let says : records_of conn row.0.output ≡ parts.mid.records = ap (λ (x : AfterInput). x.records) row.2 in
      subst (λ (x : AfterInput). IsPiece now conn (input ∷ inputs) earlier l x.records x.list) later.2
      (record {
        entries = e ∷ piece.entries;
        leads = (parts.mid.list, subst (λ (x : AgentList). IsEntry l e x) list (is_entry earlier input l parts.first row.0 row.1), piece.leads);
        numbers = (refl, piece.numbers);
        inputs_are = (refl, refl, refl, piece.inputs_are);
        reports = ap (λ (rs : List Record). rs ++ later.0.records) (sym says) ∙ ap (λ (rs : List Record). records_of conn row.0.output ++ rs) piece.reports;
      })

-- the turn of an event is a piece of the history: its inputs, in order
pub turn_piece : (now : ℕ) (event : AgentEvent) (s : Served) (earlier : List Entry) (gained : List SignCall) (t : AgentTurn) → Makes (agent_turn now event s) gained t
    → IsPiece now (conn_of event) (event_inputs event s.bytes) earlier s.list t.records t.state.list
unfolding agent_turn
turn_piece now event s earlier gained t makes =
    let turn = on_made (kept_with (event_bytes event s.bytes)) (each_turn now (conn_of event) (event_inputs event s.bytes) s.list) gained t makes in
    subst (λ (x : AgentTurn). IsPiece now (conn_of event) (event_inputs event s.bytes) earlier s.list x.records x.state.list) turn.2
    (each_piece now (conn_of event) (event_inputs event s.bytes) earlier s.list gained turn.0 turn.1)
