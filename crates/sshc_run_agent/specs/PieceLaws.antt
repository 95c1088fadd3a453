-- Bytes of a connection that come in two events at one moment have the turn that they have in one event: the same
-- records in the same order, by the same calls of the signer, and afterwards the same agent state and the same bytes of
-- each connection. This extends to any number of pieces.
use Rattle.std.proofs.Common.{◌≡◌, ℕ, Bool, true, false, cond, eqb, List, [], ◌∷◌, ◌++◌, Some, refl, sym, ap, subst, ◌∙◌, append_assoc, arith}
use Rattle.std.proofs.Math.Path.{fun_ext}
use Rattle.std.specs.Ordering.{nat_cmp}
use Rattle.std.specs.BTreeMap.{insert_entry, is_at}
use Rattle.std.specs.Map.{lookup, remove_entry}
use Rattle.std.proofs.lemmas.Bool.Decides.{nat_tests}
use Rattle.sshc_wire.specs.declared.record.Record.{Record}
use Rattle.sshc_key.specs.Signers.{SignCall}
use Rattle.sshc_key.specs.Asking.{Asking, done, asks, Makes, asked_on, then_asks}
use Rattle.sshc_key.specs.AskingLaws.{makes_on, makes_two}
use Rattle.sshc_agent_core.specs.declared.input.AgentInput.{AgentInput}
use Rattle.sshc_agent_core.specs.AgentFrames.{FrameBytes, pushed}
use Rattle.sshc_agent_core.specs.AgentList.{AgentList}
use Rattle.sshc_run_agent.specs.declared.event.AgentEvent.{AgentEvent}
use Rattle.sshc_run_agent.specs.declared.event.AgentEvent.TheVariants as events
use Rattle.sshc_run_agent.specs.AgentTurns.{AgentTurn, AfterInput, Served, agent_turn, behind, bytes_at, conn_of, each_turn, event_bytes, event_inputs, input_turn, inputs_of, kept_with, rest_of, with_bytes, without}
use Rattle.sshc_run_agent.specs.InputLaws.{in_pieces}
use Rattle.sshc_run_agent.specs.TurnLaws.{on_made, two_made}

-- ---- records and states

-- the same agent, and the same bytes of each connection
abbrev pub AreSame : Served → Served → Type 0
AreSame s t = (s.list ≡ t.list) × ((conn : ℕ) → bytes_at s.bytes conn ≡ bytes_at t.bytes conn)

-- two events one after the other at one moment make these calls and yield these records, and end in the same state
pub record InTwo (now : ℕ) (first second : AgentEvent) (s : Served) (gained : List SignCall) (t : AgentTurn) : Type 0 where
  pub calls : List SignCall
  pub more : List SignCall
  pub mid : AgentTurn
  pub last : AgentTurn
  pub all : gained ≡ calls ++ more
  pub one : Makes (agent_turn now first s) calls mid
  pub two : Makes (agent_turn now second mid.state) more last
  pub says : t.records ≡ mid.records ++ last.records
  pub same : AreSame t.state last.state

-- ---- inputs in a row

-- the questions of what is asked later are those of what is asked first, and then the others
two_asked : {A B C : Type 0} (asking : Asking A) (f : A → Asking B) (g : B → Asking C) →
    then_asks (then_asks asking f) g ≡ then_asks asking (λ x. then_asks (f x) g)
two_asked (done x) f g = refl
two_asked (asks asked on) f g = ap (asks asked) (fun_ext (λ answer. two_asked (on answer) f g))

none_behind : (asking : Asking AfterInput) → asked_on (behind []) asking ≡ asking
none_behind (done t) = refl
none_behind (asks asked on) = ap (asks asked) (fun_ext (λ answer. none_behind (on answer)))

both_behind : (a b : List Record) (asking : Asking AfterInput) →
    asked_on (behind a) (asked_on (behind b) asking) ≡ asked_on (behind (a ++ b)) asking
both_behind a b (done t) =
    ap (λ (rs : List Record). done (record t { records = rs })) (sym (append_assoc a b t.records))
both_behind a b (asks asked on) = ap (asks asked) (fun_ext (λ answer. both_behind a b (on answer)))

module _ (now conn : ℕ) where
  -- what was said, and then these inputs
  abbrev go_on : List AgentInput → AfterInput → Asking AfterInput
  go_on inputs t = asked_on (behind t.records) (each_turn now conn inputs t.list)

  go_on_behind : (inputs : List AgentInput) (records : List Record) (asking : Asking AfterInput) →
      asked_on (behind records) (then_asks asking (go_on inputs))
      ≡ then_asks (asked_on (behind records) asking) (go_on inputs)
  go_on_behind inputs records (done t) = both_behind records t.records (each_turn now conn inputs t.list)
  go_on_behind inputs records (asks asked on) =
      ap (asks asked) (fun_ext (λ answer. go_on_behind inputs records (on answer)))

  -- inputs in a row are the first of them, and then the others
  each_two : (xs ys : List AgentInput) (l : AgentList) →
      each_turn now conn (xs ++ ys) l ≡ then_asks (each_turn now conn xs l) (go_on ys)
  unfolding each_turn
  each_two [] ys l = sym (none_behind (each_turn now conn ys l))
  each_two (x ∷ xs) ys l =
      ap (then_asks (input_turn now conn x l)) (fun_ext (λ t.
      ap (asked_on (behind t.records)) (each_two xs ys t.list)
      ∙ go_on_behind ys t.records (each_turn now conn xs t.list)))
      ∙ sym (two_asked (input_turn now conn x l) (go_on xs) (go_on ys))

-- ---- the bytes of connections

abbrev All : Type 0
All = List (ℕ × FrameBytes)

-- what a connection has after bytes were stored
given_at : (all : All) (conn other : ℕ) (left : FrameBytes) →
    lookup (is_at (nat_cmp other)) (insert_entry nat_cmp all conn left)
    ≡ cond (eqb other conn) (Some left) (lookup (is_at (nat_cmp other)) all)
given_at [] conn other left = grind (arith, nat_tests)
given_at (e ∷ all) conn other left = grind (arith, nat_tests, given_at all conn other left)

others_left : (all : All) (conn other : ℕ) → eqb other conn ≡ false →
    lookup (is_at (nat_cmp other)) (remove_entry (is_at (nat_cmp conn)) all) ≡ lookup (is_at (nat_cmp other)) all
others_left [] conn other differ = refl
others_left (e ∷ all) conn other differ = grind (arith, nat_tests, others_left all conn other differ)

-- the bytes of each connection after one was given its own
given : (all : All) (conn other : ℕ) (left : FrameBytes) →
    bytes_at (with_bytes all conn left) other ≡ cond (eqb other conn) left (bytes_at all other)
given all conn other left = by (eqb other conn) refl
  where
    by : (same : Bool) → eqb other conn ≡ same →
        bytes_at (with_bytes all conn left) other ≡ cond same left (bytes_at all other)
    by true is = rw (given_at (without all conn) conn other left, is) refl
    by false is = rw (given_at (without all conn) conn other left, is, others_left all conn other is) refl

own : (all : All) (conn : ℕ) (left : FrameBytes) → bytes_at (with_bytes all conn left) conn ≡ left
own all conn left = grind (arith, nat_tests, given all conn conn left)

-- bytes that are stored again replace those before
stored_again : {A : Type 0} (same : Bool) (first left left' others : A) → left ≡ left' →
    cond same left others ≡ cond same left' (cond same first others)
stored_again true first left left' others is = is
stored_again false first left left' others is = refl

-- ---- two events

module _ (now conn : ℕ) (a b : List ℕ) (s : Served) where
  -- the connection's bytes with one piece, with both, and after the first event
  abbrev one_in : FrameBytes
  one_in = pushed (bytes_at s.bytes conn) a

  abbrev all_in : FrameBytes
  all_in = pushed (bytes_at s.bytes conn) (a ++ b)

  abbrev between : All
  between = with_bytes s.bytes conn (rest_of one_in)

  abbrev two_in : FrameBytes
  two_in = pushed (bytes_at between conn) b

  all_asked :
      each_turn now conn (inputs_of all_in) s.list
      ≡ then_asks (each_turn now conn (inputs_of one_in) s.list) (go_on now conn (inputs_of two_in))
  all_asked =
      let inputs : inputs_of all_in ≡ inputs_of one_in ++ inputs_of two_in =
      (in_pieces (bytes_at s.bytes conn) a b).0
      ∙ ap (λ f. inputs_of one_in ++ inputs_of (pushed f b)) (sym (own s.bytes conn (rest_of one_in))) in
      ap (λ is. each_turn now conn is s.list) inputs ∙ each_two now conn (inputs_of one_in) (inputs_of two_in) s.list

  all_left : (other : ℕ) →
      bytes_at (with_bytes s.bytes conn (rest_of all_in)) other
      ≡ bytes_at (with_bytes between conn (rest_of two_in)) other
  all_left other =
      let rest : rest_of all_in ≡ rest_of two_in =
      (in_pieces (bytes_at s.bytes conn) a b).1
      ∙ ap (λ f. rest_of (pushed f b)) (sym (own s.bytes conn (rest_of one_in))) in
      given s.bytes conn other (rest_of all_in)
      ∙ stored_again (eqb other conn) (rest_of one_in) (rest_of all_in) (rest_of two_in) (bytes_at s.bytes other) rest
      ∙ sym (given between conn other (rest_of two_in)
      ∙ ap (cond (eqb other conn) (rest_of two_in)) (given s.bytes conn other (rest_of one_in)))

  -- the turn of one event is the turn of its bytes in two events
  pub in_two : (gained : List SignCall) (t : AgentTurn) →
      Makes (agent_turn now (events.Bytes conn (a ++ b)) s) gained t → InTwo now (events.Bytes conn a) (events.Bytes conn b) s gained t
  unfolding agent_turn
  in_two gained t makes =
      let first : Asking AfterInput = each_turn now conn (inputs_of one_in) s.list in
      let later : All = with_bytes between conn (rest_of two_in) in
      let asked : Asking AfterInput = each_turn now conn (inputs_of all_in) s.list in
      let whole = on_made (kept_with (with_bytes s.bytes conn (rest_of all_in))) asked gained t makes in
      let parts =
      two_made first (go_on now conn (inputs_of two_in)) gained whole.0
      (subst (λ asking. Makes asking gained whole.0) all_asked whole.1) in
      let second : Asking AfterInput = each_turn now conn (inputs_of two_in) parts.mid.list in
      let last = on_made (behind parts.mid.records) second parts.second whole.0 parts.two in
      record {
        calls = parts.first;
        more = parts.second;
        mid = kept_with between parts.mid;
        last = kept_with later last.0;
        all = parts.all;
        one = makes_on (kept_with between) first parts.first parts.mid parts.one;
        two = makes_on (kept_with later) second parts.second last.0 last.1;
        says = sym (ap (λ (x : AgentTurn). x.records) whole.2) ∙ sym (ap (λ (x : AfterInput). x.records) last.2);
        same = subst (λ (x : AgentTurn). AreSame x.state (kept_with later last.0).state) whole.2
            (sym (ap (λ (x : AfterInput). x.list) last.2), all_left);
      }

  -- the turn of two events is the turn of their bytes in one event
  pub in_one : (calls more : List SignCall) (mid last : AgentTurn) →
      Makes (agent_turn now (events.Bytes conn a) s) calls mid →
      Makes (agent_turn now (events.Bytes conn b) mid.state) more last →
      (t : AgentTurn) × Makes (agent_turn now (events.Bytes conn (a ++ b)) s) (calls ++ more) t
      × (t.records ≡ mid.records ++ last.records) × AreSame t.state last.state
  unfolding agent_turn
  in_one calls more mid last one two =
      let first : Asking AfterInput = each_turn now conn (inputs_of one_in) s.list in
      let m = on_made (kept_with between) first calls mid one in
      let second : Asking AfterInput = each_turn now conn (inputs_of two_in) m.0.list in
      let l = on_made (kept_with (with_bytes between conn (rest_of two_in))) second more last
      (subst (λ (x : AgentTurn). Makes (agent_turn now (events.Bytes conn b) x.state) more last) (sym m.2) two) in
      let sent : AfterInput = behind m.0.records l.0 in
      let all =
      makes_two first (go_on now conn (inputs_of two_in)) calls more m.0 sent m.1
      (makes_on (behind m.0.records) second more l.0 l.1) in
      let t : AgentTurn = kept_with (with_bytes s.bytes conn (rest_of all_in)) sent in (
        t,
        makes_on (kept_with (with_bytes s.bytes conn (rest_of all_in))) (each_turn now conn (inputs_of all_in) s.list)
            (calls ++ more) sent (subst (λ asking. Makes asking (calls ++ more) sent) (sym all_asked) all),
        cc (ap (λ (x : AgentTurn). x.records) m.2, ap (λ (x : AgentTurn). x.records) l.2),
        subst (λ (x : AgentTurn). AreSame t.state x.state) l.2 (refl, all_left),
      )

-- equal states have the same inputs and bytes after each event
same_inputs : (event : AgentEvent) (s s' : Served) → AreSame s s' →
    event_inputs event s.bytes ≡ event_inputs event s'.bytes
same_inputs (events.Bytes conn piece) s s' same = ap (λ (f : FrameBytes). inputs_of (pushed f piece)) (same.1 conn)
same_inputs (events.Input conn input) s s' same = refl

same_left : (event : AgentEvent) (s s' : Served) → AreSame s s' → (other : ℕ) →
    bytes_at (event_bytes event s.bytes) other ≡ bytes_at (event_bytes event s'.bytes) other
same_left (events.Bytes conn piece) s s' same other =
    let one : FrameBytes = rest_of (pushed (bytes_at s.bytes conn) piece) in
    let two : FrameBytes = rest_of (pushed (bytes_at s'.bytes conn) piece) in
    let rest : one ≡ two = ap (λ (f : FrameBytes). rest_of (pushed f piece)) (same.1 conn) in
    given s.bytes conn other one
    ∙ ap (cond (eqb other conn) one) (same.1 other)
    ∙ ap (λ (f : FrameBytes). cond (eqb other conn) f (bytes_at s'.bytes other)) rest
    ∙ sym (given s'.bytes conn other two)
same_left (events.Input conn input) s s' same other = same.1 other

-- equal states have the same turn of each event
pub same_turn : (now : ℕ) (event : AgentEvent) (s s' : Served) (gained : List SignCall) (t : AgentTurn) → AreSame s s' →
    Makes (agent_turn now event s) gained t →
    (t' : AgentTurn) × Makes (agent_turn now event s') gained t' × (t.records ≡ t'.records) × AreSame t.state t'.state
unfolding agent_turn
same_turn now event s s' gained t same makes =
    let made = on_made (kept_with (event_bytes event s.bytes)) (each_turn now (conn_of event) (event_inputs event s.bytes) s.list) gained t makes in
    let asked :
    each_turn now (conn_of event) (event_inputs event s.bytes) s.list
    ≡ each_turn now (conn_of event) (event_inputs event s'.bytes) s'.list =
    cc (same_inputs event s s' same, same.0) in
    let t' : AgentTurn = kept_with (event_bytes event s'.bytes) made.0 in (
      t',
      makes_on (kept_with (event_bytes event s'.bytes)) (each_turn now (conn_of event) (event_inputs event s'.bytes) s'.list) gained made.0
          (subst (λ asking. Makes asking gained made.0) asked made.1),
      sym (ap (λ (x : AgentTurn). x.records) made.2),
      subst (λ (x : AgentTurn). AreSame x.state t'.state) made.2 (refl, same_left event s s' same),
    )

-- ---- the same, as laws

abbrev pub EventsSayInTwo : Type 0
EventsSayInTwo = (now conn : ℕ) (a b : List ℕ) (s : Served) (gained : List SignCall) (t : AgentTurn) → Makes (agent_turn now (events.Bytes conn (a ++ b)) s) gained t → InTwo now (events.Bytes conn a) (events.Bytes conn b) s gained t

abbrev pub EventsSayInOne : Type 0
EventsSayInOne = (now conn : ℕ) (a b : List ℕ) (s : Served) (calls more : List SignCall) (mid last : AgentTurn) → Makes (agent_turn now (events.Bytes conn a) s) calls mid → Makes (agent_turn now (events.Bytes conn b) mid.state) more last
    → (t : AgentTurn) × Makes (agent_turn now (events.Bytes conn (a ++ b)) s) (calls ++ more) t × (t.records ≡ mid.records ++ last.records) × AreSame t.state last.state

abbrev pub SameTakesTheSame : Type 0
SameTakesTheSame = (now : ℕ) (event : AgentEvent) (s s' : Served) (gained : List SignCall) (t : AgentTurn) → AreSame s s' → Makes (agent_turn now event s) gained t
    → (t' : AgentTurn) × Makes (agent_turn now event s') gained t' × (t.records ≡ t'.records) × AreSame t.state t'.state
