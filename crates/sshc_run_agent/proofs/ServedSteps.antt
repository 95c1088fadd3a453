-- The steps of an event, one after the other.
use Rattle.std.proofs.Common.{◌≡◌, ℕ, List, [], ◌∷◌, ◌++◌, length, Option, Some, None, refl, sym, ap, subst, ◌∙◌, append-nil, append_assoc}
use Rattle.std.proofs.lemmas.List.{drop_at}
use Rattle.sshc_wire.specs.declared.record.Record.{Record}
use Rattle.sshc_wire.specs.Outgoing.{listed}
use Rattle.sshc_key.specs.Signers.{SignCall, since}
use Rattle.sshc_key.specs.Asking.{Asking, Makes, MakesFirst, asked_on}
use Rattle.sshc_key.specs.AskingLaws.{makes_on, first_on, all_first, makes_two, first_two, first_of_two, none_first}
use Rattle.sshc_agent_core.specs.declared.input.AgentInput.{AgentInput}
use Rattle.sshc_agent_core.specs.AgentFrames.{FrameBytes, next_in, pushed}
use Rattle.sshc_agent_core.specs.AgentList.{AgentList}
use Rattle.sshc_run_agent.specs.declared.event.AgentEvent.{AgentEvent}
use Rattle.sshc_run_agent.specs.declared.event.AgentEvent.TheVariants as events
use Rattle.sshc_run_agent.specs.AgentTurns.{AfterInput, SaysInput, Served, agent_turn, behind, bytes_at, conn_of, each_turn, event_bytes, event_inputs, input_turn, inputs_of, kept_with, rest_of, with_bytes}
use Rattle.sshc_run_agent.specs.InputLaws.{no_more, one_more}

-- ---- the signer's list

-- it gained nothing
pub none_since : (calls : List SignCall) → since calls calls ≡ []
none_since calls = ap (since calls) (sym (append-nil calls)) ∙ drop_at calls [] (length calls) refl

pub none_gained : (calls calls' : List SignCall) → calls' ≡ calls → calls' ≡ calls ++ since calls calls'
none_gained calls calls' same = same ∙ sym (append-nil calls) ∙ ap (λ (g : List SignCall). calls ++ g) (sym (ap (since calls) same ∙ none_since calls))

pub gained_on : (a b c : List SignCall) → b ≡ a ++ since a b → c ≡ b ++ since b c → c ≡ a ++ (since a b ++ since b c)
gained_on a b c one two = two ∙ ap (λ (x : List SignCall). x ++ since b c) one ∙ append_assoc a (since a b) (since b c)

-- what it gained by two calls
pub since_on : (a b c : List SignCall) → b ≡ a ++ since a b → c ≡ b ++ since b c → since a c ≡ since a b ++ since b c
since_on a b c one two = ap (since a) (gained_on a b c one two) ∙ drop_at a (since a b ++ since b c) (length a) refl

pub gained_two : (a b c : List SignCall) → b ≡ a ++ since a b → c ≡ b ++ since b c → c ≡ a ++ since a c
gained_two a b c one two = gained_on a b c one two ∙ ap (λ (x : List SignCall). a ++ x) (sym (since_on a b c one two))

-- ---- steps in a row

-- with these calls and records the inputs have been taken so far: these come before the calls and records of the
-- remaining inputs
pub record GoesOn (now conn : ℕ) (all : List AgentInput) (before : AgentList) (gained : List SignCall) (records : List Record) (left : List AgentInput) (l : AgentList) : Type 0 where
  pub makes : (later : List SignCall) (t : AfterInput) → Makes (each_turn now conn left l) later t → Makes (each_turn now conn all before) (gained ++ later) (behind records t)
  pub first : (later : List SignCall) → MakesFirst (each_turn now conn left l) later → MakesFirst (each_turn now conn all before) (gained ++ later)

module _ (now conn : ℕ) where
  each_made : (input : AgentInput) (left : List AgentInput) (l l' : AgentList) (g later : List SignCall) (records : List Record) (t : AfterInput) → Makes (input_turn now conn input l) g (record { records = records; list = l' })
      → Makes (each_turn now conn left l') later t → Makes (each_turn now conn (input ∷ left) l) (g ++ later) (behind records t)
  unfolding each_turn
  each_made input left l l' g later records t made makes =
      makes_two (input_turn now conn input l) (λ t. asked_on (behind t.records) (each_turn now conn left t.list)) g later (record { records = records; list = l' }) (behind records t) made
      (makes_on (behind records) (each_turn now conn left l') later t makes)

  each_first : (input : AgentInput) (left : List AgentInput) (l l' : AgentList) (g later : List SignCall) (records : List Record) → Makes (input_turn now conn input l) g (record { records = records; list = l' })
      → MakesFirst (each_turn now conn left l') later → MakesFirst (each_turn now conn (input ∷ left) l) (g ++ later)
  unfolding each_turn
  each_first input left l l' g later records made first =
      first_two (input_turn now conn input l) (λ t. asked_on (behind t.records) (each_turn now conn left t.list)) g later (record { records = records; list = l' }) made
      (first_on (behind records) (each_turn now conn left l') later first)

  each_cut : (input : AgentInput) (left : List AgentInput) (l : AgentList) (g : List SignCall) → MakesFirst (input_turn now conn input l) g → MakesFirst (each_turn now conn (input ∷ left) l) g
  unfolding each_turn
  each_cut input left l g first = first_of_two (input_turn now conn input l) (λ t. asked_on (behind t.records) (each_turn now conn left t.list)) g first

  each_done : (l : AgentList) → Makes (each_turn now conn [] l) [] (record { records = []; list = l })
  unfolding each_turn
  each_done l = refl

  module _ (all : List AgentInput) (before : AgentList) where
    pub at_begin : GoesOn now conn all before [] [] all before
    at_begin = record { makes = λ later t makes. makes; first = λ later first. first }

    -- one more input
    pub one_on : (g g' : List SignCall) (records records' : List Record) (input : AgentInput) (left : List AgentInput) (l l' : AgentList) → GoesOn now conn all before g records (input ∷ left) l
        → Makes (input_turn now conn input l) g' (record { records = records'; list = l' }) → GoesOn now conn all before (g ++ g') (records ++ records') left l'
    one_on g g' records records' input left l l' so made = record {
      makes = λ later t makes.
          rw (append_assoc g g' later, append_assoc records records' t.records) (so.makes (g' ++ later) (behind records' t) (each_made input left l l' g' later records' t made makes));
      first = λ later first. rw (append_assoc g g' later) (so.first (g' ++ later) (each_first input left l l' g' later records' made first));
    }

    -- all were taken
    pub all_on : (g : List SignCall) (records : List Record) (l : AgentList) → GoesOn now conn all before g records [] l → Makes (each_turn now conn all before) g (record { records = records; list = l })
    all_on g records l so =
        subst (λ (x : List SignCall). Makes (each_turn now conn all before) x (record { records = records; list = l })) (append-nil g)
        (subst (λ (rs : List Record). Makes (each_turn now conn all before) (g ++ []) (record { records = rs; list = l })) (append-nil records) (so.makes [] (record { records = []; list = l }) (each_done l)))

    -- memory ran out between two inputs
    pub cut_between : (g : List SignCall) (records : List Record) (left : List AgentInput) (l : AgentList) → GoesOn now conn all before g records left l → MakesFirst (each_turn now conn all before) g
    cut_between g records left l so = subst (MakesFirst (each_turn now conn all before)) (append-nil g) (so.first [] (none_first (each_turn now conn left l)))

    -- or during one
    pub cut_in : (g g' : List SignCall) (records : List Record) (input : AgentInput) (left : List AgentInput) (l : AgentList) → GoesOn now conn all before g records (input ∷ left) l
        → MakesFirst (input_turn now conn input l) g' → MakesFirst (each_turn now conn all before) (g ++ g')
    cut_in g g' records input left l so first = so.first g' (each_cut input left l g' first)

-- ---- one more input from a connection's bytes

module _ (now conn : ℕ) (all : List AgentInput) (before : AgentList) (frames next : FrameBytes) (input : AgentInput) (is : next_in frames ≡ Some (input, next)) (a b c : List SignCall)
    (grew : b ≡ a ++ since a b) (more : c ≡ b ++ since b c) (records : List Record) (l : AgentList) (on : GoesOn now conn all before (since a b) records (inputs_of frames) l) where
  on_first : GoesOn now conn all before (since a b) records (input ∷ inputs_of next) l
  on_first =
      subst (λ (left : List AgentInput). GoesOn now conn all before (since a b) records left l)
      (one_more frames (input, next) is).0 on

  pub goes_more : (l' : AgentList) (records' : List Record) → SaysInput now conn input l (since b c) l' records records' → GoesOn now conn all before (since a c) records' (inputs_of next) l'
  goes_more l' records' (sent, added, made) =
      rw (since_on a b c grew more, added) (one_on now conn all before (since a b) (since b c) records sent input (inputs_of next) l l' on_first made)

  pub goes_cut : MakesFirst (input_turn now conn input l) (since b c) → MakesFirst (each_turn now conn all before) (since a c)
  goes_cut first = rw (since_on a b c grew more) (cut_in now conn all before (since a b) (since b c) records input (inputs_of next) l on_first first)

-- the bytes contain no further input
pub goes_none : (now conn : ℕ) (all : List AgentInput) (before : AgentList) (frames : FrameBytes) (gained : List SignCall) (records : List Record) (l : AgentList) → next_in frames ≡ None
    → GoesOn now conn all before gained records (inputs_of frames) l → Makes (each_turn now conn all before) gained (record { records = records; list = l })
goes_none now conn all before frames gained records l none on =
    all_on now conn all before gained records l
    (subst (λ (left : List AgentInput). GoesOn now conn all before gained records left l) (no_more frames none).0 on)

-- ---- one input

-- an input's record is added, if it has one
pub said_of : (now conn : ℕ) (input : AgentInput) (before after : AgentList) (gained : List SignCall) (held held' : List Record) (sent : Option Record)
    → Makes (input_turn now conn input before) gained (record { records = listed sent; list = after }) → held' ≡ held ++ listed sent → SaysInput now conn input before gained after held held'
said_of now conn input before after gained held held' sent made added = (listed sent, added, made)

-- its calls are a prefix of those that its turn makes
pub cut_of : (now conn : ℕ) (input : AgentInput) (before after : AgentList) (gained : List SignCall) (sent : Option Record)
    → Makes (input_turn now conn input before) gained (record { records = listed sent; list = after }) → MakesFirst (input_turn now conn input before) gained
cut_of now conn input before after gained sent made = all_first (input_turn now conn input before) gained (record { records = listed sent; list = after }) made

-- one input alone
alone_made : (now conn : ℕ) (input : AgentInput) (l l' : AgentList) (g : List SignCall) (records : List Record) → Makes (input_turn now conn input l) g (record { records = records; list = l' })
    → Makes (each_turn now conn (input ∷ []) l) g (record { records = records; list = l' })
alone_made now conn input l l' g records made =
    all_on now conn (input ∷ []) l g records l' (one_on now conn (input ∷ []) l [] g [] records input [] l l' (at_begin now conn (input ∷ []) l) made)

-- ---- events

module _ (now : ℕ) (event : AgentEvent) (s : Served) (gained : List SignCall) where
  abbrev Inputs : Asking AfterInput
  Inputs = each_turn now (conn_of event) (event_inputs event s.bytes) s.list

  event_made : (sent : AfterInput) → Makes Inputs gained sent → Makes (agent_turn now event s) gained (kept_with (event_bytes event s.bytes) sent)
  unfolding agent_turn
  event_made sent makes = makes_on (kept_with (event_bytes event s.bytes)) Inputs gained sent makes

  event_first : MakesFirst Inputs gained → MakesFirst (agent_turn now event s) gained
  unfolding agent_turn
  event_first first = first_on (kept_with (event_bytes event s.bytes)) Inputs gained first

-- the signer wasn't asked
pub event_none : (now : ℕ) (event : AgentEvent) (s : Served) (calls : List SignCall) → MakesFirst (agent_turn now event s) (since calls calls)
event_none now event s calls = rw (none_since calls) (none_first (agent_turn now event s))

module _ (now conn : ℕ) (input : AgentInput) (s : Served) (gained : List SignCall) where
  pub input_event_made : (after : AgentList) (held records : List Record) → held ≡ [] → SaysInput now conn input s.list gained after held records
      → Makes (agent_turn now (events.Input conn input) s) gained (record { records = records; state = record { list = after; bytes = s.bytes } })
  input_event_made after held records empty (sent, added, made) =
      rw (added, empty) (event_made now (events.Input conn input) s gained (record { records = sent; list = after }) (alone_made now conn input s.list after gained sent made))

  pub input_event_first : MakesFirst (input_turn now conn input s.list) gained → MakesFirst (agent_turn now (events.Input conn input) s) gained
  input_event_first first = event_first now (events.Input conn input) s gained (each_cut now conn input [] s.list gained first)

module _ (now conn : ℕ) (piece : List ℕ) (s : Served) (frames : FrameBytes) (is : frames ≡ pushed (bytes_at s.bytes conn) piece) (gained : List SignCall) where
  abbrev FrameInputs : Asking AfterInput
  FrameInputs = each_turn now conn (inputs_of frames) s.list

  pub bytes_event_made : (left : FrameBytes) (after : AgentList) (records : List Record) → left ≡ rest_of frames → Makes FrameInputs gained (record { records = records; list = after })
      → Makes (agent_turn now (events.Bytes conn piece) s) gained (record { records = records; state = record { list = after; bytes = with_bytes s.bytes conn left } })
  bytes_event_made left after records rest makes =
      rw (rest, is) (event_made now (events.Bytes conn piece) s gained (record { records = records; list = after }) (subst (λ (f : FrameBytes). Makes (each_turn now conn (inputs_of f) s.list) gained (record { records = records; list = after })) is makes))

  pub bytes_event_first : MakesFirst FrameInputs gained → MakesFirst (agent_turn now (events.Bytes conn piece) s) gained
  bytes_event_first first = event_first now (events.Bytes conn piece) s gained (subst (λ (f : FrameBytes). MakesFirst (each_turn now conn (inputs_of f) s.list) gained) is first)

  pub bytes_event_all : (after : AgentList) (records : List Record) → Makes FrameInputs gained (record { records = records; list = after }) → MakesFirst (agent_turn now (events.Bytes conn piece) s) gained
  bytes_event_all after records makes = bytes_event_first (all_first FrameInputs gained (record { records = records; list = after }) makes)
