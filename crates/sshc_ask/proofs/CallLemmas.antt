-- A call that sent its frame and read the answer.
use Rattle.std.proofs.Common.{◌≡◌, ℕ, ◌+◌, ◌≤◌, List, [], length, Option, Result, Ok, Err, refl, sym, subst, arith, inl, inr}
use Rattle.std.specs.Prelude.{Vec}
use Rattle.std.specs.declared.alloc.Global.{Global}
use Rattle.sshc_wire.specs.Contents.{append}
use Rattle.sshc_wire.specs.ContentsLaws.{append-nothing, prepend-nothing}
use Rattle.sshc_key.specs.declared.error.Error.{Error}
use Rattle.sshc_key.specs.declared.error.Error.TheVariants.{NoMemory, ReadFault, UnexpectedEnd}
use Rattle.sshc_ask.specs.SourceState.{SourceState, source_state, ReadsAnswer, StopsBy}
use Rattle.sshc_ask.specs.StreamState.{StreamState}
use Rattle.sshc_ask.specs.CallLaws.{is_complete}
use Rattle.sshc_ask.specs.AgentCalls.{AnswerIs, Answers, Calls, Course, UnheardBy, answered, oversized, unheard, unsent}

-- what was read after a frame that was written whole
pub record Wrote (frame : List ℕ) (s t : StreamState) : Type 0 where
  pub held : t.held ≡ append s.held frame
  pub faults : t.write_faults ≡ s.write_faults
  pub writes : t.writes ≤ s.writes + length frame + 1
  pub refusals : t.refusals ≡ s.refusals

abbrev pub source_of : StreamState → SourceState
source_of s = source_state s.left s.reads s.read_faults

-- reading stopped, and no write failed
stopped : (e : Error) (s t : StreamState) → t.write_faults ≡ s.write_faults → StopsBy e (source_of s) (source_of t) → UnheardBy e s t
stopped ReadFault s t same stops = record { write_faults = same; read_faults = stops }
stopped UnexpectedEnd s t same stops = (record { write_faults = same; read_faults = stops.0 }, stops.1)
stopped NoMemory s t same stops = record { write_faults = same; read_faults = stops }
stopped e s t same stops = absurd stops

pub heard : (frame : List ℕ) (s t : StreamState) (r : Result (Vec ℕ Global) Error) → Wrote frame s t → ReadsAnswer (source_of s) (source_of t) r → Calls frame (AnswerIs r) s t r
heard frame s t (Ok v) wrote (short, whole) = record {
  course = answered v.items;
  is = short;
  sent = wrote.held;
  left = whole.left;
  complete = is_complete (answered v.items) s.left t.left short whole.left;
  answer = (refl, record { write_faults = wrote.faults; read_faults = whole.faults });
  writes = wrote.writes;
  reads = omega (arith, whole.reads);
  refusals = wrote.refusals;
}
heard frame s t (Err e) wrote (inl (n, long, is, whole)) = record {
  course = oversized n;
  is = long;
  sent = wrote.held;
  left = whole.left;
  complete = is_complete (oversized n) s.left t.left long whole.left;
  answer = (is, record { write_faults = wrote.faults; read_faults = whole.faults });
  writes = wrote.writes;
  reads = omega (arith, whole.reads);
  refusals = wrote.refusals;
}
heard frame s t (Err e) wrote (inr (given, cut, takes, stops)) = record {
  course = unheard given;
  is = cut;
  sent = wrote.held;
  left = takes.left;
  complete = is_complete (unheard given) s.left t.left cut takes.left;
  answer = stopped e s t wrote.faults stops;
  writes = wrote.writes;
  reads = takes.reads;
  refusals = wrote.refusals;
}

-- ---- calls made of an exchange

some_held : (o : Option (List ℕ)) → o ≡ append o []
some_held o = sym (append-nothing o)

-- nothing was done, because memory ran out
pub unstarted : {X : Type 0} (frame : List ℕ) (reading : List ℕ → Type 0) (s : StreamState) → Calls {X = X} frame reading s s (Err NoMemory)
unstarted frame reading s = record {
  course = unsent;
  is = tt;
  sent = ([], frame, refl, some_held s.held);
  left = sym (prepend-nothing s.left);
  complete = tt;
  answer = record { write_faults = refl; read_faults = refl };
  writes = omega arith;
  reads = omega arith;
  refusals = refl;
}

no_answer : (X : Type 0) (e : Error) (course : Course) (reading : List ℕ → Type 0) (s t : StreamState) → Answers {X = Vec ℕ Global} course (AnswerIs (Err e)) s t (Err e) → Answers {X = X} course reading s t (Err e)
no_answer X e unsent reading s t h = h
no_answer X e (unheard given) reading s t h = h
no_answer X e (oversized n) reading s t h = h
no_answer X e (answered a) reading s t h = absurd h.0

-- an exchange that failed
pub gave_up : {X : Type 0} (frame : List ℕ) (reading : List ℕ → Type 0) (s t : StreamState) (e : Error) → Calls {X = Vec ℕ Global} frame (AnswerIs (Err e)) s t (Err e) → Calls {X = X} frame reading s t (Err e)
gave_up {X} frame reading s t e call = record {
  course = call.course;
  is = call.is;
  sent = call.sent;
  left = call.left;
  complete = call.complete;
  answer = no_answer X e call.course reading s t call.answer;
  writes = call.writes;
  reads = call.reads;
  refusals = call.refusals;
}

read_so : {X : Type 0} (v : Vec ℕ Global) (course : Course) (reading : List ℕ → Type 0) (s t : StreamState) (r : Result X Error) → reading v.items → Answers course (AnswerIs (Ok v)) s t (Ok v) → Answers {X = X} course reading s t r
read_so v unsent reading s t r fits h = absurd h
read_so v (unheard given) reading s t r fits h = absurd h
read_so v (oversized n) reading s t r fits h = absurd h
read_so v (answered a) reading s t r fits h = (subst reading h.0 fits, h.1)

-- an answer that came, and its reading
pub read_whole : {X : Type 0} (frame : List ℕ) (reading : List ℕ → Type 0) (s t : StreamState) (v : Vec ℕ Global) (r : Result X Error) → Calls frame (AnswerIs (Ok v)) s t (Ok v) → reading v.items → Calls {X = X} frame reading s t r
read_whole frame reading s t v r call fits = record {
  course = call.course;
  is = call.is;
  sent = call.sent;
  left = call.left;
  complete = call.complete;
  answer = read_so v call.course reading s t r fits call.answer;
  writes = call.writes;
  reads = call.reads;
  refusals = call.refusals;
}
