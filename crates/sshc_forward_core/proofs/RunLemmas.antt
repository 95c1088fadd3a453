-- A run so far, and one event more.
use Rattle.std.proofs.Common.{◌≡◌, ℕ, ◌+◌, Bool, true, false, List, [], ◌∷◌, ◌++◌, length, Option, None, Result, Ok, Err, refl, sym, ap, subst, ◌∙◌, inl, inr, ◌⊎◌, append_assoc, length-append}
use Rattle.std.specs.FinMap.{len}
use Rattle.std.proofs.lemmas.List.{append-nil}
use Rattle.std.proofs.lemmas.List.Concat.{flat_map-append}
use Rattle.sshc_wire.specs.Contents.{prepend, append, WroteFront}
use Rattle.sshc_wire.specs.ContentsLaws.{prepend-prepend, prepend-nothing, append-append, append-nothing}
use Rattle.sshc_forward_core.specs.declared.event.FwdEvent.{FwdEvent}
use Rattle.sshc_forward_core.specs.declared.output.FwdOutput.{FwdOutput}
use Rattle.sshc_forward_core.specs.declared.error.FwdError.{FwdError}
use Rattle.sshc_forward_core.specs.declared.error.FwdError.TheVariants as errors
use Rattle.sshc_forward_core.specs.Forwards.{Forwards, no_pairs, is_taken, effect}
use Rattle.sshc_forward_core.specs.PairAccount.{ran}
use Rattle.sshc_forward_core.specs.EventReading.{IsWhole, Gave, NextGives}
use Rattle.sshc_forward_core.specs.declared.error.NextFault.{NextFault}
use Rattle.sshc_forward_core.specs.declared.error.NextFault.TheVariants as nexts
use Rattle.sshc_forward_core.specs.OutputLines.{line, lines}
use Rattle.sshc_forward_core.specs.ForwardRun.{Streams, AreEvents, NoneTaken, WroteAll, Ended, Unread, CutAt, Runs, DidOne, ReadOnly, CutOne, NoMore, OneGives, WritesGive, StepGives, streams}

are-more : (events : List FwdEvent) (event : FwdEvent) (bytes one : List ℕ) → AreEvents events bytes → IsWhole event one → AreEvents (events ++ event ∷ []) (bytes ++ one)
are-more [] event bytes one is whole = (one, [], ap (λ (l : List ℕ). l ++ one) is ∙ sym (append-nil one), whole, refl)
are-more (e ∷ events) event bytes one is whole =
    (is.0, is.1 ++ one, ap (λ (l : List ℕ). l ++ one) is.2 ∙ append_assoc is.0 is.1 one, is.3, are-more events event is.1 one is.4 whole)

none-more : (events : List FwdEvent) (event : FwdEvent) (t : Forwards) → NoneTaken events t → is_taken event (ran events t).after ≡ false → NoneTaken (events ++ event ∷ []) t
none-more [] event t none free = (free, tt)
none-more (e ∷ events) event t none free = (none.0, none-more events event (effect e t).after none.1 free)

ran-more : (events : List FwdEvent) (event : FwdEvent) (t : Forwards) → (ran (events ++ event ∷ []) t).after ≡ (effect event (ran events t).after).after
ran-more [] event t = refl
ran-more (e ∷ events) event t = ran-more events event (effect e t).after

said-more : (events : List FwdEvent) (event : FwdEvent) (t : Forwards) → (ran (events ++ event ∷ []) t).outputs ≡ (ran events t).outputs ++ (effect event (ran events t).after).outputs
said-more [] event t = append-nil (effect event t).outputs
said-more (e ∷ events) event t =
    ap (λ (l : List FwdOutput). (effect e t).outputs ++ l) (said-more events event (effect e t).after)
    ∙ sym (append_assoc (effect e t).outputs (ran events (effect e t).after).outputs (effect event (ran events (effect e t).after).after).outputs)

lines-more : (events : List FwdEvent) (event : FwdEvent) (t : Forwards) → lines (ran (events ++ event ∷ []) t).outputs ≡ lines (ran events t).outputs ++ lines (effect event (ran events t).after).outputs
lines-more events event t = ap lines (said-more events event t) ∙ flat_map-append line (ran events t).outputs (effect event (ran events t).after).outputs

-- a run so far
pub record SoFar (old now : Streams) (t : Forwards) (at : ℕ) : Type 0 where
  pub events : List FwdEvent
  pub bytes : List ℕ
  pub spelled : AreEvents events bytes
  pub free : NoneTaken events no_pairs
  pub read : old.left ≡ prepend bytes now.left
  pub wrote : WroteAll old now events
  pub reached : t ≡ (ran events no_pairs).after
  pub place : length bytes ≡ at

pub run_starts : (old : Streams) (t : Forwards) → t ≡ no_pairs → SoFar old old t 0
run_starts old t is = record {
  events = [];
  bytes = [];
  spelled = refl;
  free = tt;
  read = sym (prepend-nothing old.left);
  wrote = sym (append-nothing old.contents);
  reached = is;
  place = refl;
}

read_on : (a b : List ℕ) (old mid new : Option (List ℕ)) → old ≡ prepend a mid → mid ≡ prepend b new → old ≡ prepend (a ++ b) new
read_on a b old mid new first second = first ∙ ap (prepend a) second ∙ prepend-prepend a b new

free_there : (event : FwdEvent) (t u : Forwards) (b : Bool) → t ≡ u → is_taken event t ≡ b → is_taken event u ≡ b
free_there event t u b same is = ap (is_taken event) (sym same) ∙ is

pub run_goes_on :
    (old mid new : Streams) (t after : Forwards) (at now : ℕ) → SoFar old mid t at → DidOne mid new t after at now → SoFar old new after now
run_goes_on old mid new t after at now s d =
    record {
      events = s.events ++ d.event ∷ [];
      bytes = s.bytes ++ d.one;
      spelled = are-more s.events d.event s.bytes d.one s.spelled d.took.is_event;
      free = none-more s.events d.event no_pairs s.free (free_there d.event t (ran s.events no_pairs).after false s.reached d.took.free);
      read = read_on s.bytes d.one old.left mid.left new.left s.read d.took.read;
      wrote = d.wrote ∙ ap (λ (o : Option (List ℕ)). append o (lines (effect d.event t).outputs)) s.wrote
          ∙ append-append old.contents (lines (ran s.events no_pairs).outputs) (lines (effect d.event t).outputs)
          ∙ ap (λ (u : Forwards). append old.contents (lines (ran s.events no_pairs).outputs ++ lines (effect d.event u).outputs)) s.reached
          ∙ ap (append old.contents) (sym (lines-more s.events d.event no_pairs));
      reached = d.moved ∙ ap (λ (u : Forwards). (effect d.event u).after) s.reached ∙ sym (ran-more s.events d.event no_pairs);
      place = length-append s.bytes d.one ∙ ap (λ (k : ℕ). k + length d.one) s.place ∙ sym d.place;
    }

pub run_ends : (old mid new : Streams) (t after : Forwards) (at left : ℕ) → SoFar old mid t at → NoMore mid new t after → left ≡ len after.pairs → Ended old new left
run_ends old mid new t after at left s m count =
    record {
      events = s.events;
      bytes = s.bytes;
      took = record {
        spelled = s.spelled;
        free = s.free;
        read = s.read ∙ ap (prepend s.bytes) m.left ∙ ap (λ (l : List ℕ). prepend l new.left) (sym (append-nil s.bytes));
      };
      end = m.end;
      wrote = m.same ∙ s.wrote;
      pairs = count ∙ ap (λ (u : Forwards). len u.pairs) (m.unmoved ∙ s.reached);
    }

-- nothing was read but bytes of no event, or the event's step ran out of memory
pub run_unread : (old mid new : Streams) (t : Forwards) (at : ℕ) → SoFar old mid t at → ReadOnly mid new → Unread old new
run_unread old mid new t at s r = record {
  events = s.events;
  bytes = s.bytes;
  more = r.bytes;
  took = record { spelled = s.spelled; free = s.free; read = read_on s.bytes r.bytes old.left mid.left new.left s.read r.read };
  wrote = r.same ∙ s.wrote;
}

-- the event's lines were cut
pub run_cut : (old mid new : Streams) (t : Forwards) (at : ℕ) → SoFar old mid t at → CutOne mid new t → CutAt old new
run_cut old mid new t at s c = record {
  events = s.events;
  bytes = s.bytes;
  event = c.event;
  one = c.one;
  took = record { spelled = s.spelled; free = s.free; read = read_on s.bytes c.one old.left mid.left new.left s.read c.took.read };
  is_event = c.took.is_event;
  free = free_there c.event t (ran s.events no_pairs).after false s.reached c.took.free;
  wrote =
      subst (λ (u : Forwards). WroteFront (append old.contents (lines (ran s.events no_pairs).outputs)) new.contents (lines (effect c.event u).outputs)) s.reached
      (subst (λ (o : Option (List ℕ)). WroteFront o new.contents (lines (effect c.event t).outputs)) s.wrote c.wrote);
}

pub run_starved : (old mid new : Streams) (t : Forwards) (at : ℕ) → SoFar old mid t at → ReadOnly mid new ⊎ CutOne mid new t → Unread old new ⊎ CutAt old new
run_starved old mid new t at s (inl r) = inl (run_unread old mid new t at s r)
run_starved old mid new t at s (inr c) = inr (run_cut old mid new t at s c)

-- a run that stops at an error
pub run_stops : (old mid new : Streams) (t after : Forwards) (at now : ℕ) (e : FwdError) → SoFar old mid t at → OneGives mid new t after at now (Err e) → Runs old new (Err e)
run_stops old mid new t after at now (errors.BadEvent place) s o =
    record {
      events = s.events;
      bytes = s.bytes;
      bad = o.0.bad;
      took = record { spelled = s.spelled; free = s.free; read = read_on s.bytes o.0.bad old.left mid.left new.left s.read o.0.read };
      place = s.place ∙ sym o.1;
      is_bad = o.0.is_bad;
      wrote = o.0.same ∙ s.wrote;
    }
run_stops old mid new t after at now (errors.Taken place) s o =
    record {
      events = s.events;
      bytes = s.bytes;
      event = o.0.event;
      one = o.0.one;
      took = record { spelled = s.spelled; free = s.free; read = read_on s.bytes o.0.one old.left mid.left new.left s.read o.0.read };
      place = s.place ∙ sym o.1;
      is_event = o.0.is_event;
      taken = free_there o.0.event t (ran s.events no_pairs).after true s.reached o.0.taken;
      wrote = o.0.same ∙ s.wrote;
    }
run_stops old mid new t after at now errors.NoMemory s o = run_starved old mid new t at s o
run_stops old mid new t after at now errors.ReadFault s o = run_unread old mid new t at s o
run_stops old mid new t after at now errors.WriteFault s o = run_cut old mid new t at s o

-- ---- one event, by its step

pub one_done :
    {A : Type 0} (event : FwdEvent) (size : ℕ) (a b old new : Option (List ℕ)) (t after : Forwards) (at now : ℕ) (x : A) →
    Gave a b (λ bytes. IsWhole event bytes × (length bytes ≡ size)) → now ≡ at + size →
    StepGives event old new t after at (Ok x) → OneGives (streams a old) (streams b new) t after at now (Ok true)
one_done event size a b old new t after at now x g is d =
    record {
      event = event;
      one = g.0;
      took = record { is_event = g.2.0; free = d.0; read = g.1 };
      place = is ∙ ap (λ (k : ℕ). at + k) (sym g.2.1);
      moved = d.1;
      wrote = d.2;
    }

pub one_failed :
    (A : Type 0) (event : FwdEvent) (size : ℕ) (a b old new : Option (List ℕ)) (t after : Forwards) (at now : ℕ) (e : FwdError) →
    Gave a b (λ bytes. IsWhole event bytes × (length bytes ≡ size)) →
    StepGives {A = A} event old new t after at (Err e) → OneGives (streams a old) (streams b new) t after at now (Err e)
one_failed A event size a b old new t after at now (errors.BadEvent place) g d = absurd d
one_failed A event size a b old new t after at now (errors.Taken place) g d =
    (record { event = event; one = g.0; is_event = g.2.0; taken = d.0; read = g.1; same = d.1 }, d.2)
one_failed A event size a b old new t after at now errors.NoMemory g (inl same) =
    inl (record { bytes = g.0; read = g.1; same = same })
one_failed A event size a b old new t after at now errors.NoMemory g (inr d) =
    inr (record { event = event; one = g.0; took = record { is_event = g.2.0; free = d.0; read = g.1 }; wrote = d.1 })
one_failed A event size a b old new t after at now errors.ReadFault g d = absurd d
one_failed A event size a b old new t after at now errors.WriteFault g d =
    record { event = event; one = g.0; took = record { is_event = g.2.0; free = d.0; read = g.1 }; wrote = d.1 }

-- no event was read
pub none_read :
    (a b held : Option (List ℕ)) (t after : Forwards) (at now : ℕ) (e : NextFault) → NextGives a b (Err e) →
    OneGives (streams a held) (streams b held) t after at now
    (Err (elim e [ nexts.NoMemory ↦ errors.NoMemory | nexts.ReadFault ↦ errors.ReadFault | nexts.Bad ↦ errors.BadEvent at ]))
none_read a b held t after at now nexts.NoMemory g = inl (record { bytes = g.0; read = g.1; same = refl })
none_read a b held t after at now nexts.ReadFault g = record { bytes = g.0; read = g.1; same = refl }
none_read a b held t after at now nexts.Bad g = (record { bad = g.0; read = g.1; is_bad = g.2; same = refl }, refl)

-- a run that has taken as many events as it can
pub run_idle : (old mid : Streams) (t : Forwards) (at : ℕ) → SoFar old mid t at → Runs old mid (Err errors.NoMemory)
run_idle old mid t at s = inl (run_unread old mid mid t at s (record { bytes = []; read = sym (prepend-nothing mid.left); same = refl }))

-- ---- a step, by its outputs

-- a step took the event, and its outputs were written, or a front of them
pub step_gives :
    {A : Type 0} (event : FwdEvent) (old new : Option (List ℕ)) (t after : Forwards) (items : List FwdOutput) (at : ℕ) (result : Result A FwdError) →
    (is_taken event t ≡ false) × (after ≡ (effect event t).after) × (items ≡ (effect event t).outputs) →
    WritesGive items old new result → StepGives event old new t after at result
step_gives event old new t after items at (Ok x) s w = (s.0, s.1, w ∙ ap (λ (l : List FwdOutput). append old (lines l)) s.2)
step_gives event old new t after items at (Err errors.NoMemory) s w =
    inr (s.0, subst (λ (l : List FwdOutput). WroteFront old new (lines l)) s.2 w)
step_gives event old new t after items at (Err errors.WriteFault) s w =
    (s.0, subst (λ (l : List FwdOutput). WroteFront old new (lines l)) s.2 w)
step_gives event old new t after items at (Err (errors.BadEvent place)) s w = absurd w
step_gives event old new t after items at (Err (errors.Taken place)) s w = absurd w
step_gives event old new t after items at (Err errors.ReadFault) s w = absurd w

pub none_more_to_read :
    (a b held : Option (List ℕ)) (t : Forwards) (at now : ℕ) → NextGives a b (Ok None) → OneGives (streams a held) (streams b held) t t at now (Ok false)
none_more_to_read a b held t at now g = record { left = g.0; end = g.1; same = refl; unmoved = refl }
