-- The moments of a connection's calls: for one call, for one more, and for the last.
use Rattle.std.proofs.Common.{◌≡◌, ◌⊎◌, ℕ, ◌+◌, List, [], ◌∷◌, ◌++◌, length, Option, Result, Ok, Err, IfOk, OnErr, refl, sym, ap, subst, ◌∙◌, arith, append_assoc, length-append, inl, inr}
use Rattle.std.proofs.lemmas.List.{append-nil, append_cancel_left, map-append}
use Rattle.sshc_wire.specs.declared.error.NoMemory.{NoMemory}
use Rattle.sshc_wire.specs.Contents.{append}
use Rattle.sshc_wire.specs.ContentsLaws.{append-append, append-nothing}
use Rattle.sshc_wire.specs.Faults.{Rose}
use Rattle.sshc_key.specs.Signers.{SignCall}
use Rattle.sshc_agent_core.specs.declared.input.AgentInput.{AgentInput}
use Rattle.sshc_agent_core.specs.declared.input.AgentInput.TheVariants as inputs
use Rattle.sshc_agent_core.specs.declared.input.AgentOutput.{AgentOutput}
use Rattle.sshc_agent_shared.specs.declared.call.Call.{Call}
use Rattle.sshc_agent_shared.specs.declared.error.CallRefused.{CallRefused}
use Rattle.sshc_agent_shared.specs.Calls.{call_of}
use Rattle.sshc_agent_shared.specs.Closing.{Tells}
use Rattle.sshc_agent_shared.specs.Kept.{SeatState, refused_once}
use Rattle.sshc_agent.specs.Moments.{IsTick, Timed, TimedSoFar, moments_of}
use Rattle.sshc_agent.specs.declared.turn.Next.TheVariants as steps
use Rattle.sshc_agent.specs.declared.turn.Ended.{Ended}
use Rattle.sshc_agent.specs.declared.turn.Ended.TheVariants as ends
use Rattle.sshc_agent.specs.Talk.{Allows, Closes, Confirms, IsCall, IsRefused, StreamSeen, Turned}

-- ---- one call

same_call : (a b : Call) → a ∷ [] ≡ b ∷ [] → a ≡ b
same_call a b e = cc

-- the one call that was added
one_added : (calls : List Call) (a b : Call) → calls ++ a ∷ [] ≡ calls ++ b ∷ [] → a ≡ b
one_added calls a b same = same_call a b (append_cancel_left calls (a ∷ []) (b ∷ []) same)

-- nothing was added
none_added : (calls : List Call) (a : Call) → calls ≡ calls ++ a ∷ [] → ⊥
none_added calls a same = absurd (omega (arith, ap (length {A = Call}) same, length-append calls (a ∷ [])))

pub ticked : (told told' : Option (List ℕ)) (seat seat' : SeatState) (now : ℕ) (input : AgentInput) (gained : List SignCall) (r : Result AgentOutput CallRefused)
    → told' ≡ append told (now ∷ []) → IfOk r (λ out. Tells seat seat' (call_of now input out) gained) → OnErr r (seat' ≡ refused_once seat) → IsTick told told' seat seat'
ticked told told' seat seat' now input gained (Ok output) tick tells refused =
    record {
      now = now;
      tick = tick;
      taken = λ call is. ap (λ (c : Call). c.moment) (one_added seat.calls call (call_of now input output) (sym is ∙ ap (λ (s : SeatState). s.calls) tells.added));
    }
ticked told told' seat seat' now input gained (Err e) tick tells refused =
    record {
      now = now;
      tick = tick;
      taken = λ call is. absurd (none_added seat.calls call (sym (ap (λ (s : SeatState). s.calls) refused) ∙ is));
    }

-- ---- a connection

moments_push : (calls : List Call) (c : Call) → moments_of (calls ++ c ∷ []) ≡ moments_of calls ++ c.moment ∷ []
moments_push calls c = map-append (λ (x : Call). x.moment) calls (c ∷ [])

module _ (told0 : Option (List ℕ)) (seat0 : SeatState) where
  pub no_call : TimedSoFar told0 told0 seat0 seat0
  no_call = record { added = []; calls = sym (append-nil seat0.calls); moments = sym (append-nothing told0); unrefused = refl }

  -- no call follows
  pub stopped : (told : Option (List ℕ)) (seat : SeatState) → TimedSoFar told0 told seat0 seat → Timed told0 told seat0 seat
  stopped told seat s =
      record {
        added = s.added;
        calls = s.calls;
        refused_at = [];
        moments = s.moments ∙ ap (append told0) (sym (append-nil (moments_of s.added)));
        once = inl refl;
      }

  module _ (told told' : Option (List ℕ)) (seat seat' : SeatState) (s : TimedSoFar told0 told seat0 seat) (t : IsTick told told' seat seat') where
    pub one_more : (input : AgentInput) (c : Call) → IsCall seat seat' input c → TimedSoFar told0 told' seat0 seat'
    one_more input c is =
        record {
          added = s.added ++ c ∷ [];
          calls = is.calls ∙ (ap (λ (x : List Call). x ++ c ∷ []) s.calls ∙ append_assoc seat0.calls s.added (c ∷ []));
          moments =
              t.tick ∙ (ap (λ (x : Option (List ℕ)). append x (t.now ∷ [])) s.moments ∙ (append-append told0 (moments_of s.added) (t.now ∷ [])
              ∙ ap (append told0) (ap (λ (n : ℕ). moments_of s.added ++ n ∷ []) (sym (t.taken c is.calls)) ∙ sym (moments_push s.added c))));
          unrefused = is.unrefused ∙ s.unrefused;
        }

    -- the last call
    pub called_last : (input : AgentInput) (c : Call) → IsCall seat seat' input c → Timed told0 told' seat0 seat'
    called_last input c is = stopped told' seat' (one_more input c is)

    pub refused_last : IsRefused seat seat' → Timed told0 told' seat0 seat'
    refused_last is =
        record {
          added = s.added;
          calls = is.calls ∙ s.calls;
          refused_at = t.now ∷ [];
          moments = t.tick ∙ (ap (λ (x : Option (List ℕ)). append x (t.now ∷ [])) s.moments ∙ append-append told0 (moments_of s.added) (t.now ∷ []));
          once = inr (refl, subst (λ (n : ℕ). Rose n seat'.refused) s.unrefused is.counted);
        }

    -- whatever it ended by
    pub ended_last : (allows : Allows) (confirms : Confirms) (input : AgentInput) (before after : StreamSeen) (ended : Ended) → Turned allows confirms input before after seat seat' (steps.Ends ended) → Timed told0 told' seat0 seat'
    ended_last allows confirms input before after ends.Refused t = refused_last t.0
    ended_last allows confirms input before after ends.Closed t = called_last input t.0 t.1
    ended_last allows confirms input before after ends.WriteFailed t = called_last input t.0 t.1
    ended_last allows confirms input before after ends.Starved t = called_last input t.0 t.1

    pub closed_last : Closes seat seat' → Timed told0 told' seat0 seat'
    closed_last (inl (c, is, silent, unsaid)) = called_last inputs.Close c is
    closed_last (inr is) = refused_last is
