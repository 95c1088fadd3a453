-- The signer's calls during a connection's calls: for one call, and for calls one after another.
use Rattle.std.proofs.Common.{◌≡◌, ◌≤◌, ℕ, Bool, List, [], ◌∷◌, ◌++◌, Result, Ok, Err, IfOk, OnErr, OnOk, refl, sym, ap, subst, ◌∙◌, append_assoc, arith}
use Rattle.std.proofs.lemmas.List.{append-nil}
use Rattle.sshc_wire.specs.Faults.{Rose}
use Rattle.sshc_key.specs.Signers.{SignCall, since}
use Rattle.sshc_agent_core.specs.declared.input.AgentInput.{AgentInput}
use Rattle.sshc_agent_core.specs.declared.input.AgentOutput.{AgentOutput}
use Rattle.sshc_agent_core.specs.declared.input.AgentOutput.TheVariants.{Closed}
use Rattle.sshc_agent_core.specs.declared.input.Cause.TheVariants.{SignerRefused}
use Rattle.sshc_agent_shared.specs.declared.call.Call.{Call}
use Rattle.sshc_agent_shared.specs.declared.error.CallRefused.{CallRefused}
use Rattle.sshc_agent_shared.specs.Calls.{call_of}
use Rattle.sshc_agent_shared.specs.Closing.{Tells}
use Rattle.sshc_agent_shared.specs.Kept.{SeatState, refused_once}
use Rattle.sshc_agent_shared.specs.declared.error.LastingRefused.{LastingRefused}
use Rattle.sshc_agent_shared.specs.LastingApart.{AsksLastingOnce, TellsLastingApart}
use Rattle.sshc_agent.specs.Signing.{AreAttempts, AreSteps, Attempt, Caused, EachRefused, Signs, SignsLasting}

pub signs_nothing : (signed : List SignCall) (seat : SeatState) → Signs signed signed seat seat
signs_nothing signed seat = record { added = []; calls = sym (append-nil seat.calls); conn = refl; gained = []; list = sym (append-nil signed); steps = refl }

-- one call, answered or refused
pub signs_once : (signed signed' : List SignCall) (seat seat' : SeatState) (now : ℕ) (input : AgentInput) (r : Result AgentOutput CallRefused)
    → IfOk r (λ out. Tells seat seat' (call_of now input out) (since signed signed')) → OnOk r (signed' ≡ signed ++ since signed signed')
    → OnErr r (seat' ≡ refused_once seat) → OnErr r (signed' ≡ signed) → Signs signed signed' seat seat'
signs_once signed signed' seat seat' now input (Ok output) tells asked refused unasked =
    record {
      added = call_of now input output ∷ [];
      calls = ap (λ (s : SeatState). s.calls) tells.added;
      conn = ap (λ (s : SeatState). s.conn) tells.added;
      gained = since signed signed';
      list = asked;
      steps = (since signed signed', [], sym (append-nil (since signed signed')), tells.step, refl);
    }
signs_once signed signed' seat seat' now input (Err e) tells asked refused unasked =
    record {
      added = [];
      calls = ap (λ (s : SeatState). s.calls) refused ∙ sym (append-nil seat.calls);
      conn = ap (λ (s : SeatState). s.conn) refused;
      gained = [];
      list = unasked ∙ sym (append-nil signed);
      steps = refl;
    }

steps_on : (conn : ℕ) (calls more : List Call) (gained gained' : List SignCall) → AreSteps conn calls gained → AreSteps conn more gained' → AreSteps conn (calls ++ more) (gained ++ gained')
steps_on conn [] more gained gained' none on = subst (λ (g : List SignCall). AreSteps conn more (g ++ gained')) (sym none) on
steps_on conn (call ∷ calls) more gained gained' (first, rest, parts, step, steps) on =
    (first, rest ++ gained', ap (λ (g : List SignCall). g ++ gained') parts ∙ append_assoc first rest gained', step, steps_on conn calls more rest gained' steps on)

-- calls, and more calls after them
pub signs_on : (signed mid signed' : List SignCall) (seat seat' seat'' : SeatState) → Signs signed mid seat seat' → Signs mid signed' seat' seat'' → Signs signed signed' seat seat''
signs_on signed mid signed' seat seat' seat'' s t =
    record {
      added = s.added ++ t.added;
      calls = t.calls ∙ (ap (λ (x : List Call). x ++ t.added) s.calls ∙ append_assoc seat.calls s.added t.added);
      conn = t.conn ∙ s.conn;
      gained = s.gained ++ t.gained;
      list = t.list ∙ (ap (λ (x : List SignCall). x ++ t.gained) s.list ∙ append_assoc signed s.gained t.gained);
      steps = steps_on seat.conn s.added t.added s.gained t.gained s.steps (subst (λ (n : ℕ). AreSteps n t.added t.gained) s.conn t.steps);
    }

-- ---- why a connection is closed

pub caused_nothing : (count : ℕ) (seat : SeatState) → Caused count count seat seat
caused_nothing count seat = record { added = []; calls = sym (append-nil seat.calls); later = omega arith; cause = tt }

-- one call, answered or refused
pub caused_once : (count count' : ℕ) (seat seat' : SeatState) (now : ℕ) (input : AgentInput) (gained : List SignCall) (r : Result AgentOutput CallRefused)
    → IfOk r (λ out. Tells seat seat' (call_of now input out) gained) → IfOk r (λ out. out ≡ Closed SignerRefused → Rose count count')
    → count ≤ count' → OnErr r (seat' ≡ refused_once seat) → Caused count count' seat seat'
caused_once count count' seat seat' now input gained (Ok output) tells cause later refused =
    record { added = call_of now input output ∷ []; calls = ap (λ (s : SeatState). s.calls) tells.added; later = later; cause = (cause, tt) }
caused_once count count' seat seat' now input gained (Err e) tells cause later refused =
    record { added = []; calls = ap (λ (s : SeatState). s.calls) refused ∙ sym (append-nil seat.calls); later = later; cause = tt }

each_by : (P Q : Type 0) (calls : List Call) → (P → Q) → EachRefused P calls → EachRefused Q calls
each_by P Q [] by each = tt
each_by P Q (call ∷ calls) by (one, each) = ((λ closed. by (one closed)), each_by P Q calls by each)

each_on : (P : Type 0) (calls more : List Call) → EachRefused P calls → EachRefused P more → EachRefused P (calls ++ more)
each_on P [] more none each = each
each_on P (call ∷ calls) more (one, each) on = (one, each_on P calls more each on)

rose_on : (count mid count' : ℕ) → Rose count mid → mid ≤ count' → Rose count count'
rose_on count mid count' rose later = omega (arith, rose, later)

rose_from : (count mid count' : ℕ) → count ≤ mid → Rose mid count' → Rose count count'
rose_from count mid count' later rose = omega (arith, rose, later)

-- calls, and more calls after them
pub caused_on : (count mid count' : ℕ) (seat seat' seat'' : SeatState) → Caused count mid seat seat' → Caused mid count' seat' seat'' → Caused count count' seat seat''
caused_on count mid count' seat seat' seat'' s t =
    record {
      added = s.added ++ t.added;
      calls = t.calls ∙ (ap (λ (x : List Call). x ++ t.added) s.calls ∙ append_assoc seat.calls s.added t.added);
      later = omega (arith, s.later, t.later);
      cause =
          each_on (Rose count count') s.added t.added (each_by (Rose count mid) (Rose count count') s.added (λ rose. rose_on count mid count' rose t.later) s.cause)
          (each_by (Rose mid count') (Rose count count') t.added (λ rose. rose_from count mid count' s.later rose) t.cause);
    }

-- ---- an agent that lasts

pub lasting_nothing : (asks : Bool) (conn : ℕ) (signed : List SignCall) → SignsLasting asks conn signed signed
lasting_nothing asks conn signed = record { attempts = []; gained = []; list = sym (append-nil signed); are = refl }

-- one call, answered or refused
pub lasting_once : (asks : Bool) (conn : ℕ) (signed signed' : List SignCall) (now : ℕ) (input : AgentInput) (r : Result AgentOutput LastingRefused)
    → IfOk r (λ out. TellsLastingApart asks conn (call_of now input out) (since signed signed')) → AsksLastingOnce asks conn now input (since signed signed')
    → signed' ≡ signed ++ since signed signed' → SignsLasting asks conn signed signed'
lasting_once asks conn signed signed' now input (Ok output) tells once asked =
    record { attempts = Attempt.answered (call_of now input output) ∷ []; gained = since signed signed'; list = asked; are = (since signed signed', [], sym (append-nil (since signed signed')), (once, tells), refl) }
lasting_once asks conn signed signed' now input (Err e) tells once asked =
    record { attempts = Attempt.refused now input ∷ []; gained = since signed signed'; list = asked; are = (since signed signed', [], sym (append-nil (since signed signed')), once, refl) }

lasting_more : (asks : Bool) (conn : ℕ) (attempts more : List Attempt) (gained gained' : List SignCall) → AreAttempts asks conn attempts gained → AreAttempts asks conn more gained' → AreAttempts asks conn (attempts ++ more) (gained ++ gained')
lasting_more asks conn [] more gained gained' none on = subst (λ (g : List SignCall). AreAttempts asks conn more (g ++ gained')) (sym none) on
lasting_more asks conn (attempt ∷ attempts) more gained gained' (first, rest, parts, is, are) on =
    (first, rest ++ gained', ap (λ (g : List SignCall). g ++ gained') parts ∙ append_assoc first rest gained', is, lasting_more asks conn attempts more rest gained' are on)

-- calls, and more calls after them
pub lasting_on : (asks : Bool) (conn : ℕ) (signed mid signed' : List SignCall) → SignsLasting asks conn signed mid → SignsLasting asks conn mid signed' → SignsLasting asks conn signed signed'
lasting_on asks conn signed mid signed' s t =
    record {
      attempts = s.attempts ++ t.attempts;
      gained = s.gained ++ t.gained;
      list = t.list ∙ (ap (λ (x : List SignCall). x ++ t.gained) s.list ∙ append_assoc signed s.gained t.gained);
      are = lasting_more asks conn s.attempts t.attempts s.gained t.gained s.are t.are;
    }
