-- What is kept across the seam of two generations, and how they lead on.
use Rattle.std.proofs.Common.{◌≡◌, ℕ, suc, ◌+◌, ◌<◌, ◌≤◌, Bool, List, [], ◌∷◌, ◌++◌, length, length-append, sum_by, take, slice_index, Result, Ok, Err, IfOk, OnOk, OnErr, All, refl, sym, ap, subst, ◌∙◌, arith}
use Rattle.std.proofs.lemmas.Grind.{take_at_read}
use Rattle.std.proofs.lemmas.List.Elements.{Contains-append_left, Contains-append_right}
use Rattle.sshc_key.specs.Signers.{SignCall}
use Rattle.sshc_agent_core.specs.declared.entry.Entry.{Entry}
use Rattle.sshc_agent_core.specs.declared.input.AgentInput.{AgentInput}
use Rattle.sshc_agent_core.specs.declared.input.AgentOutput.{AgentOutput}
use Rattle.sshc_agent_core.specs.AgentHistory.{AreNumbered, Leads}
use Rattle.sshc_agent_core.specs.AgentList.{AgentList, empty_list, forgotten}
use Rattle.sshc_agent_core.specs.AgentTable.{Steps}
use Rattle.sshc_agent_core.specs.StepLaws.{forgotten_others, step_others}
use Rattle.sshc_agent_shared.specs.declared.error.CloseError.{CloseError}
use Rattle.sshc_agent_shared.specs.declared.error.LastingRefused.{LastingRefused}
use Rattle.sshc_agent_shared.specs.declared.error.CloseError.TheVariants.{NoMemory, SeatsOut, Torn}
use Rattle.sshc_agent_shared.specs.Calls.{call_of, calls_of, journal_weight}
use Rattle.sshc_agent_shared.specs.Closing.{Accounts, AccountsFrom, LockedCause, TornCause}
use Rattle.sshc_agent_shared.specs.Generations.{CarriesOn, IsLastingStep, IsReached, LeadOn, Past, PastState, conns_of, forgotten_all, next_of, renewed}
use Rattle.sshc_agent_shared.specs.Kept.{Adds, GenerationState, IsHistoryFrom, SeatState, SharedState, weight_of}

-- forgetting connections changes nothing else
pub carries_on : (gone : List ℕ) (last : AgentList) → CarriesOn gone last (forgotten_all gone last)
carries_on [] last = record { asks = refl; latest = refl; keys = refl; passphrase = refl; questions = λ conn none. refl }
carries_on (g ∷ gone) last =
    let rest : CarriesOn gone (forgotten g last) (forgotten_all gone (forgotten g last)) = carries_on gone (forgotten g last) in
    record {
      asks = rest.asks;
      latest = rest.latest;
      keys = rest.keys;
      passphrase = rest.passphrase;
      questions = λ conn none. rest.questions conn none.1 ∙ forgotten_others g last (forgotten g last) refl conn none.0;
    }

-- one connection more is forgotten
pub forgotten_more : (gone : List ℕ) (conn : ℕ) (l : AgentList) → forgotten_all (gone ++ conn ∷ []) l ≡ forgotten conn (forgotten_all gone l)
forgotten_more [] conn l = refl
forgotten_more (g ∷ gone) conn l = forgotten_more gone conn (forgotten g l)

-- the next connection of a list is forgotten
pub forgotten_at : (conns : List ℕ) (i : ℕ) (first mid after : AgentList) → i < length conns → mid ≡ forgotten_all (take i conns) first → after ≡ forgotten (slice_index conns i) mid
    → after ≡ forgotten_all (take (i + 1) conns) first
forgotten_at conns i first mid after within is next =
    next
    ∙ (ap (forgotten (slice_index conns i)) is
    ∙ (sym (forgotten_more (take i conns) (slice_index conns i) first)
    ∙ ap (λ (cs : List ℕ). forgotten_all cs first) (sym (take_at_read conns i 0 within).1)))

-- one generation more
lead_more : (past : List Past) (before last : AgentList) (next : Past) (after : AgentList) → LeadOn before past last → Leads last next.entries after → AreNumbered [] next.entries → LeadOn before (past ++ next ∷ []) (forgotten_all next.gone after)
lead_more [] before last next after is leads numbers = (after, subst (λ (l : AgentList). Leads l next.entries after) (sym is) leads, numbers, refl)
lead_more (p ∷ past) before last next after (mid, leads, numbers, more) then counted = (mid, leads, numbers, lead_more past (forgotten_all p.gone mid) last next after more then counted)

pub reached_next : (asks : Bool) (start last : AgentList) (entries : List Entry) (gone : List ℕ) → IsReached asks start → Leads start entries last → AreNumbered [] entries → IsReached asks (forgotten_all gone last)
reached_next asks start last entries gone is leads numbers =
    record { past = is.past ++ record { entries = entries; gone = gone } ∷ []; leads = lead_more is.past (empty_list asks) start (record { entries = entries; gone = gone }) last is.leads leads numbers }

-- an agent that holds nothing is reached
pub reached_new : (asks : Bool) (l : AgentList) → l ≡ empty_list asks → IsReached asks l
reached_new asks l is = record { past = []; leads = sym is }

-- so is the agent in mid generation
pub reached_now : (asks : Bool) (start l : AgentList) (entries : List Entry) → IsReached asks start → Leads start entries l → AreNumbered [] entries → IsReached asks l
reached_now asks start l entries is leads numbers = reached_next asks start l entries [] is leads numbers

-- a call of an agent in mid generation is a step of an agent that is reached
pub lasting_step :
    (asks : Bool) (start : AgentList) (conn now : ℕ) (input : AgentInput) (old new : SharedState) (seat seat' : SeatState) (gained : List SignCall) (output : AgentOutput)
    → IsReached asks start → IsHistoryFrom start old.journal old.list → seat.conn ≡ conn → Adds old new seat seat' now input gained output
    → IsLastingStep asks conn (call_of now input output) gained
lasting_step asks start conn now input old new seat seat' gained output reached history whose adds =
    let step : Steps now conn input old.list new.list gained output = subst (λ (c : ℕ). Steps now c input old.list new.list gained output) whose adds.step in
    record {
      before = old.list;
      reached = reached_now asks start old.list old.journal reached history.leads history.numbers;
      next = new.list;
      step = step;
      others = step_others now conn input old.list new.list gained output step;
    }

pub lasting_tells :
    (asks named : Bool) (start : AgentList) (conn now : ℕ) (input : AgentInput) (old new : SharedState) (seat seat' : SeatState) (gained : List SignCall) (r : Result AgentOutput LastingRefused)
    → asks ≡ named → IsReached asks start → IsHistoryFrom start old.journal old.list → seat.conn ≡ conn → IfOk r (λ out. Adds old new seat seat' now input gained out)
    → IfOk r (λ out. IsLastingStep named conn (call_of now input out) gained)
lasting_tells asks named start conn now input old new seat seat' gained (Ok output) same reached history whose adds =
    subst (λ (b : Bool). IsLastingStep b conn (call_of now input output) gained) same (lasting_step asks start conn now input old new seat seat' gained output reached history whose adds)
lasting_tells asks named start conn now input old new seat seat' gained (Err e) same reached history whose adds = tt

-- an agent that lasts is still reached after a seam, and has all seats
abbrev Lasts : GenerationState → List SeatState → List SeatState → Type 0
Lasts s live ended = IsReached s.of.asks s.start × (length live + length ended ≡ s.of.made)

renewed_length : (seats : List SeatState) → length (renewed seats) ≡ length seats
renewed_length [] = refl
renewed_length (s ∷ seats) = ap (λ (n : ℕ). suc n) (renewed_length seats)

pub lasts_on :
    (r : Result PastState CloseError) (old new : GenerationState) (live live' ended ended' : List SeatState)
    → Lasts old live ended → IsHistoryFrom old.start old.of.journal old.of.list
    → OnOk r (new ≡ next_of old (conns_of ended) (length live)) → OnOk r ((live' ≡ renewed live) × (ended' ≡ []))
    → OnErr r ((new ≡ old) × (live' ≡ live) × (ended' ≡ ended)) → Lasts new live' ended'
lasts_on (Ok past) old new live live' ended ended' lasts history next seats same = (
  subst (λ (s : GenerationState). IsReached s.of.asks s.start) (sym next) (reached_next old.of.asks old.start old.of.list old.of.journal (conns_of ended) lasts.0 history.leads history.numbers),
  ap (λ (xs : List SeatState). length xs + length ended') seats.0
      ∙ (ap (λ (xs : List SeatState). length (renewed live) + length xs) seats.1
      ∙ (omega (arith, renewed_length live) ∙ ap (λ (s : GenerationState). s.of.made) (sym next))),
)
lasts_on (Err e) old new live live' ended ended' lasts history next seats same = (
  subst (λ (s : GenerationState). IsReached s.of.asks s.start) (sym same.0) lasts.0,
  ap (λ (xs : List SeatState). length xs + length ended') same.1
      ∙ (ap (λ (xs : List SeatState). length live + length xs) same.2
      ∙ (lasts.1 ∙ ap (λ (s : GenerationState). s.of.made) (sym same.0))),
)

-- ---- accounts

-- a history that begins with an agent that holds nothing
pub accounts_first :
    (named asks : Bool) (limit : ℕ) (start last : AgentList) (history : List Entry) (seats : List SeatState)
    → start ≡ empty_list asks → asks ≡ named → AccountsFrom start last limit history seats → Accounts named limit history seats
accounts_first named asks limit start last history seats first is a =
    record {
      legal = record { legal = record { asks = asks; last = last; leads = subst (λ (l : AgentList). Leads l history last) first a.leads; numbers = a.numbers }; asks_is = is };
      each = a.each;
      together = a.together;
      within = a.within;
    }

-- what differs at a seat of one list differs at a seat of both
pub torn_locked : (s : SharedState) (seats : List SeatState) (e : CloseError) → TornCause s seats e → LockedCause s seats e
torn_locked s seats NoMemory cause = tt
torn_locked s seats (SeatsOut made given) cause = absurd cause
torn_locked s seats (Torn conn at got kept) cause = cause

pub torn_left : (s : SharedState) (live ended : List SeatState) (e : CloseError) → TornCause s live e → LockedCause s (live ++ ended) e
torn_left s live ended NoMemory cause = tt
torn_left s live ended (SeatsOut made given) cause = absurd cause
torn_left s live ended (Torn conn at got kept) ((seat, there, torn), is) = ((seat, Contains-append_left live ended seat there, torn), is)

pub torn_right : (s : SharedState) (live ended : List SeatState) (e : CloseError) → TornCause s ended e → LockedCause s (live ++ ended) e
torn_right s live ended NoMemory cause = tt
torn_right s live ended (SeatsOut made given) cause = absurd cause
torn_right s live ended (Torn conn at got kept) ((seat, there, torn), is) = ((seat, Contains-append_right live ended seat there, torn), is)

-- a generation that is closed
pub accounts_from :
    (s : GenerationState) (limit : ℕ) (live ended : List SeatState)
    → IsHistoryFrom s.start s.of.journal s.of.list → s.of.limit ≡ limit → weight_of s.of ≤ s.of.limit → length live + length ended ≡ s.of.made
    → All (λ p. calls_of p.conn s.of.journal ≡ p.calls) (live ++ ended) → length s.of.journal ≡ sum_by (λ p. length p.calls) (live ++ ended)
    → AccountsFrom s.start s.of.list limit s.of.journal (live ++ ended)
accounts_from s limit live ended history named within all each together =
    let seats : length (live ++ ended) ≡ s.of.made = length-append live ended ∙ all in
    record {
      leads = history.leads;
      numbers = history.numbers;
      each = each;
      together = together;
      within = subst (λ (n : ℕ). journal_weight n s.of.journal ≤ limit) (sym seats) (subst (λ (l : ℕ). journal_weight s.of.made s.of.journal ≤ l) named within);
    }
