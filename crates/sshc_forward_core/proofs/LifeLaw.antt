-- The account of a life: the accounts of its turns, added up.
use Rattle.std.proofs.Common.{◌≡◌, ℕ, Bool, true, false, Option, Some, None, List, [], ◌∷◌, ◌++◌, refl, sym, ap, subst, ◌∙◌, inl, inr, ◌⊎◌, append_assoc}
use Rattle.std.specs.Prelude.{is_some, if◌then◌else◌}
use Rattle.std.specs.FinMap.{get}
use Rattle.std.proofs.lemmas.List.{append-nil}
use Rattle.sshc_forward_core.specs.declared.event.FwdEvent.{FwdEvent}
use Rattle.sshc_forward_core.specs.declared.event.FwdEvent.TheVariants.{Accepted, Opened, OpenFailed, Incoming, Bytes, StreamEnd, Data, ChannelEof, ChannelClose, StreamFailed}
use Rattle.sshc_forward_core.specs.declared.given.Given.{Given}
use Rattle.sshc_forward_core.specs.declared.output.FwdOutput.{FwdOutput}
use Rattle.sshc_forward_core.specs.PairState.{PairState, is_opened, is_read, has_failed, is_written}
use Rattle.sshc_forward_core.specs.PairTurns.{Turn, turn}
use Rattle.sshc_forward_core.specs.Forwards.{Forwards, effect}
use Rattle.sshc_forward_core.specs.Served.{Fits}
use Rattle.sshc_forward_core.specs.PairAccount.{ran, is_own, own, naming, channel_in, channel_at, outputs_on, sent, written, has_opened, failed_in, given_after, HasThroughout, outputs_by, said_by_own}
use Rattle.sshc_forward_core.proofs.TurnLaws.{flat, IsSound, read_from, received_from, Balanced, balanced, sent-append, written-append}
use Rattle.sshc_forward_core.proofs.OrderLaws.{given_after-append, orderly-append, IsOrdered, ordered}
use Rattle.sshc_forward_core.proofs.LegalLemmas.{IsLegal}
use Rattle.sshc_forward_core.proofs.LegalLaw.{legal_after}
use Rattle.sshc_forward_core.proofs.NamingLemmas.{naming_all, turn_names}
use Rattle.sshc_forward_core.proofs.MovedLaw.{TookTurn, Stayed, moved}

-- the account from a pair to what it is at the end
pub record AccountFrom (p : PairState) (mine : List FwdEvent) (gave : List FwdOutput) (end : PairState) : Type 0 where
  pub sums :
      (rest : List ℕ)
      × (flat p.held ++ read_from p mine ≡ sent gave ++ rest)
      × (has_failed end.reading ≡ false → rest ≡ flat end.held)
  pub written : written gave ≡ received_from p mine
  pub order : IsOrdered p (record { pair = end; outputs = gave })
  pub opened : is_opened p ≡ true → is_opened end ≡ true
  pub opens : has_opened mine ≡ true → is_opened end ≡ true
  pub kept : has_failed end.reading ≡ false → has_failed p.reading ≡ false
  pub fails : failed_in mine ≡ false → has_failed p.reading ≡ false → has_failed end.reading ≡ false

no_more : (b : Bool) → (if b then [] else []) ≡ (let none : List ℕ = [] in none)
no_more true = refl
no_more false = refl

nothing_left : (p : PairState) → IsSound p → flat p.held ++ read_from p [] ≡ flat p.held
nothing_left p sound = ap (λ (l : List ℕ). flat p.held ++ l) (no_more (is_read p.reading)) ∙ append-nil (flat p.held)

account_start : (p : PairState) → IsSound p → AccountFrom p [] [] p
account_start p sound = record {
  sums = (flat p.held, nothing_left p sound, λ _. refl);
  written = sym (no_more (is_written p));
  order = λ g f. (tt, f);
  opened = λ h. h;
  opens = λ h. cc;
  kept = λ h. h;
  fails = λ _ h. h;
}

-- what the first event is, or a later one
opened_first : (event : FwdEvent) (mine : List FwdEvent) → has_opened (event ∷ mine) ≡ true → (has_opened (event ∷ []) ≡ true) ⊎ (has_opened mine ≡ true)
opened_first (Opened s c) mine h = inl refl
opened_first (Incoming c s) mine h = inl refl
opened_first (Accepted s a b c d) mine h = inr h
opened_first (OpenFailed s) mine h = inr h
opened_first (Bytes s b) mine h = inr h
opened_first (StreamEnd s) mine h = inr h
opened_first (Data c b) mine h = inr h
opened_first (ChannelEof c) mine h = inr h
opened_first (ChannelClose c) mine h = inr h
opened_first (StreamFailed s) mine h = inr h

failed_first : (event : FwdEvent) (mine : List FwdEvent) → failed_in (event ∷ mine) ≡ false → (failed_in (event ∷ []) ≡ false) × (failed_in mine ≡ false)
failed_first (Opened s c) mine h = (refl, h)
failed_first (Incoming c s) mine h = (refl, h)
failed_first (Accepted s a b c d) mine h = (refl, h)
failed_first (OpenFailed s) mine h = (refl, h)
failed_first (Bytes s b) mine h = (refl, h)
failed_first (StreamEnd s) mine h = (refl, h)
failed_first (Data c b) mine h = (refl, h)
failed_first (ChannelEof c) mine h = (refl, h)
failed_first (ChannelClose c) mine h = (refl, h)
failed_first (StreamFailed s) mine h = absurd (cc)

-- a ++ (b ++ c) with lost bytes at the end
regroup : (a b rest lost : List ℕ) → (a ++ (b ++ rest)) ++ lost ≡ (a ++ b) ++ (rest ++ lost)
regroup a b rest lost =
    ap (λ (l : List ℕ). l ++ lost) (sym (append_assoc a b rest)) ∙ append_assoc (a ++ b) rest lost

-- one turn, and the account after it
account_turn :
    (event : FwdEvent) (p : PairState) (t : Turn) (mine : List FwdEvent) (gave : List FwdOutput) (end : PairState) →
    Balanced event p t → IsOrdered p t → AccountFrom t.pair mine gave end →
    AccountFrom p (event ∷ mine) (t.outputs ++ gave) end
account_turn event p t mine gave end b o a =
    let s = b.sums mine in record {
      sums = (
        a.sums.0 ++ s.0,
        s.1 ∙ ap (λ (l : List ℕ). (sent t.outputs ++ l) ++ s.0) a.sums.1
            ∙ regroup (sent t.outputs) (sent gave) a.sums.0 s.0
            ∙ sym (ap (λ (l : List ℕ). l ++ (a.sums.0 ++ s.0)) (sent-append t.outputs gave)),
        λ h. ap (λ (l : List ℕ). a.sums.0 ++ l) (s.2 (a.kept h)) ∙ append-nil a.sums.0 ∙ a.sums.2 h,
      );
      written = written-append t.outputs gave ∙ ap (λ (l : List ℕ). written t.outputs ++ l) a.written ∙ b.written mine;
      order = λ g f.
          let first = o g f in
          let later = a.order (given_after g t.outputs) first.1 in
          (orderly-append g t.outputs gave first.0 later.0, subst (λ (x : Given). Fits end x) (sym (given_after-append g t.outputs gave)) later.1);
      opened = λ h. a.opened (b.opened h);
      opens = λ h. elim (opened_first event mine h) [ inl i ↦ a.opened (b.opens i) | inr i ↦ a.opens i ];
      kept = λ h. b.kept (a.kept h);
      fails = λ h i. let parts = failed_first event mine h in a.fails parts.1 (b.fails parts.0 i);
    }

-- ---- lists of events

-- what a life leaves, from a pair that is there
pub record Lived (n : ℕ) (events : List FwdEvent) (t : Forwards) (p : PairState) : Type 0 where
  pub end : PairState
  pub there : get (ran events t).after.pairs n ≡ Some end
  pub sound : IsSound end
  pub account : AccountFrom p (own n events t) (outputs_on n events t) end
  pub owned : outputs_on n events t ≡ said_by_own n events t

pub if_own : (b : Bool) (event : FwdEvent) (rest : List FwdEvent) → b ≡ true → (if b then event ∷ [] else []) ++ rest ≡ event ∷ rest
if_own true event rest h = refl
if_own false event rest h = absurd (cc)

if_other : (b : Bool) (event : FwdEvent) (rest : List FwdEvent) → b ≡ false → (if b then event ∷ [] else []) ++ rest ≡ rest
if_other false event rest h = refl
if_other true event rest h = absurd (cc)

pub by_own : (b : Bool) (outputs : List FwdOutput) → b ≡ true → (if b then outputs else []) ≡ outputs
by_own true outputs h = refl
by_own false outputs h = absurd (cc)

by_other : (b : Bool) (outputs : List FwdOutput) → b ≡ false → (if b then outputs else []) ≡ []
by_other false outputs h = refl
by_other true outputs h = absurd (cc)

there_is : {A : Type 0} (o : Option A) → is_some o ≡ true → (x : A) × (o ≡ Some x)
there_is (Some x) h = (x, refl)
there_is None h = absurd (cc)

-- what the outputs of an event say of the pair that took its turn
said_is : (n : ℕ) (event : FwdEvent) (p q : PairState) (own : Bool) (outputs : List FwdOutput) → TookTurn n event p q own outputs → naming n q.channel outputs ≡ (turn n event p).outputs
said_is n event p q own outputs m =
    ap (naming n q.channel) m.said
    ∙ ap (λ (x : PairState). naming n x.channel (turn n event p).outputs) m.pair
    ∙ naming_all n (turn n event p).pair.channel (turn n event p).outputs (turn_names n event p m.may)

lived_turn :
    (n : ℕ) (event : FwdEvent) (events : List FwdEvent) (t : Forwards) (p q : PairState) → IsSound p →
    get (effect event t).after.pairs n ≡ Some q →
    TookTurn n event p q (is_own n event t) (effect event t).outputs →
    Lived n events (effect event t).after q → Lived n (event ∷ events) t p
lived_turn n event events t p q sound at m r =
    let after = (effect event t).after in
    let here : naming n (channel_at n after) (effect event t).outputs ≡ (turn n event p).outputs =
    ap (λ (o : Option PairState). naming n (channel_in o) (effect event t).outputs) at ∙ said_is n event p q (is_own n event t) (effect event t).outputs m in
    let mine : own n (event ∷ events) t ≡ event ∷ own n events after = if_own (is_own n event t) event (own n events after) m.own_is in
    let gave : outputs_on n (event ∷ events) t ≡ (turn n event p).outputs ++ outputs_on n events after = ap (λ (l : List FwdOutput). l ++ outputs_on n events after) here in
    let from : AccountFrom (turn n event p).pair (own n events after) (outputs_on n events after) r.end =
    subst (λ (x : PairState). AccountFrom x (own n events after) (outputs_on n events after) r.end) m.pair r.account in
    let all = account_turn event p (turn n event p) (own n events after) (outputs_on n events after) r.end (balanced n event p sound m.may) (ordered n event p m.may) from in
    record {
      end = r.end;
      there = r.there;
      sound = r.sound;
      account =
          subst (λ (l : List FwdEvent). AccountFrom p l (outputs_on n (event ∷ events) t) r.end) (sym mine)
          (subst (λ (l : List FwdOutput). AccountFrom p (event ∷ own n events after) l r.end) (sym gave) all);
      owned =
          ap (λ (l : List FwdOutput). l ++ outputs_on n events after) (here ∙ sym m.said ∙ sym (by_own (is_own n event t) (effect event t).outputs m.own_is))
          ∙ ap (λ (l : List FwdOutput). outputs_by n event t ++ l) r.owned;
    }

lived_other :
    (n : ℕ) (event : FwdEvent) (events : List FwdEvent) (t : Forwards) (p q : PairState) →
    get (effect event t).after.pairs n ≡ Some q →
    Stayed n p q (is_own n event t) (effect event t).outputs →
    Lived n events (effect event t).after q → Lived n (event ∷ events) t p
lived_other n event events t p q at m r =
    let after = (effect event t).after in
    let here : naming n (channel_at n after) (effect event t).outputs ≡ [] =
    ap (λ (o : Option PairState). naming n (channel_in o) (effect event t).outputs) at ∙ m.silent in
    let mine : own n (event ∷ events) t ≡ own n events after = if_other (is_own n event t) event (own n events after) m.own_is in
    let gave : outputs_on n (event ∷ events) t ≡ outputs_on n events after = ap (λ (l : List FwdOutput). l ++ outputs_on n events after) here in
    let from : AccountFrom p (own n events after) (outputs_on n events after) r.end =
    subst (λ (x : PairState). AccountFrom x (own n events after) (outputs_on n events after) r.end) m.pair r.account in
    record {
      end = r.end;
      there = r.there;
      sound = r.sound;
      account =
          subst (λ (l : List FwdEvent). AccountFrom p l (outputs_on n (event ∷ events) t) r.end) (sym mine)
          (subst (λ (l : List FwdOutput). AccountFrom p (own n events after) l r.end) (sym gave) from);
      owned =
          gave ∙ r.owned
          ∙ sym (ap (λ (l : List FwdOutput). l ++ said_by_own n events after) (by_other (is_own n event t) (effect event t).outputs m.own_is));
    }

pub lived :
    (n : ℕ) (events : List FwdEvent) (t : Forwards) (p : PairState) → IsLegal t → get t.pairs n ≡ Some p →
    HasThroughout n events t → Lived n events t p
lived n [] t p l at stands =
    record { end = p; there = at; sound = l.sound n p at; account = account_start p (l.sound n p at); owned = refl }
lived n (event ∷ events) t p l at stands =
    let after = (effect event t).after in
    let w = there_is (get after.pairs n) stands.0 in
    let rest = lived n events after w.0 (legal_after event t l) w.1 stands.1 in
    elim (moved n event t p w.0 l at w.1) [
      | inl m ↦ lived_turn n event events t p w.0 (l.sound n p at) w.1 m rest
      | inr m ↦ lived_other n event events t p w.0 w.1 m rest
    ]
