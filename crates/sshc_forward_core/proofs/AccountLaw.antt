-- The account of each life, and its end.
use Rattle.std.proofs.Common.{◌≡◌, ℕ, Bool, true, false, Option, Some, None, List, [], ◌∷◌, ◌++◌, refl, sym, ap, subst, ◌∙◌, inl, inr, ◌⊎◌}
use Rattle.std.specs.Prelude.{is_some, if◌then◌else◌, ◌==◌}
use Rattle.std.specs.FinMap.{get, insert, remove, contains_key}
use Rattle.std.specs.Ordering.{nat_cmp}
use Rattle.std.specs.FinMap.{FinMap}
use Rattle.std.proofs.lemmas.Bool.{eqb-true, eq-eqb, cases_eq}
use Rattle.std.proofs.lemmas.Option.{none-some}
use Rattle.std.proofs.lemmas.List.{append-nil}
use Rattle.sshc_forward_core.specs.declared.event.FwdEvent.{FwdEvent}
use Rattle.sshc_forward_core.specs.declared.event.FwdEvent.TheVariants.{Accepted, Opened, OpenFailed, Incoming, Bytes, StreamEnd, Data, ChannelEof, ChannelClose, StreamFailed}
use Rattle.sshc_forward_core.specs.declared.output.FwdOutput.{FwdOutput}
use Rattle.sshc_forward_core.specs.declared.output.FwdOutput.TheVariants.{OpenChannel, CloseStream}
use Rattle.sshc_forward_core.specs.PairState.{PairState, new_pair, is_opened}
use Rattle.sshc_forward_core.specs.PairTurns.{turn}
use Rattle.sshc_forward_core.specs.Forwards.{Forwards, Effect, no_pairs, effect, is_taken, unmoved, turned, turned_on, joins, given_up, closed, accepted_row, incoming_row, opened_row}
use Rattle.sshc_forward_core.specs.Served.{Fits}
use Rattle.sshc_forward_core.specs.PairAccount.{ran, is_own, is_number, own, naming, channel_at, outputs_on, read, received, sent, written, has_opened, failed_in, none_given, given_after, IsOrderly, makes, HasThroughout, Life, before_it, after_it, its_outputs, Account, EachLifeHasItsAccount, EachLifeEndsOnce, outputs_by, said_by_own, OutputsAreOwn, EachChannelHasItsPair}
use Rattle.sshc_forward_core.proofs.PlaceLemmas.{get_here, get_other, gone_other}
use Rattle.sshc_forward_core.proofs.TurnLaws.{flat, sent-append, written-append}
use Rattle.sshc_forward_core.proofs.OrderLaws.{given_after-append, orderly-append}
use Rattle.sshc_forward_core.proofs.LegalLemmas.{IsLegal}
use Rattle.sshc_forward_core.proofs.LegalLaw.{legal_after, none_legal, ran_legal}
use Rattle.sshc_forward_core.proofs.NamingLemmas.{naming_all}
use Rattle.sshc_forward_core.proofs.LifeLaw.{AccountFrom, lived, if_own, by_own}

-- ---- the first event of a life

-- what the effect of the event that makes a pair says of it
record Born (n : ℕ) (e : Effect) (channel : Option ℕ) : Type 0 where
  there : get e.after.pairs n ≡ Some (new_pair channel)
  said : naming n (channel_at n e.after) e.outputs ≡ e.outputs
  sends : sent e.outputs ≡ []
  writes : written e.outputs ≡ []
  order : IsOrderly none_given e.outputs
  marked : given_after none_given e.outputs ≡ none_given

-- what the event says to the sums
record Begins (birth : FwdEvent) (channel : Option ℕ) : Type 0 where
  reads : (mine : List FwdEvent) → read (birth ∷ mine) ≡ read mine
  receives : (mine : List FwdEvent) → received (birth ∷ mine) ≡ received mine
  opens : (mine : List FwdEvent) → has_opened (birth ∷ mine) ≡ true → (is_some channel ≡ true) ⊎ (has_opened mine ≡ true)
  fails : (mine : List FwdEvent) → failed_in (birth ∷ mine) ≡ false → failed_in mine ≡ false

accepted_born : (n : ℕ) (h : List ℕ) (a : ℕ) (o : List ℕ) (r : ℕ) (t : Forwards) → Born n (accepted_row n h a o r t) None
accepted_born n h a o r t = record {
  there = get_here t.pairs n (new_pair None);
  said = naming_all n (channel_at n (accepted_row n h a o r t).after) (OpenChannel n h a o r ∷ []) (eq-eqb n n refl, tt);
  sends = refl;
  writes = refl;
  order = (refl, tt);
  marked = refl;
}

incoming_born : (n c : ℕ) (t : Forwards) → Born n (incoming_row c n t) (Some c)
incoming_born n c t = record {
  there = get_here t.pairs n (new_pair (Some c));
  said = refl;
  sends = refl;
  writes = refl;
  order = tt;
  marked = refl;
}

row_if : (b : Bool) (t : Forwards) (e : Effect) → b ≡ false → (if b then unmoved t else e) ≡ e
row_if false t e h = refl
row_if true t e h = absurd (cc)

own_if : (b : Bool) (x : Bool) → b ≡ false → (if b then false else x) ≡ x
own_if false x h = refl
own_if true x h = absurd (cc)

-- a pair is made
record Made (n : ℕ) (birth : FwdEvent) (t : Forwards) : Type 0 where
  channel : Option ℕ
  born : Born n (effect birth t) channel
  begins : Begins birth channel
  own_is : is_own n birth t ≡ true

accepted_made :
    (n s : ℕ) (h : List ℕ) (a : ℕ) (o : List ℕ) (r : ℕ) (t : Forwards) → s ≡ n → is_taken (Accepted s h a o r) t ≡ false →
    Made n (Accepted s h a o r) t
accepted_made n s h a o r t e free = record {
  channel = None;
  born = subst (λ (x : Effect). Born n x None) (sym (row_if (contains_key t.pairs s) t (accepted_row s h a o r t) free))
      (subst (λ (m : ℕ). Born m (accepted_row s h a o r t) None) e (accepted_born s h a o r t));
  begins = record { reads = λ mine. refl; receives = λ mine. refl; opens = λ mine k. inr k; fails = λ mine k. k };
  own_is = own_if (contains_key t.pairs s) (s == n) free ∙ eq-eqb s n e;
}

incoming_made :
    (n c s : ℕ) (t : Forwards) → s ≡ n → is_taken (Incoming c s) t ≡ false → Made n (Incoming c s) t
incoming_made n c s t e free = record {
  channel = Some c;
  born = subst (λ (x : Effect). Born n x (Some c)) (sym (row_if (is_taken (Incoming c s) t) t (incoming_row c s t) free))
      (subst (λ (m : ℕ). Born m (incoming_row c s t) (Some c)) e (incoming_born s c t));
  begins = record { reads = λ mine. refl; receives = λ mine. refl; opens = λ mine k. inl refl; fails = λ mine k. k };
  own_is = own_if (is_taken (Incoming c s) t) (s == n) free ∙ eq-eqb s n e;
}

made : (n : ℕ) (birth : FwdEvent) (t : Forwards) → makes n birth ≡ true → is_taken birth t ≡ false → Made n birth t
made n (Accepted s h a o r) t makes_it free = accepted_made n s h a o r t (eqb-true s n makes_it) free
made n (Incoming c s) t makes_it free = incoming_made n c s t (eqb-true s n makes_it) free
made n (Opened s c) t makes_it free = absurd (cc)
made n (OpenFailed s) t makes_it free = absurd (cc)
made n (Bytes s b) t makes_it free = absurd (cc)
made n (StreamEnd s) t makes_it free = absurd (cc)
made n (Data c b) t makes_it free = absurd (cc)
made n (ChannelEof c) t makes_it free = absurd (cc)
made n (ChannelClose c) t makes_it free = absurd (cc)
made n (StreamFailed s) t makes_it free = absurd (cc)

new_fits : (channel : Option ℕ) → Fits (new_pair channel) none_given
new_fits channel = record { eof_read = λ _. refl; eof_there = λ _. refl; ending = λ _. refl; close_read = λ _. refl; close_written = λ _. refl; close_there = λ _. refl; gone = refl }

-- a life with its account, and what is known at its end
record Told (n : ℕ) (birth : FwdEvent) (events : List FwdEvent) (t : Forwards) : Type 0 where
  account : Account (own n (birth ∷ events) t) (outputs_on n (birth ∷ events) t)
  owned : outputs_on n (birth ∷ events) t ≡ said_by_own n (birth ∷ events) t
  end : PairState
  there : get (ran (birth ∷ events) t).after.pairs n ≡ Some end
  fits : Fits end (given_after none_given (outputs_on n (birth ∷ events) t))

-- from the account after the first event
account_of :
    (birth : FwdEvent) (channel : Option ℕ) (outputs : List FwdOutput) (mine : List FwdEvent) (gave : List FwdOutput) (end : PairState) →
    sent outputs ≡ [] → written outputs ≡ [] → IsOrderly none_given outputs → given_after none_given outputs ≡ none_given →
    Begins birth channel → (is_opened end ≡ true → end.held ≡ []) →
    AccountFrom (new_pair channel) mine gave end → Account (birth ∷ mine) (outputs ++ gave)
account_of birth channel outputs mine gave end sends writes order marked b none_held a =
    let sent_is : sent (outputs ++ gave) ≡ sent gave = sent-append outputs gave ∙ ap (λ (l : List ℕ). l ++ sent gave) sends in
    let written_is : written (outputs ++ gave) ≡ written gave = written-append outputs gave ∙ ap (λ (l : List ℕ). l ++ written gave) writes in
    record {
      front = (a.sums.0, ap (λ (l : List ℕ). l ++ a.sums.0) sent_is ∙ sym a.sums.1 ∙ sym (b.reads mine));
      whole = λ opened unfailed.
          let is_there : is_opened end ≡ true = elim (b.opens mine opened) [ inl i ↦ a.opened i | inr i ↦ a.opens i ] in
          let rest_is : a.sums.0 ≡ [] = a.sums.2 (a.fails (b.fails mine unfailed) refl) ∙ ap flat (none_held is_there) in
          sent_is ∙ sym (a.sums.1 ∙ ap (λ (l : List ℕ). sent gave ++ l) rest_is ∙ append-nil (sent gave)) ∙ sym (b.reads mine);
      written = written_is ∙ a.written ∙ sym (b.receives mine);
      order = orderly-append none_given outputs gave order
          (subst (λ g. IsOrderly g gave) (sym marked) (a.order none_given (new_fits channel)).0);
    }

told :
    (n : ℕ) (birth : FwdEvent) (events : List FwdEvent) (t : Forwards) → IsLegal t → makes n birth ≡ true →
    is_taken birth t ≡ false → HasThroughout n events (effect birth t).after → Told n birth events t
told n birth events t l makes_it free stands =
    let m = made n birth t makes_it free in
    let after = (effect birth t).after in
    let r = lived n events after (new_pair m.channel) (legal_after birth t l) m.born.there stands in
    let mine : own n (birth ∷ events) t ≡ birth ∷ own n events after = if_own (is_own n birth t) birth (own n events after) m.own_is in
    let gave : outputs_on n (birth ∷ events) t ≡ (effect birth t).outputs ++ outputs_on n events after = ap (λ (x : List FwdOutput). x ++ outputs_on n events after) m.born.said in
    let all = account_of birth m.channel (effect birth t).outputs (own n events after) (outputs_on n events after) r.end m.born.sends m.born.writes m.born.order m.born.marked m.begins r.sound.opened r.account in
    record {
      account =
          subst (λ (x : List FwdEvent). Account x (outputs_on n (birth ∷ events) t)) (sym mine)
          (subst (λ (x : List FwdOutput). Account (birth ∷ own n events after) x) (sym gave) all);
      owned =
          ap (λ (x : List FwdOutput). x ++ outputs_on n events after) (m.born.said ∙ sym (by_own (is_own n birth t) (effect birth t).outputs m.own_is))
          ∙ ap (λ (x : List FwdOutput). outputs_by n birth t ++ x) r.owned;
      end = r.end;
      there = r.there;
      fits =
          subst (λ (x : List FwdOutput). Fits r.end (given_after none_given x)) (sym gave)
          (subst (λ g. Fits r.end g) (sym (given_after-append none_given (effect birth t).outputs (outputs_on n events after) ∙ ap (λ g. given_after g (outputs_on n events after)) m.born.marked))
          (r.account.order none_given (new_fits m.channel)).1);
    }

tell : (n : ℕ) (l : Life n) → Told n l.birth l.events (before_it n l)
tell n l = told n l.birth l.events (before_it n l) (ran_legal l.before no_pairs none_legal) l.makes_it l.taken l.there

pub each_life_has_its_account : EachLifeHasItsAccount
each_life_has_its_account n l = (tell n l).account

pub outputs_are_own : OutputsAreOwn
outputs_are_own n l = (tell n l).owned

-- ---- the end of a life

record Over (n : ℕ) (own : Bool) (outputs : List FwdOutput) : Type 0 where
  own_is : own ≡ true
  closes : outputs ≡ CloseStream n ∷ []

still_there : {A : Type 0} (m : FinMap nat_cmp PairState) (n : ℕ) (p : PairState) → get m n ≡ Some p → get m n ≡ None → A
still_there m n p at h = absurd (none-some p (sym h ∙ at))

put_there : {A : Type 0} (m : FinMap nat_cmp PairState) (n s : ℕ) (p v : PairState) → get m n ≡ Some p → get (insert m s v) n ≡ None → A
put_there m n s p v at h = elim (cases_eq n s) [
  | inl e ↦ absurd (none-some v (sym h ∙ ap (get (insert m s v)) e ∙ get_here m s v))
  | inr ne ↦ absurd (none-some p (sym h ∙ get_other m s v n ne ∙ at))
]

removed_here : (m : FinMap nat_cmp PairState) (n s : ℕ) (p : PairState) → get m n ≡ Some p → get (remove m s) n ≡ None → Over n (s == n) (CloseStream s ∷ [])
removed_here m n s p at h = elim (cases_eq n s) [
  | inl e ↦ record { own_is = eq-eqb s n (sym e); closes = ap (λ (x : ℕ). CloseStream x ∷ []) (sym e) }
  | inr ne ↦ absurd (none-some p (sym h ∙ gone_other m s n ne ∙ at))
]

turned_there : {A : Type 0} (n s : ℕ) (event : FwdEvent) (o : Option PairState) (t : Forwards) (p : PairState) → get t.pairs n ≡ Some p → get (turned s event o t).after.pairs n ≡ None → A
turned_there n s event None t p at h = still_there t.pairs n p at h
turned_there n s event (Some x) t p at h = put_there t.pairs n s p (turn s event x).pair at h

turned_on_there : {A : Type 0} (n : ℕ) (event : FwdEvent) (o : Option ℕ) (t : Forwards) (p : PairState) → get t.pairs n ≡ Some p → get (turned_on event o t).after.pairs n ≡ None → A
turned_on_there n event None t p at h = still_there t.pairs n p at h
turned_on_there n event (Some s) t p at h = turned_there n s event (get t.pairs s) t p at h

accepted_there :
    {A : Type 0} (n s : ℕ) (b : Bool) (channel : Option ℕ) (t : Forwards) (e : Effect) (p : PairState) → get t.pairs n ≡ Some p →
    e.after.pairs ≡ insert t.pairs s (new_pair channel) → get (if b then unmoved t else e).after.pairs n ≡ None → A
accepted_there n s true channel t e p at same h = still_there t.pairs n p at h
accepted_there n s false channel t e p at same h =
    put_there t.pairs n s p (new_pair channel) at (ap (λ (m : FinMap nat_cmp PairState). get m n) (sym same) ∙ h)

opened_there_at :
    {A : Type 0} (n s c : ℕ) (o : Option PairState) (t : Forwards) (p : PairState) → get t.pairs n ≡ Some p →
    get (turned s (Opened s c) (get (joins s c o t).pairs s) (joins s c o t)).after.pairs n ≡ None → A
opened_there_at n s c None t p at h = turned_there n s (Opened s c) (get t.pairs s) t p at h
opened_there_at n s c (Some y) t p at h = turned_there n s (Opened s c) (get t.pairs s) (joins s c (Some y) t) p at h

opened_there :
    {A : Type 0} (n s c : ℕ) (b : Bool) (t : Forwards) (p : PairState) → get t.pairs n ≡ Some p →
    get (if b then unmoved t else opened_row s c t).after.pairs n ≡ None → A
opened_there n s c true t p at h = still_there t.pairs n p at h
opened_there n s c false t p at h = opened_there_at n s c (get t.pairs s) t p at h

given_up_over :
    (n s : ℕ) (b : Bool) (t : Forwards) (p : PairState) → get t.pairs n ≡ Some p →
    let e : Effect = if b then unmoved t else record { after = record t { pairs = remove t.pairs s }; outputs = CloseStream s ∷ [] } in
    get e.after.pairs n ≡ None → Over n (s == n) e.outputs
given_up_over n s true t p at h = still_there t.pairs n p at h
given_up_over n s false t p at h = removed_here t.pairs n s p at h

open_failed_over :
    (n s : ℕ) (o : Option PairState) (t : Forwards) (p : PairState) → get t.pairs n ≡ Some p →
    get (given_up s o t).after.pairs n ≡ None → Over n (s == n) (given_up s o t).outputs
open_failed_over n s None t p at h = still_there t.pairs n p at h
open_failed_over n s (Some x) t p at h = given_up_over n s (is_some x.channel) t p at h

closed_over :
    (n c : ℕ) (o : Option ℕ) (t : Forwards) (p : PairState) → get t.pairs n ≡ Some p →
    get (closed c o t).after.pairs n ≡ None → Over n (is_number n o) (closed c o t).outputs
closed_over n c None t p at h = still_there t.pairs n p at h
closed_over n c (Some s) t p at h = removed_here t.pairs n s p at h

over :
    (n : ℕ) (event : FwdEvent) (t : Forwards) (p : PairState) → get t.pairs n ≡ Some p →
    get (effect event t).after.pairs n ≡ None → Over n (is_own n event t) (effect event t).outputs
over n (Accepted s q a o r) t p at h = accepted_there n s (contains_key t.pairs s) None t (accepted_row s q a o r t) p at refl h
over n (Opened s c) t p at h = opened_there n s c (is_taken (Opened s c) t) t p at h
over n (OpenFailed s) t p at h = open_failed_over n s (get t.pairs s) t p at h
over n (Incoming c s) t p at h = accepted_there n s (is_taken (Incoming c s) t) (Some c) t (incoming_row c s t) p at refl h
over n (Bytes s b) t p at h = turned_there n s (Bytes s b) (get t.pairs s) t p at h
over n (StreamEnd s) t p at h = turned_there n s (StreamEnd s) (get t.pairs s) t p at h
over n (Data c b) t p at h = turned_on_there n (Data c b) (get t.joined c) t p at h
over n (ChannelEof c) t p at h = turned_on_there n (ChannelEof c) (get t.joined c) t p at h
over n (ChannelClose c) t p at h = closed_over n c (get t.joined c) t p at h
over n (StreamFailed s) t p at h = turned_there n s (StreamFailed s) (get t.pairs s) t p at h

pub each_life_ends_once : EachLifeEndsOnce
each_life_ends_once n l last h =
    let r = tell n l in
    let o = over n last (after_it n l) r.end r.there h in
    record {
      own = o.own_is;
      outputs = o.closes;
      order = subst (λ (x : List FwdOutput). IsOrderly none_given (its_outputs n l ++ x)) (sym o.closes)
          (orderly-append none_given (its_outputs n l) (CloseStream n ∷ []) r.account.order (r.fits.gone, tt));
    }

pub each_channel_has_its_pair : EachChannelHasItsPair
each_channel_has_its_pair events =
    let l = ran_legal events no_pairs none_legal in record { known = l.known; joined = l.joined }
