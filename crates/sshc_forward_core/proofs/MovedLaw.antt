-- What one event does to a pair that is there before and after it: the pair's turn if the event is its own, else nothing
-- and no output that names it.
use Rattle.std.proofs.Common.{◌≡◌, ℕ, Bool, true, false, Option, Some, None, List, [], ◌∷◌, refl, sym, ap, subst, ◌∙◌, inl, inr, ◌⊎◌}
use Rattle.std.specs.Prelude.{is_some, if◌then◌else◌, ◌==◌}
use Rattle.std.specs.FinMap.{get, insert, remove, contains_key}
use Rattle.std.proofs.lemmas.Bool.{eq-eqb, ne_eqb, cases_eq, or_parts}
use Rattle.std.proofs.lemmas.Option.{none-some, same_Some}
use Rattle.sshc_forward_core.specs.declared.event.FwdEvent.{FwdEvent}
use Rattle.sshc_forward_core.specs.declared.event.FwdEvent.TheVariants.{Accepted, Opened, OpenFailed, Incoming, Bytes, StreamEnd, Data, ChannelEof, ChannelClose, StreamFailed}
use Rattle.sshc_forward_core.specs.declared.output.FwdOutput.{FwdOutput}
use Rattle.sshc_forward_core.specs.declared.output.FwdOutput.TheVariants.{OpenChannel, CloseStream}
use Rattle.sshc_forward_core.specs.PairState.{PairState}
use Rattle.sshc_forward_core.specs.PairTurns.{turn}
use Rattle.sshc_forward_core.specs.Forwards.{Forwards, effect, is_taken, turned, turned_on, joins, given_up, closed, opened_in, unmoved, accepted_row, incoming_row, opened_row}
use Rattle.sshc_forward_core.specs.PairAccount.{is_number, is_own, naming}
use Rattle.sshc_forward_core.proofs.PlaceLemmas.{get_here, get_other, gone_here, gone_other, one_value}
use Rattle.sshc_forward_core.proofs.TurnLaws.{MayTurn}
use Rattle.sshc_forward_core.proofs.LegalLemmas.{IsLegal, is_none}
use Rattle.sshc_forward_core.proofs.LegalLaw.{bytes_channel, stream_end_channel, stream_failed_channel, data_channel, channel_eof_channel, joined_channel, no_channel}
use Rattle.sshc_forward_core.proofs.NamingLemmas.{AreApart, naming_none, turn_names}

pub record TookTurn (n : ℕ) (event : FwdEvent) (p q : PairState) (own : Bool) (outputs : List FwdOutput) : Type 0 where
  pub own_is : own ≡ true
  pub may : MayTurn event p
  pub pair : q ≡ (turn n event p).pair
  pub said : outputs ≡ (turn n event p).outputs

pub record Stayed (n : ℕ) (p q : PairState) (own : Bool) (outputs : List FwdOutput) : Type 0 where
  pub own_is : own ≡ false
  pub pair : q ≡ p
  pub silent : naming n q.channel outputs ≡ []

abbrev pub Moved : ℕ → FwdEvent → PairState → PairState → Bool → List FwdOutput → Type 0
Moved n event p q own outputs = TookTurn n event p q own outputs ⊎ Stayed n p q own outputs

-- nothing happened
idle : (n : ℕ) (event : FwdEvent) (t : Forwards) (p q : PairState) → get t.pairs n ≡ Some p → get t.pairs n ≡ Some q → Moved n event p q false []
idle n event t p q at h = inr (record { own_is = refl; pair = one_value t.pairs n n q p refl h at; silent = refl })

-- ---- an event that reaches the pair of the stream s

same_stream :
    (s : ℕ) (event : FwdEvent) (t : Forwards) (x p q : PairState) → get t.pairs s ≡ Some x → get t.pairs s ≡ Some p →
    get (insert t.pairs s (turn s event x).pair) s ≡ Some q → MayTurn event x →
    Moved s event p q (s == s) (turn s event x).outputs
same_stream s event t x p q here at h may =
    let same : x ≡ p = one_value t.pairs s s x p refl here at in
    inl (record {
      own_is = eq-eqb s s refl;
      may = subst (λ (y : PairState). MayTurn event y) same may;
      pair = sym (same_Some (turn s event x).pair q (sym (get_here t.pairs s (turn s event x).pair) ∙ h)) ∙ ap (λ (y : PairState). (turn s event y).pair) same;
      said = ap (λ (y : PairState). (turn s event y).outputs) same;
    })

at_stream :
    (n s : ℕ) (event : FwdEvent) (o : Option PairState) (t : Forwards) (p q : PairState) →
    get t.pairs n ≡ Some p → get t.pairs s ≡ o → get (turned s event o t).after.pairs n ≡ Some q →
    ((x : PairState) → get t.pairs s ≡ Some x → MayTurn event x) →
    ((x : PairState) → get t.pairs s ≡ Some x → (s ≡ n → ⊥) → AreApart (turn s event x).pair.channel p.channel) →
    Moved n event p q (s == n) (turned s event o t).outputs
at_stream n s event None t p q at here h may apart =
    inr (record {
      own_is = ne_eqb s n (λ e. none-some p (sym here ∙ ap (get t.pairs) e ∙ at));
      pair = one_value t.pairs n n q p refl h at;
      silent = refl;
    })
at_stream n s event (Some x) t p q at here h may apart = elim (cases_eq s n) [
  | inl e ↦
      subst (λ (m : ℕ). get t.pairs m ≡ Some p → get (insert t.pairs s (turn s event x).pair) m ≡ Some q → Moved m event p q (s == m) (turn s event x).outputs) e
      (λ i j. same_stream s event t x p q here i j (may x here)) at h
  | inr ne ↦
      let other : q ≡ p = same_Some q p (sym h ∙ get_other t.pairs s (turn s event x).pair n (λ e. ne (sym e)) ∙ at) in
      inr (record {
        own_is = ne_eqb s n ne;
        pair = other;
        silent = naming_none s n (turn s event x).pair.channel q.channel (turn s event x).outputs ne
            (λ c a b. apart x here ne c a (sym (ap (λ (y : PairState). y.channel) other) ∙ b)) (turn_names s event x (may x here));
      })
]

-- two pairs have no channel in common
apart_kept :
    (t : Forwards) (s n : ℕ) (x p : PairState) (on : Option ℕ) → IsLegal t → get t.pairs s ≡ Some x → get t.pairs n ≡ Some p →
    on ≡ x.channel → (s ≡ n → ⊥) → AreApart on p.channel
apart_kept t s n x p on l here at same ne = λ c a b.
    ne (same_Some s n (sym (l.known s c x here (sym same ∙ a)) ∙ l.known n c p at b))

-- ---- each event

accepted_moved :
    (n s : ℕ) (h : List ℕ) (a : ℕ) (o : List ℕ) (r : ℕ) (b : Bool) (t : Forwards) (p q : PairState) →
    get t.pairs n ≡ Some p → contains_key t.pairs s ≡ b →
    get (if b then unmoved t else accepted_row s h a o r t).after.pairs n ≡ Some q →
    Moved n (Accepted s h a o r) p q (if b then false else (s == n)) (if b then unmoved t else accepted_row s h a o r t).outputs
accepted_moved n s h a o r true t p q at e i = idle n (Accepted s h a o r) t p q at i
accepted_moved n s h a o r false t p q at e i =
    let ne : s ≡ n → ⊥ = λ same. none-some p (sym (is_none (get t.pairs s) e) ∙ ap (get t.pairs) same ∙ at) in
    inr (record {
      own_is = ne_eqb s n ne;
      pair = same_Some q p (sym i ∙ get_other t.pairs s _ n (λ same. ne (sym same)) ∙ at);
      silent = naming_none s n None q.channel (OpenChannel s h a o r ∷ []) ne (λ c k _. none-some c k) (eq-eqb s s refl, tt);
    })

incoming_moved :
    (n c s : ℕ) (b : Bool) (t : Forwards) (p q : PairState) →
    get t.pairs n ≡ Some p → is_taken (Incoming c s) t ≡ b →
    get (if b then unmoved t else incoming_row c s t).after.pairs n ≡ Some q →
    Moved n (Incoming c s) p q (if b then false else (s == n)) (if b then unmoved t else incoming_row c s t).outputs
incoming_moved n c s true t p q at e i = idle n (Incoming c s) t p q at i
incoming_moved n c s false t p q at e i =
    let none = is_none (get t.pairs s) (or_parts (contains_key t.pairs s) (contains_key t.joined c) e).0 in
    let ne : s ≡ n → ⊥ = λ same. none-some p (sym none ∙ ap (get t.pairs) same ∙ at) in
    inr (record {
      own_is = ne_eqb s n ne;
      pair = same_Some q p (sym i ∙ get_other t.pairs s _ n (λ same. ne (sym same)) ∙ at);
      silent = refl;
    })

opened_apart :
    (n c : ℕ) (t : Forwards) (p : PairState) → IsLegal t → get t.pairs n ≡ Some p → get t.joined c ≡ None → AreApart (Some c) p.channel
opened_apart n c t p l at free = λ d a b.
    none-some n (sym free ∙ ap (get t.joined) (same_Some c d a) ∙ l.known n d p at b)

opened_joined :
    (n s c : ℕ) (o : Option PairState) (t : Forwards) (p q : PairState) → IsLegal t →
    get t.pairs n ≡ Some p → get t.joined c ≡ None → opened_in (get t.pairs s) ≡ false →
    get (turned s (Opened s c) (get (joins s c o t).pairs s) (joins s c o t)).after.pairs n ≡ Some q →
    Moved n (Opened s c) p q (s == n) (turned s (Opened s c) (get (joins s c o t).pairs s) (joins s c o t)).outputs
opened_joined n s c None t p q l at free off h =
    at_stream n s (Opened s c) (get t.pairs s) t p q at refl h
    (λ x here. no_channel (get t.pairs s) x off here) (λ x here ne. opened_apart n c t p l at free)
opened_joined n s c (Some y) t p q l at free off h =
    at_stream n s (Opened s c) (get t.pairs s) (joins s c (Some y) t) p q at refl h
    (λ x here. no_channel (get t.pairs s) x off here) (λ x here ne. opened_apart n c t p l at free)

opened_moved :
    (n s c : ℕ) (b : Bool) (t : Forwards) (p q : PairState) → IsLegal t →
    get t.pairs n ≡ Some p → is_taken (Opened s c) t ≡ b →
    get (if b then unmoved t else opened_row s c t).after.pairs n ≡ Some q →
    Moved n (Opened s c) p q (if b then false else (s == n)) (if b then unmoved t else opened_row s c t).outputs
opened_moved n s c true t p q l at e h = idle n (Opened s c) t p q at h
opened_moved n s c false t p q l at e h =
    let parts = or_parts (contains_key t.joined c) (opened_in (get t.pairs s)) e in
    opened_joined n s c (get t.pairs s) t p q l at (is_none (get t.joined c) parts.0) parts.1 h

-- an opened pair isn't given up
not_given_up :
    (n s : ℕ) (t : Forwards) (p q : PairState) → get t.pairs n ≡ Some p → get t.pairs n ≡ Some q →
    Moved n (OpenFailed s) p q (s == n) []
not_given_up n s t p q at h = elim (cases_eq s n) [
  | inl e ↦ inl (record { own_is = eq-eqb s n e; may = tt; pair = one_value t.pairs n n q p refl h at; said = refl })
  | inr ne ↦ inr (record { own_is = ne_eqb s n ne; pair = one_value t.pairs n n q p refl h at; silent = refl })
]

-- another pair goes
other_gone :
    (n s : ℕ) (event : FwdEvent) (t : Forwards) (p q : PairState) → get t.pairs n ≡ Some p →
    get (remove t.pairs s) n ≡ Some q → Moved n event p q (s == n) (CloseStream s ∷ [])
other_gone n s event t p q at h =
    let ne : s ≡ n → ⊥ = λ e. none-some q (sym (gone_here t.pairs s) ∙ ap (get (remove t.pairs s)) e ∙ h) in
    inr (record {
      own_is = ne_eqb s n ne;
      pair = same_Some q p (sym h ∙ gone_other t.pairs s n (λ e. ne (sym e)) ∙ at);
      silent = naming_none s n None q.channel (CloseStream s ∷ []) ne (λ c k _. none-some c k) (eq-eqb s s refl, tt);
    })

if_opened :
    (n s : ℕ) (b : Bool) (t : Forwards) (p q : PairState) → get t.pairs n ≡ Some p →
    get (if b then unmoved t else record { after = record t { pairs = remove t.pairs s }; outputs = CloseStream s ∷ [] }).after.pairs n ≡ Some q →
    Moved n (OpenFailed s) p q (s == n) (if b then unmoved t else record { after = record t { pairs = remove t.pairs s }; outputs = CloseStream s ∷ [] }).outputs
if_opened n s true t p q at h = not_given_up n s t p q at h
if_opened n s false t p q at h = other_gone n s (OpenFailed s) t p q at h

given_up_moved :
    (n s : ℕ) (o : Option PairState) (t : Forwards) (p q : PairState) → get t.pairs n ≡ Some p → get t.pairs s ≡ o →
    get (given_up s o t).after.pairs n ≡ Some q → Moved n (OpenFailed s) p q (s == n) (given_up s o t).outputs
given_up_moved n s None t p q at here h = not_given_up n s t p q at h
given_up_moved n s (Some x) t p q at here h =
    if_opened n s (is_some x.channel) t p q at h

data_moved :
    (n c : ℕ) (b : List ℕ) (o : Option ℕ) (t : Forwards) (p q : PairState) → IsLegal t → get t.pairs n ≡ Some p →
    get t.joined c ≡ o → get (turned_on (Data c b) o t).after.pairs n ≡ Some q →
    Moved n (Data c b) p q (is_number n o) (turned_on (Data c b) o t).outputs
data_moved n c b None t p q l at on h = idle n (Data c b) t p q at h
data_moved n c b (Some s) t p q l at on h =
    at_stream n s (Data c b) (get t.pairs s) t p q at refl h (λ x here. joined_channel t s c x l on here)
    (λ x here ne. apart_kept t s n x p (turn s (Data c b) x).pair.channel l here at (data_channel s c b x) ne)

channel_eof_moved :
    (n c : ℕ) (o : Option ℕ) (t : Forwards) (p q : PairState) → IsLegal t → get t.pairs n ≡ Some p →
    get t.joined c ≡ o → get (turned_on (ChannelEof c) o t).after.pairs n ≡ Some q →
    Moved n (ChannelEof c) p q (is_number n o) (turned_on (ChannelEof c) o t).outputs
channel_eof_moved n c None t p q l at on h = idle n (ChannelEof c) t p q at h
channel_eof_moved n c (Some s) t p q l at on h =
    at_stream n s (ChannelEof c) (get t.pairs s) t p q at refl h (λ x here. joined_channel t s c x l on here)
    (λ x here ne. apart_kept t s n x p (turn s (ChannelEof c) x).pair.channel l here at (channel_eof_channel s c x) ne)

closed_moved :
    (n c : ℕ) (o : Option ℕ) (t : Forwards) (p q : PairState) → get t.pairs n ≡ Some p →
    get (closed c o t).after.pairs n ≡ Some q → Moved n (ChannelClose c) p q (is_number n o) (closed c o t).outputs
closed_moved n c None t p q at h = idle n (ChannelClose c) t p q at h
closed_moved n c (Some s) t p q at h = other_gone n s (ChannelClose c) t p q at h

pub moved :
    (n : ℕ) (event : FwdEvent) (t : Forwards) (p q : PairState) → IsLegal t → get t.pairs n ≡ Some p →
    get (effect event t).after.pairs n ≡ Some q → Moved n event p q (is_own n event t) (effect event t).outputs
moved n (Accepted s h a o r) t p q l at i = accepted_moved n s h a o r (contains_key t.pairs s) t p q at refl i
moved n (Opened s c) t p q l at i = opened_moved n s c (is_taken (Opened s c) t) t p q l at refl i
moved n (OpenFailed s) t p q l at i = given_up_moved n s (get t.pairs s) t p q at refl i
moved n (Incoming c s) t p q l at i = incoming_moved n c s (is_taken (Incoming c s) t) t p q at refl i
moved n (Bytes s b) t p q l at i =
    at_stream n s (Bytes s b) (get t.pairs s) t p q at refl i (λ x here. tt)
    (λ x here ne. apart_kept t s n x p (turn s (Bytes s b) x).pair.channel l here at (bytes_channel s s b x) ne)
moved n (StreamEnd s) t p q l at i =
    at_stream n s (StreamEnd s) (get t.pairs s) t p q at refl i (λ x here. tt)
    (λ x here ne. apart_kept t s n x p (turn s (StreamEnd s) x).pair.channel l here at (stream_end_channel s s x) ne)
moved n (Data c b) t p q l at i = data_moved n c b (get t.joined c) t p q l at refl i
moved n (ChannelEof c) t p q l at i = channel_eof_moved n c (get t.joined c) t p q l at refl i
moved n (ChannelClose c) t p q l at i = closed_moved n c (get t.joined c) t p q at i
moved n (StreamFailed s) t p q l at i =
    at_stream n s (StreamFailed s) (get t.pairs s) t p q at refl i (λ x here. tt)
    (λ x here ne. apart_kept t s n x p (turn s (StreamFailed s) x).pair.channel l here at (stream_failed_channel s s x) ne)
