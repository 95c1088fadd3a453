-- Each event of a served pair keeps what was given fitting how far the pair has come, and gives only what is permitted.
use Rattle.std.proofs.Common.{◌≡◌, ℕ, Bool, true, false, cond, Option, Some, List, refl, sym, ap, subst, ◌∙◌, inl, inr}
use Rattle.std.specs.Prelude.{nat_eq, is_some, if◌then◌else◌, ◌||◌}
use Rattle.std.specs.Ordering.{nat_cmp}
use Rattle.std.specs.Cmp.{nat_cmp_total, unsigned_tied}
use Rattle.std.specs.FinMap.{FinMap, empty, get, insert, remove, get-empty, get-insert, contains_key, same_map, nat_cmp-IsAntisymmetric}
use Rattle.sshc_forward_core.specs.declared.event.FwdEvent.{FwdEvent}
use Rattle.sshc_forward_core.specs.declared.event.FwdEvent.TheVariants.{Incoming, Bytes, StreamEnd, Data, ChannelEof, StreamFailed}
use Rattle.sshc_forward_core.specs.declared.given.Given.{Given}
use Rattle.sshc_forward_core.specs.declared.output.FwdOutput.{FwdOutput}
use Rattle.sshc_forward_core.specs.declared.served.PairEvent.{PairEvent}
use Rattle.sshc_forward_core.specs.declared.served.PairEvent.TheVariants as own
use Rattle.sshc_forward_core.specs.PairState.{PairState, new_pair}
use Rattle.sshc_forward_core.specs.PairTurns.{turn}
use Rattle.sshc_forward_core.specs.Forwards.{Forwards, Effect, no_pairs, unmoved, effect, is_taken, incoming_row, turned, turned_on, closed}
use Rattle.sshc_forward_core.specs.PairAccount.{none_given, given_after, IsOrderly}
use Rattle.sshc_forward_core.specs.Served.{Served, alone, Fits, IsServed, fwd_event, served_after}
use Rattle.sshc_forward_core.proofs.MapLemmas.{undone}
use Rattle.sshc_forward_core.proofs.PlaceLemmas.{get_here}
use Rattle.sshc_forward_core.proofs.TurnLaws.{MayTurn}
use Rattle.sshc_forward_core.proofs.OrderLaws.{ordered}
use Rattle.sshc_forward_core.proofs.LegalLaw.{bytes_channel, stream_end_channel, stream_failed_channel, data_channel, channel_eof_channel}

module _ {X : Type 0} where
  last_put : (b : Bool) (o : Option X) (v w : X) → cond b (Some w) (cond b (Some v) o) ≡ cond b (Some w) o
  last_put true o v w = refl
  last_put false o v w = refl

  insert_twice : (m : FinMap nat_cmp X) (k : ℕ) (v w : X) → insert (insert m k v) k w ≡ insert m k w
  insert_twice m k v w = same_map nat_cmp_total nat_cmp-IsAntisymmetric _ _ (λ q.
      get-insert nat_cmp_total (insert m k v) k w q
      ∙ ap (λ b. cond b (Some w) (get (insert m k v) q)) (unsigned_tied q k)
      ∙ ap (cond (nat_eq q k) (Some w)) (get-insert nat_cmp_total m k v q ∙ ap (λ b. cond b (Some v) (get m q)) (unsigned_tied q k))
      ∙ last_put (nat_eq q k) (get m q) v w
      ∙ sym (get-insert nat_cmp_total m k w q ∙ ap (λ b. cond b (Some w) (get m q)) (unsigned_tied q k)))

  remove_alone : (k : ℕ) (v : X) → remove (insert (let none : FinMap nat_cmp X = empty in none) k v) k ≡ empty
  remove_alone k v = undone empty k v (ap is_some (get-empty nat_cmp k))

-- what an event leaves
abbrev pub Keeps : ℕ → Given → Effect → Type 0
Keeps n g e = IsOrderly g e.outputs × IsServed n e.after (given_after g e.outputs)

-- ---- the pair is there

turned_alone :
    (n : ℕ) (event : FwdEvent) (p : PairState) (g : Given) → p.channel ≡ Some n → MayTurn event p →
    (turn n event p).pair.channel ≡ p.channel → Fits p g → Keeps n g (turned n event (get (alone n p).pairs n) (alone n p))
turned_alone n event p g on may kept fits =
    let q = (turn n event p).pair in
    let f = ordered n event p may g fits in
    subst (λ (o : Option PairState). Keeps n g (turned n event o (alone n p))) (sym (get_here empty n p)) (
      f.0,
      inl (
        q,
        ap (λ (m : FinMap nat_cmp PairState). let t : Forwards = record { pairs = m; joined = insert empty n n } in t) (insert_twice empty n p q),
        kept ∙ on,
        f.1,
      ),
    )

turned_on_alone :
    (n : ℕ) (event : FwdEvent) (p : PairState) (g : Given) → p.channel ≡ Some n → MayTurn event p →
    (turn n event p).pair.channel ≡ p.channel → Fits p g → Keeps n g (turned_on event (get (alone n p).joined n) (alone n p))
turned_on_alone n event p g on may kept fits =
    subst (λ (o : Option ℕ). Keeps n g (turned_on event o (alone n p))) (sym (get_here empty n n))
    (turned_alone n event p g on may kept fits)

closed_alone : (n : ℕ) (p : PairState) (g : Given) → Fits p g → Keeps n g (closed n (get (alone n p).joined n) (alone n p))
closed_alone n p g fits =
    subst (λ (o : Option ℕ). Keeps n g (closed n o (alone n p))) (sym (get_here empty n n)) (
      (fits.gone, tt),
      inr (
        ap (λ (m : FinMap nat_cmp PairState). let t : Forwards = record { pairs = m; joined = remove (insert empty n n) n } in t) (remove_alone n p)
            ∙ ap (λ (m : FinMap nat_cmp ℕ). let t : Forwards = record { pairs = empty; joined = m } in t) (remove_alone n n),
        refl,
      ),
    )

alone_keeps : (n : ℕ) (event : PairEvent) (p : PairState) (g : Given) → p.channel ≡ Some n → Fits p g → Keeps n g (effect (fwd_event n event) (alone n p))
alone_keeps n (own.Bytes b) p g on fits = turned_alone n (Bytes n b) p g on tt (bytes_channel n n b p) fits
alone_keeps n own.StreamEnd p g on fits = turned_alone n (StreamEnd n) p g on tt (stream_end_channel n n p) fits
alone_keeps n (own.Data b) p g on fits = turned_on_alone n (Data n b) p g on on (data_channel n n b p) fits
alone_keeps n own.ChannelEof p g on fits = turned_on_alone n (ChannelEof n) p g on on (channel_eof_channel n n p) fits
alone_keeps n own.ChannelClose p g on fits = closed_alone n p g fits
alone_keeps n own.StreamFailed p g on fits = turned_alone n (StreamFailed n) p g on tt (stream_failed_channel n n p) fits

-- ---- the pair is gone

quiet_stream : (n : ℕ) (event : FwdEvent) (g : Given) → g.gone ≡ true → Keeps n g (turned n event (get no_pairs.pairs n) no_pairs)
quiet_stream n event g gone =
    subst (λ (o : Option PairState). Keeps n g (turned n event o no_pairs)) (sym (get-empty nat_cmp n)) (tt, inr (refl, gone))

quiet_channel : (n : ℕ) (event : FwdEvent) (g : Given) → g.gone ≡ true → Keeps n g (turned_on event (get no_pairs.joined n) no_pairs)
quiet_channel n event g gone =
    subst (λ (o : Option ℕ). Keeps n g (turned_on event o no_pairs)) (sym (get-empty nat_cmp n)) (tt, inr (refl, gone))

quiet_close : (n : ℕ) (g : Given) → g.gone ≡ true → Keeps n g (closed n (get no_pairs.joined n) no_pairs)
quiet_close n g gone =
    subst (λ (o : Option ℕ). Keeps n g (closed n o no_pairs)) (sym (get-empty nat_cmp n)) (tt, inr (refl, gone))

gone_keeps : (n : ℕ) (event : PairEvent) (g : Given) → g.gone ≡ true → Keeps n g (effect (fwd_event n event) no_pairs)
gone_keeps n (own.Bytes b) g gone = quiet_stream n (Bytes n b) g gone
gone_keeps n own.StreamEnd g gone = quiet_stream n (StreamEnd n) g gone
gone_keeps n (own.Data b) g gone = quiet_channel n (Data n b) g gone
gone_keeps n own.ChannelEof g gone = quiet_channel n (ChannelEof n) g gone
gone_keeps n own.ChannelClose g gone = quiet_close n g gone
gone_keeps n own.StreamFailed g gone = quiet_stream n (StreamFailed n) g gone

pub served_keeps : (n : ℕ) (event : PairEvent) (t : Forwards) (g : Given) → IsServed n t g → Keeps n g (effect (fwd_event n event) t)
served_keeps n event t g (inl (p, is, on, fits)) =
    subst (λ (u : Forwards). Keeps n g (effect (fwd_event n event) u)) (sym is) (alone_keeps n event p g on fits)
served_keeps n event t g (inr (is, gone)) =
    subst (λ (u : Forwards). Keeps n g (effect (fwd_event n event) u)) (sym is) (gone_keeps n event g gone)

-- ---- for the code

-- what a step leaves is what the pair's row says
pub taken_so :
    (event : PairEvent) (s : Served) (after : Forwards) (outputs : List FwdOutput) (given : Given) →
    IsServed s.number s.pairs s.given →
    after ≡ (effect (fwd_event s.number event) s.pairs).after → outputs ≡ (effect (fwd_event s.number event) s.pairs).outputs →
    given ≡ given_after s.given outputs →
    ((let u : Served = record { number = s.number; pairs = after; given = given } in u) ≡ served_after event s)
    × (outputs ≡ (effect (fwd_event s.number event) s.pairs).outputs)
    × IsOrderly s.given outputs
taken_so event s after outputs given served moved gave marked =
    let k = served_keeps s.number event s.pairs s.given served in (
      ap (λ (t : Forwards). let u : Served = record { number = s.number; pairs = t; given = given } in u) moved
          ∙ ap (λ (g : Given). let u : Served = record { number = s.number; pairs = (effect (fwd_event s.number event) s.pairs).after; given = g } in u)
          (marked ∙ ap (given_after s.given) gave),
      gave,
      subst (λ (l : List FwdOutput). IsOrderly s.given l) (sym gave) k.0,
    )

pub still_served :
    (event : PairEvent) (n : ℕ) (t after : Forwards) (g given : Given) (outputs : List FwdOutput) → IsServed n t g →
    after ≡ (effect (fwd_event n event) t).after → outputs ≡ (effect (fwd_event n event) t).outputs →
    given ≡ given_after g outputs → IsServed n after given
still_served event n t after g given outputs served moved gave marked =
    let k = served_keeps n event t g served in
    subst (λ (u : Forwards). IsServed n u given) (sym moved)
    (subst (λ (h : Given). IsServed n (effect (fwd_event n event) t).after h) (sym (marked ∙ ap (given_after g) gave)) k.1)

new_fits : (n : ℕ) → Fits (new_pair (Some n)) none_given
new_fits n = record { eof_read = λ _. refl; eof_there = λ _. refl; ending = λ _. refl; close_read = λ _. refl; close_written = λ _. refl; close_there = λ _. refl; gone = refl }

-- the core after the pair's channel came
taken_none : (n : ℕ) → is_taken (Incoming n n) no_pairs ≡ false
taken_none n =
    ap (λ (o : Option PairState). is_some o || contains_key no_pairs.joined n) (get-empty nat_cmp n)
    ∙ ap (λ (o : Option ℕ). is_some o) (get-empty nat_cmp n)

coming : (n : ℕ) → (effect (Incoming n n) no_pairs).after ≡ alone n (new_pair (Some n))
coming n = ap (λ (b : Bool). (if b then unmoved no_pairs else incoming_row n n no_pairs).after) (taken_none n)

pub comes : (n : ℕ) (t u : Forwards) → t ≡ no_pairs → u ≡ (effect (Incoming n n) t).after → u ≡ alone n (new_pair (Some n))
comes n t u none came = came ∙ ap (λ (v : Forwards). (effect (Incoming n n) v).after) none ∙ coming n

pub served_first : (n : ℕ) (t : Forwards) → t ≡ alone n (new_pair (Some n)) → IsServed n t none_given
served_first n t is = inl (new_pair (Some n), is, refl, new_fits n)
