-- Every event leaves streams and channels in agreement.
use Rattle.std.proofs.Common.{◌≡◌, ℕ, Bool, true, false, ◌||◌, Option, Some, None, List, [], ◌∷◌, refl, sym, ap, subst, ◌∙◌}
use Rattle.std.specs.Prelude.{is_some, if◌then◌else◌, length, ◌==◌, ◌&&◌}
use Rattle.std.specs.Ordering.{nat_cmp}
use Rattle.std.specs.FinMap.{get, remove, contains_key, get-empty}
use Rattle.std.proofs.lemmas.Bool.{or_parts}
use Rattle.std.proofs.lemmas.Option.{none-some}
use Rattle.sshc_forward_core.specs.declared.event.FwdEvent.{FwdEvent}
use Rattle.sshc_forward_core.specs.declared.event.FwdEvent.TheVariants.{Accepted, Opened, OpenFailed, Incoming, Bytes, StreamEnd, Data, ChannelEof, ChannelClose, StreamFailed}
use Rattle.sshc_forward_core.specs.declared.output.FwdOutput.TheVariants.{CloseStream}
use Rattle.sshc_forward_core.specs.PairState.{PairState, new_pair, is_read, is_written}
use Rattle.sshc_forward_core.specs.PairTurns.{Turn, quiet, turn, opened_turn, passed_on}
use Rattle.sshc_forward_core.specs.Forwards.{Forwards, no_pairs, effect, is_taken, turned, turned_on, joins, given_up, closed, opened_in, unmoved, accepted_row, incoming_row, opened_row}
use Rattle.sshc_forward_core.specs.PairAccount.{ran}
use Rattle.sshc_forward_core.proofs.PlaceLemmas.{one_value}
use Rattle.sshc_forward_core.proofs.TurnLaws.{MayTurn, balanced}
use Rattle.sshc_forward_core.proofs.LegalLemmas.{IsLegal, stays_turned, stays_accepted, stays_joined, stays_given_up, stays_closed, is_none, new_sound}

-- a turn that may be quiet keeps the channel
either_channel : (z : Bool) (p : PairState) (t : Turn) → t.pair.channel ≡ p.channel → (if z then quiet p else t).pair.channel ≡ p.channel
either_channel true p t h = refl
either_channel false p t h = h

passed_channel : (b : List ℕ) (channel : Option ℕ) (p : PairState) → (passed_on b channel p).pair.channel ≡ p.channel
passed_channel b None p = refl
passed_channel b (Some c) p = refl

pub bytes_channel : (n s : ℕ) (b : List ℕ) (p : PairState) → (turn n (Bytes s b) p).pair.channel ≡ p.channel
bytes_channel n s b p = either_channel (is_read p.reading || length b == 0) p (passed_on b p.channel p) (passed_channel b p.channel p)

pub stream_end_channel : (n s : ℕ) (p : PairState) → (turn n (StreamEnd s) p).pair.channel ≡ p.channel
stream_end_channel n s p = either_channel (is_read p.reading) p _ refl

pub stream_failed_channel : (n s : ℕ) (p : PairState) → (turn n (StreamFailed s) p).pair.channel ≡ p.channel
stream_failed_channel n s p = either_channel (is_read p.reading && is_written p) p _ refl

pub data_channel : (n c : ℕ) (b : List ℕ) (p : PairState) → (turn n (Data c b) p).pair.channel ≡ p.channel
data_channel n c b p = either_channel (is_written p || length b == 0) p _ refl

pub channel_eof_channel : (n c : ℕ) (p : PairState) → (turn n (ChannelEof c) p).pair.channel ≡ p.channel
channel_eof_channel n c p = either_channel (is_written p) p _ refl

-- a turn at a stream
turned_legal :
    (s : ℕ) (event : FwdEvent) (o : Option PairState) (t : Forwards) → IsLegal t → get t.pairs s ≡ o →
    ((p : PairState) → get t.pairs s ≡ Some p → ((turn s event p).pair.channel ≡ p.channel) × MayTurn event p) →
    IsLegal (turned s event o t).after
turned_legal s event None t l at k = l
turned_legal s event (Some p) t l at k =
    stays_turned t s p (turn s event p).pair l at (k p at).0 (balanced s event p (l.sound s p at) (k p at).1).sound

-- what the pair that a channel is joined to has
pub joined_channel : (t : Forwards) (s c : ℕ) (p : PairState) → IsLegal t → get t.joined c ≡ Some s → get t.pairs s ≡ Some p → p.channel ≡ Some c
joined_channel t s c p l on at =
    let w = l.joined s c on in
    ap (λ (x : PairState). x.channel) (one_value t.pairs s s p w.0 refl at w.1) ∙ w.2

data_legal : (c : ℕ) (b : List ℕ) (o : Option ℕ) (t : Forwards) → IsLegal t → get t.joined c ≡ o → IsLegal (turned_on (Data c b) o t).after
data_legal c b None t l on = l
data_legal c b (Some s) t l on =
    turned_legal s (Data c b) (get t.pairs s) t l refl (λ p at. (data_channel s c b p, joined_channel t s c p l on at))

channel_eof_legal : (c : ℕ) (o : Option ℕ) (t : Forwards) → IsLegal t → get t.joined c ≡ o → IsLegal (turned_on (ChannelEof c) o t).after
channel_eof_legal c None t l on = l
channel_eof_legal c (Some s) t l on =
    turned_legal s (ChannelEof c) (get t.pairs s) t l refl (λ p at. (channel_eof_channel s c p, joined_channel t s c p l on at))

-- OPENED
pub no_channel : (o : Option PairState) (p : PairState) → opened_in o ≡ false → o ≡ Some p → p.channel ≡ None
no_channel None p h e = absurd (none-some p e)
no_channel (Some q) p h e = is_none p.channel (ap opened_in (sym e) ∙ h)

opened_legal :
    (s c : ℕ) (o : Option PairState) (t : Forwards) → IsLegal t → get t.pairs s ≡ o → get t.joined c ≡ None →
    opened_in (get t.pairs s) ≡ false →
    IsLegal (turned s (Opened s c) (get (joins s c o t).pairs s) (joins s c o t)).after
opened_legal s c None t l at free off =
    subst (λ (x : Option PairState). IsLegal (turned s (Opened s c) x t).after) (sym at) l
opened_legal s c (Some p) t l at free off =
    let has_none = no_channel (get t.pairs s) p off at in
    subst (λ (x : Option PairState). IsLegal (turned s (Opened s c) x (joins s c (Some p) t)).after) (sym at)
    (stays_joined t s c (opened_turn c p).pair l free (λ q i. no_channel (get t.pairs s) q off i) refl
    (balanced s (Opened s c) p (l.sound s p at) has_none).sound)

opened_or_taken :
    (s c : ℕ) (b : Bool) (t : Forwards) → IsLegal t → is_taken (Opened s c) t ≡ b →
    IsLegal (if b then unmoved t else opened_row s c t).after
opened_or_taken s c true t l h = l
opened_or_taken s c false t l h =
    let parts = or_parts (contains_key t.joined c) (opened_in (get t.pairs s)) h in
    opened_legal s c (get t.pairs s) t l refl (is_none (get t.joined c) parts.0) parts.1

-- ACCEPTED and INCOMING
accepted_or_taken :
    (s : ℕ) (h : List ℕ) (q : ℕ) (o : List ℕ) (r : ℕ) (b : Bool) (t : Forwards) → IsLegal t → contains_key t.pairs s ≡ b →
    IsLegal (if b then unmoved t else accepted_row s h q o r t).after
accepted_or_taken s h q o r true t l e = l
accepted_or_taken s h q o r false t l e =
    stays_accepted t s (new_pair None) l (is_none (get t.pairs s) e) refl (new_sound None)

incoming_or_taken :
    (c s : ℕ) (b : Bool) (t : Forwards) → IsLegal t → is_taken (Incoming c s) t ≡ b →
    IsLegal (if b then unmoved t else incoming_row c s t).after
incoming_or_taken c s true t l h = l
incoming_or_taken c s false t l h =
    let parts = or_parts (contains_key t.pairs s) (contains_key t.joined c) h in
    stays_joined t s c (new_pair (Some c)) l (is_none (get t.joined c) parts.1)
    (λ p at. absurd (none-some p (sym (is_none (get t.pairs s) parts.0) ∙ at))) refl (new_sound (Some c))

-- OPEN_FAILED
given_up_at :
    (s : ℕ) (channel : Option ℕ) (p : PairState) (t : Forwards) → IsLegal t → get t.pairs s ≡ Some p → p.channel ≡ channel →
    IsLegal (if is_some channel then unmoved t else record { after = record t { pairs = remove t.pairs s }; outputs = CloseStream s ∷ [] }).after
given_up_at s (Some c) p t l at on = l
given_up_at s None p t l at on = stays_given_up t s p l at on

open_failed_legal : (s : ℕ) (o : Option PairState) (t : Forwards) → IsLegal t → get t.pairs s ≡ o → IsLegal (given_up s o t).after
open_failed_legal s None t l at = l
open_failed_legal s (Some p) t l at = given_up_at s p.channel p t l at refl

-- CHANNEL_CLOSE
closed_legal : (c : ℕ) (o : Option ℕ) (t : Forwards) → IsLegal t → get t.joined c ≡ o → IsLegal (closed c o t).after
closed_legal c None t l on = l
closed_legal c (Some s) t l on = stays_closed t s c l on

pub legal_after : (event : FwdEvent) (t : Forwards) → IsLegal t → IsLegal (effect event t).after
legal_after (Accepted s h q o r) t l = accepted_or_taken s h q o r (contains_key t.pairs s) t l refl
legal_after (Opened s c) t l = opened_or_taken s c (is_taken (Opened s c) t) t l refl
legal_after (OpenFailed s) t l = open_failed_legal s (get t.pairs s) t l refl
legal_after (Incoming c s) t l = incoming_or_taken c s (is_taken (Incoming c s) t) t l refl
legal_after (Bytes s b) t l = turned_legal s (Bytes s b) (get t.pairs s) t l refl (λ p at. (bytes_channel s s b p, tt))
legal_after (StreamEnd s) t l = turned_legal s (StreamEnd s) (get t.pairs s) t l refl (λ p at. (stream_end_channel s s p, tt))
legal_after (Data c b) t l = data_legal c b (get t.joined c) t l refl
legal_after (ChannelEof c) t l = channel_eof_legal c (get t.joined c) t l refl
legal_after (ChannelClose c) t l = closed_legal c (get t.joined c) t l refl
legal_after (StreamFailed s) t l = turned_legal s (StreamFailed s) (get t.pairs s) t l refl (λ p at. (stream_failed_channel s s p, tt))

pub none_legal : IsLegal no_pairs
none_legal = record {
  known = λ s c p h on. absurd (none-some p (sym (get-empty nat_cmp s) ∙ h));
  joined = λ s c h. absurd (none-some s (sym (get-empty nat_cmp c) ∙ h));
  sound = λ s p h. absurd (none-some p (sym (get-empty nat_cmp s) ∙ h));
}

pub ran_legal : (events : List FwdEvent) (t : Forwards) → IsLegal t → IsLegal (ran events t).after
ran_legal [] t l = l
ran_legal (event ∷ events) t l = ran_legal events (effect event t).after (legal_after event t l)
