-- The order of a pair's outputs: what one turn may give, by what was given before it.
use Rattle.std.proofs.Common.{◌≡◌, ℕ, Bool, true, false, ◌||◌, List, [], ◌∷◌, ◌++◌, length, Option, Some, None, refl, sym, ap, subst, ◌∙◌}
use Rattle.std.specs.Prelude.{if◌then◌else◌, ◌==◌}
use Rattle.sshc_forward_core.specs.declared.pair.Reading.{Reading}
use Rattle.sshc_forward_core.specs.declared.pair.Reading.TheVariants.{Going, Ended, Failed}
use Rattle.sshc_forward_core.specs.declared.event.FwdEvent.{FwdEvent}
use Rattle.sshc_forward_core.specs.declared.event.FwdEvent.TheVariants.{Accepted, Opened, OpenFailed, Incoming, Bytes, StreamEnd, Data, ChannelEof, ChannelClose, StreamFailed}
use Rattle.sshc_forward_core.specs.declared.given.Given.{Given}
use Rattle.sshc_forward_core.specs.declared.output.FwdOutput.{FwdOutput}
use Rattle.sshc_forward_core.specs.declared.output.FwdOutput.TheVariants.{SendEof, WriteBytes, EndWriting, CloseChannel}
use Rattle.sshc_forward_core.specs.PairState.{PairState, is_read, is_written}
use Rattle.sshc_forward_core.specs.PairTurns.{Turn, quiet, turn, sent_on, opened_turn, bytes_turn, passed_on, stream_end_turn, stream_failed_turn, close_to}
use Rattle.sshc_forward_core.specs.Served.{Fits}
use Rattle.sshc_forward_core.specs.PairAccount.{given_with, given_after, IsOrderly}
use Rattle.sshc_forward_core.proofs.TurnLaws.{MayTurn}

pub given_after-append : (g : Given) (a b : List FwdOutput) → given_after g (a ++ b) ≡ given_after (given_after g a) b
given_after-append g [] b = refl
given_after-append g (o ∷ a) b = given_after-append (given_with g o) a b

pub orderly-append : (g : Given) (a b : List FwdOutput) → IsOrderly g a → IsOrderly (given_after g a) b → IsOrderly g (a ++ b)
orderly-append g [] b h k = k
orderly-append g (o ∷ a) b h k = (h.0, orderly-append (given_with g o) a b h.1 k)

abbrev pub IsOrdered : PairState → Turn → Type 0
IsOrdered p t = (g : Given) → Fits p g → IsOrderly g t.outputs × Fits t.pair (given_after g t.outputs)

two_not : (a b : Bool) → a ≡ false → b ≡ false → (a || b) ≡ false
two_not a b x y = rw (x, y) refl

three_not : (a b c : Bool) → a ≡ false → b ≡ false → c ≡ false → (a || b || c) ≡ false
three_not a b c x y z = rw (x, y, z) refl

quiet_ordered : (p : PairState) → IsOrdered p (quiet p)
quiet_ordered p g f = (tt, f)

bytes_going :
    (b : List ℕ) (channel : Option ℕ) (held : List (List ℕ)) (ended z : Bool) →
    let p : PairState = record { channel = channel; held = held; reading = Going; channel_ended = ended } in
    IsOrdered p (if z then quiet p else passed_on b channel p)
bytes_going b channel held ended true g f = (tt, f)
bytes_going b None held ended false g f =
    (tt, record { eof_read = f.eof_read; eof_there = f.eof_there; ending = f.ending; close_read = f.close_read; close_written = f.close_written; close_there = f.close_there; gone = f.gone })
bytes_going b (Some c) held ended false g f =
    ((three_not g.eof g.close g.gone (f.eof_read refl) (f.close_read refl) f.gone, tt), f)

bytes_ordered :
    (b : List ℕ) (channel : Option ℕ) (held : List (List ℕ)) (reading : Reading) (ended : Bool) →
    let p : PairState = record { channel = channel; held = held; reading = reading; channel_ended = ended } in
    IsOrdered p (bytes_turn b p)
bytes_ordered b channel held Going ended = bytes_going b channel held ended (length b == 0)
bytes_ordered b channel held Ended ended = quiet_ordered _
bytes_ordered b channel held Failed ended = quiet_ordered _

stream_end_ordered :
    (channel : Option ℕ) (held : List (List ℕ)) (reading : Reading) (ended : Bool) →
    let p : PairState = record { channel = channel; held = held; reading = reading; channel_ended = ended } in
    IsOrdered p (stream_end_turn p)
stream_end_ordered None held Going ended g f =
    (tt, record { eof_read = λ q. cc; eof_there = f.eof_there; ending = f.ending; close_read = λ q. cc; close_written = f.close_written; close_there = f.close_there; gone = f.gone })
stream_end_ordered (Some c) held Going false g f = (
  (three_not g.eof g.close g.gone (f.eof_read refl) (f.close_read refl) f.gone, tt),
  record { eof_read = λ q. cc; eof_there = λ q. cc; ending = f.ending; close_read = λ q. cc; close_written = f.close_written; close_there = λ q. cc; gone = f.gone },
)
stream_end_ordered (Some c) held Going true g f = (
  (three_not g.eof g.close g.gone (f.eof_read refl) (f.close_read refl) f.gone, (two_not g.close g.gone (f.close_read refl) f.gone, tt)),
  record { eof_read = λ q. cc; eof_there = λ q. cc; ending = f.ending; close_read = λ q. cc; close_written = λ q. cc; close_there = λ q. cc; gone = f.gone },
)
stream_end_ordered channel held Ended ended g f = (tt, f)
stream_end_ordered channel held Failed ended g f = (tt, f)

failed_written : {A : Type 0} (ended : Bool) → (ended || true) ≡ false → A
failed_written true q = cc
failed_written false q = cc

failure :
    (channel : Option ℕ) (held : List (List ℕ)) (reading : Reading) (ended : Bool) →
    let p : PairState = record { channel = channel; held = held; reading = reading; channel_ended = ended } in
    ((g : Given) → Fits p g → g.close ≡ false) →
    IsOrdered p (record { pair = record p { held = []; reading = Failed }; outputs = close_to channel })
failure None held reading ended no_close g f =
    (tt, record { eof_read = λ q. cc; eof_there = f.eof_there; ending = λ q. failed_written ended q; close_read = λ q. cc; close_written = λ q. failed_written ended q; close_there = f.close_there; gone = f.gone })
failure (Some c) held reading ended no_close g f = (
  (two_not g.close g.gone (no_close g f) f.gone, tt),
  record { eof_read = λ q. cc; eof_there = λ q. cc; ending = λ q. failed_written ended q; close_read = λ q. cc; close_written = λ q. failed_written ended q; close_there = λ q. cc; gone = f.gone },
)

stream_failed_ordered :
    (channel : Option ℕ) (held : List (List ℕ)) (reading : Reading) (ended : Bool) →
    let p : PairState = record { channel = channel; held = held; reading = reading; channel_ended = ended } in
    IsOrdered p (stream_failed_turn p)
stream_failed_ordered channel held Going ended = failure channel held Going ended (λ g f. f.close_read refl)
stream_failed_ordered channel held Ended true = quiet_ordered _
stream_failed_ordered channel held Ended false = failure channel held Ended false (λ g f. f.close_written refl)
stream_failed_ordered channel held Failed true = quiet_ordered _
stream_failed_ordered channel held Failed false = quiet_ordered _

data_going :
    (n : ℕ) (b : List ℕ) (p : PairState) (w z : Bool) → is_written p ≡ w →
    IsOrdered p (if w || z then quiet p else record { pair = p; outputs = WriteBytes n b ∷ [] })
data_going n b p true z h g f = (tt, f)
data_going n b p false true h g f = (tt, f)
data_going n b p false false h g f =
    ((three_not g.ending g.close g.gone (f.ending h) (f.close_written h) f.gone, tt), f)

channel_eof_going :
    (n c : ℕ) (channel : Option ℕ) (held : List (List ℕ)) (reading : Reading) (ended w : Bool) →
    let p : PairState = record { channel = channel; held = held; reading = reading; channel_ended = ended } in
    is_written p ≡ w → channel ≡ Some c →
    IsOrdered p (if w then quiet p else record {
      pair = record p { channel_ended = true };
      outputs = EndWriting n ∷ (if is_read reading then CloseChannel c ∷ [] else []);
    })
channel_eof_going n c channel held reading ended true h on g f = (tt, f)
channel_eof_going n c channel held Going ended false h on g f = (
  (three_not g.ending g.close g.gone (f.ending h) (f.close_written h) f.gone, tt),
  record { eof_read = f.eof_read; eof_there = f.eof_there; ending = λ q. cc; close_read = f.close_read; close_written = λ q. cc; close_there = f.close_there; gone = f.gone },
)
channel_eof_going n c channel held Ended ended false h on g f = (
  (three_not g.ending g.close g.gone (f.ending h) (f.close_written h) f.gone, (two_not g.close g.gone (f.close_written h) f.gone, tt)),
  record { eof_read = λ q. cc; eof_there = f.eof_there; ending = λ q. cc; close_read = λ q. cc; close_written = λ q. cc; close_there = λ q. cc; gone = f.gone },
)
channel_eof_going n c channel held Failed ended false h on g f = (
  (three_not g.ending g.close g.gone (f.ending h) (f.close_written h) f.gone, (two_not g.close g.gone (f.close_written h) f.gone, tt)),
  record { eof_read = λ q. cc; eof_there = f.eof_there; ending = λ q. cc; close_read = λ q. cc; close_written = λ q. cc; close_there = λ q. cc; gone = f.gone },
)

given_after-sent_on : (g : Given) (c : ℕ) (held : List (List ℕ)) → given_after g (sent_on c held) ≡ g
given_after-sent_on g c [] = refl
given_after-sent_on g c (b ∷ held) = given_after-sent_on g c held

orderly-sent_on : (g : Given) (c : ℕ) (held : List (List ℕ)) → (g.eof || g.close || g.gone) ≡ false → IsOrderly g (sent_on c held)
orderly-sent_on g c [] h = tt
orderly-sent_on g c (b ∷ held) h = (h, orderly-sent_on g c held h)

opened_ordered :
    (c : ℕ) (held : List (List ℕ)) (reading : Reading) (ended : Bool) →
    let p : PairState = record { channel = None; held = held; reading = reading; channel_ended = ended } in
    IsOrdered p (opened_turn c p)
opened_ordered c held Going ended g f =
    let p1 : PairState = record { channel = Some c; held = []; reading = Going; channel_ended = ended } in (
      orderly-sent_on g c held (three_not g.eof g.close g.gone (f.eof_there refl) (f.close_there refl) f.gone),
      subst (λ x. Fits p1 x) (sym (given_after-sent_on g c held)) (record { eof_read = f.eof_read; eof_there = λ q. cc; ending = f.ending; close_read = f.close_read; close_written = f.close_written; close_there = λ q. cc; gone = f.gone }),
    )
opened_ordered c held Ended ended g f =
    let p1 : PairState = record { channel = Some c; held = []; reading = Ended; channel_ended = ended } in
    let free = three_not g.eof g.close g.gone (f.eof_there refl) (f.close_there refl) f.gone in
    let same = given_after-sent_on g c held in (
      orderly-append g (sent_on c held) (SendEof c ∷ []) (orderly-sent_on g c held free)
          (subst (λ x. IsOrderly x (SendEof c ∷ [])) (sym same) (free, tt)),
      subst (λ x. Fits p1 x) (sym (given_after-append g (sent_on c held) (SendEof c ∷ []) ∙ ap (λ (x : Given). given_after x (SendEof c ∷ [])) same))
          (record { eof_read = λ q. cc; eof_there = λ q. cc; ending = f.ending; close_read = λ q. cc; close_written = f.close_written; close_there = λ q. cc; gone = f.gone }),
    )
opened_ordered c held Failed ended g f = (
  (two_not g.close g.gone (f.close_there refl) f.gone, tt),
  record { eof_read = λ q. cc; eof_there = λ q. cc; ending = f.ending; close_read = λ q. cc; close_written = λ q. failed_written ended q; close_there = λ q. cc; gone = f.gone },
)

opened_at :
    (c : ℕ) (channel : Option ℕ) (held : List (List ℕ)) (reading : Reading) (ended : Bool) →
    let p : PairState = record { channel = channel; held = held; reading = reading; channel_ended = ended } in
    channel ≡ None → IsOrdered p (opened_turn c p)
opened_at c None held reading ended h = opened_ordered c held reading ended
opened_at c (Some d) held reading ended h = absurd (cc)

-- each event that reaches its pair
pub ordered : (n : ℕ) (event : FwdEvent) (p : PairState) → MayTurn event p → IsOrdered p (turn n event p)
ordered n (Accepted s h q o r) p may = absurd may
ordered n (Opened s c) p may = opened_at c p.channel p.held p.reading p.channel_ended may
ordered n (OpenFailed s) p may = quiet_ordered p
ordered n (Incoming c s) p may = absurd may
ordered n (Bytes s b) p may = bytes_ordered b p.channel p.held p.reading p.channel_ended
ordered n (StreamEnd s) p may = stream_end_ordered p.channel p.held p.reading p.channel_ended
ordered n (Data c b) p may = data_going n b p (is_written p) (length b == 0) refl
ordered n (ChannelEof c) p may = channel_eof_going n c p.channel p.held p.reading p.channel_ended (is_written p) refl may
ordered n (ChannelClose c) p may = absurd may
ordered n (StreamFailed s) p may = stream_failed_ordered p.channel p.held p.reading p.channel_ended
