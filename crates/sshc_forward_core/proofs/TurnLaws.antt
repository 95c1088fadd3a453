-- What one turn does to the account of its pair.
use Rattle.std.proofs.Common.{◌≡◌, ℕ, Bool, true, false, ◌||◌, List, [], ◌∷◌, ◌++◌, length, Option, Some, None, refl, sym, ap, ◌∙◌, append_assoc, arith}
use Rattle.std.specs.Prelude.{if◌then◌else◌, ◌==◌}
use Rattle.std.proofs.lemmas.List.{append-nil}
use Rattle.sshc_forward_core.specs.declared.pair.Reading.{Reading}
use Rattle.sshc_forward_core.specs.declared.pair.Reading.TheVariants.{Going, Ended, Failed}
use Rattle.sshc_forward_core.specs.declared.event.FwdEvent.{FwdEvent}
use Rattle.sshc_forward_core.specs.declared.event.FwdEvent.TheVariants.{Accepted, Opened, OpenFailed, Incoming, Bytes, StreamEnd, Data, ChannelEof, ChannelClose, StreamFailed}
use Rattle.sshc_forward_core.specs.declared.output.FwdOutput.{FwdOutput}
use Rattle.sshc_forward_core.specs.declared.output.FwdOutput.TheVariants.{OpenChannel, SendData, SendEof, WriteBytes, EndWriting, CloseStream, CloseChannel}
use Rattle.sshc_forward_core.specs.PairState.{PairState, is_opened, is_read, has_failed, is_written}
use Rattle.sshc_forward_core.specs.PairTurns.{Turn, quiet, turn, sent_on, opened_turn, bytes_turn, passed_on, stream_end_turn, eof_to, stream_failed_turn, close_to, data_turn, channel_eof_turn}
use Rattle.sshc_forward_core.specs.PairAccount.{read, received, sent, written, has_opened, failed_in}

-- ---- sums

abbrev pub flat : List (List ℕ) → List ℕ
flat [] = []
flat (bytes ∷ held) = bytes ++ flat held

flat-push : (held : List (List ℕ)) (bytes : List ℕ) → flat (held ++ bytes ∷ []) ≡ flat held ++ bytes
flat-push [] bytes = append-nil bytes
flat-push (b ∷ held) bytes = ap (λ (l : List ℕ). b ++ l) (flat-push held bytes) ∙ sym (append_assoc b (flat held) bytes)

pub sent-append : (a b : List FwdOutput) → sent (a ++ b) ≡ sent a ++ sent b
sent-append [] b = refl
sent-append (SendData channel bytes ∷ a) b = ap (λ (l : List ℕ). bytes ++ l) (sent-append a b) ∙ sym (append_assoc bytes (sent a) (sent b))
sent-append (OpenChannel s h p o q ∷ a) b = sent-append a b
sent-append (SendEof c ∷ a) b = sent-append a b
sent-append (WriteBytes s bytes ∷ a) b = sent-append a b
sent-append (EndWriting s ∷ a) b = sent-append a b
sent-append (CloseStream s ∷ a) b = sent-append a b
sent-append (CloseChannel c ∷ a) b = sent-append a b

pub written-append : (a b : List FwdOutput) → written (a ++ b) ≡ written a ++ written b
written-append [] b = refl
written-append (WriteBytes channel bytes ∷ a) b = ap (λ (l : List ℕ). bytes ++ l) (written-append a b) ∙ sym (append_assoc bytes (written a) (written b))
written-append (OpenChannel s h p o q ∷ a) b = written-append a b
written-append (SendEof c ∷ a) b = written-append a b
written-append (SendData s bytes ∷ a) b = written-append a b
written-append (EndWriting s ∷ a) b = written-append a b
written-append (CloseStream s ∷ a) b = written-append a b
written-append (CloseChannel c ∷ a) b = written-append a b

sent-sent_on : (channel : ℕ) (held : List (List ℕ)) → sent (sent_on channel held) ≡ flat held
sent-sent_on channel [] = refl
sent-sent_on channel (bytes ∷ held) = ap (λ (l : List ℕ). bytes ++ l) (sent-sent_on channel held)

written-sent_on : (channel : ℕ) (held : List (List ℕ)) → written (sent_on channel held) ≡ []
written-sent_on channel [] = refl
written-sent_on channel (bytes ∷ held) = written-sent_on channel held

no_bytes : (b : List ℕ) → (length b == 0) ≡ true → b ≡ []
no_bytes [] h = refl
no_bytes (x ∷ b) h = absurd (grind arith)

-- ---- what holds of every pair

-- nothing is held on a pair that is opened or has failed
pub record IsSound (p : PairState) : Type 0 where
  pub opened : is_opened p ≡ true → p.held ≡ []
  pub failed : has_failed p.reading ≡ true → p.held ≡ []

-- what is known where an event reaches its pair
abbrev pub MayTurn : FwdEvent → PairState → Type 0
MayTurn (Accepted s h q o r) p = ⊥
MayTurn (Opened s channel) p = p.channel ≡ None
MayTurn (OpenFailed s) p = Unit {0}
MayTurn (Incoming channel s) p = ⊥
MayTurn (Bytes s bytes) p = Unit {0}
MayTurn (StreamEnd s) p = Unit {0}
MayTurn (Data channel bytes) p = p.channel ≡ Some channel
MayTurn (ChannelEof channel) p = p.channel ≡ Some channel
MayTurn (ChannelClose channel) p = ⊥
MayTurn (StreamFailed s) p = Unit {0}

-- what is still to be read and to be received
abbrev pub read_from : PairState → List FwdEvent → List ℕ
read_from p events = if is_read p.reading then [] else read events

abbrev pub received_from : PairState → List FwdEvent → List ℕ
received_from p events = if is_written p then [] else received events

-- what a turn does to the account: what was held and is read is sent, held or lost, and lost by a failure alone
pub record Balanced (event : FwdEvent) (p : PairState) (t : Turn) : Type 0 where
  pub sums :
      (mine : List FwdEvent) →
      (lost : List ℕ)
      × (flat p.held ++ read_from p (event ∷ mine) ≡ (sent t.outputs ++ (flat t.pair.held ++ read_from t.pair mine)) ++ lost)
      × (has_failed t.pair.reading ≡ false → lost ≡ [])
  pub written : (mine : List FwdEvent) → written t.outputs ++ received_from t.pair mine ≡ received_from p (event ∷ mine)
  pub sound : IsSound t.pair
  pub opened : is_opened p ≡ true → is_opened t.pair ≡ true
  pub opens : has_opened (event ∷ []) ≡ true → is_opened t.pair ≡ true
  pub kept : has_failed t.pair.reading ≡ false → has_failed p.reading ≡ false
  pub fails : failed_in (event ∷ []) ≡ false → has_failed p.reading ≡ false → has_failed t.pair.reading ≡ false

-- a turn in which nothing happens, for an event that adds nothing to the sums
quiet_balanced :
    (event : FwdEvent) (p : PairState) → IsSound p →
    ((mine : List FwdEvent) → read_from p (event ∷ mine) ≡ read_from p mine) →
    ((mine : List FwdEvent) → received_from p mine ≡ received_from p (event ∷ mine)) →
    (has_opened (event ∷ []) ≡ true → is_opened p ≡ true) → Balanced event p (quiet p)
quiet_balanced event p sound reads receives opens = record {
  sums = λ mine. ([], ap (λ (l : List ℕ). flat p.held ++ l) (reads mine) ∙ sym (append-nil (flat p.held ++ read_from p mine)), λ _. refl);
  written = receives;
  sound = sound;
  opened = λ h. h;
  opens = opens;
  kept = λ h. h;
  fails = λ _ h. h;
}

-- BYTES
bytes_going :
    (s : ℕ) (b : List ℕ) (channel : Option ℕ) (held : List (List ℕ)) (ended z : Bool) → (length b == 0) ≡ z →
    let p : PairState = record { channel = channel; held = held; reading = Going; channel_ended = ended } in
    IsSound p → Balanced (Bytes s b) p (if z then quiet p else passed_on b channel p)
bytes_going s b channel held ended true h sound =
    quiet_balanced (Bytes s b) _ sound (λ mine. ap (λ (l : List ℕ). l ++ read mine) (no_bytes b h)) (λ mine. refl) (λ q. cc)
bytes_going s b None held ended false h sound = record {
  sums = λ mine. (
    [],
    sym (append-nil (flat (held ++ b ∷ []) ++ read mine)
        ∙ ap (λ (l : List ℕ). l ++ read mine) (flat-push held b) ∙ append_assoc (flat held) b (read mine)),
    λ _. refl,
  );
  written = λ mine. refl;
  sound = record { opened = λ q. cc; failed = λ q. cc };
  opened = λ q. q;
  opens = λ q. cc;
  kept = λ q. q;
  fails = λ _ q. q;
}
bytes_going s b (Some c) held ended false h sound =
    let none : held ≡ [] = sound.opened refl in record {
      sums = λ mine. (
        [],
        ap (λ (l : List (List ℕ)). flat l ++ (b ++ read mine)) none
            ∙ sym (append-nil ((b ++ []) ++ (flat held ++ read mine))
            ∙ ap (λ (l : List (List ℕ)). (b ++ []) ++ (flat l ++ read mine)) none
            ∙ ap (λ (l : List ℕ). l ++ read mine) (append-nil b)),
        λ _. refl,
      );
      written = λ mine. refl;
      sound = sound;
      opened = λ q. q;
      opens = λ q. cc;
      kept = λ q. q;
      fails = λ _ q. q;
    }

bytes_balanced :
    (s : ℕ) (b : List ℕ) (channel : Option ℕ) (held : List (List ℕ)) (reading : Reading) (ended : Bool) →
    let p : PairState = record { channel = channel; held = held; reading = reading; channel_ended = ended } in
    IsSound p → Balanced (Bytes s b) p (bytes_turn b p)
bytes_balanced s b channel held Going ended sound = bytes_going s b channel held ended (length b == 0) refl sound
bytes_balanced s b channel held Ended ended sound =
    quiet_balanced (Bytes s b) _ sound (λ mine. refl) (λ mine. refl) (λ q. cc)
bytes_balanced s b channel held Failed ended sound =
    quiet_balanced (Bytes s b) _ sound (λ mine. refl) (λ mine. refl) (λ q. cc)

-- STREAM_END
eof_sent : (channel : Option ℕ) (ended : Bool) → sent (eof_to channel ended) ≡ []
eof_sent None ended = refl
eof_sent (Some c) true = refl
eof_sent (Some c) false = refl

eof_written : (channel : Option ℕ) (ended : Bool) → written (eof_to channel ended) ≡ []
eof_written None ended = refl
eof_written (Some c) true = refl
eof_written (Some c) false = refl

stream_end_balanced :
    (s : ℕ) (channel : Option ℕ) (held : List (List ℕ)) (reading : Reading) (ended : Bool) →
    let p : PairState = record { channel = channel; held = held; reading = reading; channel_ended = ended } in
    IsSound p → Balanced (StreamEnd s) p (stream_end_turn p)
stream_end_balanced s channel held Going ended sound = record {
  sums = λ mine. (
    [],
    sym (append-nil (sent (eof_to channel ended) ++ (flat held ++ []))
        ∙ ap (λ (l : List ℕ). l ++ (flat held ++ [])) (eof_sent channel ended)),
    λ _. refl,
  );
  written = λ mine. ap (λ (l : List ℕ). l ++ (if ended || false then [] else received mine)) (eof_written channel ended);
  sound = record { opened = sound.opened; failed = λ q. cc };
  opened = λ q. q;
  opens = λ q. cc;
  kept = λ q. refl;
  fails = λ _ q. refl;
}
stream_end_balanced s channel held Ended ended sound =
    quiet_balanced (StreamEnd s) _ sound (λ mine. refl) (λ mine. refl) (λ q. cc)
stream_end_balanced s channel held Failed ended sound =
    quiet_balanced (StreamEnd s) _ sound (λ mine. refl) (λ mine. refl) (λ q. cc)

-- STREAM_FAILED
close_sent : (channel : Option ℕ) → sent (close_to channel) ≡ []
close_sent None = refl
close_sent (Some c) = refl

close_written : (channel : Option ℕ) → written (close_to channel) ≡ []
close_written None = refl
close_written (Some c) = refl

after_failure : (ended : Bool) (l : List ℕ) → (if ended || true then [] else l) ≡ []
after_failure true l = refl
after_failure false l = refl

either_way : (b : Bool) → (if b then [] else []) ≡ (let none : List ℕ = [] in none)
either_way true = refl
either_way false = refl

failure :
    (s : ℕ) (channel : Option ℕ) (held : List (List ℕ)) (reading : Reading) (ended : Bool) →
    let p : PairState = record { channel = channel; held = held; reading = reading; channel_ended = ended } in
    ((mine : List FwdEvent) → read_from p (StreamFailed s ∷ mine) ≡ []) → has_failed reading ≡ false →
    Balanced (StreamFailed s) p (record { pair = record p { held = []; reading = Failed }; outputs = close_to channel })
failure s channel held reading ended reads stays = record {
  sums = λ mine. (
    flat held,
    ap (λ (l : List ℕ). flat held ++ l) (reads mine) ∙ append-nil (flat held)
        ∙ sym (ap (λ (l : List ℕ). (l ++ []) ++ flat held) (close_sent channel)),
    λ q. cc,
  );
  written = λ mine. ap (λ (l : List ℕ). l ++ (if ended || true then [] else received mine)) (close_written channel)
      ∙ after_failure ended (received mine) ∙ sym (either_way (ended || has_failed reading));
  sound = record { opened = λ q. refl; failed = λ q. refl };
  opened = λ q. q;
  opens = λ q. cc;
  kept = λ q. stays;
  fails = λ q _. cc;
}

stream_failed_balanced :
    (s : ℕ) (channel : Option ℕ) (held : List (List ℕ)) (reading : Reading) (ended : Bool) →
    let p : PairState = record { channel = channel; held = held; reading = reading; channel_ended = ended } in
    IsSound p → Balanced (StreamFailed s) p (stream_failed_turn p)
stream_failed_balanced s channel held Going ended sound = failure s channel held Going ended (λ mine. refl) refl
stream_failed_balanced s channel held Ended true sound =
    quiet_balanced (StreamFailed s) _ sound (λ mine. refl) (λ mine. refl) (λ q. cc)
stream_failed_balanced s channel held Ended false sound = failure s channel held Ended false (λ mine. refl) refl
stream_failed_balanced s channel held Failed true sound =
    quiet_balanced (StreamFailed s) _ sound (λ mine. refl) (λ mine. refl) (λ q. cc)
stream_failed_balanced s channel held Failed false sound =
    quiet_balanced (StreamFailed s) _ sound (λ mine. refl) (λ mine. refl) (λ q. cc)

-- DATA and CHANNEL_EOF: nothing changes for the stream
data_going :
    (n c : ℕ) (b : List ℕ) (p : PairState) (w z : Bool) → is_written p ≡ w → (length b == 0) ≡ z → IsSound p →
    Balanced (Data c b) p (if w || z then quiet p else record { pair = p; outputs = WriteBytes n b ∷ [] })
data_going n c b p true z written h sound =
    quiet_balanced (Data c b) p sound (λ mine. refl) (λ mine.
    ap (λ (v : Bool). if v then [] else received mine) written
    ∙ sym (ap (λ (v : Bool). if v then [] else (b ++ received mine)) written)) (λ q. cc)
data_going n c b p false true written h sound =
    quiet_balanced (Data c b) p sound (λ mine. refl) (λ mine.
    ap (λ (l : List ℕ). if is_written p then [] else (l ++ received mine)) (sym (no_bytes b h))) (λ q. cc)
data_going n c b p false false written h sound = record {
  sums = λ mine. ([], sym (append-nil (flat p.held ++ read_from p mine)), λ _. refl);
  written = λ mine. ap (λ (v : Bool). (b ++ []) ++ (if v then [] else received mine)) written
      ∙ ap (λ (l : List ℕ). l ++ received mine) (append-nil b)
      ∙ sym (ap (λ (v : Bool). if v then [] else (b ++ received mine)) written);
  sound = sound;
  opened = λ q. q;
  opens = λ q. cc;
  kept = λ q. q;
  fails = λ _ q. q;
}

data_balanced : (n c : ℕ) (b : List ℕ) (p : PairState) → IsSound p → Balanced (Data c b) p (data_turn n b p)
data_balanced n c b p sound = data_going n c b p (is_written p) (length b == 0) refl refl sound

closing_sent : (b : Bool) (c : ℕ) → sent (if b then CloseChannel c ∷ [] else []) ≡ []
closing_sent true c = refl
closing_sent false c = refl

closing_written : (b : Bool) (c : ℕ) → written (if b then CloseChannel c ∷ [] else []) ≡ []
closing_written true c = refl
closing_written false c = refl

channel_eof_going :
    (n c : ℕ) (p : PairState) (w : Bool) → is_written p ≡ w → IsSound p →
    Balanced (ChannelEof c) p (if w then quiet p else record {
      pair = record p { channel_ended = true };
      outputs = EndWriting n ∷ (if is_read p.reading then CloseChannel c ∷ [] else []);
    })
channel_eof_going n c p true written sound =
    quiet_balanced (ChannelEof c) p sound (λ mine. refl) (λ mine.
    ap (λ (v : Bool). if v then [] else received mine) written
    ∙ sym (ap (λ (v : Bool). if v then [] else []) written)) (λ q. cc)
channel_eof_going n c p false written sound = record {
  sums = λ mine. (
    [],
    sym (append-nil (sent (if is_read p.reading then CloseChannel c ∷ [] else []) ++ (flat p.held ++ read_from p mine))
        ∙ ap (λ (l : List ℕ). l ++ (flat p.held ++ read_from p mine)) (closing_sent (is_read p.reading) c)),
    λ _. refl,
  );
  written = λ mine. ap (λ (l : List ℕ). l ++ []) (closing_written (is_read p.reading) c) ∙ sym (either_way (is_written p));
  sound = record { opened = sound.opened; failed = sound.failed };
  opened = λ q. q;
  opens = λ q. cc;
  kept = λ q. q;
  fails = λ _ q. q;
}

channel_eof_balanced : (n c : ℕ) (p : PairState) → IsSound p → Balanced (ChannelEof c) p (channel_eof_turn n c p)
channel_eof_balanced n c p sound = channel_eof_going n c p (is_written p) refl sound

-- OPENED
opened_balanced :
    (s c : ℕ) (channel : Option ℕ) (held : List (List ℕ)) (reading : Reading) (ended : Bool) →
    let p : PairState = record { channel = channel; held = held; reading = reading; channel_ended = ended } in
    IsSound p → Balanced (Opened s c) p (opened_turn c p)
opened_balanced s c channel held Going ended sound = record {
  sums = λ mine. (
    [],
    sym (append-nil (sent (sent_on c held) ++ read mine)
        ∙ ap (λ (l : List ℕ). l ++ read mine) (sent-sent_on c held)),
    λ _. refl,
  );
  written = λ mine. ap (λ (l : List ℕ). l ++ (if ended || false then [] else received mine)) (written-sent_on c held);
  sound = record { opened = λ q. refl; failed = λ q. refl };
  opened = λ q. refl;
  opens = λ q. refl;
  kept = λ q. refl;
  fails = λ _ q. refl;
}
opened_balanced s c channel held Ended ended sound = record {
  sums = λ mine. (
    [],
    sym (append-nil (sent (sent_on c held ++ SendEof c ∷ []) ++ [])
        ∙ ap (λ (l : List ℕ). l ++ []) (sent-append (sent_on c held) (SendEof c ∷ []) ∙ append-nil (sent (sent_on c held)) ∙ sent-sent_on c held)),
    λ _. refl,
  );
  written = λ mine. ap (λ (l : List ℕ). l ++ (if ended || false then [] else received mine))
      (written-append (sent_on c held) (SendEof c ∷ []) ∙ append-nil (written (sent_on c held)) ∙ written-sent_on c held);
  sound = record { opened = λ q. refl; failed = λ q. refl };
  opened = λ q. refl;
  opens = λ q. refl;
  kept = λ q. refl;
  fails = λ _ q. refl;
}
opened_balanced s c channel held Failed ended sound = record {
  sums = λ mine. ([], ap (λ (l : List (List ℕ)). flat l ++ []) (sound.failed refl), λ _. refl);
  written = λ mine. refl;
  sound = record { opened = λ q. refl; failed = λ q. refl };
  opened = λ q. refl;
  opens = λ q. refl;
  kept = λ q. q;
  fails = λ _ q. q;
}

-- each event that reaches its pair
pub balanced : (n : ℕ) (event : FwdEvent) (p : PairState) → IsSound p → MayTurn event p → Balanced event p (turn n event p)
balanced n (Accepted s h q o r) p sound may = absurd may
balanced n (Opened s c) p sound may = opened_balanced s c p.channel p.held p.reading p.channel_ended sound
balanced n (OpenFailed s) p sound may = quiet_balanced (OpenFailed s) p sound (λ mine. refl) (λ mine. refl) (λ q. cc)
balanced n (Incoming c s) p sound may = absurd may
balanced n (Bytes s b) p sound may = bytes_balanced s b p.channel p.held p.reading p.channel_ended sound
balanced n (StreamEnd s) p sound may = stream_end_balanced s p.channel p.held p.reading p.channel_ended sound
balanced n (Data c b) p sound may = data_balanced n c b p sound
balanced n (ChannelEof c) p sound may = channel_eof_balanced n c p sound
balanced n (ChannelClose c) p sound may = absurd may
balanced n (StreamFailed s) p sound may = stream_failed_balanced s p.channel p.held p.reading p.channel_ended sound
