-- Which pair the outputs of a turn name: its own, and no other.
use Rattle.std.proofs.Common.{◌≡◌, ℕ, Bool, true, false, ◌||◌, ◌&&◌, Option, Some, None, List, [], ◌∷◌, ◌++◌, length, refl, sym, ap, ◌∙◌}
use Rattle.std.specs.Prelude.{if◌then◌else◌, ◌==◌}
use Rattle.std.proofs.lemmas.Bool.{eq-eqb, ne_eqb, eqb-true, false_from_ne_true}
use Rattle.sshc_forward_core.specs.declared.pair.Reading.{Reading}
use Rattle.sshc_forward_core.specs.declared.pair.Reading.TheVariants.{Going, Ended, Failed}
use Rattle.sshc_forward_core.specs.declared.event.FwdEvent.{FwdEvent}
use Rattle.sshc_forward_core.specs.declared.event.FwdEvent.TheVariants.{Accepted, Opened, OpenFailed, Incoming, Bytes, StreamEnd, Data, ChannelEof, ChannelClose, StreamFailed}
use Rattle.sshc_forward_core.specs.declared.output.FwdOutput.{FwdOutput}
use Rattle.sshc_forward_core.specs.declared.output.FwdOutput.TheVariants.{OpenChannel, SendData, SendEof, WriteBytes, EndWriting, CloseStream, CloseChannel}
use Rattle.sshc_forward_core.specs.PairState.{PairState, is_read, is_written}
use Rattle.sshc_forward_core.specs.PairTurns.{Turn, quiet, turn, sent_on, opening, passed_on, eof_to, close_to}
use Rattle.sshc_forward_core.specs.PairAccount.{is_number, names, naming}
use Rattle.sshc_forward_core.proofs.TurnLaws.{MayTurn}

-- each of the outputs names the stream or its channel
abbrev pub AllName : ℕ → Option ℕ → List FwdOutput → Type 0
AllName s on [] = Unit {0}
AllName s on (o ∷ outputs) = (names s on o ≡ true) × AllName s on outputs

same_number : (n : ℕ) → (n == n) ≡ true
same_number n = eq-eqb n n refl

naming_one : (b : Bool) (o : FwdOutput) (rest : List FwdOutput) → b ≡ true → (if b then o ∷ rest else rest) ≡ o ∷ rest
naming_one true o rest h = refl
naming_one false o rest h = absurd (cc)

naming_other : (b : Bool) (o : FwdOutput) (rest : List FwdOutput) → b ≡ false → (if b then o ∷ rest else rest) ≡ rest
naming_other false o rest h = refl
naming_other true o rest h = absurd (cc)

pub naming_all : (s : ℕ) (on : Option ℕ) (outputs : List FwdOutput) → AllName s on outputs → naming s on outputs ≡ outputs
naming_all s on [] h = refl
naming_all s on (o ∷ outputs) h =
    naming_one (names s on o) o (naming s on outputs) h.0 ∙ ap (λ (l : List FwdOutput). o ∷ l) (naming_all s on outputs h.1)

-- no channel is both
abbrev pub AreApart : Option ℕ → Option ℕ → Type 0
AreApart a b = (c : ℕ) → a ≡ Some c → b ≡ Some c → ⊥

number_is : (c : ℕ) (on : Option ℕ) → is_number c on ≡ true → on ≡ Some c
number_is c None h = absurd (cc)
number_is c (Some d) h = ap (λ (x : ℕ). Some x) (eqb-true d c h)

other_number : (c : ℕ) (a b : Option ℕ) → AreApart a b → is_number c a ≡ true → is_number c b ≡ false
other_number c a b apart h =
    false_from_ne_true (is_number c b) (λ k. apart c (number_is c a h) (number_is c b k))

other_stream : (r s n : ℕ) → (s ≡ n → ⊥) → (r == s) ≡ true → (r == n) ≡ false
other_stream r s n ne h = ne_eqb r n (λ e. ne (sym (eqb-true r s h) ∙ e))

other_name : (s n : ℕ) (a b : Option ℕ) (o : FwdOutput) → (s ≡ n → ⊥) → AreApart a b → names s a o ≡ true → names n b o ≡ false
other_name s n a b (OpenChannel r h p q u) ne apart is = other_stream r s n ne is
other_name s n a b (SendData c bytes) ne apart is = other_number c a b apart is
other_name s n a b (SendEof c) ne apart is = other_number c a b apart is
other_name s n a b (WriteBytes r bytes) ne apart is = other_stream r s n ne is
other_name s n a b (EndWriting r) ne apart is = other_stream r s n ne is
other_name s n a b (CloseStream r) ne apart is = other_stream r s n ne is
other_name s n a b (CloseChannel c) ne apart is = other_number c a b apart is

pub naming_none :
    (s n : ℕ) (a b : Option ℕ) (outputs : List FwdOutput) → (s ≡ n → ⊥) → AreApart a b → AllName s a outputs →
    naming n b outputs ≡ []
naming_none s n a b [] ne apart h = refl
naming_none s n a b (o ∷ outputs) ne apart h =
    naming_other (names n b o) o (naming n b outputs) (other_name s n a b o ne apart h.0)
    ∙ naming_none s n a b outputs ne apart h.1

-- ---- the outputs of a turn name its pair

all-append : (s : ℕ) (on : Option ℕ) (a b : List FwdOutput) → AllName s on a → AllName s on b → AllName s on (a ++ b)
all-append s on [] b h k = k
all-append s on (o ∷ a) b h k = (h.0, all-append s on a b h.1 k)

sent_on_names : (n c : ℕ) (held : List (List ℕ)) → AllName n (Some c) (sent_on c held)
sent_on_names n c [] = tt
sent_on_names n c (b ∷ held) = (same_number c, sent_on_names n c held)

opening_names : (n c : ℕ) (held : List (List ℕ)) (reading : Reading) → AllName n (Some c) (opening c held reading)
opening_names n c held Going = sent_on_names n c held
opening_names n c held Ended = all-append n (Some c) (sent_on c held) (SendEof c ∷ []) (sent_on_names n c held) (same_number c, tt)
opening_names n c held Failed = (same_number c, tt)

-- the turn's outputs name its pair
abbrev pub NamesIt : ℕ → Turn → Type 0
NamesIt n t = AllName n t.pair.channel t.outputs

either_names : (n : ℕ) (z : Bool) (p : PairState) (t : Turn) → NamesIt n t → NamesIt n (if z then quiet p else t)
either_names n true p t h = tt
either_names n false p t h = h

passed_names :
    (n : ℕ) (b : List ℕ) (channel : Option ℕ) (held : List (List ℕ)) (reading : Reading) (ended : Bool) →
    let p : PairState = record { channel = channel; held = held; reading = reading; channel_ended = ended } in
    NamesIt n (passed_on b channel p)
passed_names n b None held reading ended = tt
passed_names n b (Some c) held reading ended = (same_number c, tt)

eof_names : (n : ℕ) (channel : Option ℕ) (ended : Bool) → AllName n channel (eof_to channel ended)
eof_names n None ended = tt
eof_names n (Some c) true = (same_number c, (same_number c, tt))
eof_names n (Some c) false = (same_number c, tt)

close_names : (n : ℕ) (channel : Option ℕ) → AllName n channel (close_to channel)
close_names n None = tt
close_names n (Some c) = (same_number c, tt)

closing_names : (n c : ℕ) (channel : Option ℕ) (b : Bool) → channel ≡ Some c → AllName n channel (if b then CloseChannel c ∷ [] else [])
closing_names n c channel true on = (ap (is_number c) on ∙ same_number c, tt)
closing_names n c channel false on = tt

pub turn_names : (n : ℕ) (event : FwdEvent) (p : PairState) → MayTurn event p → NamesIt n (turn n event p)
turn_names n (Accepted s h q o r) p may = absurd may
turn_names n (Opened s c) p may = opening_names n c p.held p.reading
turn_names n (OpenFailed s) p may = tt
turn_names n (Incoming c s) p may = absurd may
turn_names n (Bytes s b) p may =
    either_names n (is_read p.reading || length b == 0) p (passed_on b p.channel p)
    (passed_names n b p.channel p.held p.reading p.channel_ended)
turn_names n (StreamEnd s) p may = either_names n (is_read p.reading) p _ (eof_names n p.channel p.channel_ended)
turn_names n (Data c b) p may = either_names n (is_written p || length b == 0) p _ (same_number n, tt)
turn_names n (ChannelEof c) p may =
    either_names n (is_written p) p _ (same_number n, closing_names n c p.channel (is_read p.reading) may)
turn_names n (ChannelClose c) p may = absurd may
turn_names n (StreamFailed s) p may = either_names n (is_read p.reading && is_written p) p _ (close_names n p.channel)
