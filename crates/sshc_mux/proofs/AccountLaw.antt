-- The account of each life of a channel's number, over every list of calls.
use Rattle.std.proofs.Common.{◌≡◌, ℕ, ◌+◌, ◌-◌, ◌≤◌, Bool, true, false, not, ◌&&◌, ◌||◌, List, [], ◌∷◌, ◌++◌, length, eqb, if◌then◌else◌, Option, Some, None, is_some, refl, ap, sym, subst, ◌∙◌, arith, length-append, append_assoc, eq-eqb}
use Rattle.std.proofs.lemmas.List.{append-nil}
use Rattle.sshc_mux.specs.declared.chunk.Stream.{Stream}
use Rattle.sshc_mux.specs.declared.channel.Stage.{Stage}
use Rattle.sshc_mux.specs.declared.channel.Stage.TheVariants as Stages
use Rattle.sshc_mux.specs.ChannelState.{ChannelFlow, ChannelState, TableState, Waiting, channel_of}
use Rattle.sshc_mux.specs.Packets.{Packet, Piece, Eof, Close, Adjust}
use Rattle.sshc_mux.specs.ChannelTable.Opens.{awaited_by, is_reserved, accepted_head, confirmed_head}
use Rattle.sshc_mux.specs.ChannelTable.Sending.{is_due}
use Rattle.sshc_mux.specs.ChannelTable.Ends.{takes, is_sent, is_unasked}
use Rattle.sshc_mux.specs.ChannelTable.Windows.{held, adjust_of}
use Rattle.sshc_mux.specs.ChannelAccount.{Call, OpenUser, ReserveServer, SettleServer, Confirm, Fail, Bytes, AskEof, AskClose, PeerClose, Grant, FlushAll, Received, called, ran, no_channels, marked, taken, packets_by, bytes_in, pending, gain, gain_in, granted, IsSound, CallPart, no_part, eof_part, close_part, grant_part, accept_part, confirm_part, received_part, part, part_in, added, asks_eof, asks_close, lets_end, NoneDue, Moves, HasThroughout, Orderly, has_eof, has_close, Life, born, table_after, sent, Account, IsFront, sent_with}
use Rattle.sshc_mux.proofs.AccountLemmas.{bytes-append, orderly_then}
use Rattle.sshc_mux.specs.Places.{numbers, has, Apart}
use Rattle.sshc_mux.proofs.NumbersLemmas.{has_none, apart_append}
use Rattle.sshc_wire.specs.CasesLaws.{neither}
use Rattle.sshc_mux.proofs.TestLemmas.{no_length}
use Rattle.sshc_mux.proofs.CallLemmas.{packets-append}
use Rattle.sshc_mux.proofs.LifeLemmas.{step_moves}
use Rattle.sshc_mux.proofs.LegalLemmas.{Fresh, fresh, next_none, step_apart, ran_apart, ended_bytes}
use Rattle.std.proofs.lemmas.Bool.{not-false}

-- what one more call adds to what is taken, and what it grants

nothing : (b : Bool) (more : List (Stream × ℕ)) → (if b then more else []) ≡ (if b && not false then more else [])
nothing true more = refl
nothing false more = refl

granting : (e b : Bool) (p : CallPart) (more : List (Stream × ℕ)) → p.more ≡ [] → p.last ≡ false →
    (if b then more else []) ≡ pending (if e then p else no_part).more ++ (if b && not (if e then p else no_part).last then more else [])
granting true b p more none last = nothing b more ∙ ap (λ (l : Bool). if b && not l then more else []) (sym last) ∙ ap (λ (ws : List Waiting). pending ws ++ (if b && not p.last then more else [])) (sym none)
granting false b p more none last = nothing b more

taken_by : (e b z : Bool) (stream : Stream) (bytes : List ℕ) (sends : Bool) (more : List (Stream × ℕ)) → (z ≡ false → bytes ≡ []) →
    (if b then (if e then marked stream bytes ++ more else more) else [])
    ≡ pending (if e then (if b && z then record no_part { more = record { stream = stream; bytes = bytes } ∷ []; sends = sends; ends = true } else no_part) else no_part).more
    ++ (if b && not (if e then (if b && z then record no_part { more = record { stream = stream; bytes = bytes } ∷ []; sends = sends; ends = true } else no_part) else no_part).last then more else [])
taken_by true true true stream bytes sends more none = ap (λ (ms : List (Stream × ℕ)). ms ++ more) (sym (append-nil (marked stream bytes)))
taken_by true true false stream bytes sends more none = ap (λ (bs : List ℕ). marked stream bs ++ more) (none refl)
taken_by true false z stream bytes sends more none = refl
taken_by false true z stream bytes sends more none = refl
taken_by false false z stream bytes sends more none = refl

ended_none : (b : Bool) (more : List (Stream × ℕ)) → let none : List (Stream × ℕ) = [] in (if b then none else none) ≡ (if b && not true then more else none)
ended_none true more = refl
ended_none false more = refl

ended_by : (e b : Bool) (p : CallPart) (more : List (Stream × ℕ)) → p.more ≡ [] → p.last ≡ true →
    (if b then (if e then [] else more) else []) ≡ pending (if e then p else no_part).more ++ (if b && not (if e then p else no_part).last then more else [])
ended_by true b p more none last =
    ended_none b more ∙ ap (λ (l : Bool). if b && not l then more else []) (sym last) ∙ ap (λ (ws : List Waiting). pending ws ++ (if b && not p.last then more else [])) (sym none)
ended_by false b p more none last = nothing b more

if_more : (w : Bool) (p : CallPart) → p.more ≡ [] → (if w then p else no_part).more ≡ []
if_more true p none = none
if_more false p none = refl

if_last : (w : Bool) (p : CallPart) → p.last ≡ false → (if w then p else no_part).last ≡ false
if_last true p none = none
if_last false p none = refl

taken_step : (n : ℕ) (call : Call) (calls : List Call) (c : ChannelState) → (if takes c.flow then taken n (call ∷ calls) else []) ≡ pending (part n call c).more ++ (if takes c.flow && not (part n call c).last then taken n calls else [])
taken_step n (OpenUser window packet ticket) calls c = nothing (takes c.flow) (taken n calls)
taken_step n (ReserveServer recipient window packet own) calls c = nothing (takes c.flow) (taken n calls)
taken_step n (SettleServer id true) calls c =
    let p : CallPart = record no_part { answer = Some (accepted_head c.head) } in
    granting (eqb id n) (takes c.flow) (accept_part c) (taken n calls) (if_more (is_reserved c) p refl) (if_last (is_reserved c) p refl)
taken_step n (SettleServer id false) calls c = nothing (takes c.flow) (taken n calls)
taken_step n (Confirm id recipient window packet) calls c =
    let b : Bool = is_some (awaited_by (Some c)) in
    granting (eqb id n) (takes c.flow) (confirm_part recipient window packet c) (taken n calls) (if_more b (record no_part { gain = window; answer = Some (confirmed_head recipient packet c.head) }) refl) (if_last b (record no_part { gain = window; answer = Some (confirmed_head recipient packet c.head) }) refl)
taken_step n (Fail id) calls c = nothing (takes c.flow) (taken n calls)
taken_step n (Bytes id stream bytes exchanging) calls c =
    taken_by (eqb id n) (takes c.flow) (not (eqb (length bytes) 0)) stream bytes (not exchanging) (taken n calls) (λ h. no_length bytes (not-false (eqb (length bytes) 0) h))
taken_step n (AskEof id) calls c = ended_by (eqb id n) (takes c.flow) (eof_part c) (taken n calls) refl refl
taken_step n (AskClose id) calls c = ended_by (eqb id n) (takes c.flow) close_part (taken n calls) refl refl
taken_step n (PeerClose id) calls c = nothing (takes c.flow) (taken n calls)
taken_step n (Grant id amount exchanging) calls c =
    let p : CallPart = record no_part { gain = held amount c.flow.window; sends = not exchanging; ends = true } in
    granting (eqb id n) (takes c.flow) (grant_part amount exchanging c) (taken n calls) (if_more c.head.established p refl) (if_last c.head.established p refl)
taken_step n FlushAll calls c = nothing (takes c.flow) (taken n calls)
taken_step n (Received id len target) calls c =
    let p : CallPart = record no_part { used = len; returned = adjust_of target (c.own_window - len) } in
    granting (eqb id n) (takes c.flow) (received_part len target c) (taken n calls) (if_more c.head.established p refl) (if_last c.head.established p refl)

adds_within : (e w : Bool) (p : CallPart) (most : ℕ) → p.gain ≤ most → (if e then (if w then p else no_part) else no_part).gain ≤ (if e && w then most else 0)
adds_within true true p most within = within
adds_within true false p most within = omega arith
adds_within false w p most within = omega arith

no_gain : (e w : Bool) (p : CallPart) → p.gain ≡ 0 → (if e then (if w then p else no_part) else no_part).gain ≤ 0
no_gain true true p none = omega (arith, none)
no_gain true false p none = omega arith
no_gain false w p none = omega arith

gain_within : (n : ℕ) (call : Call) (c : ChannelState) → (part n call c).gain ≤ gain n call c
gain_within n (OpenUser window packet ticket) c = omega arith
gain_within n (ReserveServer recipient window packet own) c = omega arith
gain_within n (SettleServer id true) c = no_gain (eqb id n) (is_reserved c) (record no_part { answer = Some (accepted_head c.head) }) refl
gain_within n (SettleServer id false) c = omega arith
gain_within n (Confirm id recipient window packet) c = adds_within (eqb id n) (is_some (awaited_by (Some c))) (record no_part { gain = window; answer = Some (confirmed_head recipient packet c.head) }) window (omega arith)
gain_within n (Fail id) c = omega arith
gain_within n (Bytes id stream bytes exchanging) c = no_gain (eqb id n) (takes c.flow && not (eqb (length bytes) 0)) (record no_part { more = record { stream = stream; bytes = bytes } ∷ []; sends = not exchanging; ends = true }) refl
gain_within n (AskEof id) c = no_gain (eqb id n) true (eof_part c) refl
gain_within n (AskClose id) c = no_gain (eqb id n) true close_part refl
gain_within n (PeerClose id) c = omega arith
gain_within n (Grant id amount exchanging) c = adds_within (eqb id n) c.head.established (record no_part { gain = held amount c.flow.window; sends = not exchanging; ends = true }) amount (omega arith)
gain_within n FlushAll c = omega arith
gain_within n (Received id len target) c = no_gain (eqb id n) c.head.established (record no_part { used = len; returned = adjust_of target (c.own_window - len) }) refl

within_in : (n : ℕ) (call : Call) (o : Option ChannelState) → (part_in n call o).gain ≤ gain_in n call o
within_in n call None = omega arith
within_in n call (Some c) = gain_within n call c

added_within : (n : ℕ) (calls : List Call) (t : TableState) → added n calls t ≤ granted n calls t
added_within n [] t = omega arith
added_within n (call ∷ calls) t = omega (arith, within_in n call (channel_of n t.channels), added_within n calls (called call t).table)

-- the account over a list of calls

record Lived (n : ℕ) (calls : List Call) (t : TableState) (c c2 : ChannelState) (before : Bool) : Type 0 where
  balance : bytes_in (packets_by n (ran calls t).output) ++ pending c2.flow.pending ≡ pending c.flow.pending ++ (if takes c.flow then taken n calls else [])
  window : length (bytes_in (packets_by n (ran calls t).output)) + c2.flow.window ≡ c.flow.window + added n calls t
  order : Orderly (is_sent c.flow.eof) (is_sent c.flow.close) (packets_by n (ran calls t).output) (is_sent c2.flow.eof) (is_sent c2.flow.close)
  eof : is_unasked c2.flow.eof ≡ (is_unasked c.flow.eof && not (asks_eof n calls t))
  close : is_unasked c2.flow.close ≡ (is_unasked c.flow.close && not (asks_close n calls t))
  ends : lets_end before n calls t ≡ true → c2.head.established ≡ true → c2.flow.pending ≡ [] → NoneDue c2.flow
  sound : IsSound c2

taken_none : (b : Bool) → let none : List (Stream × ℕ) = [] in (if b then none else none) ≡ none
taken_none true = refl
taken_none false = refl

some_there : (o : Option ChannelState) → is_some o ≡ true → (c : ChannelState) × (o ≡ Some c)
some_there None h = absurd (cc)
some_there (Some c) h = (c, refl)

asked_twice : (u a b : Bool) → ((u && not a) && not b) ≡ (u && not (a || b))
asked_twice true true b = refl
asked_twice true false b = refl
asked_twice false a b = refl

asked_none : (u : Bool) → u ≡ (u && not false)
asked_none true = refl
asked_none false = refl

life : (n : ℕ) (calls : List Call) (t : TableState) (c c2 : ChannelState) (before : Bool) → (before ≡ true → c.head.established ≡ true → c.flow.pending ≡ [] → NoneDue c.flow) → Apart (numbers t.channels) → IsSound c → channel_of n t.channels ≡ Some c → HasThroughout n calls t →
    channel_of n (ran calls t).table.channels ≡ Some c2 → Lived n calls t c c2 before
life n [] t c c2 before due apart sound here stands there =
    let same : Some c2 ≡ Some c = sym there ∙ here in
    let is : c ≡ c2 = cc in
    let P : ChannelState → Type 0 = λ x. Lived n [] t c x before in
    subst P is (record {
      balance = sym (append-nil (pending c.flow.pending)) ∙ ap (λ (ms : List (Stream × ℕ)). pending c.flow.pending ++ ms) (sym (taken_none (takes c.flow)));
      window = omega arith;
      order = (refl, refl);
      eof = asked_none (is_unasked c.flow.eof);
      close = asked_none (is_unasked c.flow.close);
      ends = due;
      sound = sound;
    })
life n (call ∷ calls) t c c2 before due apart sound here stands there =
    let t1 : TableState = (called call t).table in
    let now = some_there (channel_of n t1.channels) stands.0 in
    let c1 : ChannelState = now.0 in
    let p : CallPart = part n call c in
    let step : Moves c c1 (packets_by n (called call t).output) p = step_moves n call t c c1 apart sound here now.1 in
    let rest : Lived n calls t1 c1 c2 p.ends = life n calls t1 c1 c2 p.ends step.flow.ends (step_apart call t apart) step.sound now.1 stands.1 there in
    let a : List Packet = packets_by n (called call t).output in
    let b : List Packet = packets_by n (ran calls t1).output in
    let packets : packets_by n (ran (call ∷ calls) t).output ≡ a ++ b = packets-append n (called call t).output (ran calls t1).output in
    let bytes : bytes_in (packets_by n (ran (call ∷ calls) t).output) ≡ bytes_in a ++ bytes_in b = ap bytes_in packets ∙ bytes-append a b in
    let P : List Packet → Type 0 = λ ps. Orderly (is_sent c.flow.eof) (is_sent c.flow.close) ps (is_sent c2.flow.eof) (is_sent c2.flow.close) in
    let Q : Option ChannelState → Type 0 = λ o. lets_end (part_in n call o).ends n calls t1 ≡ true → c2.head.established ≡ true → c2.flow.pending ≡ [] → NoneDue c2.flow in
    let part_is : part_in n call (channel_of n t.channels) ≡ p = ap (λ (o : Option ChannelState). part_in n call o) here in
    record {
      balance =
          ap (λ (ms : List (Stream × ℕ)). ms ++ pending c2.flow.pending) bytes
          ∙ append_assoc (bytes_in a) (bytes_in b) (pending c2.flow.pending)
          ∙ ap (λ (ms : List (Stream × ℕ)). bytes_in a ++ ms) rest.balance
          ∙ sym (append_assoc (bytes_in a) (pending c1.flow.pending) (if takes c1.flow then taken n calls else []))
          ∙ ap (λ (ms : List (Stream × ℕ)). ms ++ (if takes c1.flow then taken n calls else [])) step.flow.balance
          ∙ append_assoc (pending c.flow.pending) (pending p.more) (if takes c1.flow then taken n calls else [])
          ∙ ap (λ (ms : List (Stream × ℕ)). pending c.flow.pending ++ ms) (ap (λ (x : Bool). pending p.more ++ (if x then taken n calls else [])) step.flow.taking ∙ sym (taken_step n call calls c));
      window = omega (arith, ap length bytes, length-append (bytes_in a) (bytes_in b), step.flow.window, rest.window, ap (λ (q : CallPart). q.gain) part_is);
      order = subst P (sym packets) (orderly_then _ _ _ _ _ _ a b step.flow.order rest.order);
      eof =
          rest.eof ∙ ap (λ (u : Bool). u && not (asks_eof n calls t1)) step.flow.eof ∙ asked_twice (is_unasked c.flow.eof) p.eof (asks_eof n calls t1)
          ∙ ap (λ (q : CallPart). is_unasked c.flow.eof && not (q.eof || asks_eof n calls t1)) (sym part_is);
      close =
          rest.close ∙ ap (λ (u : Bool). u && not (asks_close n calls t1)) step.flow.close ∙ asked_twice (is_unasked c.flow.close) p.close (asks_close n calls t1)
          ∙ ap (λ (q : CallPart). is_unasked c.flow.close && not (q.close || asks_close n calls t1)) (sym part_is);
      ends = subst Q (sym here) rest.ends;
      sound = rest.sound;
    }

-- EOF and close count as sent if they are among the packets, and are among them if they are newly sent

eof_stays : (c : Bool) (ps : List Packet) (e2 c2 : Bool) → Orderly true c ps e2 c2 → e2 ≡ true
eof_stays c [] e2 c2 order = sym order.0
eof_stays c (Piece stream bytes ∷ ps) e2 c2 order = eof_stays c ps e2 c2 order.2
eof_stays c (Eof ∷ ps) e2 c2 order = eof_stays c ps e2 c2 order.2
eof_stays c (Close ∷ ps) e2 c2 order = eof_stays true ps e2 c2 order.1
eof_stays c (Adjust amount ∷ ps) e2 c2 order = eof_stays c ps e2 c2 order

eof_told : (c : Bool) (ps : List Packet) (e2 c2 : Bool) → Orderly false c ps e2 c2 → has_eof ps ≡ e2
eof_told c [] e2 c2 order = order.0
eof_told c (Piece stream bytes ∷ ps) e2 c2 order = eof_told c ps e2 c2 order.2
eof_told c (Eof ∷ ps) e2 c2 order = sym (eof_stays c ps e2 c2 order.2)
eof_told c (Close ∷ ps) e2 c2 order = eof_told true ps e2 c2 order.1
eof_told c (Adjust amount ∷ ps) e2 c2 order = eof_told c ps e2 c2 order

close_stays : (e : Bool) (ps : List Packet) (e2 c2 : Bool) → Orderly e true ps e2 c2 → c2 ≡ true
close_stays e [] e2 c2 order = sym order.1
close_stays e (Piece stream bytes ∷ ps) e2 c2 order = close_stays e ps e2 c2 order.2
close_stays e (Eof ∷ ps) e2 c2 order = close_stays true ps e2 c2 order.2
close_stays e (Close ∷ ps) e2 c2 order = close_stays e ps e2 c2 order.1
close_stays e (Adjust amount ∷ ps) e2 c2 order = close_stays e ps e2 c2 order

close_told : (e : Bool) (ps : List Packet) (e2 c2 : Bool) → Orderly e false ps e2 c2 → has_close ps ≡ c2
close_told e [] e2 c2 order = order.1
close_told e (Piece stream bytes ∷ ps) e2 c2 order = close_told e ps e2 c2 order.2
close_told e (Eof ∷ ps) e2 c2 order = close_told true ps e2 c2 order.2
close_told e (Close ∷ ps) e2 c2 order = sym (close_stays e ps e2 c2 order.1)
close_told e (Adjust amount ∷ ps) e2 c2 order = close_told e ps e2 c2 order

-- an end that was asked for and isn't due was sent
stage_sent : (s : Stage) → is_unasked s ≡ false → is_due s ≡ false → is_sent s ≡ true
stage_sent Stages.Unasked asked none = absurd (cc)
stage_sent Stages.Asked asked none = absurd (cc)
stage_sent Stages.Sent asked none = refl

found_last : (n : ℕ) (cs : List ChannelState) (new : ChannelState) → channel_of n cs ≡ None → new.head.number ≡ n → channel_of n (cs ++ new ∷ []) ≡ Some new
found_last n [] new none is = ap (λ (b : Bool). if b then Some new else None) (eq-eqb new.head.number n is)
found_last n (x ∷ cs) new none is =
    let parts = neither (eqb x.head.number n) (has n (numbers cs)) (has_none n (x ∷ cs) none) in
    ap (λ (b : Bool). if b then Some x else channel_of n (cs ++ new ∷ [])) parts.0
    ∙ found_last n cs new (ap (λ (b : Bool). if b then Some x else channel_of n cs) (sym parts.0) ∙ none) is

-- a life from the channel as it was made to the channel after the calls
pub record MadeLife (n : ℕ) (l : Life n) : Type 0 where
  pub account : Account n l
  pub sound : IsSound l.end
  pub apart : Apart (numbers (table_after n l).channels)

pub made_life : (n : ℕ) (l : Life n) → MadeLife n l
made_life n l =
    let t : TableState = (ran l.before (no_channels l.last)).table in
    let new : Fresh n l.start = fresh n l.start l.made in
    let none : channel_of n t.channels ≡ None = next_none t n l.next in
    let apart : Apart (numbers t.channels) = ran_apart l.before (no_channels l.last) tt in
    let unused : has l.start.head.number (numbers t.channels) ≡ false = ap (λ (k : ℕ). has k (numbers t.channels)) new.number ∙ has_none n t.channels none in
    let apart2 : Apart (numbers (born n l).channels) = apart_append t.channels l.start apart unused in
    let all : Lived n l.calls (born n l) l.start l.end false =
    life n l.calls (born n l) l.start l.end false (λ no. absurd (cc)) apart2 new.sound (found_last n t.channels l.start none new.number) l.stands l.there in
    let f : ChannelFlow = l.end.flow in
    let ps : List Packet = sent n l in
    let P : ChannelFlow → Type 0 = λ g. Orderly (is_sent g.eof) (is_sent g.close) ps (is_sent f.eof) (is_sent f.close) in
    let order : Orderly false false ps (is_sent f.eof) (is_sent f.close) = subst P new.flow all.order in
    let eof_asked : is_unasked f.eof ≡ not (asks_eof n l.calls (born n l)) = all.eof ∙ ap (λ (g : ChannelFlow). is_unasked g.eof && not (asks_eof n l.calls (born n l))) new.flow in
    let close_asked : is_unasked f.close ≡ not (asks_close n l.calls (born n l)) = all.close ∙ ap (λ (g : ChannelFlow). is_unasked g.close && not (asks_close n l.calls (born n l))) new.flow in
    let balance : bytes_in ps ++ pending f.pending ≡ taken n l.calls = all.balance ∙ ap (λ (g : ChannelFlow). pending g.pending ++ (if takes g then taken n l.calls else [])) new.flow in
    let alone : f.pending ≡ [] → bytes_in ps ≡ taken n l.calls = λ h. sym (append-nil (bytes_in ps)) ∙ ap (λ (ws : List Waiting). bytes_in ps ++ pending ws) (sym h) ∙ balance in
    let eof_in : has_eof ps ≡ is_sent f.eof = eof_told false ps (is_sent f.eof) (is_sent f.close) order in
    let close_in : has_close ps ≡ is_sent f.close = close_told false ps (is_sent f.eof) (is_sent f.close) order in
    record {
      account = record {
        balance = balance;
        window = all.window;
        within = added_within n l.calls (born n l);
        order = order;
        whole = λ h. alone (all.sound.flow.eof (sym eof_in ∙ h));
        closed = λ h. alone (all.sound.flow.close (sym close_in ∙ h));
        eof_sent = λ asked may. eof_in ∙ stage_sent f.eof (eof_asked ∙ ap not asked) (all.ends may.lets may.established may.empty).eof;
        close_sent = λ asked may. close_in ∙ stage_sent f.close (close_asked ∙ ap not asked) (all.ends may.lets may.established may.empty).close;
      };
      sound = all.sound;
      apart = ran_apart l.calls (born n l) apart2;
    }

-- however the life ends
pub ended_front : (n : ℕ) (l : Life n) (last : Call) → channel_of n (called last (table_after n l)).table.channels ≡ None → IsFront (bytes_in (sent_with n l last)) (taken n l.calls)
ended_front n l last gone =
    let ps : List Packet = sent n l in
    let qs : List Packet = packets_by n (called last (table_after n l)).output in (
      pending l.end.flow.pending,
      ap (λ (ms : List (Stream × ℕ)). ms ++ pending l.end.flow.pending)
          (bytes-append ps qs ∙ ap (λ (ms : List (Stream × ℕ)). bytes_in ps ++ ms) (ended_bytes last (table_after n l) n l.end l.there gone) ∙ append-nil (bytes_in ps))
          ∙ (made_life n l).account.balance,
    )
