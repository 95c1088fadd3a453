-- What a session keeps over the moves of its methods.
use Rattle.std.proofs.Common.{◌≡◌, inl, inr, Bool, true, false, not, ◌&&◌, List, [], ◌∷◌, ◌++◌, eqb, Option, Some, None, refl, ap, sym, subst, ◌∙◌, append_assoc}
use Rattle.std.proofs.lemmas.List.{append-nil}
use Rattle.std.specs.List.{AllByRecursion}
use Rattle.sshc_wire.specs.CasesLaws.{by_cases}
use Rattle.sshc_wire.specs.declared.record.Record.{Record}
use Rattle.sshc_wire.specs.declared.ticket.Ticket.{Ticket}
use Rattle.sshc_transport.specs.declared.exchange.ExchangeFlag.{ExchangeFlag}
use Rattle.sshc_transport.specs.declared.exchange.ExchangeFlag.TheVariants.{Idle, Ours, Peer}
use Rattle.sshc_auth.specs.OpeningState.{OpeningState}
use Rattle.sshc_mux.specs.ChannelState.{TableState}
use Rattle.sshc_mux.specs.ChannelTable.{ChannelPacket, records_of}
use Rattle.sshc_mux.specs.ChannelAccount.{Call}
use Rattle.sshc_client_packets.specs.declared.channel_open.Sender.{Sender}
use Rattle.sshc_client_packets.specs.ChannelOpens.{ChannelOpen}
use Rattle.sshc_client_packets.specs.Messages.{Message}
use Rattle.std.proofs.Common.{ℕ}
use Rattle.sshc_client_table.specs.declared.reply_entry.ReplyEntry.{ReplyEntry}
use Rattle.sshc_client_table.specs.SessionState.{SessionState, exchanging, is_live, is_open, is_running, opens_later, runs}
use Rattle.sshc_client_table.specs.Moves as m
use Rattle.sshc_client_table.specs.Moves.{Deed, Move, after, deed, deed_of, did, done, done_if, may_go, still, with_deed, with_flag}
use Rattle.sshc_client_table.specs.Grown.{Grown, May}
use Rattle.sshc_client_table.specs.Keeps.{IsDenial, Keeps, MayBeAdded, SameOrBegun}
use Rattle.sshc_client_table.specs.ListLaws.{onto-append, onto-two}

true_false : (b : Bool) → b ≡ true → b ≡ false → ⊥
true_false b is isnt = let e : true ≡ false = sym is ∙ isnt in cc

both_first : (a b : Bool) → a && b ≡ true → a ≡ true
both_first true b h = refl
both_first false b h = absurd cc

both_second : (a b : Bool) → a && b ≡ true → b ≡ true
both_second true b h = h
both_second false b h = absurd cc

not_is : (b : Bool) → not b ≡ true → b ≡ false
not_is true h = absurd cc
not_is false h = refl

-- ---- records

all-append : (P : Record → Type 0) (a b : List Record) → AllByRecursion P a → AllByRecursion P b → AllByRecursion P (a ++ b)
all-append P [] b first second = second
all-append P (r ∷ a) b (here, first) second = (here, all-append P a b first second)

all_packets : (output : List ChannelPacket) → AllByRecursion MayBeAdded (records_of output)
all_packets [] = tt
all_packets (s ∷ output) = (tt, all_packets output)

-- ---- what a method's move changes

keeps_same : (s : SessionState) → Keeps s s
keeps_same s = record {
  settings = refl;
  opening = inl refl;
  keepalives = refl;
  window_target = refl;
  ended = λ e. refl;
  closed = λ e. (refl, refl, refl);
  records = ([], sym (append-nil s.records), tt, λ e. tt);
  replies = ([], sym (append-nil s.replies));
}

-- before the session is open a method's move adds only denials and changes nothing else
record Closed (d : Deed) (s : SessionState) : Type 0 where
  opening : d.opening ≡ s.opening
  call : d.call ≡ None
  asks : d.asks ≡ []
  says : AllByRecursion IsDenial d.says

record Good (d : Deed) (s : SessionState) : Type 0 where
  running : runs s.life ≡ true
  answers : d.answers ≡ false
  opening : SameOrBegun s.opening d.opening
  keepalives : d.keepalives ≡ s.keepalives
  window_target : d.window_target ≡ s.window_target
  says : AllByRecursion MayBeAdded d.says
  closed : is_open s.opening.phase ≡ false → Closed d s

no_call_table : (o : Option Call) (t : TableState) → o ≡ None → (did o t).table ≡ t
no_call_table o t is = ap (λ (c : Option Call). (did c t).table) is

no_call_said : (o : Option Call) (t : TableState) → o ≡ None → records_of (did o t).output ≡ []
no_call_said o t is = ap (λ (c : Option Call). records_of (did c t).output) is

none_left : (b : Bool) (replies : List ReplyEntry) → b ≡ false → m.left_of b replies ≡ replies
none_left b replies is = ap (λ (x : Bool). m.left_of x replies) is

keeps_deed : (d : Deed) (s : SessionState) → Good d s → Keeps s (with_deed d s)
keeps_deed d s good =
    let output : List Record = records_of (did d.call s.table).output in
    let replies : (with_deed d s).replies ≡ s.replies ++ d.asks =
    onto-append (m.left_of d.answers s.replies) d.asks ∙ ap (λ (ws : List ReplyEntry). ws ++ d.asks) (none_left d.answers s.replies good.answers) in
    record {
      settings = refl;
      opening = good.opening;
      keepalives = good.keepalives;
      window_target = good.window_target;
      ended = λ e. absurd (true_false (runs s.life) good.running e);
      closed = λ e. let c = good.closed e in
          (c.opening, no_call_table d.call s.table c.call, replies ∙ ap (λ (ws : List ReplyEntry). s.replies ++ ws) c.asks ∙ append-nil s.replies);
      records = (
        output ++ d.says,
        onto-two s.records output d.says,
        all-append MayBeAdded output d.says (all_packets (did d.call s.table).output) good.says,
        λ e. let c = good.closed e in
            subst (λ (rs : List Record). AllByRecursion IsDenial (rs ++ d.says)) (sym (no_call_said d.call s.table c.call)) c.says,
      );
      replies = (d.asks, replies);
    }

-- ---- the moves of methods

idle_flag : (flag : ExchangeFlag) → is_running flag ≡ false → flag ≡ Idle
idle_flag Idle h = refl
idle_flag Ours h = absurd cc
idle_flag Peer h = absurd cc

not_closed : (s : SessionState) (d : Deed) → is_live s ≡ true → is_open s.opening.phase ≡ false → Closed d s
not_closed s d live e = absurd (true_false (is_open s.opening.phase) (both_first (is_open s.opening.phase) (runs s.life) live) e)

-- in a live session, with the opening as it was
good_live : (d : Deed) (s : SessionState) → is_live s ≡ true → d.answers ≡ false → d.opening ≡ s.opening → d.keepalives ≡ s.keepalives → d.window_target ≡ s.window_target → AllByRecursion MayBeAdded d.says → Good d s
good_live d s live answers opening keepalives target says = record {
  running = both_second (is_open s.opening.phase) (runs s.life) live;
  answers = answers;
  opening = inl opening;
  keepalives = keepalives;
  window_target = target;
  says = says;
  closed = not_closed s d live;
}

added_open : (asked : ChannelOpen) (o : Option ℕ) (side : ℕ → Sender) → AllByRecursion MayBeAdded (m.open_packet asked o side)
added_open asked None side = tt
added_open asked (Some n) side = (tt, tt)

added_addressed : (o : Option ℕ) (message : ℕ → Message) → AllByRecursion MayBeAdded (m.addressed o message)
added_addressed None message = tt
added_addressed (Some recipient) message = (tt, tt)

good_begun : (s : SessionState) → is_live s && not (exchanging s) ≡ true → Good (deed m.Begins s) s
good_begun s h =
    let live = both_first (is_live s) (not (exchanging s)) h in
    record {
      running = both_second (is_open s.opening.phase) (runs s.life) live;
      answers = refl;
      opening = inr (idle_flag s.opening.flag (not_is (exchanging s) (both_second (is_live s) (not (exchanging s)) h)), refl);
      keepalives = refl;
      window_target = refl;
      says = (tt, tt);
      closed = not_closed s (deed m.Begins s) live;
    }

good_denied : (ticket : Ticket) (s : SessionState) → opens_later s ≡ true → Good (deed (m.DeniesTicket ticket) s) s
good_denied ticket s later = record {
  running = both_second (not (is_open s.opening.phase)) (runs s.life) later;
  answers = refl;
  opening = inl refl;
  keepalives = refl;
  window_target = refl;
  says = by_cases (AllByRecursion MayBeAdded) (eqb ticket.0 0) _ _ tt (tt, tt);
  closed = λ e. record { opening = refl; call = refl; asks = refl; says = by_cases (AllByRecursion IsDenial) (eqb ticket.0 0) _ _ tt (tt, tt) };
}

good_left : (s : SessionState) → runs s.life ≡ true → Good (deed m.Leaves s) s
good_left s running = record {
  running = running;
  answers = refl;
  opening = inl refl;
  keepalives = refl;
  window_target = refl;
  says = tt;
  closed = λ e. record { opening = refl; call = refl; asks = refl; says = tt };
}

good : (move : Move) (s : SessionState) → May move → may_go move s ≡ true → Good (deed move s) s
good (m.Sends id stream bytes) s may go = good_live _ s go refl refl refl refl tt
good (m.EndsBytes id) s may go = good_live _ s go refl refl refl refl tt
good (m.Closes id) s may go = good_live _ s go refl refl refl refl tt
good (m.Opens asked None) s may go = good_live _ s go refl refl refl refl (added_open asked _ (m.our_side s))
good (m.RequestsOn id request) s may go = good_live _ s go refl refl refl refl (added_addressed _ _)
good (m.Asks ask) s may go = good_live _ s go refl refl refl refl (tt, tt)
good (m.Disconnects reason description language) s may go = good_live _ s go refl refl refl refl (tt, tt)
good (m.DeniesTicket ticket) s may go = good_denied ticket s go
good m.Begins s may go = good_begun s go
good m.Leaves s may go = good_left s go
good move s may go = absurd may

keeps_if : (b : Bool) (d : Deed) (s : SessionState) → (b ≡ true → Good d s) → Keeps s (with_deed (done_if b d s) s)
keeps_if true d s is = keeps_deed d s (is refl)
keeps_if false d s is = keeps_same s

pub keeps_move : (move : Move) (s : SessionState) → May move → Keeps s (after move s)
unfolding after
keeps_move move s may = keeps_if (may_go move s) (deed move s) s (good move s may)

-- ---- one after another

same_phase : (old new : OpeningState) → SameOrBegun old new → is_open new.phase ≡ is_open old.phase
same_phase old new (inl same) = ap (λ (o : OpeningState). is_open o.phase) same
same_phase old new (inr begun) = ap (λ (o : OpeningState). is_open o.phase) begun.1

opening_then : (old mid new : OpeningState) → SameOrBegun old mid → SameOrBegun mid new → SameOrBegun old new
opening_then old mid new (inl first) (inl second) = inl (second ∙ first)
opening_then old mid new (inl first) (inr second) = inr (ap (λ (o : OpeningState). o.flag) (sym first) ∙ second.0, second.1 ∙ ap (λ (o : OpeningState). with_flag Ours o) first)
opening_then old mid new (inr first) (inl second) = inr (first.0, second ∙ first.1)
opening_then old mid new (inr first) (inr second) = let e : Ours ≡ Idle = ap (λ (o : OpeningState). o.flag) (sym first.1) ∙ second.0 in absurd cc

keeps_then : (old mid new : SessionState) → Keeps old mid → Keeps mid new → Keeps old new
keeps_then old mid new first second =
    let phase : is_open mid.opening.phase ≡ is_open old.opening.phase = same_phase old.opening mid.opening first.opening in
    let (more, is, added, denials) = first.records in
    let (more2, is2, added2, denials2) = second.records in
    let (waits, asked) = first.replies in
    let (waits2, asked2) = second.replies in
    record {
      settings = second.settings ∙ first.settings;
      opening = opening_then old.opening mid.opening new.opening first.opening second.opening;
      keepalives = second.keepalives ∙ first.keepalives;
      window_target = second.window_target ∙ first.window_target;
      ended = λ e. let same : mid ≡ old = first.ended e in second.ended (ap (λ (s : SessionState). runs s.life) same ∙ e) ∙ same;
      closed = λ e. let (a, b, c) = first.closed e in let (a2, b2, c2) = second.closed (phase ∙ e) in (a2 ∙ a, b2 ∙ b, c2 ∙ c);
      records = (
        more ++ more2,
        is2 ∙ ap (λ (rs : List Record). rs ++ more2) is ∙ append_assoc old.records more more2,
        all-append MayBeAdded more more2 added added2,
        λ e. all-append IsDenial more more2 (denials e) (denials2 (phase ∙ e)),
      );
      replies = (waits ++ waits2, asked2 ∙ ap (λ (ws : List ReplyEntry). ws ++ waits2) asked ∙ append_assoc old.replies waits waits2);
    }

keeps_moves : (moves : List Move) (s : SessionState) → AllByRecursion May moves → Keeps s (done moves s)
keeps_moves [] s may = keeps_same s
keeps_moves (move ∷ moves) s (here, rest) = keeps_then s (after move s) (done moves (after move s)) (keeps_move move s here) (keeps_moves moves (after move s) rest)

pub grown_keeps : (old new : SessionState) → Grown old new → Keeps old new
grown_keeps old new grown = subst (λ (t : SessionState). Keeps old t) (sym grown.is) (keeps_moves grown.moves old grown.may)
