-- An open of ours is answered while it waits, and then doesn't wait any more.
use Rattle.std.proofs.Common.{◌≡◌, ◌⊎◌, inl, inr, ℕ, Bool, true, false, List, [], ◌∷◌, eqb, if◌then◌else◌, Option, Some, None, is_some, refl, ap, ◌∙◌}
use Rattle.std.specs.List.{AllByRecursion}
use Rattle.sshc_wire.specs.declared.channel_open_failure.ChannelOpenFailure.{ChannelOpenFailure}
use Rattle.sshc_wire.specs.declared.record.Record.{Record}
use Rattle.sshc_wire.specs.declared.record.Record.TheVariants.{Payload, Resolved}
use Rattle.sshc_wire.specs.declared.resolution.Resolution.{Resolution}
use Rattle.sshc_wire.specs.declared.resolution.Resolution.TheVariants.{ChannelOpened, ChannelOpenFailed, Denied, Dropped, ExtInfoSeen, HostKeysProved, SigAlgs}
use Rattle.sshc_wire.specs.declared.ticket.Ticket.{Ticket}
use Rattle.sshc_transport.specs.declared.exchange.ExchangeFlag.{ExchangeFlag}
use Rattle.sshc_transport.specs.declared.exchange.ExchangeFlag.TheVariants.{Idle}
use Rattle.sshc_mux.specs.ChannelState.{ChannelState, TableState, channel_of, without}
use Rattle.sshc_mux.specs.ChannelTable.{confirm_turn, is_awaited, no_packets_of, taken_away, turned}
use Rattle.sshc_mux.specs.ChannelTable.Opens.{awaited, awaited_by, confirmed}
use Rattle.sshc_mux.specs.ChannelAccount.{IsLegal}
use Rattle.sshc_mux.specs.Places.{Apart, numbers}
use Rattle.sshc_mux.proofs.NumbersLemmas.{number_of, with_same, without_same}
use Rattle.sshc_client_packets.specs.declared.channel_open.Sender.{Sender}
use Rattle.sshc_client_packets.specs.ChannelOpens.{ChannelOpen}
use Rattle.sshc_client_packets.specs.Messages.{Message}
use Rattle.sshc_client_table.specs.declared.reply_entry.ReplyEntry.{ReplyEntry}
use Rattle.sshc_client_table.specs.SessionState.{SessionState}
use Rattle.sshc_client_table.specs.Moves as m
use Rattle.sshc_client_table.specs.Moves.{Deed, Move, after, deed, deed_of, did, done_if, may_go, still, with_deed}
use Rattle.sshc_client_table.specs.OpensOnce.{AnswersOne, NoOpenAnswer, Opened, Failed, AnswersOpen}

abbrev None_ : List Record → Type 0
None_ records = AllByRecursion NoOpenAnswer records

-- ---- what answers no open

none_if : (b : Bool) (ticket : Ticket) (resolution : Resolution) → NoOpenAnswer (Resolved ticket resolution) → None_ (if b then [] else Resolved ticket resolution ∷ [])
none_if true ticket resolution none = tt
none_if false ticket resolution none = (none, tt)

none_open : (asked : ChannelOpen) (o : Option ℕ) (side : ℕ → Sender) → None_ (m.open_packet asked o side)
none_open asked None side = tt
none_open asked (Some n) side = (tt, tt)

none_accept : (o : Option ℕ) (side : Sender) → None_ (m.accept_packet o side)
none_accept None side = tt
none_accept (Some recipient) side = (tt, tt)

none_reject : (o : Option ℕ) (reason : ChannelOpenFailure) → None_ (m.reject_packet o reason)
none_reject None reason = tt
none_reject (Some recipient) reason = (tt, tt)

none_addressed : (o : Option ℕ) (message : ℕ → Message) → None_ (m.addressed o message)
none_addressed None message = tt
none_addressed (Some recipient) message = (tt, tt)

none_direct : (ticket : Ticket) (resolution : Resolution) → None_ (m.direct_answer ticket resolution)
none_direct ticket Dropped = none_if (eqb ticket.0 0) ticket Dropped tt
none_direct ticket ExtInfoSeen = none_if (eqb ticket.0 0) ticket ExtInfoSeen tt
none_direct ticket (SigAlgs known names) = none_if (eqb ticket.0 0) ticket (SigAlgs known names) tt
none_direct ticket HostKeysProved = none_if (eqb ticket.0 0) ticket HostKeysProved tt
none_direct ticket resolution = tt

none_told : (output : Record) → None_ (m.told output)
none_told (Payload packet) = tt
none_told (Resolved ticket resolution) = tt
none_told output = (tt, tt)

none_begin : (flag : ExchangeFlag) → None_ (m.peer_begin_says flag)
none_begin Idle = (tt, tt)
none_begin flag = tt

none_reply : (replies : List ReplyEntry) (resolution : Option Resolution) → None_ (m.reply_answer replies resolution)
none_reply [] resolution = tt
none_reply (first ∷ replies) None = tt
none_reply (first ∷ replies) (Some (ChannelOpened id)) = tt
none_reply (first ∷ replies) (Some (ChannelOpenFailed reason)) = tt
none_reply (first ∷ replies) (Some resolution) = none_if (eqb (m.or_none first.ticket).0 0) (m.or_none first.ticket) resolution tt

-- ---- where an open is answered

nothing_there : (o : Option ChannelState) (n : ℕ) (t : TableState) → channel_of n t.channels ≡ o → o ≡ None → awaited n t ≡ None
nothing_there o n t there none = ap awaited_by (there ∙ none)

after_confirm : (x : Option (Option Ticket)) (recipient window packet : ℕ) (c : ChannelState) → awaited_by (Some c) ≡ x → awaited_by (Some (if is_some x then confirmed recipient window packet c else c)) ≡ None
after_confirm None recipient window packet c is = is
after_confirm (Some ticket) recipient window packet c is = refl

same_number : (b : Bool) (recipient window packet : ℕ) (c : ChannelState) → (if b then confirmed recipient window packet c else c).head.number ≡ c.head.number
same_number true recipient window packet c = refl
same_number false recipient window packet c = refl

confirm_gone : (o : Option ChannelState) (n recipient window packet : ℕ) (t : TableState) → channel_of n t.channels ≡ o → awaited n (turned n o (confirm_turn recipient window packet) t).table ≡ None
confirm_gone None n recipient window packet t there = ap awaited_by there
confirm_gone (Some c) n recipient window packet t there =
    let x : Option (Option Ticket) = awaited_by (Some c) in
    ap awaited_by (with_same n (if is_some x then confirmed recipient window packet c else c) t.channels c there
    (same_number (is_some x) recipient window packet c ∙ number_of n t.channels c there))
    ∙ after_confirm x recipient window packet c refl

fail_by : (x : Option (Option Ticket)) (n : ℕ) (t : TableState) → Apart (numbers t.channels) → awaited n t ≡ x → awaited n (if is_some x then record t { channels = without n t.channels } else t) ≡ None
fail_by None n t apart is = is
fail_by (Some ticket) n t apart is = ap awaited_by (without_same n t.channels apart)

fail_table : (b : Bool) (n : ℕ) (c : ChannelState) (t : TableState) → is_awaited c ≡ b → (taken_away n (Some c) is_awaited no_packets_of t).table ≡ (if b then record t { channels = without n t.channels } else t)
fail_table true n c t is = rw is refl
fail_table false n c t is = rw is refl

fail_gone : (o : Option ChannelState) (n : ℕ) (t : TableState) → Apart (numbers t.channels) → channel_of n t.channels ≡ o → awaited n (taken_away n o is_awaited no_packets_of t).table ≡ None
fail_gone None n t apart there = ap awaited_by there
fail_gone (Some c) n t apart there =
    ap (λ (u : TableState). awaited n u) (fail_table (is_awaited c) n c t refl) ∙ fail_by (awaited_by (Some c)) n t apart (ap awaited_by there)

abbrev Answered : Move → SessionState → Type 0
Answered move s = None_ (deed_of move s).says ⊎ AnswersOne s (after move s) (deed_of move s).says

-- an open that waits is answered
answered_one : (x : Option (Option Ticket)) (id : ℕ) (resolution : Resolution) (s new : SessionState) → awaited id s.table ≡ x → AnswersOpen id resolution → awaited id new.table ≡ None
    → None_ (m.open_answer x resolution) ⊎ AnswersOne s new (m.open_answer x resolution)
answered_one None id resolution s new is answers gone = inl tt
answered_one (Some ticket) id resolution s new is answers gone =
    inr (record { id = id; ticket = ticket; resolution = resolution; waited = is; answers = answers; says_so = refl; waits = gone })

live_only : (b : Bool) (d : Deed) (s : SessionState) → (None_ d.says ⊎ AnswersOne s (with_deed d s) d.says) → None_ (done_if b d s).says ⊎ AnswersOne s (with_deed (done_if b d s) s) (done_if b d s).says
live_only true d s answered = answered
live_only false d s answered = inl tt

deed_answers : (move : Move) (s : SessionState) → IsLegal s.table → None_ (deed move s).says ⊎ AnswersOne s (with_deed (deed move s) s) (deed move s).says
deed_answers (m.Confirms c) s legal =
    answered_one (awaited c.recipient s.table) c.recipient (ChannelOpened (record { 0 = c.recipient })) s (with_deed (deed (m.Confirms c) s) s) refl Opened
    (confirm_gone (channel_of c.recipient s.table.channels) c.recipient c.sender.channel c.sender.window_size c.sender.max_packet_size s.table refl)
deed_answers (m.Fails id reason) s legal =
    answered_one (awaited id s.table) id (ChannelOpenFailed reason) s (with_deed (deed (m.Fails id reason) s) s) refl (Failed reason)
    (fail_gone (channel_of id s.table.channels) id s.table legal.apart refl)
deed_answers (m.Opens asked ticket) s legal = inl (none_open asked _ (m.our_side s))
deed_answers (m.Accepts id) s legal = inl (none_accept _ (m.our_side s id))
deed_answers (m.Rejects id reason) s legal = inl (none_reject _ reason)
deed_answers (m.RequestsOn id request) s legal = inl (none_addressed _ _)
deed_answers (m.AnswersOn id done) s legal = inl (none_addressed _ (m.answer_on done))
deed_answers (m.Answers done) s legal = inl (tt, tt)
deed_answers (m.Asks ask) s legal = inl (tt, tt)
deed_answers (m.Disconnects reason description language) s legal = inl (tt, tt)
deed_answers (m.Replied resolution) s legal = inl (none_reply s.replies resolution)
deed_answers (m.Resolves ticket resolution) s legal = inl (none_direct ticket resolution)
deed_answers (m.DeniesTicket ticket) s legal = inl (none_if (eqb ticket.0 0) ticket Denied tt)
deed_answers (m.Tells output) s legal = inl (none_told output)
deed_answers m.Begins s legal = inl (tt, tt)
deed_answers m.PeerBegins s legal = inl (none_begin s.opening.flag)
deed_answers move s legal = inl tt

pub answers_where_it_waits : (move : Move) (s : SessionState) → IsLegal s.table → Answered move s
unfolding after
answers_where_it_waits move s legal = live_only (may_go move s) (deed move s) s (deed_answers move s legal)
