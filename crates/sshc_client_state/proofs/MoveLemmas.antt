-- The state after each move of a live session, in the form in which the calls that do it need it.
use Rattle.std.proofs.Common.{◌≡◌, ℕ, Bool, true, false, List, [], ◌++◌, drop, Option, Some, None, refl, ap, ◌∙◌, if◌then◌else◌}
use Rattle.sshc_wire.specs.declared.channel_id.ChannelId.{ChannelId}
use Rattle.sshc_wire.specs.declared.channel_open_failure.ChannelOpenFailure.{ChannelOpenFailure}
use Rattle.sshc_wire.specs.declared.record.Record.{Record}
use Rattle.sshc_wire.specs.declared.resolution.Resolution.{Resolution}
use Rattle.sshc_wire.specs.declared.resolution.Resolution.TheVariants.{ChannelOpened, ChannelOpenFailed, Denied}
use Rattle.sshc_wire.specs.declared.ticket.Ticket.{Ticket}
use Rattle.sshc_auth.specs.Row.{resolved}
use Rattle.sshc_transport.specs.declared.exchange.ExchangeFlag.TheVariants.{Idle}
use Rattle.sshc_mux.specs.declared.chunk.Stream.{Stream}
use Rattle.sshc_mux.specs.ChannelState.{ChannelState, TableState, channel_of}
use Rattle.sshc_mux.specs.ChannelTable.{Effect, ChannelPacket, Turn, accept_turn, confirm_turn, is_awaited, no_packets_of, records_of, said_by, taken_away, turned, unmoved}
use Rattle.sshc_mux.specs.ChannelTable.Opens.{awaited, is_reserved, next_number, opened_by_user, reserved_by_server, unsettled_at}
use Rattle.sshc_mux.specs.ChannelAccount.{AskClose, AskEof, Bytes, Call, Confirm, Fail, FlushAll, Grant, OpenUser, PeerClose, Received, ReserveServer, SettleServer, called, opened}
use Rattle.sshc_client_packets.specs.declared.channel_open.Confirmation.{Confirmation}
use Rattle.sshc_client_packets.specs.declared.channel_open.Sender.{Sender}
use Rattle.sshc_client_packets.specs.ChannelOpens.{ChannelOpen}
use Rattle.sshc_client_table.specs.declared.reply_entry.ReplyEntry.{ReplyEntry}
use Rattle.sshc_client_table.specs.ListLaws.{onto-append}
use Rattle.sshc_client_table.specs.Messages.{Ask, asking_message, queued, sent}
use Rattle.sshc_client_table.specs.Moves.{Accepts, Asks, Closes, Confirms, DeniesTicket, EndsBytes, Fails, Grants, Opens, PeerCloses, Receives, Rejects, Replied, Reserves, Resolves, Resumes, Sends, Tells, accept_packet, after, calls_and_says, calls_table, direct_answer, onto, open_answer, open_packet, our_side, reject_packet, reply_answer, told, with_deed, with_flag}
use Rattle.sshc_client_table.specs.MoveLaws.{called_alone, is_done, said_alone}
use Rattle.sshc_client_table.specs.SessionState.{SessionState, exchanging, is_live, may_tell, opens_later, own_window}

-- ---- calls that write packets

-- the session after only a call of the table
abbrev after_call : Call → SessionState → SessionState
after_call call s =
    record s { table = (called call s.table).table; records = s.records ++ records_of (called call s.table).output }

pub after_sends : (id : ℕ) (stream : Stream) (bytes : List ℕ) (s : SessionState) → is_live s ≡ true →
    after (Sends id stream bytes) s ≡ after_call (Bytes id stream bytes (exchanging s)) s
after_sends id stream bytes s live =
    is_done (Sends id stream bytes) s live ∙ called_alone (Bytes id stream bytes (exchanging s)) s

pub after_ends_bytes : (id : ℕ) (s : SessionState) → is_live s ≡ true →
    after (EndsBytes id) s ≡ after_call (AskEof id) s
after_ends_bytes id s live = is_done (EndsBytes id) s live ∙ called_alone (AskEof id) s

pub after_closes : (id : ℕ) (s : SessionState) → is_live s ≡ true → after (Closes id) s ≡ after_call (AskClose id) s
after_closes id s live = is_done (Closes id) s live ∙ called_alone (AskClose id) s

pub after_peer_closes : (id : ℕ) (s : SessionState) → is_live s ≡ true →
    after (PeerCloses id) s ≡ after_call (PeerClose id) s
after_peer_closes id s live = is_done (PeerCloses id) s live ∙ called_alone (PeerClose id) s

pub after_grants : (id amount : ℕ) (s : SessionState) → is_live s ≡ true →
    after (Grants id amount) s ≡ after_call (Grant id amount (exchanging s)) s
after_grants id amount s live = is_done (Grants id amount) s live ∙ called_alone (Grant id amount (exchanging s)) s

pub after_receives : (id len : ℕ) (s : SessionState) → is_live s ≡ true →
    after (Receives id len) s ≡ after_call (Received id len (own_window s)) s
after_receives id len s live = is_done (Receives id len) s live ∙ called_alone (Received id len (own_window s)) s

-- ---- calls that write nothing

turned_quietly : (n : ℕ) (o : Option ChannelState) (turn : ChannelState → Turn) (t : TableState) →
    ((c : ChannelState) → (turn c).packets ≡ []) → (turned n o turn t).output ≡ []
turned_quietly n None turn t quiet = refl
turned_quietly n (Some c) turn t quiet = ap (said_by c) (quiet c)

taken_if : (goes : Bool) (x : Effect) (t : TableState) → x.output ≡ [] → (if goes then x else unmoved t).output ≡ []
taken_if true x t is = is
taken_if false x t is = refl

taken_quietly : (n : ℕ) (o : Option ChannelState) (goes : ChannelState → Bool) (t : TableState) →
    (taken_away n o goes no_packets_of t).output ≡ []
taken_quietly n None goes t = refl
taken_quietly n (Some c) goes t = taken_if (goes c) _ t refl

opened_quietly : (o : Option ℕ) (channel : ℕ → ChannelState) (t : TableState) → (opened o channel t).output ≡ []
opened_quietly None channel t = refl
opened_quietly (Some n) channel t = refl

settled_quietly : (id : ℕ) (accept : Bool) (t : TableState) → (called (SettleServer id accept) t).output ≡ []
settled_quietly id true t = turned_quietly id (channel_of id t.channels) accept_turn t (λ c. refl)
settled_quietly id false t = taken_quietly id (channel_of id t.channels) is_reserved t

-- the session after a call that writes nothing, and records
abbrev after_both : Call → List Record → SessionState → SessionState
after_both call output s = record s { table = (called call s.table).table; records = s.records ++ output }

quietly : (call : Call) (output : List Record) (s : SessionState) → (called call s.table).output ≡ [] →
    with_deed (calls_and_says call output s) s ≡ after_both call output s
quietly call output s quiet =
    ap (λ (rs : List Record). record s { table = (called call s.table).table; records = rs })
    (ap (λ (made : List ChannelPacket). onto (onto s.records (records_of made)) output) quiet ∙ onto-append s.records output)

-- the session after a call that writes nothing
quiet_call : (call : Call) (s : SessionState) → (called call s.table).output ≡ [] →
    with_deed (calls_table call s) s ≡ record s { table = (called call s.table).table }
quiet_call call s quiet =
    ap (λ (rs : List Record). record s { table = (called call s.table).table; records = rs })
    (ap (λ (made : List ChannelPacket). onto s.records (records_of made)) quiet)

pub after_reserves : (sender : Sender) (s : SessionState) → is_live s ≡ true →
    after (Reserves sender) s
    ≡ record s { table = (called (ReserveServer sender.channel sender.window_size sender.max_packet_size (own_window s)) s.table).table }
after_reserves sender s live =
    is_done (Reserves sender) s live
    ∙ quiet_call (ReserveServer sender.channel sender.window_size sender.max_packet_size (own_window s)) s
    (opened_quietly (next_number s.table) (λ n. reserved_by_server n sender.channel sender.window_size sender.max_packet_size (own_window s)) s.table)

pub after_opens : (asked : ChannelOpen) (ticket : Option Ticket) (s : SessionState) → is_live s ≡ true →
    after (Opens asked ticket) s
    ≡ after_both (OpenUser (own_window s) s.settings.max_packet_size ticket) (open_packet asked (next_number s.table) (our_side s)) s
after_opens asked ticket s live =
    is_done (Opens asked ticket) s live
    ∙ quietly (OpenUser (own_window s) s.settings.max_packet_size ticket) (open_packet asked (next_number s.table) (our_side s)) s
    (opened_quietly (next_number s.table) (λ n. opened_by_user n (own_window s) s.settings.max_packet_size ticket) s.table)

pub after_confirms : (c : Confirmation) (s : SessionState) → is_live s ≡ true →
    after (Confirms c) s
    ≡ after_both (Confirm c.recipient c.sender.channel c.sender.window_size c.sender.max_packet_size)
    (open_answer (awaited c.recipient s.table) (ChannelOpened (record { 0 = c.recipient }))) s
after_confirms c s live =
    is_done (Confirms c) s live
    ∙ quietly (Confirm c.recipient c.sender.channel c.sender.window_size c.sender.max_packet_size)
    (open_answer (awaited c.recipient s.table) (ChannelOpened (record { 0 = c.recipient }))) s
    (turned_quietly c.recipient (channel_of c.recipient s.table.channels)
    (confirm_turn c.sender.channel c.sender.window_size c.sender.max_packet_size) s.table (λ x. refl))

pub after_fails : (id : ℕ) (reason : ChannelOpenFailure) (s : SessionState) → is_live s ≡ true →
    after (Fails id reason) s
    ≡ after_both (Fail id) (open_answer (awaited id s.table) (ChannelOpenFailed reason)) s
after_fails id reason s live =
    is_done (Fails id reason) s live
    ∙ quietly (Fail id) (open_answer (awaited id s.table) (ChannelOpenFailed reason)) s
    (taken_quietly id (channel_of id s.table.channels) is_awaited s.table)

pub after_accepts : (id : ℕ) (s : SessionState) → is_live s ≡ true →
    after (Accepts id) s
    ≡ after_both (SettleServer id true) (accept_packet (unsettled_at id s.table) (our_side s id)) s
after_accepts id s live =
    is_done (Accepts id) s live
    ∙ quietly (SettleServer id true) (accept_packet (unsettled_at id s.table) (our_side s id)) s (settled_quietly id true s.table)

pub after_rejects : (id : ℕ) (reason : ChannelOpenFailure) (s : SessionState) → is_live s ≡ true →
    after (Rejects id reason) s
    ≡ after_both (SettleServer id false) (reject_packet (unsettled_at id s.table) reason) s
after_rejects id reason s live =
    is_done (Rejects id reason) s live
    ∙ quietly (SettleServer id false) (reject_packet (unsettled_at id s.table) reason) s (settled_quietly id false s.table)

-- ---- numbers

-- two numbers that are the same optional number are equal
pub same_number : (next : Option ℕ) (m n : ℕ) → next ≡ Some m → next ≡ Some n → m ≡ n
same_number next m n first second = cc

-- ---- records

pub after_asks : (ask : Ask) (s : SessionState) → is_live s ≡ true →
    after (Asks ask) s ≡ record s { replies = s.replies ++ queued ask; records = s.records ++ sent (asking_message ask) }
after_asks ask s live =
    is_done (Asks ask) s live
    ∙ ap (λ (ws : List ReplyEntry). record s { replies = ws; records = s.records ++ sent (asking_message ask) }) (onto-append s.replies (queued ask))

pub after_tells : (output : Record) (s : SessionState) → may_tell s ≡ true →
    after (Tells output) s ≡ record s { records = s.records ++ told output }
after_tells output s may = is_done (Tells output) s may ∙ said_alone (told output) s

pub after_resolves : (ticket : Ticket) (resolution : Resolution) (s : SessionState) → is_live s ≡ true →
    after (Resolves ticket resolution) s ≡ record s { records = s.records ++ direct_answer ticket resolution }
after_resolves ticket resolution s live =
    is_done (Resolves ticket resolution) s live ∙ said_alone (direct_answer ticket resolution) s

pub after_denies : (ticket : Ticket) (s : SessionState) → opens_later s ≡ true →
    after (DeniesTicket ticket) s ≡ record s { records = s.records ++ resolved ticket Denied }
after_denies ticket s later = is_done (DeniesTicket ticket) s later ∙ said_alone (resolved ticket Denied) s

pub after_replied : (resolution : Option Resolution) (s : SessionState) → is_live s ≡ true →
    after (Replied resolution) s ≡ record s { replies = drop 1 s.replies; records = s.records ++ reply_answer s.replies resolution }
after_replied resolution s live =
    is_done (Replied resolution) s live
    ∙ ap (λ (rs : List Record). record s { replies = drop 1 s.replies; records = rs }) (onto-append s.records (reply_answer s.replies resolution))

pub after_resumes : (s : SessionState) → is_live s ≡ true →
    after Resumes s
    ≡ record s { opening = with_flag Idle s.opening; table = (called FlushAll s.table).table; records = s.records ++ records_of (called FlushAll s.table).output }
after_resumes s live =
    is_done Resumes s live
    ∙ ap (λ (rs : List Record). record s { opening = with_flag Idle s.opening; table = (called FlushAll s.table).table; records = rs })
    (onto-append s.records (records_of (called FlushAll s.table).output))
