-- What a packet of the peer's brings is reported and replied in a step that goes on.
use Rattle.std.proofs.Common.{◌≡◌, ℕ, Bool, true, false, ◌&&◌, List, [], ◌∷◌, ◌++◌, length, drop, if◌then◌else◌, Option, Some, None, Ok, refl, ap, sym, subst, ◌∙◌, append_assoc}
use Rattle.std.proofs.lemmas.List.{append-nil}
use Rattle.std.specs.List.{AllByRecursion}
use Rattle.sshc_wire.specs.MessageNumbers.{GLOBAL_REQUEST, CHANNEL_DATA, CHANNEL_EXTENDED_DATA, CHANNEL_EOF, CHANNEL_CLOSE, CHANNEL_REQUEST, CHANNEL_SUCCESS, CHANNEL_FAILURE}
use Rattle.sshc_wire.specs.declared.channel_id.ChannelId.{ChannelId}
use Rattle.sshc_wire.specs.declared.channel_record.ChannelRecord.{ChannelRecord}
use Rattle.sshc_wire.specs.declared.channel_record.ChannelRecord.TheVariants as happened
use Rattle.sshc_wire.specs.declared.record.Record.{Record}
use Rattle.sshc_wire.specs.declared.record.Record.TheVariants as output
use Rattle.sshc_auth_event.specs.declared.event.Event.{Event}
use Rattle.sshc_auth_event.specs.declared.event.Event.TheVariants as events
use Rattle.sshc_auth.specs.OpeningTable.Packets.{is_too_much}
use Rattle.sshc_auth.specs.declared.error.Error.TheVariants.{Pending}
use Rattle.sshc_auth.specs.RowNames.{ExchangeResult, has_kept_key}
use Rattle.sshc_transport.specs.declared.exchange.ExchangeFlag.{ExchangeFlag}
use Rattle.sshc_transport.specs.declared.exchange.ExchangeFlag.TheVariants as flags
use Rattle.sshc_key.specs.KeyGrammar.{Key}
use Rattle.sshc_mux.specs.ChannelTable.{is_established}
use Rattle.sshc_client_packets.specs.HostKeyProof.{Accepts}
use Rattle.sshc_client_packets.specs.Messages.{message_text}
use Rattle.sshc_client_packets.specs.declared.peer_global.PeerGlobal.{PeerGlobal}
use Rattle.sshc_client_packets.specs.declared.peer_global.PeerGlobal.TheVariants as globals
use Rattle.sshc_client_packets.specs.declared.peer_request.PeerRequest.{PeerRequest}
use Rattle.sshc_client_packets.specs.declared.peer_request.PeerRequest.TheVariants as requests
use Rattle.sshc_client_packets.specs.ChannelPackets.{Data, ExtendedData, RequestHead, channel_of, data_of, extended_data_of, request_head_of}
use Rattle.sshc_client_packets.specs.PeerGlobals.{blobs_of, peer_global_of}
use Rattle.sshc_client_packets.specs.PeerRequests.{peer_request_of}
use Rattle.sshc_client_table.specs.Given.{Gives, HasRecord, IsDue, IsDueOn, reply_of, reply_on}
use Rattle.sshc_client_table.specs.Grown.{May}
use Rattle.sshc_client_table.specs.GrownLaws.{done-append}
use Rattle.sshc_client_table.specs.KeptByMoves.{KeepsSession}
use Rattle.sshc_client_table.specs.KeptByMovesLaws.{moves_keep}
use Rattle.sshc_client_table.specs.MoveLaws.{is_done}
use Rattle.sshc_client_table.specs.declared.life.Life.{Life}
use Rattle.sshc_client_table.specs.declared.life.Life.TheVariants as lives
use Rattle.sshc_client_table.specs.Moves as m
use Rattle.sshc_client_table.specs.Moves.{Deed, Move, addressed, after, deed, done, done_if, recipient_at, told, with_deed}
use Rattle.sshc_client_table.specs.PeerSays.{IsExchangeBy, IsPacketOf, Replies, RepliesOn, Reports}
use Rattle.sshc_client_table.specs.RowMoves.{Fits}
use Rattle.sshc_client_table.specs.SessionRow.{Callback, Opinions, SessionRow, asking, behind_moves, goes, plain_row, refused}
use Rattle.sshc_client_table.specs.SessionState.{SessionState, is_live, is_open, may_tell, runs, stands}
use Rattle.sshc_client_table.specs.SessionTable.{held_row, numbered_row, payload_row, session_row}
use Rattle.sshc_client_table.specs.SessionTable.Exchanges.{exchange_done_row}
use Rattle.sshc_client_table.specs.SessionTable.Requests.{channel_request_row, global_request_row, requested_row}
use Rattle.sshc_client_table.specs.SessionTable.Streams.{channel_close_row, channel_data_row, channel_extended_data_row, channel_report_row}
use Rattle.sshc_client_table.specs.StepLaws.{Borrowed, Followed, whole}
use Rattle.sshc_client_table.proofs.AnswerRows.{IsPlain, IsSameTalk, counted_same, heard_same, plain_went, talk_on, went_goes}
use Rattle.sshc_client_table.proofs.StepMoves.{added_in, added_is, done_adds}

-- ---- a session in which records may be told

first_so : (a b : Bool) → a && b ≡ true → a ≡ true
first_so true b is = refl
first_so false b is = absurd cc

fits_keeps : (event : Event) (move : Move) → Fits event move → KeepsSession move
fits_keeps event m.Leaves never = absurd never
fits_keeps event m.Stops never = absurd never
fits_keeps event (m.Tells (output.Agent conn answer)) never = absurd never
fits_keeps event move fits = tt

all_keep : (event : Event) (moves : List Move) → AllByRecursion (λ move. Fits event move) moves → AllByRecursion KeepsSession moves
all_keep event [] all = tt
all_keep event (move ∷ moves) (fits, all) = (fits_keeps event move fits, all_keep event moves all)

kept_tells : (moves : List Move) (s : SessionState) → AllByRecursion KeepsSession moves → may_tell s ≡ true → may_tell (done moves s) ≡ true
kept_tells moves s all is = let same = moves_keep moves s all in rw (same.life, same.phase) is

left_tells : (b : Bool) (s : SessionState) → may_tell s ≡ true → may_tell (with_deed (done_if b (deed m.Leaves s) s) s) ≡ true
left_tells true s is = rw (first_so (is_open s.opening.phase) (stands s.life) is) refl
left_tells false s is = is

may_tells : (move : Move) (s : SessionState) → May move → may_tell s ≡ true → may_tell (after move s) ≡ true
unfolding after
may_tells m.Leaves s may is = left_tells (runs s.life) s is
may_tells m.Stops s never is = absurd never
may_tells (m.Tells record_) s never is = absurd never
may_tells move s may is = kept_tells (move ∷ []) s (tt, tt) is

grown_tells : (moves : List Move) (s : SessionState) → AllByRecursion May moves → may_tell s ≡ true → may_tell (done moves s) ≡ true
grown_tells [] s all is = is
grown_tells (move ∷ moves) s (may, all) is = grown_tells moves (after move s) all (may_tells move s may is)

live_by : (opened : Bool) (life : Life) → opened && runs life ≡ true → opened && stands life ≡ true
live_by false life is = absurd cc
live_by true lives.Runs is = refl
live_by true life is = absurd cc

live_tells : (s : SessionState) → is_live s ≡ true → may_tell s ≡ true
live_tells s live = live_by (is_open s.opening.phase) s.life live

-- ---- a row that tells

-- after what the handler did, records are those before and more, and more may be told
record Lends (lent mid : SessionState) : Type 0 where
  tells : may_tell mid ≡ true
  more : List Record
  records : mid.records ≡ lent.records ++ more

lends : (asks : Option Callback) (lent mid : SessionState) → may_tell lent ≡ true → Borrowed asks lent mid → Lends lent mid
lends None lent mid is same = record { tells = ap may_tell same ∙ is; more = []; records = ap (λ (t : SessionState). t.records) same ∙ sym (append-nil lent.records) }
lends (Some callback) lent mid is grown = record {
  tells = ap may_tell grown.is ∙ grown_tells grown.moves lent grown.may is;
  more = added_in grown.moves lent;
  records = ap (λ (t : SessionState). t.records) grown.is ∙ done_adds grown.moves lent;
}

told_after : (record_ : Record) (s : SessionState) → may_tell s ≡ true → told record_ ≡ record_ ∷ [] → (after (m.Tells record_) s).records ≡ s.records ++ record_ ∷ []
unfolding after
told_after record_ s is one = rw (is, one) refl

-- its first move after the handler's call tells the record
pub record TellsFirst (row : SessionRow) (record_ : Record) : Type 0 where
  pub one : told record_ ≡ record_ ∷ []
  pub rest : List Move
  pub back : (answer : _) → row.back answer ≡ m.Tells record_ ∷ rest

tells : (event : Event) (row : SessionRow) (record_ : Record) (s new : SessionState) → is_live s ≡ true → AllByRecursion (λ move. Fits event move) row.front →
    TellsFirst row record_ → Followed row s new true → HasRecord record_ (drop (length s.records) new.records)
tells event row record_ s new live fit first (whole mid answer next borrowed is) =
    let lent : SessionState = done row.front s in
    let l = lends row.asks lent mid (kept_tells row.front s (all_keep event row.front fit) (live_tells s live)) borrowed in
    let last : SessionState = after (m.Tells record_) mid in
    let before : List Record = added_in row.front s ++ l.more in
    let rest : List Record = added_in first.rest last in
    let mid_is : mid.records ≡ s.records ++ before = l.records ∙ ap (λ (rs : List Record). rs ++ l.more) (done_adds row.front s) ∙ append_assoc s.records (added_in row.front s) l.more in
    let new_is : new.records ≡ s.records ++ (before ++ record_ ∷ rest)
    = ap (λ (t : SessionState). t.records) is ∙ ap (λ (moves : List Move). (done moves mid).records) (first.back answer) ∙ done_adds first.rest last
    ∙ ap (λ (rs : List Record). rs ++ rest) (told_after record_ mid l.tells first.one ∙ ap (λ (rs : List Record). rs ++ record_ ∷ []) mid_is)
    ∙ append_assoc (s.records ++ before) (record_ ∷ []) rest ∙ append_assoc s.records before (record_ ∷ rest) in
    (before, rest, added_is s.records new.records (before ++ record_ ∷ rest) new_is)

-- ---- a packet's row, by its own

counted_back : (much : Bool) (len : ℕ) (own : SessionRow) → (if much then refused Pending else behind_moves (m.Counts len ∷ []) own).next ≡ goes → (answer : _) →
    (if much then refused Pending else behind_moves (m.Counts len ∷ []) own).back answer ≡ own.back answer
counted_back true len own next answer = absurd cc
counted_back false len own next answer = refl

held_back : (flag : ExchangeFlag) (s : SessionState) (len : ℕ) (own : SessionRow) → (held_row flag s len own).next ≡ goes → (answer : _) → (held_row flag s len own).back answer ≡ own.back answer
held_back flags.Idle s len own next answer = refl
held_back flags.Ours s len own next answer = counted_back (is_too_much s.opening len) len own next answer
held_back flags.Peer s len own next answer = absurd cc

-- a record of a request of the peer's
abbrev IsAskedRecord : ChannelRecord → Type 0
IsAskedRecord (happened.XonXoff can_do) = Unit {0}
IsAskedRecord (happened.ExitStatus status) = Unit {0}
IsAskedRecord (happened.ExitSignal signal dumped message language) = Unit {0}
IsAskedRecord what = ⊥

module _ (accepts : Accepts) (o : Opinions) (s : SessionState) (body : List ℕ) where
  abbrev RowOf : ℕ → SessionRow
  RowOf k = session_row accepts o s (events.Payload (k ∷ body))

  data_row : (d : Data) → data_of body ≡ Ok d → is_established d.id.0 s.table ≡ true → (RowOf CHANNEL_DATA).next ≡ goes → TellsFirst (RowOf CHANNEL_DATA) (output.Channel d.id (happened.Data d.body))
  unfolding session_row payload_row numbered_row channel_data_row asking
  data_row d read up next = record {
    one = refl;
    rest = [];
    back = λ answer. held_back s.opening.flag s (length (CHANNEL_DATA ∷ body)) (channel_data_row o s body) next answer ∙ rw (read, up) refl;
  }

  extended_row : (d : ExtendedData) → extended_data_of body ≡ Ok d → is_established d.id.0 s.table ≡ true → (RowOf CHANNEL_EXTENDED_DATA).next ≡ goes →
      TellsFirst (RowOf CHANNEL_EXTENDED_DATA) (output.Channel d.id (happened.ExtendedData d.ext d.body))
  unfolding session_row payload_row numbered_row channel_extended_data_row asking
  extended_row d read up next = record {
    one = refl;
    rest = [];
    back = λ answer. held_back s.opening.flag s (length (CHANNEL_EXTENDED_DATA ∷ body)) (channel_extended_data_row o s body) next answer ∙ rw (read, up) refl;
  }

  eof_row : (id : ChannelId) → channel_of body ≡ Ok id → is_established id.0 s.table ≡ true → (RowOf CHANNEL_EOF).next ≡ goes → TellsFirst (RowOf CHANNEL_EOF) (output.Channel id happened.Eof)
  unfolding session_row payload_row numbered_row channel_report_row asking
  eof_row id read up next = record {
    one = refl;
    rest = [];
    back = λ answer. held_back s.opening.flag s (length (CHANNEL_EOF ∷ body)) (channel_report_row s happened.Eof body) next answer ∙ rw (read, up) refl;
  }

  success_row : (id : ChannelId) → channel_of body ≡ Ok id → is_established id.0 s.table ≡ true → (RowOf CHANNEL_SUCCESS).next ≡ goes → TellsFirst (RowOf CHANNEL_SUCCESS) (output.Channel id happened.Success)
  unfolding session_row payload_row numbered_row channel_report_row asking
  success_row id read up next = record {
    one = refl;
    rest = [];
    back = λ answer. held_back s.opening.flag s (length (CHANNEL_SUCCESS ∷ body)) (channel_report_row s happened.Success body) next answer ∙ rw (read, up) refl;
  }

  failure_row : (id : ChannelId) → channel_of body ≡ Ok id → is_established id.0 s.table ≡ true → (RowOf CHANNEL_FAILURE).next ≡ goes → TellsFirst (RowOf CHANNEL_FAILURE) (output.Channel id happened.Failure)
  unfolding session_row payload_row numbered_row channel_report_row asking
  failure_row id read up next = record {
    one = refl;
    rest = [];
    back = λ answer. held_back s.opening.flag s (length (CHANNEL_FAILURE ∷ body)) (channel_report_row s happened.Failure body) next answer ∙ rw (read, up) refl;
  }

  close_row : (id : ChannelId) → channel_of body ≡ Ok id → is_established id.0 s.table ≡ true → (RowOf CHANNEL_CLOSE).next ≡ goes → TellsFirst (RowOf CHANNEL_CLOSE) (output.Channel id happened.Close)
  unfolding session_row payload_row numbered_row channel_close_row asking
  close_row id read up next = record {
    one = refl;
    rest = [];
    back = λ answer. held_back s.opening.flag s (length (CHANNEL_CLOSE ∷ body)) (channel_close_row s body) next answer ∙ rw (read, up) refl;
  }

  -- a request of the peer's that is reported
  abbrev Asked : ChannelRecord → PeerRequest
  Asked (happened.XonXoff can_do) = requests.XonXoff can_do
  Asked (happened.ExitStatus status) = requests.ExitStatus status
  Asked (happened.ExitSignal signal dumped message language) = requests.ExitSignal signal dumped message language
  Asked what = requests.Unknown false

  requested_back : (id : ChannelId) (what : ChannelRecord) → IsAskedRecord what → (answer : _) → (requested_row id.0 (Asked what)).back answer ≡ m.Tells (output.Channel id what) ∷ []
  unfolding asking
  requested_back id (happened.XonXoff can_do) asked answer = refl
  requested_back id (happened.ExitStatus status) asked answer = refl
  requested_back id (happened.ExitSignal signal dumped message language) asked answer = refl
  requested_back id what never answer = absurd never

  request_row : (h : RequestHead) (what : ChannelRecord) → IsAskedRecord what → request_head_of body ≡ Ok h → peer_request_of h.name h.rest ≡ Ok (Asked what) → is_established h.id.0 s.table ≡ true →
      (RowOf CHANNEL_REQUEST).next ≡ goes → (answer : _) → (RowOf CHANNEL_REQUEST).back answer ≡ m.Tells (output.Channel h.id what) ∷ []
  unfolding session_row payload_row numbered_row channel_request_row
  request_row h what asked read read' up next answer =
      held_back s.opening.flag s (length (CHANNEL_REQUEST ∷ body)) (channel_request_row s body) next answer ∙ rw (read, up, read') (requested_back h.id what asked answer)

  -- announced host keys
  keys_row : (keys : List (Key × List ℕ)) → peer_global_of body ≡ Ok (globals.HostKeys keys) → (RowOf GLOBAL_REQUEST).next ≡ goes → TellsFirst (RowOf GLOBAL_REQUEST) (output.HostKeysAnnounced (blobs_of keys))
  unfolding session_row payload_row numbered_row global_request_row asking
  keys_row keys read next = record {
    one = refl;
    rest = [];
    back = λ answer. held_back s.opening.flag s (length (GLOBAL_REQUEST ∷ body)) (global_request_row body) next answer ∙ rw read refl;
  }

-- ---- what is due is told

abbrev Fitting : Event → SessionRow → Type 0
Fitting event row = AllByRecursion (λ move. Fits event move) row.front

on_packet : (k : ℕ) (Holds : List ℕ → Type 0) (Goal : Event → Type 0) (event : Event) → IsPacketOf k Holds event → ((body : List ℕ) → Holds body → Goal (events.Payload (k ∷ body))) → Goal event
on_packet k Holds Goal (events.Payload (n ∷ body)) (is, holds) each = subst (λ (n : ℕ). Goal (events.Payload (n ∷ body))) (sym is) (each body holds)
on_packet k Holds Goal event never each = absurd never

channel_is : (a b : ChannelId) → a.0 ≡ b.0 → a ≡ b
channel_is a b is = ap (λ (n : ℕ). Con n) is
  where
    Con : ℕ → ChannelId
    Con n = record { 0 = n }

module _ (accepts : Accepts) (o : Opinions) (s : SessionState) (live : is_live s ≡ true) where
  abbrev Told : Record → Event → Type 0
  Told record_ event = (new : SessionState) → Fitting event (session_row accepts o s event) → Followed (session_row accepts o s event) s new true → HasRecord record_ (drop (length s.records) new.records)

  told_by : (event : Event) (record_ : Record) → ((session_row accepts o s event).next ≡ goes → TellsFirst (session_row accepts o s event) record_) → Told record_ event
  told_by event record_ first new fit went = tells event (session_row accepts o s event) record_ s new live fit (first (went_goes (session_row accepts o s event) s new went)) went

  -- of the channel with this number
  up_at : (a b : ChannelId) → a.0 ≡ b.0 → is_established b.0 s.table ≡ true → is_established a.0 s.table ≡ true
  up_at a b same up = ap (λ (n : ℕ). is_established n s.table) same ∙ up

  told_data : (id : ChannelId) (bytes body : List ℕ) (d : Data) → data_of body ≡ Ok d → d.id.0 ≡ id.0 → d.body ≡ bytes → is_established id.0 s.table ≡ true → Told (output.Channel id (happened.Data bytes)) (events.Payload (CHANNEL_DATA ∷ body))
  told_data id bytes body d read same is up =
      rw (← channel_is d.id id same, ← is) (told_by (events.Payload (CHANNEL_DATA ∷ body)) (output.Channel d.id (happened.Data d.body)) (data_row accepts o s body d read (up_at d.id id same up)))

  told_extended : (id : ChannelId) (ext : ℕ) (bytes body : List ℕ) (d : ExtendedData) → extended_data_of body ≡ Ok d → d.id.0 ≡ id.0 → d.ext ≡ ext → d.body ≡ bytes → is_established id.0 s.table ≡ true →
      Told (output.Channel id (happened.ExtendedData ext bytes)) (events.Payload (CHANNEL_EXTENDED_DATA ∷ body))
  told_extended id ext bytes body d read same code is up =
      rw (← channel_is d.id id same, ← code, ← is) (told_by (events.Payload (CHANNEL_EXTENDED_DATA ∷ body)) (output.Channel d.id (happened.ExtendedData d.ext d.body)) (extended_row accepts o s body d read (up_at d.id id same up)))

  told_eof : (id c : ChannelId) (body : List ℕ) → channel_of body ≡ Ok c → c.0 ≡ id.0 → is_established id.0 s.table ≡ true → Told (output.Channel id happened.Eof) (events.Payload (CHANNEL_EOF ∷ body))
  told_eof id c body read same up = rw (← channel_is c id same) (told_by (events.Payload (CHANNEL_EOF ∷ body)) (output.Channel c happened.Eof) (eof_row accepts o s body c read (up_at c id same up)))

  told_success : (id c : ChannelId) (body : List ℕ) → channel_of body ≡ Ok c → c.0 ≡ id.0 → is_established id.0 s.table ≡ true → Told (output.Channel id happened.Success) (events.Payload (CHANNEL_SUCCESS ∷ body))
  told_success id c body read same up = rw (← channel_is c id same) (told_by (events.Payload (CHANNEL_SUCCESS ∷ body)) (output.Channel c happened.Success) (success_row accepts o s body c read (up_at c id same up)))

  told_failure : (id c : ChannelId) (body : List ℕ) → channel_of body ≡ Ok c → c.0 ≡ id.0 → is_established id.0 s.table ≡ true → Told (output.Channel id happened.Failure) (events.Payload (CHANNEL_FAILURE ∷ body))
  told_failure id c body read same up = rw (← channel_is c id same) (told_by (events.Payload (CHANNEL_FAILURE ∷ body)) (output.Channel c happened.Failure) (failure_row accepts o s body c read (up_at c id same up)))

  told_close : (id c : ChannelId) (body : List ℕ) → channel_of body ≡ Ok c → c.0 ≡ id.0 → is_established id.0 s.table ≡ true → Told (output.Channel id happened.Close) (events.Payload (CHANNEL_CLOSE ∷ body))
  told_close id c body read same up = rw (← channel_is c id same) (told_by (events.Payload (CHANNEL_CLOSE ∷ body)) (output.Channel c happened.Close) (close_row accepts o s body c read (up_at c id same up)))

  told_request : (id : ChannelId) (what : ChannelRecord) (body : List ℕ) (h : RequestHead) → told (output.Channel h.id what) ≡ output.Channel h.id what ∷ [] → IsAskedRecord what → request_head_of body ≡ Ok h → h.id.0 ≡ id.0 →
      peer_request_of h.name h.rest ≡ Ok (Asked accepts o s body what) → is_established id.0 s.table ≡ true → Told (output.Channel id what) (events.Payload (CHANNEL_REQUEST ∷ body))
  told_request id what body h one asked read same read' up =
      rw (← channel_is h.id id same)
      (told_by (events.Payload (CHANNEL_REQUEST ∷ body)) (output.Channel h.id what)
      (λ next. record { one = one; rest = []; back = request_row accepts o s body h what asked read read' (up_at h.id id same up) next }))

  due_on : (id : ChannelId) (what : ChannelRecord) (event : Event) → IsDueOn s id.0 what event → Told (output.Channel id what) event
  due_on id (happened.Open size window) event never = absurd never
  due_on id (happened.OpenFailure reason description language) event never = absurd never
  due_on id (happened.WindowAdjusted left) event never = absurd never
  due_on id (happened.Data bytes) event (up, says) =
      on_packet CHANNEL_DATA _ (Told (output.Channel id (happened.Data bytes))) event says (λ body h. told_data id bytes body h.0 h.1 h.2 h.3 up)
  due_on id (happened.ExtendedData ext bytes) event (up, says) =
      on_packet CHANNEL_EXTENDED_DATA _ (Told (output.Channel id (happened.ExtendedData ext bytes))) event says (λ body h. told_extended id ext bytes body h.0 h.1 h.2 h.3 h.4 up)
  due_on id happened.Eof event (up, says) = on_packet CHANNEL_EOF _ (Told (output.Channel id happened.Eof)) event says (λ body h. told_eof id h.0 body h.1 h.2 up)
  due_on id happened.Close event (up, says) = on_packet CHANNEL_CLOSE _ (Told (output.Channel id happened.Close)) event says (λ body h. told_close id h.0 body h.1 h.2 up)
  due_on id happened.Success event (up, says) = on_packet CHANNEL_SUCCESS _ (Told (output.Channel id happened.Success)) event says (λ body h. told_success id h.0 body h.1 h.2 up)
  due_on id happened.Failure event (up, says) = on_packet CHANNEL_FAILURE _ (Told (output.Channel id happened.Failure)) event says (λ body h. told_failure id h.0 body h.1 h.2 up)
  due_on id (happened.XonXoff can_do) event (up, says) =
      on_packet CHANNEL_REQUEST _ (Told (output.Channel id (happened.XonXoff can_do))) event says (λ body h. told_request id (happened.XonXoff can_do) body h.0 refl tt h.1 h.2 h.3 up)
  due_on id (happened.ExitStatus status) event (up, says) =
      on_packet CHANNEL_REQUEST _ (Told (output.Channel id (happened.ExitStatus status))) event says (λ body h. told_request id (happened.ExitStatus status) body h.0 refl tt h.1 h.2 h.3 up)
  due_on id (happened.ExitSignal signal dumped message language) event (up, says) =
      on_packet CHANNEL_REQUEST _ (Told (output.Channel id (happened.ExitSignal signal dumped message language))) event says
      (λ body h. told_request id (happened.ExitSignal signal dumped message language) body h.0 refl tt h.1 h.2 h.3 up)

  -- host keys
  due_keys : (blobs : List (List ℕ)) (event : Event) → Reports event (output.HostKeysAnnounced blobs) → Told (output.HostKeysAnnounced blobs) event
  due_keys blobs event (keys, says, is) =
      rw is
      (on_packet GLOBAL_REQUEST _ (Told (output.HostKeysAnnounced (blobs_of keys))) event says
      (λ body read. told_by (events.Payload (GLOBAL_REQUEST ∷ body)) (output.HostKeysAnnounced (blobs_of keys)) (keys_row accepts o s body keys read)))

  -- an exchange
  exchange_row : (flag : ExchangeFlag) (same : Bool) (x : ExchangeResult) → (exchange_done_row flag same x).next ≡ goes → TellsFirst (exchange_done_row flag same x) (output.KexDone x.names.kex)
  unfolding asking
  exchange_row flags.Peer true x next = record { one = refl; rest = m.Resumes ∷ []; back = λ answer. refl }
  exchange_row flags.Peer false x next = absurd cc
  exchange_row flags.Idle same x next = absurd cc
  exchange_row flags.Ours same x next = absurd cc

  due_exchange : (kex : List ℕ) (event : Event) → IsExchangeBy kex event → Told (output.KexDone kex) event
  unfolding session_row
  due_exchange kex (events.ExchangeDone x) is = rw is (told_by (events.ExchangeDone x) (output.KexDone x.names.kex) (exchange_row s.opening.flag (has_kept_key s.opening x) x))
  due_exchange kex event never = absurd never

  due : (record_ : Record) (event : Event) → IsDue s event record_ → Told record_ event
  due (output.KexDone kex) event is = due_exchange kex event is
  due (output.Channel id what) event is = due_on id what event is
  due (output.HostKeysAnnounced blobs) event is = due_keys blobs event is
  due record_ event never = absurd never

-- ---- what is asked for is replied

-- before its own row a packet's row does nothing to what is said
record Before (full own : SessionRow) : Type 0 where
  first : List Move
  same : (t : SessionState) → is_live t ≡ true → IsSameTalk t (done first t)
  row_is : full ≡ behind_moves first own

nothing_same : (t : SessionState) → is_live t ≡ true → IsSameTalk t t
nothing_same t live = record { live = live; records = refl; replies = refl; table = refl }

counted_before : (much : Bool) (len : ℕ) (own : SessionRow) → (if much then refused Pending else behind_moves (m.Counts len ∷ []) own).next ≡ goes →
    Before (if much then refused Pending else behind_moves (m.Counts len ∷ []) own) own
counted_before true len own next = absurd cc
counted_before false len own next = record { first = m.Counts len ∷ []; same = counted_same len; row_is = refl }

held_before : (flag : ExchangeFlag) (s : SessionState) (len : ℕ) (own : SessionRow) → (held_row flag s len own).next ≡ goes → Before (held_row flag s len own) own
held_before flags.Idle s len own next = record { first = []; same = nothing_same; row_is = refl }
held_before flags.Ours s len own next = counted_before (is_too_much s.opening len) len own next
held_before flags.Peer s len own next = absurd cc

heard_before : (full own : SessionRow) → Before full own → Before (behind_moves (m.Hears ∷ []) full) own
heard_before full own b = record {
  first = m.Hears ∷ b.first;
  same = λ t live. let heard = heard_same t live in talk_on t (after m.Hears t) (done b.first (after m.Hears t)) heard (b.same (after m.Hears t) heard.live);
  row_is = ap (λ (row : SessionRow). behind_moves (m.Hears ∷ []) row) b.row_is;
}

-- a move that writes one record
Writes : Move → SessionState → Record → Type 0
Writes move s record_ = (t : SessionState) → is_live t ≡ true → t.table ≡ s.table → (after move t).records ≡ t.records ++ record_ ∷ []

writes : (full : SessionRow) (move : Move) (record_ : Record) (s new : SessionState) → is_live s ≡ true → Before full (plain_row (move ∷ [])) → Writes move s record_ → Followed full s new true →
    drop (length s.records) new.records ≡ record_ ∷ []
unfolding Writes
writes full move record_ s new live b one went =
    let plain : IsPlain full = record { asks = ap (λ (row : SessionRow). row.asks) b.row_is; back = λ answer. ap (λ (row : SessionRow). row.back answer) b.row_is } in
    let same = b.same s live in
    let is : new ≡ after move (done b.first s) = plain_went full s new plain went ∙ ap (λ (row : SessionRow). done row.front s) b.row_is ∙ done-append b.first (move ∷ []) s in
    added_is s.records new.records (record_ ∷ [])
    (ap (λ (t : SessionState). t.records) is ∙ one (done b.first s) same.live same.table ∙ ap (λ (rs : List Record). rs ++ record_ ∷ []) same.records)

answers_write : (done_ : Bool) (s : SessionState) → Writes (m.Answers done_) s (output.Payload (message_text (reply_of done_)))
unfolding Writes
answers_write true s t live same = ap (λ (u : SessionState). u.records) (is_done (m.Answers true) t live)
answers_write false s t live same = ap (λ (u : SessionState). u.records) (is_done (m.Answers false) t live)

addressed_write : (id recipient : ℕ) (done_ : Bool) (s : SessionState) → recipient_at id s.table ≡ Some recipient → Writes (m.AnswersOn id done_) s (output.Payload (message_text (reply_on done_ recipient)))
unfolding Writes
addressed_write id recipient true s there t live same =
    ap (λ (u : SessionState). u.records) (is_done (m.AnswersOn id true) t live) ∙ rw (same, there) refl
addressed_write id recipient false s there t live same =
    ap (λ (u : SessionState). u.records) (is_done (m.AnswersOn id false) t live) ∙ rw (same, there) refl

module _ (accepts : Accepts) (o : Opinions) (s : SessionState) (live : is_live s ≡ true) where
  abbrev Writ : Record → Event → Type 0
  Writ record_ event = (new : SessionState) → Followed (session_row accepts o s event) s new true → drop (length s.records) new.records ≡ record_ ∷ []

  -- of us as a whole
  abbrev Wanted : Bool → PeerGlobal
  Wanted true = globals.Keepalive true
  Wanted false = globals.Unknown true

  own_global : (done_ : Bool) (body : List ℕ) → peer_global_of body ≡ Ok (Wanted done_) → global_request_row body ≡ plain_row (m.Answers done_ ∷ [])
  unfolding global_request_row
  own_global true body read = rw read refl
  own_global false body read = rw read refl

  global_before : (own : SessionRow) (body : List ℕ) → global_request_row body ≡ own → (session_row accepts o s (events.Payload (GLOBAL_REQUEST ∷ body))).next ≡ goes →
      Before (session_row accepts o s (events.Payload (GLOBAL_REQUEST ∷ body))) own
  unfolding session_row payload_row numbered_row
  global_before own body is next =
      subst (λ (row : SessionRow). Before (session_row accepts o s (events.Payload (GLOBAL_REQUEST ∷ body))) row) is
      (held_before s.opening.flag s (length (GLOBAL_REQUEST ∷ body)) (global_request_row body) next)

  global_writes : (done_ : Bool) (body : List ℕ) → peer_global_of body ≡ Ok (Wanted done_) → Writ (output.Payload (message_text (reply_of done_))) (events.Payload (GLOBAL_REQUEST ∷ body))
  global_writes done_ body read new went =
      let full : SessionRow = session_row accepts o s (events.Payload (GLOBAL_REQUEST ∷ body)) in
      writes full (m.Answers done_) (output.Payload (message_text (reply_of done_))) s new live (global_before (plain_row (m.Answers done_ ∷ [])) body (own_global done_ body read) (went_goes full s new went)) (answers_write done_ s) went

  replied : (done_ : Bool) (event : Event) → Replies done_ event → Writ (output.Payload (message_text (reply_of done_))) event
  replied true event says = on_packet GLOBAL_REQUEST _ (Writ (output.Payload (message_text (reply_of true)))) event says (global_writes true)
  replied false event says = on_packet GLOBAL_REQUEST _ (Writ (output.Payload (message_text (reply_of false)))) event says (global_writes false)

  -- on a channel
  abbrev WantedOn : Bool → PeerRequest
  WantedOn true = requests.Keepalive true
  WantedOn false = requests.Unknown true

  own_request : (h : RequestHead) (id : ℕ) (done_ : Bool) (body : List ℕ) → request_head_of body ≡ Ok h → h.id.0 ≡ id → peer_request_of h.name h.rest ≡ Ok (WantedOn done_) → is_established id s.table ≡ true →
      channel_request_row s body ≡ plain_row (m.AnswersOn id done_ ∷ [])
  unfolding channel_request_row
  own_request h id true body read same read' up = rw (read, same, up, read') refl
  own_request h id false body read same read' up = rw (read, same, up, read') refl

  request_before : (own : SessionRow) (body : List ℕ) → channel_request_row s body ≡ own → (session_row accepts o s (events.Payload (CHANNEL_REQUEST ∷ body))).next ≡ goes →
      Before (session_row accepts o s (events.Payload (CHANNEL_REQUEST ∷ body))) own
  unfolding session_row payload_row numbered_row
  request_before own body is next =
      subst (λ (row : SessionRow). Before (session_row accepts o s (events.Payload (CHANNEL_REQUEST ∷ body))) row) is
      (heard_before (held_row s.opening.flag s (length (CHANNEL_REQUEST ∷ body)) (channel_request_row s body)) (channel_request_row s body)
      (held_before s.opening.flag s (length (CHANNEL_REQUEST ∷ body)) (channel_request_row s body) next))

  request_writes : (id recipient : ℕ) (done_ : Bool) (body : List ℕ) (h : RequestHead) → request_head_of body ≡ Ok h → h.id.0 ≡ id → peer_request_of h.name h.rest ≡ Ok (WantedOn done_) → is_established id s.table ≡ true →
      recipient_at id s.table ≡ Some recipient → Writ (output.Payload (message_text (reply_on done_ recipient))) (events.Payload (CHANNEL_REQUEST ∷ body))
  request_writes id recipient done_ body h read same read' up there new went =
      let full : SessionRow = session_row accepts o s (events.Payload (CHANNEL_REQUEST ∷ body)) in
      writes full (m.AnswersOn id done_) (output.Payload (message_text (reply_on done_ recipient))) s new live
      (request_before (plain_row (m.AnswersOn id done_ ∷ [])) body (own_request h id done_ body read same read' up) (went_goes full s new went)) (addressed_write id recipient done_ s there) went

  replied_on : (id recipient : ℕ) (done_ : Bool) (event : Event) → RepliesOn id done_ event → is_established id s.table ≡ true → recipient_at id s.table ≡ Some recipient →
      Writ (output.Payload (message_text (reply_on done_ recipient))) event
  replied_on id recipient true event says up there =
      on_packet CHANNEL_REQUEST _ (Writ (output.Payload (message_text (reply_on true recipient)))) event says (λ body h. request_writes id recipient true body h.0 h.1 h.2 h.3 up there)
  replied_on id recipient false event says up there =
      on_packet CHANNEL_REQUEST _ (Writ (output.Payload (message_text (reply_on false recipient)))) event says (λ body h. request_writes id recipient false body h.0 h.1 h.2 h.3 up there)

-- ---- a step

pub gives : (accepts : Accepts) (o : Opinions) (event : Event) (s new : SessionState) → is_live s ≡ true → Fitting event (session_row accepts o s event) →
    Followed (session_row accepts o s event) s new true → Gives event s (drop (length s.records) new.records)
gives accepts o event s new live fit went = record {
  told = λ record_ is. due accepts o s live record_ event is new fit went;
  replied = λ done_ says. replied accepts o s live done_ event says new went;
  replied_on = λ id recipient done_ says up there. replied_on accepts o s live id recipient done_ event says up there new went;
}
