-- The entries that a step queues are those of the packets 80 that it writes with a reply wanted.
use Rattle.std.proofs.Common.{◌≡◌, ◌≢◌, inl, inr, ℕ, Bool, true, false, List, [], ◌∷◌, ◌++◌, eqb, if◌then◌else◌, Option, Some, None, refl, ap, sym, subst, ◌∙◌, append_assoc}
use Rattle.std.proofs.lemmas.List.{append-nil}
use Rattle.std.specs.Prelude.{◌==◌, ◌⊎◌}
use Rattle.std.specs.List.{AllByRecursion}
use Rattle.sshc_wire.specs.MessageNumbers.{GLOBAL_REQUEST}
use Rattle.sshc_wire.specs.Wire.{bool_text, string_text}
use Rattle.sshc_wire.specs.declared.disconnect.Disconnect.{Disconnect}
use Rattle.sshc_wire.specs.declared.record.Record.{Record}
use Rattle.sshc_wire.specs.declared.record.Record.TheVariants as output
use Rattle.sshc_wire.specs.declared.record.Record.TheVariants.{Payload, Resolved}
use Rattle.sshc_wire.specs.declared.resolution.Resolution.{Resolution}
use Rattle.sshc_wire.specs.declared.resolution.Resolution.TheVariants.{ChannelOpened, ChannelOpenFailed, Denied, Dropped, ExtInfoSeen, HostKeysProved, SigAlgs}
use Rattle.sshc_wire.specs.declared.ticket.Ticket.{Ticket}
use Rattle.sshc_auth_event.specs.declared.event.Event.{Event}
use Rattle.sshc_auth_request.specs.RequestTexts.{disconnect}
use Rattle.sshc_auth.specs.Row.{resolved}
use Rattle.sshc_mux.specs.declared.chunk.Stream.TheVariants as streams
use Rattle.sshc_mux.specs.ChannelTable.{ChannelPacket, records_of}
use Rattle.sshc_mux.specs.ChannelTable.Opens.{awaited}
use Rattle.sshc_mux.specs.Packets.{Packet, Piece, Eof, Close, Adjust, packet_text}
use Rattle.sshc_client_packets.specs.ChannelOpens.{channel_open_text, confirmation_text, open_failure_text}
use Rattle.sshc_client_packets.specs.ChannelRequests.{channel_request_text}
use Rattle.sshc_client_packets.specs.GlobalRequests.{GlobalRequest, global_fields, global_name, global_request_text}
use Rattle.sshc_client_packets.specs.Messages.{Message, message_text}
use Rattle.sshc_client_packets.specs.Messages as messages
use Rattle.sshc_client_table.specs.declared.reply_entry.ReplyEntry.{ReplyEntry}
use Rattle.sshc_client_table.specs.Messages.{Ask, asking_message, entry_of, queued, request_of, sent, wants_answer}
use Rattle.sshc_client_table.specs.Messages as asking
use Rattle.sshc_client_table.specs.Moves as m
use Rattle.sshc_client_table.specs.Moves.{Deed, Move, after, deed, deed_of, did, done, done_if, may_go, open_answer, or_none}
use Rattle.sshc_client_table.specs.QueuedRequests.{IsEntry, Queues}
use Rattle.sshc_client_table.specs.RowMovesLaws.{is_report}
use Rattle.sshc_client_table.specs.RowMoves.{IsReport}
use Rattle.sshc_client_table.specs.SessionState.{SessionState}
use Rattle.sshc_client_table.specs.StepLaws.{IsReply}
use Rattle.sshc_client_table.proofs.SaidLemmas.{IsNoRequest, PlainKinds, plain_holds}
use Rattle.sshc_client_table.proofs.StepAdds.{waits_on}
use Rattle.sshc_client_table.proofs.StepMoves.{AllFit, StepFits, added, added_in}

-- ---- lists of records

-- any record but a packet 80
abbrev NoAsk : Record → Type 0
NoAsk (Payload (n ∷ rest)) = (n == GLOBAL_REQUEST) ≡ false
NoAsk output = Unit {0}

not_ask : (n : ℕ) → (n == GLOBAL_REQUEST) ≡ false → n ≢ GLOBAL_REQUEST
not_ask n is = λ same. let clash : true ≡ false = sym (ap (λ (x : ℕ). x == GLOBAL_REQUEST) same) ∙ is in absurd cc

none_queue : (records : List Record) → AllByRecursion NoAsk records → Queues records []
none_queue [] all = refl
none_queue (Payload (n ∷ rest) ∷ records) (is, all) = ((λ same. absurd (not_ask n is same)), λ other. none_queue records all)
none_queue (output ∷ records) (is, all) = none_queue records all

abbrev Wants : List ℕ → List ReplyEntry → (List ReplyEntry → Type 0) → Type 0
Wants rest entries Next =
    (name : List ℕ) × (body : List ℕ)
    × (((rest ≡ string_text name ++ 1 ∷ body) × (first : ReplyEntry) × (others : List ReplyEntry) × (entries ≡ first ∷ others) × IsEntry name body first × Next others)
    ⊎ ((rest ≡ string_text name ++ 0 ∷ body) × Next entries))

wants_more : (rest : List ℕ) (x y : List ReplyEntry) (A B : List ReplyEntry → Type 0) → ((z : List ReplyEntry) → A z → B (z ++ y)) → Wants rest x A → Wants rest (x ++ y) B
wants_more rest x y A B more (name, body, inl (is, first, others, same, entry, next)) =
    (name, body, inl (is, first, others ++ y, ap (λ (z : List ReplyEntry). z ++ y) same, entry, more others next))
wants_more rest x y A B more (name, body, inr (is, next)) = (name, body, inr (is, more x next))

two_queue : (a b : List Record) (x y : List ReplyEntry) → Queues a x → Queues b y → Queues (a ++ b) (x ++ y)
two_queue [] b x y one other = subst (λ (z : List ReplyEntry). Queues b (z ++ y)) (sym one) other
two_queue (Payload (n ∷ rest) ∷ a) b x y (asks, others) other = (
  (λ is. wants_more rest x y (Queues a) (Queues (a ++ b)) (λ z q. two_queue a b z y q other) (asks is)),
  (λ is. two_queue a b x y (others is) other),
)
two_queue (output ∷ a) b x y one other = two_queue a b x y one other

-- ---- requests

flag_text : (wanted : Bool) (fields : List ℕ) → bool_text wanted ++ fields ≡ (if wanted then 1 else 0) ∷ fields
unfolding bool_text
flag_text wanted fields = refl

asked : (wanted : Bool) (request : GlobalRequest) (entry : ReplyEntry) → IsEntry (global_name request) (global_fields request) entry →
    Queues (Payload (global_request_text wanted request) ∷ []) (if wanted then entry ∷ [] else [])
unfolding global_request_text
asked true request entry is =
    let text = append_assoc (string_text (global_name request)) (bool_text true) (global_fields request) ∙ ap (λ (bytes : List ℕ). string_text (global_name request) ++ bytes) (flag_text true (global_fields request)) in
    ((λ same. (global_name request, global_fields request, inl (text, entry, [], refl, is, refl))), λ other. absurd (other refl))
asked false request entry is =
    let text = append_assoc (string_text (global_name request)) (bool_text false) (global_fields request) ∙ ap (λ (bytes : List ℕ). string_text (global_name request) ++ bytes) (flag_text false (global_fields request)) in
    ((λ same. (global_name request, global_fields request, inr (text, refl))), λ other. absurd (other refl))

ask_entry : (ask : Ask) → IsEntry (global_name (request_of ask)) (global_fields (request_of ask)) (entry_of ask)
ask_entry (asking.Forward ticket address port) = record { named = refl; keys = refl }
ask_entry (asking.CancelForward ticket address port) = record { named = inl refl; keys = refl }
ask_entry (asking.ForwardSocket ticket path) = record { named = inr (inl refl); keys = refl }
ask_entry (asking.CancelForwardSocket ticket path) = record { named = inr (inr refl); keys = refl }
ask_entry (asking.KeepAlive want_reply) = record { named = refl; keys = refl }
ask_entry (asking.NoMore want_reply) = record { named = refl; keys = refl }
ask_entry (asking.Ping ticket) = record { named = refl; keys = refl }
ask_entry (asking.Prove ticket keys) = record { named = refl; keys = refl }
ask_entry (asking.OwnRequest ticket name body) = record { named = tt; keys = refl }

ask_queues : (ask : Ask) → Queues (sent (asking_message ask)) (queued ask)
ask_queues ask = asked (wants_answer ask) (request_of ask) (entry_of ask) (ask_entry ask)

-- ---- every other record

no_request : (message : Message) → IsNoRequest message → NoAsk (Payload (message_text message))
unfolding channel_open_text confirmation_text open_failure_text channel_request_text
no_request (messages.Requests want_reply request) never = absurd never
no_request messages.Grants none = refl
no_request messages.Denies none = refl
no_request (messages.Opens asked_ sender) none = refl
no_request (messages.Confirms confirmation) none = refl
no_request (messages.Refuses recipient reason) none = refl
no_request (messages.RequestsOn recipient request) none = refl
no_request (messages.GrantsOn recipient) none = refl
no_request (messages.DeniesOn recipient) none = refl

no_leave : (reason : Disconnect) (description language : List ℕ) → NoAsk (Payload (disconnect reason description language))
unfolding disconnect
no_leave reason description language = refl

no_report : (record_ : Record) → IsReport record_ → NoAsk record_
no_report (output.KexDone kex) is = tt
no_report (output.Channel id happened) is = tt
no_report (output.ServerOpened id opened) is = tt
no_report (output.HostKeysAnnounced blobs) is = tt
no_report record_ never = absurd never

plain_kinds : PlainKinds NoAsk
plain_kinds = record { message = no_request; disconnection = no_leave; begins = tt; report = no_report }

no_packet : (recipient : ℕ) (packet : Packet) → NoAsk (Payload (packet_text recipient packet))
no_packet recipient (Piece streams.Data bytes) = refl
no_packet recipient (Piece (streams.Extended code) bytes) = refl
no_packet recipient Eof = refl
no_packet recipient Close = refl
no_packet recipient (Adjust amount) = refl

no_packets : (packets : List ChannelPacket) → AllByRecursion NoAsk (records_of packets)
no_packets [] = tt
no_packets (one ∷ packets) = (no_packet one.recipient one.packet, no_packets packets)

-- answers to tickets
no_ticket : (b : Bool) (ticket : Ticket) (resolution : Resolution) → AllByRecursion NoAsk (if b then [] else Resolved ticket resolution ∷ [])
no_ticket true ticket resolution = tt
no_ticket false ticket resolution = (tt, tt)

no_resolved : (ticket : Ticket) (resolution : Resolution) → AllByRecursion NoAsk (resolved ticket resolution)
no_resolved ticket resolution = no_ticket (eqb ticket.0 0) ticket resolution

no_opened : (waits : Option (Option Ticket)) (resolution : Resolution) → AllByRecursion NoAsk (open_answer waits resolution)
no_opened None resolution = tt
no_opened (Some ticket) resolution = no_resolved (or_none ticket) resolution

no_reply : (replies : List ReplyEntry) (resolution : Option Resolution) → AllByRecursion NoAsk (m.reply_answer replies resolution)
no_reply [] resolution = tt
no_reply (first ∷ replies) None = tt
no_reply (first ∷ replies) (Some (ChannelOpened id)) = tt
no_reply (first ∷ replies) (Some (ChannelOpenFailed reason)) = tt
no_reply (first ∷ replies) (Some resolution) = no_resolved (or_none first.ticket) resolution

no_direct : (ticket : Ticket) (resolution : Resolution) → AllByRecursion NoAsk (m.direct_answer ticket resolution)
no_direct ticket Dropped = no_resolved ticket Dropped
no_direct ticket ExtInfoSeen = no_resolved ticket ExtInfoSeen
no_direct ticket (SigAlgs known names) = no_resolved ticket (SigAlgs known names)
no_direct ticket HostKeysProved = no_resolved ticket HostKeysProved
no_direct ticket resolution = tt

-- ---- moves

deed_queues : (event : Event) (move : Move) (s : SessionState) → StepFits event move → Queues (deed move s).says (deed move s).asks
deed_queues event (m.Asks ask) s fits = ask_queues ask
deed_queues event (m.Confirms c) s fits = none_queue (deed (m.Confirms c) s).says (no_opened (awaited c.recipient s.table) (ChannelOpened (record { 0 = c.recipient })))
deed_queues event (m.Fails id reason) s fits = none_queue (deed (m.Fails id reason) s).says (no_opened (awaited id s.table) (ChannelOpenFailed reason))
deed_queues event (m.Replied resolution) s fits = none_queue (deed (m.Replied resolution) s).says (no_reply s.replies resolution)
deed_queues event (m.Resolves ticket resolution) s fits = none_queue (deed (m.Resolves ticket resolution) s).says (no_direct ticket resolution)
deed_queues event (m.DeniesTicket ticket) s fits = none_queue (deed (m.DeniesTicket ticket) s).says (no_resolved ticket Denied)
deed_queues event (m.Tells record_) s is = none_queue (deed (m.Tells record_) s).says (plain_holds NoAsk plain_kinds (m.Tells record_) s (is_report event record_ is))
deed_queues event move s fits = none_queue (deed move s).says (plain_holds NoAsk plain_kinds move s tt)

gated_queues : (b : Bool) (d : Deed) (s : SessionState) → Queues d.says d.asks → Queues (done_if b d s).says (done_if b d s).asks
gated_queues true d s one = one
gated_queues false d s one = refl

move_queues : (event : Event) (move : Move) (s : SessionState) → StepFits event move → Queues (added move s) (deed_of move s).asks
move_queues event move s fits =
    two_queue (records_of (did (deed_of move s).call s.table).output) (deed_of move s).says [] (deed_of move s).asks
    (none_queue (records_of (did (deed_of move s).call s.table).output) (no_packets (did (deed_of move s).call s.table).output)) (gated_queues (may_go move s) (deed move s) s (deed_queues event move s fits))

pub all_queue : (event : Event) (moves : List Move) (s : SessionState) → AllFit event moves → (IsReply event → ⊥) →
    (more : List ReplyEntry) × ((done moves s).replies ≡ s.replies ++ more) × Queues (added_in moves s) more
all_queue event [] s fit none = ([], sym (append-nil s.replies), refl)
all_queue event (move ∷ moves) s (fits, fit) none =
    let one = waits_on event move s fits none in
    let later = all_queue event moves (after move s) fit none in (
      (deed_of move s).asks ++ later.0,
      later.1 ∙ ap (λ (entries : List ReplyEntry). entries ++ later.0) one ∙ append_assoc s.replies (deed_of move s).asks later.0,
      two_queue (added move s) (added_in moves (after move s)) (deed_of move s).asks later.0 (move_queues event move s fits) later.2,
    )
