-- What the peer says by a packet of a channel or of the session as a whole, and what a step makes of it: what is reported
-- is what was said, a reply is given where one is wanted, and an open of the peer's is settled by its packet or by the
-- user (RFC 4254, sections 4, 5 and 6; OpenSSH's PROTOCOL, section 2.5). No row of the table is named, so that an error
-- made both in the table and in the code shows.
use Rattle.std.specs.Prelude.{◌≡◌, ◌⊎◌, ℕ, Bool, true, false, List, ◌∷◌, length, Ok, Err}
use Rattle.sshc_wire.specs.MessageNumbers.{GLOBAL_REQUEST, CHANNEL_OPEN, CHANNEL_OPEN_CONFIRMATION, CHANNEL_OPEN_FAILURE, CHANNEL_WINDOW_ADJUST, CHANNEL_DATA, CHANNEL_EXTENDED_DATA, CHANNEL_EOF, CHANNEL_CLOSE, CHANNEL_REQUEST, CHANNEL_SUCCESS, CHANNEL_FAILURE}
use Rattle.sshc_wire.specs.declared.channel_id.ChannelId.{ChannelId}
use Rattle.sshc_wire.specs.declared.channel_open_failure.ChannelOpenFailure.{ChannelOpenFailure}
use Rattle.sshc_wire.specs.declared.channel_record.ChannelRecord.{ChannelRecord}
use Rattle.sshc_wire.specs.declared.channel_record.ChannelRecord.TheVariants as happened
use Rattle.sshc_wire.specs.declared.channel_record.ServerOpen.{ServerOpen}
use Rattle.sshc_wire.specs.declared.record.Record.{Record}
use Rattle.sshc_wire.specs.declared.record.Record.TheVariants as output
use Rattle.sshc_key.specs.KeyGrammar.{Key}
use Rattle.sshc_auth_event.specs.declared.event.Event.{Event}
use Rattle.sshc_auth_event.specs.declared.event.Event.TheVariants as events
use Rattle.sshc_mux.specs.ChannelAccount.{Call, Confirm, Fail, FlushAll, Grant, PeerClose, Received, ReserveServer, SettleServer}
use Rattle.sshc_client_packets.specs.declared.channel_open.Confirmation.{Confirmation}
use Rattle.sshc_client_packets.specs.declared.channel_open.Sender.{Sender}
use Rattle.sshc_client_packets.specs.declared.peer_global.PeerGlobal.{PeerGlobal}
use Rattle.sshc_client_packets.specs.declared.peer_global.PeerGlobal.TheVariants as globals
use Rattle.sshc_client_packets.specs.declared.peer_request.PeerRequest.{PeerRequest}
use Rattle.sshc_client_packets.specs.declared.peer_request.PeerRequest.TheVariants as requests
use Rattle.sshc_client_packets.specs.declared.channel_packets.WindowAdjust.{WindowAdjust}
use Rattle.sshc_client_packets.specs.ChannelPackets.{Data, ExtendedData, Refusal, RequestHead, channel_of, confirmation_of, data_of, extended_data_of, refusal_of, request_head_of, window_adjust_of}
use Rattle.sshc_client_packets.specs.PeerGlobals.{blobs_of, peer_global_of}
use Rattle.sshc_client_packets.specs.PeerOpens.{PeerOpen, peer_open_of, server_open_of}
use Rattle.sshc_client_packets.specs.PeerRequests.{peer_request_of}

-- ---- what a packet says

-- the event is a packet of the peer's with this number, and this holds of its bytes
abbrev pub IsPacketOf : ℕ → (List ℕ → Type 0) → Event → Type 0
IsPacketOf k Holds (events.Payload (n ∷ body)) = (n ≡ k) × Holds body
IsPacketOf k Holds event = ⊥

-- 91: an open of ours is confirmed
abbrev pub SaysConfirmed : Confirmation → Event → Type 0
SaysConfirmed c event = IsPacketOf CHANNEL_OPEN_CONFIRMATION (λ body. confirmation_of body ≡ Ok c) event

-- 92: it is refused
abbrev pub SaysRefused : Refusal → Event → Type 0
SaysRefused r event = IsPacketOf CHANNEL_OPEN_FAILURE (λ body. refusal_of body ≡ Ok r) event

-- 93: the peer takes so many bytes more on the channel
abbrev pub SaysGrant : ℕ → ℕ → Event → Type 0
SaysGrant id amount event =
    IsPacketOf CHANNEL_WINDOW_ADJUST (λ body. (a : WindowAdjust) × (window_adjust_of body ≡ Ok a) × (a.id.0 ≡ id) × (a.bytes_to_add ≡ amount)) event

-- 94: bytes on the channel
abbrev pub SaysBytes : ℕ → List ℕ → Event → Type 0
SaysBytes id bytes event = IsPacketOf CHANNEL_DATA (λ body. (d : Data) × (data_of body ≡ Ok d) × (d.id.0 ≡ id) × (d.body ≡ bytes)) event

-- 95: bytes of another stream, by its number
abbrev pub SaysExtended : ℕ → ℕ → List ℕ → Event → Type 0
SaysExtended id ext bytes event =
    IsPacketOf CHANNEL_EXTENDED_DATA (λ body. (d : ExtendedData) × (extended_data_of body ≡ Ok d) × (d.id.0 ≡ id) × (d.ext ≡ ext) × (d.body ≡ bytes)) event

-- 96, 97, 99 and 100: the number of the channel, and no more
abbrev pub SaysOnly : ℕ → ℕ → Event → Type 0
SaysOnly k id event = IsPacketOf k (λ body. (c : ChannelId) × (channel_of body ≡ Ok c) × (c.0 ≡ id)) event

-- 98: a request on the channel
abbrev pub SaysRequest : ℕ → PeerRequest → Event → Type 0
SaysRequest id request event =
    IsPacketOf CHANNEL_REQUEST (λ body. (h : RequestHead) × (request_head_of body ≡ Ok h) × (h.id.0 ≡ id) × (peer_request_of h.name h.rest ≡ Ok request)) event

-- 80: a request of us as a whole
abbrev pub SaysGlobal : PeerGlobal → Event → Type 0
SaysGlobal request event = IsPacketOf GLOBAL_REQUEST (λ body. peer_global_of body ≡ Ok request) event

-- 90: the peer opens a channel
abbrev pub SaysOpen : Sender → ServerOpen → Event → Type 0
SaysOpen sender opened event =
    IsPacketOf CHANNEL_OPEN (λ body. (h : PeerOpen) × (peer_open_of body ≡ Ok h) × (h.sender ≡ sender) × (server_open_of h.kind h.rest ≡ Ok opened)) event

-- ---- what is reported

-- what happened on a channel is what the packet says
abbrev pub HappensOn : ℕ → ChannelRecord → Event → Type 0
HappensOn id (happened.Open size window) event =
    (c : Confirmation) × SaysConfirmed c event × (c.recipient ≡ id) × (size ≡ c.sender.max_packet_size) × (window ≡ c.sender.window_size)
HappensOn id (happened.OpenFailure reason description language) event =
    (r : Refusal) × SaysRefused r event × (r.id.0 ≡ id) × (reason ≡ r.reason) × (description ≡ r.description) × (language ≡ r.language)
HappensOn id (happened.WindowAdjusted left) event = (amount : ℕ) × SaysGrant id amount event
HappensOn id (happened.Data bytes) event = SaysBytes id bytes event
HappensOn id (happened.ExtendedData ext bytes) event = SaysExtended id ext bytes event
HappensOn id happened.Eof event = SaysOnly CHANNEL_EOF id event
HappensOn id happened.Close event = SaysOnly CHANNEL_CLOSE id event
HappensOn id happened.Success event = SaysOnly CHANNEL_SUCCESS id event
HappensOn id happened.Failure event = SaysOnly CHANNEL_FAILURE id event
HappensOn id (happened.XonXoff can_do) event = SaysRequest id (requests.XonXoff can_do) event
HappensOn id (happened.ExitStatus status) event = SaysRequest id (requests.ExitStatus status) event
HappensOn id (happened.ExitSignal signal dumped message language) event =
    SaysRequest id (requests.ExitSignal signal dumped message language) event

-- an exchange with this algorithm is done
abbrev pub IsExchangeBy : List ℕ → Event → Type 0
IsExchangeBy kex (events.ExchangeDone x) = kex ≡ x.names.kex
IsExchangeBy kex event = ⊥

-- a record that reports: an exchange, what happened on a channel, an open of the peer's, announced host keys
abbrev pub Reports : Event → Record → Type 0
Reports event (output.KexDone kex) = IsExchangeBy kex event
Reports event (output.Channel id happened) = HappensOn id.0 happened event
Reports event (output.ServerOpened id opened) = (sender : Sender) × SaysOpen sender opened event
Reports event (output.HostKeysAnnounced blobs) = (keys : List (Key × List ℕ)) × SaysGlobal (globals.HostKeys keys) event × (blobs ≡ blobs_of keys)
Reports event other = ⊥

-- ---- what is answered

-- a reply that is wanted on a channel: a keepalive succeeds, a request of an unknown name fails
abbrev pub RepliesOn : ℕ → Bool → Event → Type 0
RepliesOn id true event = SaysRequest id (requests.Keepalive true) event
RepliesOn id false event = SaysRequest id (requests.Unknown true) event

-- the same for a request of us as a whole
abbrev pub Replies : Bool → Event → Type 0
Replies true event = SaysGlobal (globals.Keepalive true) event
Replies false event = SaysGlobal (globals.Unknown true) event

-- the user accepts or rejects an open of the peer's
abbrev pub UserAccepts : ℕ → Event → Type 0
UserAccepts id (events.ServerChannelOpenReply own (Ok u)) = own.0 ≡ id
UserAccepts id event = ⊥

abbrev pub UserRejects : ℕ → ChannelOpenFailure → Event → Type 0
UserRejects id reason (events.ServerChannelOpenReply own (Err given)) = (own.0 ≡ id) × (given ≡ reason)
UserRejects id reason event = ⊥

-- the peer opens a channel now
abbrev pub IsOpening : Event → Type 0
IsOpening event = (sender : Sender) × (opened : ServerOpen) × SaysOpen sender opened event

abbrev pub MayAccept : ℕ → Event → Type 0
MayAccept id event = IsOpening event ⊎ UserAccepts id event

abbrev pub MayReject : ℕ → ChannelOpenFailure → Event → Type 0
MayReject id reason event = IsOpening event ⊎ UserRejects id reason event

-- the packet answers the open of ours with this number
abbrev pub AnswersOpenOf : ℕ → Event → Type 0
AnswersOpenOf id event =
    ((c : Confirmation) × SaysConfirmed c event × (c.recipient ≡ id))
    ⊎ ((r : Refusal) × SaysRefused r event × (r.id.0 ≡ id))

-- ---- what is done to the channels

-- so many bytes came on the channel
abbrev pub BytesCame : ℕ → ℕ → Event → Type 0
BytesCame id len event =
    ((bytes : List ℕ) × SaysBytes id bytes event × (len ≡ length bytes))
    ⊎ ((ext : ℕ) × (bytes : List ℕ) × SaysExtended id ext bytes event × (len ≡ length bytes))

-- the peer refuses the open of ours with this number
abbrev pub IsRefused : ℕ → Event → Type 0
IsRefused id event = (r : Refusal) × SaysRefused r event × (r.id.0 ≡ id)

-- a key exchange is done
abbrev pub IsExchange : Event → Type 0
IsExchange (events.ExchangeDone x) = Unit {0}
IsExchange event = ⊥

-- a call of the channel table that only the peer's packets bring, or the user's answer, or an exchange: it grants,
-- opens, closes and uses what the packet says; what else is called is what users and handlers ask for
abbrev pub MayCall : Event → Call → Type 0
MayCall event (Grant id amount running) = (amount ≡ 0) ⊎ SaysGrant id amount event
MayCall event (Received id len target) = BytesCame id len event
MayCall event (PeerClose id) = SaysOnly CHANNEL_CLOSE id event
MayCall event (ReserveServer recipient window packet own) =
    (opened : ServerOpen) × SaysOpen (record { channel = recipient; window_size = window; max_packet_size = packet }) opened event
MayCall event (SettleServer id true) = MayAccept id event
MayCall event (SettleServer id false) = (reason : ChannelOpenFailure) × MayReject id reason event
MayCall event (Confirm id recipient window packet) =
    SaysConfirmed (record { recipient = id; sender = record { channel = recipient; window_size = window; max_packet_size = packet } }) event
MayCall event (Fail id) = IsRefused id event
MayCall event FlushAll = IsExchange event
MayCall event call = Unit {0}
