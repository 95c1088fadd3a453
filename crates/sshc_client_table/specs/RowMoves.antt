-- Which moves the row of an event may make in an open session (RFC 4254; RFC 4253, section 7): a request of ours is
-- answered only by the peer's reply, an open of ours only by its own packet, what waits on channels is sent anew only after
-- an exchange, and a row neither leaves nor stops the session.
use Rattle.std.specs.Prelude.{◌≡◌, ◌⊎◌, ℕ, Bool, List, [], ◌∷◌}
use Rattle.sshc_wire.specs.MessageNumbers.{REQUEST_SUCCESS, REQUEST_FAILURE, CHANNEL_CLOSE}
use Rattle.sshc_wire.specs.declared.channel_record.ServerOpen.{ServerOpen}
use Rattle.sshc_wire.specs.declared.record.Record.{Record}
use Rattle.sshc_wire.specs.declared.record.Record.TheVariants as output
use Rattle.sshc_wire.specs.declared.resolution.Resolution.{Resolution}
use Rattle.sshc_wire.specs.declared.resolution.Resolution.TheVariants.{Dropped, ExtInfoSeen, HostKeysProved, SigAlgs}
use Rattle.sshc_wire.specs.declared.ticket.Ticket.{Ticket}
use Rattle.sshc_auth_event.specs.declared.event.Event.{Event}
use Rattle.sshc_auth_event.specs.declared.event.Event.TheVariants as events
use Rattle.sshc_client_table.specs.PeerSays.{BytesCame, IsRefused, MayAccept, MayReject, Replies, RepliesOn, Reports, SaysConfirmed, SaysGrant, SaysOnly, SaysOpen}
pub use Rattle.sshc_client_table.specs.PeerSays.{IsExchange}
use Rattle.sshc_client_table.specs.Moves as m
use Rattle.sshc_client_table.specs.Moves.{Move}

-- the event is a packet of the peer's with this number
abbrev pub IsPacket : ℕ → Event → Type 0
IsPacket n (events.Payload (number ∷ body)) = number ≡ n
IsPacket n event = ⊥

-- what a row reports: an exchange, what happened on a channel, an open of the peer's, announced host keys
abbrev pub IsReport : Record → Type 0
IsReport (output.KexDone kex) = Unit {0}
IsReport (output.Channel id happened) = Unit {0}
IsReport (output.ServerOpened id opened) = Unit {0}
IsReport (output.HostKeysAnnounced blobs) = Unit {0}
IsReport other = ⊥

-- what an event's own ticket gets at once: a login in an open session is dropped, an extension was seen or isn't waited
-- for, the names of the server's signature algorithms are told (RFC 8308), and without keys there is none to prove
abbrev pub ResolvesOwn : Event → Ticket → Resolution → Type 0
ResolvesOwn (events.Authenticate own user method) ticket resolution = (ticket ≡ own) × (resolution ≡ Dropped)
ResolvesOwn (events.AwaitExtensionInfo own name) ticket resolution =
    (ticket ≡ own) × ((resolution ≡ ExtInfoSeen) ⊎ (resolution ≡ Dropped))
ResolvesOwn (events.GetServerSigAlgs own) ticket resolution =
    (ticket ≡ own) × (known : Bool) × (names : List (List ℕ)) × (resolution ≡ SigAlgs known names)
ResolvesOwn (events.HostKeysProve own []) ticket resolution = (ticket ≡ own) × (resolution ≡ HostKeysProved)
ResolvesOwn event ticket resolution = ⊥

-- what the peer's packets, the user's answer or an exchange bring; the other moves are those of users and handlers, and
-- counts
abbrev pub Fits : Event → Move → Type 0
Fits event (m.Replied resolution) = IsPacket REQUEST_SUCCESS event ⊎ IsPacket REQUEST_FAILURE event
Fits event (m.Reserves sender) = (opened : ServerOpen) × SaysOpen sender opened event
Fits event (m.Accepts id) = MayAccept id event
Fits event (m.Rejects id reason) = MayReject id reason event
Fits event (m.Confirms c) = SaysConfirmed c event
Fits event (m.Fails id reason) = IsRefused id event
Fits event (m.Grants id amount) = (amount ≡ 0) ⊎ SaysGrant id amount event
Fits event (m.Receives id len) = BytesCame id len event
Fits event (m.PeerCloses id) = SaysOnly CHANNEL_CLOSE id event
Fits event (m.AnswersOn id done) = RepliesOn id done event
Fits event (m.Answers done) = Replies done event
Fits event m.Resumes = IsExchange event
Fits event (m.Tells record_) = Reports event record_
Fits event (m.Resolves ticket resolution) = ResolvesOwn event ticket resolution
Fits event m.Leaves = ⊥
Fits event m.Stops = ⊥
Fits event move = Unit {0}
