-- What a packet of the peer's brings in a session that goes on: what it says of a channel that is established is reported,
-- as are its host keys and a key exchange, and a reply that it wants is written, once and alone (RFC 4254, sections 4, 5
-- and 6). No row of the table is named, so that an error made both in the table and in the code shows.
use Rattle.std.specs.Prelude.{◌≡◌, ℕ, Bool, true, false, List, [], ◌∷◌, ◌++◌, Some}
use Rattle.sshc_wire.specs.declared.channel_record.ChannelRecord.{ChannelRecord}
use Rattle.sshc_wire.specs.declared.channel_record.ChannelRecord.TheVariants as happened
use Rattle.sshc_wire.specs.declared.record.Record.{Record}
use Rattle.sshc_wire.specs.declared.record.Record.TheVariants as output
use Rattle.sshc_auth_event.specs.declared.event.Event.{Event}
use Rattle.sshc_mux.specs.ChannelTable.{is_established}
use Rattle.sshc_client_packets.specs.Messages.{Denies, DeniesOn, Grants, GrantsOn, Message, message_text}
use Rattle.sshc_client_table.specs.Moves.{recipient_at}
use Rattle.sshc_client_table.specs.PeerSays.{HappensOn, IsExchangeBy, Replies, RepliesOn, Reports}
use Rattle.sshc_client_table.specs.SessionState.{SessionState}

-- the record is among them
abbrev pub HasRecord : Record → List Record → Type 0
HasRecord record_ added = (before after : List Record) × (added ≡ before ++ record_ ∷ after)

-- the packet says this of an established channel; how opens of ours end is a law of its own, and the window that is left
-- after a grant is the channel's account
abbrev pub IsDueOn : SessionState → ℕ → ChannelRecord → Event → Type 0
IsDueOn s id (happened.Open size window) event = ⊥
IsDueOn s id (happened.OpenFailure reason description language) event = ⊥
IsDueOn s id (happened.WindowAdjusted left) event = ⊥
IsDueOn s id what event = (is_established id s.table ≡ true) × HappensOn id what event

-- a record that the event brings
abbrev pub IsDue : SessionState → Event → Record → Type 0
IsDue s event (output.KexDone kex) = IsExchangeBy kex event
IsDue s event (output.Channel id what) = IsDueOn s id.0 what event
IsDue s event (output.HostKeysAnnounced blobs) = Reports event (output.HostKeysAnnounced blobs)
IsDue s event record_ = ⊥

-- success or failure, of us as a whole and on the channel that is the recipient's of this number
abbrev pub reply_of : Bool → Message
reply_of true = Grants
reply_of false = Denies

abbrev pub reply_on : Bool → ℕ → Message
reply_on true recipient = GrantsOn recipient
reply_on false recipient = DeniesOn recipient

pub record Gives (event : Event) (was : SessionState) (added : List Record) : Type 0 where
  pub told : (record_ : Record) → IsDue was event record_ → HasRecord record_ added
  pub replied : (done : Bool) → Replies done event → added ≡ output.Payload (message_text (reply_of done)) ∷ []
  pub replied_on : (id recipient : ℕ) (done : Bool) → RepliesOn id done event → is_established id was.table ≡ true →
      recipient_at id was.table ≡ Some recipient → added ≡ output.Payload (message_text (reply_on done recipient)) ∷ []
