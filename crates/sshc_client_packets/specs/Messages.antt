-- The messages of the connection protocol that a session writes, except those of a channel's own account, which are
-- windows, data, EOF and close (RFC 4254, sections 4, 5.1 and 5.4). One value for each, and its one text.
use Rattle.std.specs.Prelude.{ℕ, Bool, List, [], ◌∷◌}
use Rattle.sshc_wire.specs.Wire.{u32_text}
use Rattle.sshc_wire.specs.declared.channel_open_failure.ChannelOpenFailure.{ChannelOpenFailure}
use Rattle.sshc_wire.specs.MessageNumbers.{REQUEST_SUCCESS, REQUEST_FAILURE, CHANNEL_SUCCESS, CHANNEL_FAILURE}
use Rattle.sshc_client_packets.specs.declared.channel_open.Sender.{Sender}
use Rattle.sshc_client_packets.specs.declared.channel_open.Confirmation.{Confirmation}
use Rattle.sshc_client_packets.specs.GlobalRequests.{GlobalRequest, global_request_text}
use Rattle.sshc_client_packets.specs.ChannelOpens.{ChannelOpen, channel_open_text, confirmation_text, open_failure_text}
use Rattle.sshc_client_packets.specs.ChannelRequests.{ChannelRequest, channel_request_text}

-- 81 and 82, REQUEST_SUCCESS and REQUEST_FAILURE: no fields
abbrev pub request_success_text : List ℕ
request_success_text = REQUEST_SUCCESS ∷ []

abbrev pub request_failure_text : List ℕ
request_failure_text = REQUEST_FAILURE ∷ []

-- 99 and 100, CHANNEL_SUCCESS and CHANNEL_FAILURE: the recipient's number
abbrev pub channel_success_text : ℕ → List ℕ
channel_success_text recipient = CHANNEL_SUCCESS ∷ u32_text recipient

abbrev pub channel_failure_text : ℕ → List ℕ
channel_failure_text recipient = CHANNEL_FAILURE ∷ u32_text recipient

pub data Message : Type 0 where
  Requests : (want_reply : Bool) → (request : GlobalRequest) → Message
  Grants : Message  -- the server's request succeeded
  Denies : Message  -- the server's request failed
  Opens : (asked : ChannelOpen) → (sender : Sender) → Message
  Confirms : (confirmation : Confirmation) → Message
  Refuses : (recipient : ℕ) → (reason : ChannelOpenFailure) → Message
  RequestsOn : (recipient : ℕ) → (request : ChannelRequest) → Message
  GrantsOn : (recipient : ℕ) → Message
  DeniesOn : (recipient : ℕ) → Message

abbrev pub message_text : Message → List ℕ
message_text (Requests want_reply request) = global_request_text want_reply request
message_text Grants = request_success_text
message_text Denies = request_failure_text
message_text (Opens asked sender) = channel_open_text asked sender
message_text (Confirms confirmation) = confirmation_text confirmation
message_text (Refuses recipient reason) = open_failure_text recipient reason
message_text (RequestsOn recipient request) = channel_request_text recipient request
message_text (GrantsOn recipient) = channel_success_text recipient
message_text (DeniesOn recipient) = channel_failure_text recipient
