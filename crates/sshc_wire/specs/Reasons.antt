-- Numbered reasons: of a disconnection (RFC 4253, section 11.1) and of a channel that isn't opened (RFC 4254, section 5.1).
-- A table of names and numbers; the code casts one way and searches the other.
use Rattle.std.specs.Prelude.{ℕ, List, [], ◌∷◌, Option, ◌==◌, find, codes}
use Rattle.sshc_wire.specs.declared.disconnect.Disconnect.{Disconnect}
use Rattle.sshc_wire.specs.declared.disconnect.Disconnect.TheVariants as reasons
use Rattle.sshc_wire.specs.declared.channel_open_failure.ChannelOpenFailure.{ChannelOpenFailure}
use Rattle.sshc_wire.specs.declared.channel_open_failure.ChannelOpenFailure.TheVariants.{AdministrativelyProhibited, ConnectFailed, UnknownChannelType, ResourceShortage}

abbrev pub disconnect_code : Disconnect → ℕ
disconnect_code reasons.HostNotAllowedToConnect = 1
disconnect_code reasons.ProtocolError = 2
disconnect_code reasons.KeyExchangeFailed = 3
disconnect_code reasons.Reserved = 4
disconnect_code reasons.MACError = 5
disconnect_code reasons.CompressionError = 6
disconnect_code reasons.ServiceNotAvailable = 7
disconnect_code reasons.ProtocolVersionNotSupported = 8
disconnect_code reasons.HostKeyNotVerifiable = 9
disconnect_code reasons.ConnectionLost = 10
disconnect_code reasons.ByApplication = 11
disconnect_code reasons.TooManyConnections = 12
disconnect_code reasons.AuthCancelledByUser = 13
disconnect_code reasons.NoMoreAuthMethodsAvailable = 14
disconnect_code reasons.IllegalUserName = 15

abbrev pub all_disconnects : List Disconnect
all_disconnects =
    reasons.HostNotAllowedToConnect ∷ reasons.ProtocolError ∷ reasons.KeyExchangeFailed ∷ reasons.Reserved ∷ reasons.MACError
    ∷ reasons.CompressionError ∷ reasons.ServiceNotAvailable ∷ reasons.ProtocolVersionNotSupported ∷ reasons.HostKeyNotVerifiable
    ∷ reasons.ConnectionLost ∷ reasons.ByApplication ∷ reasons.TooManyConnections ∷ reasons.AuthCancelledByUser
    ∷ reasons.NoMoreAuthMethodsAvailable ∷ reasons.IllegalUserName ∷ []

-- the reason of this number, if any
abbrev pub disconnect_of : ℕ → Option Disconnect
disconnect_of code = find (λ reason. disconnect_code reason == code) all_disconnects

abbrev pub open_failure_code : ChannelOpenFailure → ℕ
open_failure_code AdministrativelyProhibited = 1
open_failure_code ConnectFailed = 2
open_failure_code UnknownChannelType = 3
open_failure_code ResourceShortage = 4

abbrev pub all_open_failures : List ChannelOpenFailure
all_open_failures = AdministrativelyProhibited ∷ ConnectFailed ∷ UnknownChannelType ∷ ResourceShortage ∷ []

-- the reason of this number, if any
abbrev pub open_failure_of : ℕ → Option ChannelOpenFailure
open_failure_of code = find (λ reason. open_failure_code reason == code) all_open_failures

abbrev pub open_failure_description : ChannelOpenFailure → List ℕ
open_failure_description AdministrativelyProhibited = codes "administratively prohibited"
open_failure_description ConnectFailed = codes "connect failed"
open_failure_description UnknownChannelType = codes "unknown channel type"
open_failure_description ResourceShortage = codes "resource shortage"
