-- Why a stream couldn't be had, and how the end of a session reaches its handler.
use Rattle.std.specs.Prelude.{ℕ}
use Rattle.sshc_wire.specs.Faults.{Rose}
use Rattle.sshc_auth.specs.declared.ended.Ended.TheVariants.{RemoteDisconnect}
use Rattle.sshc_auth.specs.declared.error.Error.{Error}
use Rattle.sshc_auth.specs.declared.error.Error.TheVariants.{Disconnect, NoMemory, TransportFailed}
use Rattle.sshc_client.specs.declared.answers.DisconnectReason.{DisconnectReason}
use Rattle.sshc_client.specs.declared.answers.DisconnectReason.TheVariants as reasons
use Rattle.sshc_handle_state.specs.declared.end.Turn.{Turn}
use Rattle.sshc_handle_state.specs.declared.end.Turn.TheVariants as turns

-- memory ran out, or the maker counted a fault
abbrev pub IsMakers : ℕ → ℕ → Error → Type 0
IsMakers before now NoMemory = Unit {0}
IsMakers before now TransportFailed = Rose before now
IsMakers before now e = ⊥

-- the reason that a handler is passed, by the last turn: the server's disconnection, the refusal, or `Disconnect`
abbrev pub reason_of : {E : Type 0} → (Error → E) → Turn E → DisconnectReason E
reason_of told_as (turns.Ended (RemoteDisconnect info)) = reasons.ReceivedDisconnect info
reason_of told_as (turns.Refused e) = reasons.Error e
reason_of told_as turn = reasons.Error (told_as Disconnect)
