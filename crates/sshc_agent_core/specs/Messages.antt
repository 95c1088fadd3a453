-- Messages to an agent by their numbers (draft-miller-ssh-agent, section 5.1).
use Rattle.std.specs.Prelude.{ℕ, Option, Some, None, ◌==◌, if◌then◌else◌}
use Rattle.sshc_wire.specs.declared.message_type.MessageType.{MessageType}
use Rattle.sshc_wire.specs.declared.message_type.MessageType.TheVariants.{RequestKeys, AddKeys, RemoveKeys, RemoveAllKeys, Sign, Lock, Unlock}
use Rattle.sshc_key.specs.AgentNumbers.{REQUEST_IDENTITIES, SIGN_REQUEST, ADD_IDENTITY, REMOVE_IDENTITY, REMOVE_ALL_IDENTITIES, LOCK, UNLOCK, ADD_ID_CONSTRAINED}

-- the kind of the message with this number
unfoldable pub message_of : ℕ → Option MessageType
message_of number =
    if number == REQUEST_IDENTITIES then Some RequestKeys
    else (if number == SIGN_REQUEST then Some Sign
    else (if number == ADD_IDENTITY then Some AddKeys
    else (if number == REMOVE_IDENTITY then Some RemoveKeys
    else (if number == REMOVE_ALL_IDENTITIES then Some RemoveAllKeys
    else (if number == LOCK then Some Lock
    else (if number == UNLOCK then Some Unlock
    else (if number == ADD_ID_CONSTRAINED then Some AddKeys
    else None)))))))
