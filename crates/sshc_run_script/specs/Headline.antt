-- What is guaranteed of a whole run, by its table.
use Rattle.std.specs.Prelude.{◌≡◌, ◌⊎◌, ℕ, Bool, false, List, [], ◌∷◌, ◌++◌, Option, Some, None, Result, Ok, Err}
use Rattle.sshc_wire.specs.Contents.{prepend, append, WroteFront, IsAtEnd}
use Rattle.sshc_wire.specs.Faults.{Rose}
use Rattle.sshc_wire.specs.declared.record.Record.{Record}
use Rattle.sshc_key.specs.declared.identity.PublicKeyOrCertificate.{PublicKeyOrCertificate}
use Rattle.sshc_auth_event.specs.HostKey.{host_key}
use Rattle.sshc_auth.specs.GateLaws.{NonePayload}
use Rattle.sshc_auth.specs.declared.ended.Ended.{Ended}
use Rattle.sshc_auth.specs.declared.ended.Ended.TheVariants.{ScriptEnd}
use Rattle.sshc_auth_event.specs.declared.event.Event.{Event}
use Rattle.sshc_auth_event.specs.declared.event.Event.TheVariants as events
use Rattle.sshc_run_reader.specs.declared.error.EventError.{EventError}
use Rattle.sshc_run_script.specs.declared.error.RunError.{RunError}
use Rattle.sshc_run_script.specs.declared.error.RunError.TheVariants as errors
use Rattle.sshc_run_reader.specs.declared.event_kind.EventKind.{EventKind}
use Rattle.sshc_run_reader.specs.declared.event_kind.EventKind.TheVariants as kinds
use Rattle.sshc_run_script.specs.declared.known_hosts_handler.HandlerError.{HandlerError}
use Rattle.sshc_run_script.specs.KnownHosts.{Hosts, verdict}
use Rattle.sshc_run_script.specs.Machine.{ended, refused}
use Rattle.sshc_run_script.specs.Outcome.{Ending, Streams, told, cut, unread, ending_of, HasWritten}
use Rattle.sshc_run_script.specs.RecordLines.{lines}
use Rattle.sshc_run_script.specs.RunFaults.{FaultCounts}
use Rattle.sshc_run_reader.specs.EventReading.{event_of}
use Rattle.sshc_run_reader.specs.Script.{Frame, taken}
use Rattle.sshc_run_script.specs.ScriptRun.{Run}

-- ---- the host key of the first exchange

-- the verdict of the known hosts text on a host key; no if there is no key
abbrev pub said_of_key : Hosts → Option PublicKeyOrCertificate → Result Bool HandlerError
said_of_key hosts None = Ok false
said_of_key hosts (Some key) = verdict hosts key

-- its verdict on an exchange that can be read
abbrev pub said_by : Hosts → Result Event EventError → Option (Result Bool HandlerError)
said_by hosts (Ok (events.ExchangeDone x)) = Some (said_of_key hosts (host_key x.key))
said_by hosts read = None

-- its verdict on an event that is an exchange, or else on the events after it
abbrev pub said_at : EventKind → Hosts → List ℕ → Option (Result Bool HandlerError) → Option (Result Bool HandlerError)
said_at kinds.ExchangeDone hosts fields later = said_by hosts (event_of kinds.ExchangeDone fields)
said_at kind hosts fields later = later

-- its verdict on the first exchange among these events; `None` if there is no exchange or it can't be read
unfoldable pub said_of_first : Hosts → List Frame → Option (Result Bool HandlerError)
said_of_first hosts [] = None
said_of_first hosts (frame ∷ frames) = said_at frame.kind hosts frame.fields (said_of_first hosts frames)

abbrev pub is_yes : Option (Result Bool HandlerError) → Bool
is_yes None = false
is_yes (Some (Ok accepted)) = accepted
is_yes (Some (Err e)) = false

-- whether the known hosts text accepts the host key of the first exchange among these events
abbrev pub is_accepted : Hosts → List Frame → Bool
is_accepted hosts frames = is_yes (said_of_first hosts frames)

-- ---- the guarantees

-- unless the bytes that were read hold an exchange whose host key is accepted first, no payload is written, not even in
-- part
abbrev pub IsGated : Hosts → ℕ → Streams → Streams → Type 0
IsGated hosts max before now =
    (given : List ℕ) × (before.left ≡ prepend given now.left)
    × (is_accepted hosts (taken max given) ≡ false → (records : List Record) × NonePayload records × WroteFront before.held now.held (lines records))

-- the bytes that are written are a prefix of the lines of the whole script's records
abbrev pub IsPrefix : (List ℕ → Run) → Streams → Streams → Type 0
IsPrefix table before now = (bytes : List ℕ) → before.left ≡ Some bytes → WroteFront before.held now.held (lines (table bytes).records)

-- with Ok, the table ends the whole script in this way, and all its records are written; at the script's end no byte of
-- it remains
abbrev pub IsDone : (List ℕ → Run) → Streams → Streams → Result Ended RunError → Type 0
IsDone table before now (Ok e) =
    (e ≡ ScriptEnd → IsAtEnd now.left)
    × ((bytes : List ℕ) → before.left ≡ Some bytes → ((table bytes).stop ≡ ended e) × (now.held ≡ append before.held (lines (table bytes).records)))
IsDone table before now (Err e) = Unit {0}

-- after a cut write, all records are written of the events before the last one that was read, whether read whole or in
-- part; with every other error, also those of the last event's row, and the error is the table's over the bytes that
-- were read, unless a read failed
abbrev pub KeptBy : Ending → (List ℕ → Run) → List ℕ → Option (List ℕ) → Option (List ℕ) → RunError → Type 0
KeptBy told table given held written e = ((table given).stop ≡ refused e) × (written ≡ append held (lines (table given).records))
KeptBy cut table given held written e = (front : List ℕ) (b : ℕ) (more : List ℕ) → given ≡ front ++ b ∷ more → HasWritten held written (lines (table front).records)
KeptBy unread table given held written e = written ≡ append held (lines (table given).records)

abbrev pub IsKept : (List ℕ → Run) → Streams → Streams → Result Ended RunError → Type 0
IsKept table before now (Ok e) = Unit {0}
IsKept table before now (Err e) = (given : List ℕ) × (before.left ≡ prepend given now.left) × KeptBy (ending_of (Err e)) table given before.held now.held e

-- a script is valid if the table ends it in this way, and refuses no event of it
abbrev pub IsValidScript : (List ℕ → Run) → List ℕ → Ended → Type 0
IsValidScript table script e = (table script).stop ≡ ended e

-- for a valid script the result is its end or out of memory, if no count of faults rises
abbrev pub IsComplete : (List ℕ → Run) → Streams → FaultCounts → FaultCounts → Result Ended RunError → Type 0
IsComplete table before was is answer =
    (bytes : List ℕ) (e : Ended) → before.left ≡ Some bytes → IsValidScript table bytes e → (Rose was.reads is.reads → ⊥) → (Rose was.writes is.writes → ⊥) →
    (answer ≡ Ok e) ⊎ (answer ≡ Err errors.NoMemory)
