-- Rows of phase Service: the service is asked for, and the user's request is stored (RFC 4253, section 10).
use Rattle.std.specs.Prelude.{ℕ, Bool, true, not, List, [], ◌∷◌, ◌++◌, Option, Some, None, if◌then◌else◌, ◌==◌, bytes_eq, codes}
use Rattle.sshc_wire.specs.MessageNumbers.{EXT_INFO, SERVICE_ACCEPT}
use Rattle.sshc_wire.specs.declared.record.Record.{Record}
use Rattle.sshc_wire.specs.declared.record.Record.TheVariants.{Payload}
use Rattle.sshc_wire.specs.declared.resolution.Resolution.TheVariants.{Dropped}
use Rattle.sshc_wire.specs.declared.ticket.Ticket.{Ticket}
use Rattle.sshc_auth.specs.declared.error.Error.TheVariants.{Inconsistent}
use Rattle.sshc_auth_event.specs.declared.method.Method.{Method}
use Rattle.sshc_auth.specs.declared.opening.Phase.TheVariants.{Auth}
use Rattle.sshc_auth.specs.OpeningState.{OpeningState, class_of}
use Rattle.sshc_auth.specs.OpeningTable.ExtInfo.{ext_info_row}
use Rattle.sshc_auth_request.specs.RequestTexts.{service_request, request}
use Rattle.sshc_auth.specs.Row.{Row, goes, passed_over, refused, resolved, reads_string, ends_at}

-- the packet of the stored request
abbrev pub stored_request : List ℕ → Option Method → List Record
stored_request user None = []
stored_request user (Some method) = Payload (request user method) ∷ []

-- 6, SERVICE_ACCEPT (RFC 4253, section 10): the service's name, end; another service is ignored; the stored request is
-- written
unfoldable pub service_accept_row : OpeningState → List ℕ → Row
service_accept_row s body =
    if not s.requested then refused Inconsistent
    else reads_string body (λ name rest.
    if bytes_eq name (codes "ssh-userauth") then ends_at rest (goes (stored_request s.user s.method) (record s { phase = Auth }))
    else passed_over s)

unfoldable pub service_packet_row : OpeningState → ℕ → List ℕ → Row
service_packet_row s number body =
    if number == SERVICE_ACCEPT then service_accept_row s body
    else (if number == EXT_INFO then ext_info_row s body
    else refused Inconsistent)

-- the service is asked for once
abbrev pub asked_for_service : Bool → List Record
asked_for_service requested = if requested then [] else Payload service_request ∷ []

-- the packet that may be there, as a record
abbrev pub as_records : Option (List ℕ) → List Record
as_records None = []
as_records (Some packet) = Payload packet ∷ []

-- the user, the method and its class, and the ticket of the last request
abbrev pub asked_by : OpeningState → Ticket → List ℕ → Method → OpeningState
asked_by s ticket user method = record s { ticket = ticket; user = user; method = Some method; class = class_of method }

-- the user asks before the service is there: the request replaces an earlier one and waits
unfoldable pub authenticate_first_row : OpeningState → Ticket → List ℕ → Method → Row
authenticate_first_row s ticket user method =
    goes (resolved s.ticket Dropped ++ asked_for_service s.requested)
    (record (asked_by s ticket user method) { requested = true })
