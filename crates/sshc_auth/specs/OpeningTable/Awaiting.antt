-- Rows while an answer of the user is awaited.
use Rattle.std.specs.Prelude.{ℕ, ◌+◌, ◌&&◌, nat_eq, nat_lt, Bool, List, [], ◌∷◌, length, drop, if◌then◌else◌}
use Rattle.std.specs.List.{starts_with}
use Rattle.sshc_wire.specs.declared.record.Record.TheVariants.{Payload}
use Rattle.sshc_wire.specs.declared.resolution.Resolution.TheVariants.{Dropped}
use Rattle.sshc_auth_event.specs.declared.event.Event.{Event}
use Rattle.sshc_auth_event.specs.declared.event.Event.TheVariants as events
use Rattle.sshc_auth.specs.declared.error.Error.TheVariants.{RecvError}
use Rattle.sshc_auth.specs.declared.opening.Phase.{Phase}
use Rattle.sshc_auth.specs.declared.opening.Phase.TheVariants as phases
use Rattle.sshc_auth.specs.OpeningState.{OpeningState, no_ticket}
use Rattle.sshc_auth.specs.OpeningTable.Order.{ticket_of}
use Rattle.sshc_auth.specs.OpeningTable.AuthPrompts.{info_response_row}
use Rattle.sshc_auth.specs.OpeningTable.User.{answered_row, user_disconnect_row}
use Rattle.sshc_auth.specs.Row.{Row, goes, refused, resolved}

-- the outside signer didn't sign: the request is dropped
abbrev pub unsigned_row : OpeningState → Row
unsigned_row s = goes (resolved s.ticket Dropped) (record s { phase = phases.Auth; ticket = no_ticket })

-- the bytes that were handed out, followed by a signature
abbrev pub is_signed : List ℕ → List ℕ → Bool
is_signed handed body = nat_lt (length handed) (length body) && starts_with nat_eq body handed

-- what follows the session id is the signed request (RFC 4252, section 7)
abbrev pub behind_session_id : OpeningState → List ℕ → List ℕ
behind_session_id s body = drop (4 + length s.session_id) body

-- the outside signer returns what it was handed, followed by the signature as a string
unfoldable pub signed_row : OpeningState → List ℕ → Row
signed_row s body =
    if is_signed s.handed body then goes (Payload (behind_session_id s body) ∷ []) (record s { phase = phases.Auth })
    else unsigned_row s

abbrev pub gone_awaiting_row : Row
gone_awaiting_row = refused RecvError

-- an event that isn't awaited is ignored; its ticket resolves as Dropped
abbrev pub unawaited_row : OpeningState → Event → Row
unawaited_row s event = answered_row s (ticket_of event) Dropped

abbrev pub responses_row : OpeningState → Event → Row
responses_row s (events.AuthInfoResponse responses) = info_response_row s responses
responses_row s event = unawaited_row s event

abbrev pub signature_row : OpeningState → Event → Row
signature_row s (events.Signed body) = signed_row s body
signature_row s events.SignFailed = unsigned_row s
signature_row s event = unawaited_row s event

abbrev pub answer_row_in : Phase → OpeningState → Event → Row
answer_row_in phases.AwaitResponses s event = responses_row s event
answer_row_in phase s event = signature_row s event

-- the user leaves, or answers
unfoldable pub awaiting_row : OpeningState → Event → Row
awaiting_row s events.Gone = gone_awaiting_row
awaiting_row s (events.Disconnect reason description language) = user_disconnect_row reason description language
awaiting_row s event = answer_row_in s.phase s event
