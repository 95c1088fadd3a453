-- Rows of phase Auth: the server answers the request, or the user asks again (RFC 4252, section 5).
use Rattle.std.specs.Prelude.{ℕ, List, [], ◌∷◌, ◌++◌, Option, Some, None}
use Rattle.sshc_wire.specs.Methods.{method_of, with_method}
use Rattle.sshc_wire.specs.Names.{names_in}
use Rattle.sshc_wire.specs.declared.methods.MethodKind.{MethodKind}
use Rattle.sshc_wire.specs.declared.record.Record.TheVariants as records
use Rattle.sshc_wire.specs.declared.resolution.Resolution.TheVariants.{AuthFailure, AuthSuccess, Dropped}
use Rattle.sshc_wire.specs.declared.ticket.Ticket.{Ticket}
use Rattle.sshc_auth_event.specs.declared.method.Method.{Method}
use Rattle.sshc_auth.specs.declared.error.Error.TheVariants.{NoAuthMethod}
use Rattle.sshc_auth.specs.declared.opening.Phase.TheVariants.{Open}
use Rattle.sshc_auth.specs.OpeningState.{OpeningState, no_ticket}
use Rattle.sshc_auth.specs.OpeningTable.Service.{asked_by}
use Rattle.sshc_auth_request.specs.RequestTexts.{request}
use Rattle.sshc_auth.specs.Row.{Row, Next, stays, goes, opens, refuses, resolved, reads_boolean, reads_text, ends_at}

-- the request was answered: its method and its ticket are cleared
abbrev pub answered : OpeningState → OpeningState
answered s = record s { method = None; ticket = no_ticket }

-- the known methods, in the order in which they first occur
abbrev pub add_known : List MethodKind → Option MethodKind → List MethodKind
add_known known None = known
add_known known (Some method) = with_method known method

abbrev pub known_behind : List MethodKind → List (List ℕ) → List MethodKind
known_behind known [] = known
known_behind known (name ∷ names) = known_behind (add_known known (method_of name)) names

abbrev pub known_methods : List (List ℕ) → List MethodKind
known_methods names = known_behind [] names

-- without a known method the session is refused
abbrev pub next_without : OpeningState → List MethodKind → Next
next_without s [] = refuses NoAuthMethod
next_without s (method ∷ methods) = stays (answered s)

-- 51, USERAUTH_FAILURE (RFC 4252, section 5.1): the methods that can continue, partial success, end; the ticket
-- resolves as AuthFailure
unfoldable pub userauth_failure_row : OpeningState → List ℕ → Row
userauth_failure_row s body =
    reads_text body (λ list rest.
    reads_boolean rest (λ partial left.
    ends_at left (record {
      records = resolved s.ticket (AuthFailure (known_methods (names_in list)) partial);
      next = next_without s (known_methods (names_in list));
    })))

-- 52, USERAUTH_SUCCESS (RFC 4252, section 5.1): end; the ticket resolves as AuthSuccess, and the session opens
unfoldable pub userauth_success_row : OpeningState → List ℕ → Row
userauth_success_row s body =
    ends_at body (record {
      records = resolved s.ticket AuthSuccess ++ records.Opened ∷ [];
      next = opens (record (answered s) { phase = Open });
    })

-- 53, USERAUTH_BANNER (RFC 4252, section 5.4): text, language, end; the banner is passed to the user
unfoldable pub userauth_banner_row : OpeningState → List ℕ → Row
userauth_banner_row s body =
    reads_text body (λ banner rest.
    reads_text rest (λ language left.
    ends_at left (goes (records.AuthBanner banner ∷ []) s)))

-- the user asks again: the request takes the place of the earlier one, and is written at once
unfoldable pub authenticate_again_row : OpeningState → Ticket → List ℕ → Method → Row
authenticate_again_row s ticket user method =
    goes (resolved s.ticket Dropped ++ records.Payload (request user method) ∷ []) (asked_by s ticket user method)
