-- Rows of phase Auth for GSSAPI, and the user's events that answer them (RFC 4462, section 3).
use Rattle.std.specs.Prelude.{ℕ, Bool, true, false, List, [], ◌∷◌, ◌++◌, Option, Some, if◌then◌else◌}
use Rattle.sshc_wire.specs.declared.auth_record.AuthRecord.TheVariants.{Gssapi}
use Rattle.sshc_wire.specs.declared.auth_record.GssapiRecord.{GssapiRecord}
use Rattle.sshc_wire.specs.declared.auth_record.GssapiRecord.TheVariants as steps
use Rattle.sshc_wire.specs.declared.record.Record.{Record}
use Rattle.sshc_wire.specs.declared.record.Record.TheVariants.{Auth, Payload}
use Rattle.sshc_auth.specs.declared.opening.Class.{Class}
use Rattle.sshc_auth.specs.declared.opening.Class.TheVariants as classes
use Rattle.sshc_auth.specs.declared.opening.Phase.{Phase}
use Rattle.sshc_auth.specs.declared.opening.Phase.TheVariants as phases
use Rattle.sshc_auth.specs.OpeningState.{OpeningState}
use Rattle.sshc_auth_request.specs.RequestTexts.{gssapi_token, gssapi_complete, gssapi_mic, mic}
use Rattle.sshc_auth.specs.Row.{Row, goes, passed_over, reads_string, reads_text, reads_number, ends_at}

abbrev pub gssapi_step : OpeningState → GssapiRecord → Row
gssapi_step s step = goes (Auth s.ticket (Gssapi step) ∷ []) s

-- 60, USERAUTH_GSSAPI_RESPONSE (RFC 4462, section 3.3): the mechanism, end
unfoldable pub gssapi_response_row : OpeningState → List ℕ → Row
gssapi_response_row s body = reads_string body (λ mechanism left. ends_at left (gssapi_step s (steps.Response mechanism (mic s.session_id s.user))))

-- 61, USERAUTH_GSSAPI_TOKEN (RFC 4462, section 3.4): a token, end
unfoldable pub gssapi_token_row : OpeningState → List ℕ → Row
gssapi_token_row s body = reads_string body (λ token left. ends_at left (gssapi_step s (steps.Token token (mic s.session_id s.user))))

-- 64, USERAUTH_GSSAPI_ERROR (RFC 4462, section 3.8): major and minor status, a text and its language, end
unfoldable pub gssapi_error_row : OpeningState → List ℕ → Row
gssapi_error_row s body =
    reads_number body (λ major rest.
    reads_number rest (λ minor rest.
    reads_text rest (λ message rest.
    reads_text rest (λ language left.
    ends_at left (gssapi_step s (steps.Error major minor message))))))

-- 65, USERAUTH_GSSAPI_ERRTOK (RFC 4462, section 3.9): a token, end
unfoldable pub gssapi_errtok_row : OpeningState → List ℕ → Row
gssapi_errtok_row s body = reads_string body (λ token left. ends_at left (gssapi_step s (steps.ErrorToken token)))

-- ---- the user's events

-- a request by GSSAPI was written last
abbrev pub is_gssapi : Phase → Class → Bool
is_gssapi phases.Auth classes.Gssapi = true
is_gssapi phase class = false

abbrev pub gssapi_user_row : OpeningState → List Record → Row
gssapi_user_row s records = if is_gssapi s.phase s.class then goes records s else passed_over s

-- the last token, unless it is empty
abbrev pub last_token : Option (List ℕ) → List Record
last_token (Some (b ∷ token)) = Payload (gssapi_token (b ∷ token)) ∷ []
last_token token = []

unfoldable pub user_token_row : OpeningState → List ℕ → Row
user_token_row s token = gssapi_user_row s (Payload (gssapi_token token) ∷ [])

unfoldable pub user_mic_row : OpeningState → Option (List ℕ) → List ℕ → Row
user_mic_row s token code = gssapi_user_row s (last_token token ++ Payload (gssapi_mic code) ∷ [])

unfoldable pub user_complete_row : OpeningState → Option (List ℕ) → Row
user_complete_row s token = gssapi_user_row s (last_token token ++ Payload gssapi_complete ∷ [])
