-- Prompts of phase Auth, and their answers (RFC 4256).
use Rattle.std.specs.Prelude.{ℕ, zero, suc, ◌/◌, nat_lt, Bool, List, [], ◌∷◌, length, Result, Ok, Err, if◌then◌else◌}
use Rattle.sshc_wire.specs.Reads.{boolean_at, text_at}
use Rattle.sshc_wire.specs.declared.error.WireError.{WireError}
use Rattle.sshc_wire.specs.declared.auth_record.AuthRecord.TheVariants.{AuthInfoRequest}
use Rattle.sshc_wire.specs.declared.auth_record.Prompt.{Prompt}
use Rattle.sshc_wire.specs.declared.record.Record.TheVariants.{Auth, Payload}
use Rattle.sshc_auth.specs.declared.error.Error.TheVariants.{Inconsistent}
use Rattle.sshc_auth.specs.declared.opening.Phase.TheVariants as phases
use Rattle.sshc_auth.specs.OpeningState.{OpeningState}
use Rattle.sshc_auth_request.specs.RequestTexts.{info_response}
use Rattle.sshc_auth.specs.Row.{Row, goes, refused, reads_text, reads_number, with_part, broken_row, ends_at}

-- a prompt: a text, and whether the answer may be shown
abbrev pub with_echo : List ℕ → Result (Bool × List ℕ) WireError → Result (Prompt × List ℕ) WireError
with_echo prompt (Ok echo) = Ok (record { prompt = prompt; echo = echo.0 }, echo.1)
with_echo prompt (Err e) = Err e

abbrev pub prompt_from : Result (List ℕ × List ℕ) WireError → Result (Prompt × List ℕ) WireError
prompt_from (Ok prompt) = with_echo prompt.0 (boolean_at prompt.1)
prompt_from (Err e) = Err e

abbrev pub prompt_at : List ℕ → Result (Prompt × List ℕ) WireError
prompt_at body = prompt_from (text_at body)

abbrev pub behind_prompt : Prompt → Result (List Prompt × List ℕ) WireError → Result (List Prompt × List ℕ) WireError
behind_prompt prompt (Ok prompts) = Ok (prompt ∷ prompts.0, prompts.1)
behind_prompt prompt (Err e) = Err e

-- as many prompts as the number says
abbrev pub prompts_from : (List ℕ → Result (List Prompt × List ℕ) WireError) → Result (Prompt × List ℕ) WireError → Result (List Prompt × List ℕ) WireError
prompts_from on (Ok prompt) = behind_prompt prompt.0 (on prompt.1)
prompts_from on (Err e) = Err e

unfoldable pub prompts_at : ℕ → List ℕ → Result (List Prompt × List ℕ) WireError
prompts_at zero body = Ok ([], body)
prompts_at (suc n) body = prompts_from (λ rest. prompts_at n rest) (prompt_at body)

-- a prompt has five bytes at least; this number of prompts is too large for the bytes
abbrev pub is_too_many : ℕ → List ℕ → Bool
is_too_many n rest = nat_lt (length rest / 5) n

-- the prompts are handed to the user, whose answers are awaited
unfoldable pub prompts_row : OpeningState → List ℕ → List ℕ → ℕ → List ℕ → Row
prompts_row s name instructions n rest =
    if is_too_many n rest then refused Inconsistent
    else with_part broken_row (prompts_at n rest) (λ prompts left.
    ends_at left (goes (Auth s.ticket (AuthInfoRequest name instructions prompts) ∷ []) (record s { phase = phases.AwaitResponses })))

-- 60, USERAUTH_INFO_REQUEST (RFC 4256, section 3.2): name, instructions, language, the prompts' number and the prompts,
-- end
unfoldable pub info_request_row : OpeningState → List ℕ → Row
info_request_row s body =
    reads_text body (λ name rest.
    reads_text rest (λ instructions rest.
    reads_text rest (λ language rest.
    reads_number rest (λ n rest.
    prompts_row s name instructions n rest))))

-- the user's answers are written as they come
unfoldable pub info_response_row : OpeningState → List (List ℕ) → Row
info_response_row s responses = goes (Payload (info_response responses) ∷ []) (record s { phase = phases.Auth })
