-- What the user is asked for is told by its record's text.
use Rattle.std.proofs.Common.{◌≡◌, ℕ, ◌<◌, ◌^◌, List, [], ◌∷◌, ◌++◌, Option, Some, None, Ok, refl, ap, ◌∙◌, append_assoc}
use Rattle.sshc_wire.specs.PartsLaws.{number32, strings}
use Rattle.sshc_wire.specs.Reads.{byte_at}
use Rattle.sshc_wire.specs.Records.{auth_text, gssapi_text, hash_number, prompt_text}
use Rattle.sshc_wire.specs.Wire.{counted_text, string_text, u32_text}
use Rattle.sshc_wire.specs.declared.ticket.Ticket.{Ticket}
use Rattle.sshc_wire.specs.declared.hash_alg.HashAlg.{HashAlg}
use Rattle.sshc_wire.specs.declared.hash_alg.HashAlg.TheVariants.{Sha256, Sha512}
use Rattle.sshc_wire.specs.declared.auth_record.AuthRecord.{AuthRecord}
use Rattle.sshc_wire.specs.declared.auth_record.AuthRecord.TheVariants as auth
use Rattle.sshc_wire.specs.declared.auth_record.GssapiRecord.{GssapiRecord}
use Rattle.sshc_wire.specs.declared.auth_record.GssapiRecord.TheVariants as gssapi
use Rattle.sshc_wire.specs.declared.record.Record.{Record}
use Rattle.sshc_wire.specs.declared.record.Record.TheVariants.{Auth}
use Rattle.sshc_wire.specs.Fitting.{FitsAuth, FitsGssapi}
use Rattle.sshc_wire.specs.RecordReads.{asked_at, asked_by, gssapi_by, gssapi_error_at, gssapi_response_at, gssapi_token_at, hash_of, info_request_at, sign_request_at, sign_request_cert_at}
use Rattle.sshc_wire.specs.Telling.{IsTold, made_of, record_of}
use Rattle.sshc_wire.proofs.TellingParts.{last_prompts, last_string}

step_number : GssapiRecord → ℕ
step_number (gssapi.Response mechanism mic) = 0x08
step_number (gssapi.Token token mic) = 0x09
step_number (gssapi.Error major minor message) = 0x0a
step_number (gssapi.ErrorToken token) = 0x0b

step_fields : GssapiRecord → List ℕ
step_fields (gssapi.Response mechanism mic) = string_text mechanism ++ string_text mic
step_fields (gssapi.Token token mic) = string_text token ++ string_text mic
step_fields (gssapi.Error major minor message) = u32_text major ++ (u32_text minor ++ string_text message)
step_fields (gssapi.ErrorToken token) = string_text token

-- the record's number
number_of : AuthRecord → ℕ
number_of (auth.SignRequest key hash body) = 0x05
number_of (auth.SignRequestCert cert hash body) = 0x06
number_of (auth.AuthInfoRequest name instructions prompts) = 0x07
number_of (auth.Gssapi step) = step_number step

-- the fields after the ticket
fields_of : AuthRecord → List ℕ
fields_of (auth.SignRequest key hash body) = string_text key ++ (hash_number hash ∷ string_text body)
fields_of (auth.SignRequestCert cert hash body) = string_text cert ++ (hash_number hash ∷ string_text body)
fields_of (auth.AuthInfoRequest name instructions prompts) = string_text name ++ (string_text instructions ++ counted_text prompt_text prompts)
fields_of (auth.Gssapi step) = step_fields step

made : ℕ → List ℕ → Record
made number body = made_of (λ a. Auth a.0 a.1) (asked_at number body)

split_step : (n : ℕ) (x : GssapiRecord) → record_of (gssapi_text n x) ≡ made (step_number x) (u32_text n ++ step_fields x)
unfolding record_of gssapi_text u32_text step_number step_fields made
split_step n (gssapi.Response mechanism mic) = refl
split_step n (gssapi.Token token mic) = refl
split_step n (gssapi.Error major minor message) = refl
split_step n (gssapi.ErrorToken token) = refl

split : (n : ℕ) (x : AuthRecord) → record_of (auth_text n x) ≡ made (number_of x) (u32_text n ++ fields_of x)
unfolding record_of auth_text u32_text number_of fields_of made
split n (auth.SignRequest key hash body) = refl
split n (auth.SignRequestCert cert hash body) = refl
split n (auth.AuthInfoRequest name instructions prompts) =
    ap (λ (b : List ℕ). made 0x07 (u32_text n ++ b)) (append_assoc (string_text name) (string_text instructions) (counted_text prompt_text prompts))
split n (auth.Gssapi step) = split_step n step

hash_again : (hash : Option HashAlg) → hash_of (hash_number hash) ≡ hash
hash_again None = refl
hash_again (Some Sha256) = refl
hash_again (Some Sha512) = refl

step_told : (x : GssapiRecord) → FitsGssapi x → gssapi_by (step_number x) (step_fields x) ≡ Ok (x, [])
unfolding step_number step_fields gssapi_response_at gssapi_token_at gssapi_error_at
step_told (gssapi.Response mechanism mic) fits = rw (strings.again mechanism (string_text mic) fits.0, last_string mic fits.1) refl
step_told (gssapi.Token token mic) fits = rw (strings.again token (string_text mic) fits.0, last_string mic fits.1) refl
step_told (gssapi.Error major minor message) fits =
    rw (number32.again major (u32_text minor ++ string_text message) fits.0, number32.again minor (string_text message) fits.1, last_string message fits.2) refl
step_told (gssapi.ErrorToken token) fits = rw (last_string token fits) refl

step_asked : (x : GssapiRecord) (fields : List ℕ) → gssapi_by (step_number x) fields ≡ Ok (x, []) → asked_by (step_number x) fields ≡ Ok (auth.Gssapi x, [])
unfolding step_number
step_asked (gssapi.Response mechanism mic) fields is = rw is refl
step_asked (gssapi.Token token mic) fields is = rw is refl
step_asked (gssapi.Error major minor message) fields is = rw is refl
step_asked (gssapi.ErrorToken token) fields is = rw is refl

fields_told : (x : AuthRecord) → FitsAuth x → asked_by (number_of x) (fields_of x) ≡ Ok (x, [])
unfolding number_of fields_of byte_at sign_request_at sign_request_cert_at info_request_at
fields_told (auth.SignRequest key hash body) fits =
    rw (strings.again key (hash_number hash ∷ string_text body) fits.0, last_string body fits.1) (ap (λ (h : Option HashAlg). Ok (auth.SignRequest key h body, [])) (hash_again hash))
fields_told (auth.SignRequestCert cert hash body) fits =
    rw (strings.again cert (hash_number hash ∷ string_text body) fits.0, last_string body fits.1) (ap (λ (h : Option HashAlg). Ok (auth.SignRequestCert cert h body, [])) (hash_again hash))
fields_told (auth.AuthInfoRequest name instructions prompts) fits =
    rw (strings.again name (string_text instructions ++ counted_text prompt_text prompts) fits.0, strings.again instructions (counted_text prompt_text prompts) fits.1, last_prompts prompts fits.2 fits.3) refl
fields_told (auth.Gssapi step) fits = step_asked step (step_fields step) (step_told step fits)

after_number : (ticket : Ticket) (number : ℕ) (fields : List ℕ) (x : AuthRecord) → ticket.0 < 2 ^ 32 → asked_by number fields ≡ Ok (x, []) → made number (u32_text ticket.0 ++ fields) ≡ Auth ticket x
unfolding asked_at made
after_number ticket number fields x small is = rw (number32.again ticket.0 fields small, is) refl

pub asked_told : (ticket : Ticket) (x : AuthRecord) → ticket.0 < 2 ^ 32 → FitsAuth x → IsTold (Auth ticket x)
asked_told ticket x small fits = split ticket.0 x ∙ after_number ticket (number_of x) (fields_of x) x small (fields_told x fits)
