-- The script of a password login and its records, computed from the definitions. Its bytes and its lines are listed in
-- docs/FORMATS.md; the steps of its opening are computed in sshc_auth, and the whole run is a test.
use Rattle.std.proofs.Common.{◌≡◌, ℕ, ◌+◌, List, [], ◌∷◌, ◌++◌, length, take, refl}
use Rattle.std.specs.Prelude.{codes}
use Rattle.sshc_wire.specs.Reads.{byte_at, number_at}
use Rattle.sshc_wire.specs.Records.{record_text}
use Rattle.sshc_wire.specs.Wire.{u32_text, u64_text, string_text}
use Rattle.sshc_wire.specs.declared.record.Record.TheVariants.{KexDone, Payload, Resolved, Opened}
use Rattle.sshc_wire.specs.declared.resolution.Resolution.TheVariants.{AuthSuccess}
use Rattle.sshc_auth_event.specs.declared.method.Method.TheVariants.{Password}
use Rattle.sshc_auth_request.specs.RequestTexts.{service_request, request}
use Rattle.sshc_run_reader.specs.Script.{whole, bad, more, taken, stop_of, stop, events, front, sized_front, head_at}

-- an event at moment 0
abbrev pub event : ℕ → List ℕ → List ℕ
event kind fields = u32_text (9 + length fields) ++ u64_text 0 ++ kind ∷ fields

-- the host key, by its 32 bytes
abbrev pub key_bytes : List ℕ
key_bytes = 151 ∷ 67 ∷ 239 ∷ 45 ∷ 218 ∷ 46 ∷ 174 ∷ 57 ∷ 227 ∷ 37 ∷ 129 ∷ 119 ∷ 2 ∷ 214 ∷ 110 ∷ 39 ∷ 148 ∷ 213 ∷ 230 ∷ 243 ∷ 247 ∷ 247 ∷ 46 ∷ 239 ∷ 244 ∷ 4 ∷ 94 ∷ 127 ∷ 78 ∷ 33 ∷ 230 ∷ 73 ∷ []

abbrev pub key : List ℕ
key = string_text (codes "ssh-ed25519") ++ string_text key_bytes

-- an exchange that is done, with the hash `session-id` and the method curve25519-sha256
abbrev pub exchange : ℕ → List ℕ → List ℕ
exchange sort blob = sort ∷ string_text blob ++ string_text (codes "session-id") ++ string_text [] ++ 0 ∷ string_text []
    ++ string_text (codes "curve25519-sha256") ++ string_text [] ++ string_text [] ++ string_text [] ++ string_text [] ++ 0 ∷ []

-- ticket 1, alice, a password
abbrev pub asked : List ℕ
asked = u32_text 1 ++ string_text (codes "alice") ++ 1 ∷ string_text (codes "pw")

abbrev pub accepted : List ℕ
accepted = 6 ∷ string_text (codes "ssh-userauth")

abbrev pub script_with : List ℕ → List ℕ
script_with done = event 1 [] ++ event 2 done ++ event 0x10 asked ++ event 3 accepted ++ event 3 (52 ∷ [])

abbrev pub login : List ℕ
login = script_with (exchange 1 key)

-- ---- the grammar

length_is : length login ≡ 220
unfolding u32_text u64_text string_text
length_is = refl

-- five whole events, and no bytes after them
pub stop_is : stop_of 8192 login ≡ whole
unfolding u32_text u64_text string_text stop front sized_front head_at number_at byte_at
stop_is = refl

five_events : length (taken 8192 login) ≡ 5
unfolding u32_text u64_text string_text events front sized_front head_at number_at byte_at
five_events = refl

-- the script without its last byte is cut inside the event at place 206, and a third event is one too many of two
pub cut_is : stop_of 8192 (take 219 login) ≡ bad 206
unfolding u32_text u64_text string_text stop front sized_front head_at number_at byte_at
cut_is = refl

pub more_is : stop_of 2 login ≡ more
unfolding u32_text u64_text string_text stop front sized_front head_at number_at byte_at
more_is = refl

-- a length of 8, and a moment that is before the last one
short_is : stop_of 8192 (0 ∷ 0 ∷ 0 ∷ 8 ∷ 0 ∷ 0 ∷ 0 ∷ 0 ∷ 0 ∷ 0 ∷ 0 ∷ 0 ∷ []) ≡ bad 0
unfolding stop front sized_front
short_is = refl

falling_is : stop_of 8192 (u32_text 9 ++ u64_text 5 ++ 1 ∷ (u32_text 9 ++ u64_text 4 ++ 1 ∷ [])) ≡ bad 13
unfolding u32_text u64_text stop front sized_front head_at number_at byte_at
falling_is = refl

-- ---- the records' bytes, which the lines show in hexadecimal digits

kex_record : record_text (KexDone (codes "curve25519-sha256")) ≡ 0x20 ∷ (0 ∷ 0 ∷ 0 ∷ 0x11 ∷ []) ++ codes "curve25519-sha256"
unfolding u32_text string_text
kex_record = refl

service_record : record_text (Payload service_request) ≡ 1 ∷ 5 ∷ (0 ∷ 0 ∷ 0 ∷ 12 ∷ []) ++ codes "ssh-userauth"
unfolding u32_text string_text service_request
service_record = refl

request_record : record_text (Payload (request (codes "alice") (Password (codes "pw"))))
    ≡ 1 ∷ 50 ∷ (0 ∷ 0 ∷ 0 ∷ 5 ∷ []) ++ codes "alice" ++ (0 ∷ 0 ∷ 0 ∷ 14 ∷ []) ++ codes "ssh-connection" ++ (0 ∷ 0 ∷ 0 ∷ 8 ∷ []) ++ codes "password" ++ (0 ∷ 0 ∷ 0 ∷ 0 ∷ 2 ∷ []) ++ codes "pw"
unfolding u32_text string_text request
request_record = refl

success_record : record_text (Resolved (record { 0 = 1 }) AuthSuccess) ≡ 4 ∷ 0 ∷ 0 ∷ 0 ∷ 1 ∷ 0 ∷ []
unfolding u32_text
success_record = refl

opened_record : record_text Opened ≡ 3 ∷ []
opened_record = refl
