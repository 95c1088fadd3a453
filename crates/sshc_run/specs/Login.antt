-- How every generated script begins: a login by a password, and a channel.
use Rattle.std.specs.Prelude.{ℕ, false, List, [], ◌∷◌, ◌++◌, codes}
use Rattle.sshc_wire.specs.Wire.{bool_text, string_text, u32_text}
use Rattle.sshc_run.specs.Events.{Script, Timed, no_events, timed, with_events}

-- the host key
abbrev pub host_key : List ℕ
host_key = string_text (codes "ssh-ed25519")
    ++ string_text (0x97 ∷ 0x43 ∷ 0xef ∷ 0x2d ∷ 0xda ∷ 0x2e ∷ 0xae ∷ 0x39 ∷ 0xe3 ∷ 0x25 ∷ 0x81 ∷ 0x77 ∷ 0x02 ∷ 0xd6 ∷ 0x6e ∷ 0x27
    ∷ 0x94 ∷ 0xd5 ∷ 0xe6 ∷ 0xf3 ∷ 0xf7 ∷ 0xf7 ∷ 0x2e ∷ 0xef ∷ 0xf4 ∷ 0x04 ∷ 0x5e ∷ 0x7f ∷ 0x4e ∷ 0x21 ∷ 0xe6 ∷ 0x49 ∷ [])

-- the fields of an exchange: a plain key, the hash, no signature, no secret, the name of the key exchange, no other
-- names, not strict
abbrev pub exchange_fields : List ℕ
exchange_fields = 1 ∷ string_text host_key ++ string_text (codes "session-id") ++ string_text [] ++ bool_text false ++ string_text []
    ++ string_text (codes "curve25519-sha256") ++ string_text [] ++ string_text [] ++ string_text [] ++ string_text [] ++ bool_text false

-- the peer's KEXINIT, and an exchange
abbrev pub exchanged : ℕ → List Timed
exchanged moment = timed moment 0x01 [] ∷ timed moment 0x02 exchange_fields ∷ []

-- `alice` asks by the password `pw`, with ticket 1
abbrev pub by_password : List ℕ
by_password = u32_text 1 ++ string_text (codes "alice") ++ 1 ∷ string_text (codes "pw")

abbrev pub accepted : List ℕ
accepted = 6 ∷ string_text (codes "ssh-userauth")

-- the user asks, the service is accepted, and the user is let in
abbrev pub logged_in : List Timed
logged_in =
    timed 0 0x10 by_password
    ∷ timed 0 0x03 accepted
    ∷ timed 0 0x03 (52 ∷ [])
    ∷ []

-- channel 1 with the peer's number 0, a window of 1,048,576 bytes and packets of at most 32,768 bytes
abbrev pub confirmed : List ℕ
confirmed = 91 ∷ u32_text 1 ++ u32_text 0 ++ u32_text 0x100000 ++ u32_text 0x8000

-- a channel is asked for with ticket 2, and confirmed
abbrev pub channel_opened : List Timed
channel_opened =
    timed 0 0x17 (u32_text 2)
    ∷ timed 0 0x03 confirmed
    ∷ []

abbrev pub beginning : Script
beginning = with_events channel_opened (with_events logged_in (with_events (exchanged 0) no_events))
