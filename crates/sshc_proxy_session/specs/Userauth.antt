-- What a public key signs when a user logs in (RFC 4252, section 7; publickey-hostbound-v00@openssh.com of OpenSSH's
-- PROTOCOL), and the request to an agent to sign it (draft-miller-ssh-agent, section 3.6).
-- Each text is written here as the standard has it; what is read is a function of the whole bytes, and the code moves a
-- cursor.
use Rattle.std.specs.Prelude.{ℕ, Bool, ◌&&◌, List, [], ◌∷◌, ◌++◌, Option, Some, None, Result, Ok, Err, codes, bytes_eq, option_map, ◌==◌, if◌then◌else◌}
use Rattle.std.specs.Int.{w32}
use Rattle.sshc_wire.specs.declared.error.WireError.{WireError}
use Rattle.sshc_wire.specs.MessageNumbers.{USERAUTH_REQUEST}
use Rattle.sshc_wire.specs.Reads.{Reader, byte_at, number_at, string_at, ◌>>=◌}
use Rattle.sshc_wire.specs.Wire.{string_text, u32_text}
use Rattle.sshc_proxy_session.specs.declared.userauth.Fields.{Fields as LentFields}
use Rattle.sshc_proxy_session.specs.declared.userauth.Userauth.{Userauth as LentUserauth}
use Rattle.sshc_proxy_session.specs.declared.userauth.Signing.{Signing as LentSigning}

-- ---- texts

-- the session's identifier, the number of the message, the user, the service, the method, TRUE, the algorithm, and what the
-- method has at the end
abbrev pub request_text : List ℕ → List ℕ → List ℕ → List ℕ → List ℕ → List ℕ
request_text session_id user method algorithm last =
    string_text session_id ++ (USERAUTH_REQUEST ∷ (string_text user ++ (string_text (codes "ssh-connection") ++ (string_text method ++ (1 ∷ (string_text algorithm ++ last))))))

-- RFC 4252, section 7: the key
abbrev pub publickey_text : List ℕ → List ℕ → List ℕ → List ℕ → List ℕ
publickey_text session_id user algorithm key = request_text session_id user (codes "publickey") algorithm (string_text key)

-- the key, and the server's host key, which the server compares with its own
abbrev pub hostbound_text : List ℕ → List ℕ → List ℕ → List ℕ → List ℕ → List ℕ
hostbound_text session_id user algorithm key host_key =
    request_text session_id user (codes "publickey-hostbound-v00@openssh.com") algorithm (string_text key ++ string_text host_key)

-- a request to sign: the key, the bytes to be signed, and flags
abbrev pub signing_text : List ℕ → List ℕ → ℕ → List ℕ
signing_text key bytes flags = string_text key ++ (string_text bytes ++ u32_text flags)

-- ---- reading a login

pub record Fields : Type 0 where
  pub session_id : List ℕ
  pub number : ℕ
  pub user : List ℕ
  pub service : List ℕ
  pub method : List ℕ
  pub flag : ℕ
  pub algorithm : List ℕ
  pub key : List ℕ

unfoldable pub fields_at : Reader WireError Fields
fields_at bytes =
    string_at bytes >>= λ session_id. byte_at session_id.1 >>= λ number. string_at number.1 >>= λ user. string_at user.1 >>= λ service. string_at service.1 >>= λ method. byte_at method.1 >>= λ flag.
    string_at flag.1 >>= λ algorithm. string_at algorithm.1 >>= λ key.
    Ok (
      record { session_id = session_id.0; number = number.0; user = user.0; service = service.0; method = method.0; flag = flag.0; algorithm = algorithm.0; key = key.0 },
      key.1,
    )

-- a login to which a key is asked to sign; a host key is named by the method that binds to it
pub record Userauth : Type 0 where
  pub session_id : List ℕ
  pub user : List ℕ
  pub algorithm : List ℕ
  pub key : List ℕ
  pub host_key : Option (List ℕ)

-- nothing follows the string
abbrev pub only_string : Result (List ℕ × List ℕ) WireError → Option (List ℕ)
only_string (Ok (text, [])) = Some text
only_string (Ok (text, (b ∷ rest))) = None
only_string (Err e) = None

-- what follows the fields, by the method: nothing, or the host key
abbrev pub plain_end : List ℕ → Option (Option (List ℕ))
plain_end [] = Some None
plain_end (b ∷ rest) = None

unfoldable pub end_of : List ℕ → List ℕ → Option (Option (List ℕ))
end_of method rest =
    if bytes_eq method (codes "publickey") then plain_end rest
    else (if bytes_eq method (codes "publickey-hostbound-v00@openssh.com") then option_map (λ host. Some host) (only_string (string_at rest))
    else None)

unfoldable pub is_login : Fields → Bool
is_login f = (f.number == USERAUTH_REQUEST) && ((f.flag == 1) && bytes_eq f.service (codes "ssh-connection"))

abbrev pub login_with : Fields → Option (Option (List ℕ)) → Option Userauth
login_with f None = None
login_with f (Some host_key) = Some (record { session_id = f.session_id; user = f.user; algorithm = f.algorithm; key = f.key; host_key = host_key })

abbrev pub login_by : Result (Fields × List ℕ) WireError → Option Userauth
login_by (Err e) = None
login_by (Ok read) = if is_login read.0 then login_with read.0 (end_of read.0.method read.1) else None

-- the login that the bytes are signed for
unfoldable pub userauth_of : List ℕ → Option Userauth
userauth_of bytes = login_by (fields_at bytes)

-- ---- reading a request to sign

pub record Signing : Type 0 where
  pub key : List ℕ
  pub bytes : List ℕ
  pub flags : ℕ

unfoldable pub signing_at : Reader WireError Signing
signing_at body =
    string_at body >>= λ key. string_at key.1 >>= λ bytes. number_at w32 bytes.1 >>= λ flags. Ok (record { key = key.0; bytes = bytes.0; flags = flags.0 }, flags.1)

abbrev pub only_signing : Result (Signing × List ℕ) WireError → Option Signing
only_signing (Ok (signing, [])) = Some signing
only_signing (Ok (signing, (b ∷ rest))) = None
only_signing (Err e) = None

-- the request in a message, after its number
unfoldable pub signing_of : List ℕ → Option Signing
signing_of body = only_signing (signing_at body)

-- ---- what values of the code's types represent

abbrev pub fields_seen : LentFields → Fields
fields_seen lent = record {
  session_id = lent.session_id.now;
  number = lent.number;
  user = lent.user.now;
  service = lent.service.now;
  method = lent.method.now;
  flag = lent.flag;
  algorithm = lent.algorithm.now;
  key = lent.key.now;
}

abbrev pub userauth_seen : LentUserauth → Userauth
userauth_seen lent = record {
  session_id = lent.session_id.now;
  user = lent.user.now;
  algorithm = lent.algorithm.now;
  key = lent.key.now;
  host_key = option_map (λ host. host.now) lent.host_key;
}

abbrev pub signing_seen : LentSigning → Signing
signing_seen lent = record { key = lent.key.now; bytes = lent.bytes.now; flags = lent.flags }
