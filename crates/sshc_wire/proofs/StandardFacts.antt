-- The examples of RFC 4251, section 5, computed.
use Rattle.std.proofs.Common.{◌≡◌, [], ◌∷◌, ◌++◌, Ok, refl}
use Rattle.std.specs.Prelude.{codes, true, false}
use Rattle.std.specs.Int.{w32}
use Rattle.sshc_wire.specs.MessageNumbers as standard
use Rattle.sshc_wire.specs.declared.msg.TheConstants as code
use Rattle.sshc_wire.specs.Wire.{bool_text, names_text, string_text, u32_text, u64_text}
use Rattle.sshc_wire.specs.Reads.{boolean_at, byte_at, number_at, string_at}

-- "the value 699921578 (0x29b7f4aa) is stored as 29 b7 f4 aa"
number_written : u32_text 699921578 ≡ 0x29 ∷ 0xb7 ∷ 0xf4 ∷ 0xaa ∷ []
unfolding u32_text
number_written = refl

number_read : number_at w32 (0x29 ∷ 0xb7 ∷ 0xf4 ∷ 0xaa ∷ []) ≡ Ok (699921578, [])
unfolding number_at
number_read = refl

-- "the string \"testing\" is represented as 00 00 00 07 t e s t i n g"
string_written : string_text (codes "testing") ≡ (0 ∷ 0 ∷ 0 ∷ 7 ∷ []) ++ codes "testing"
unfolding string_text u32_text
string_written = refl

string_read : string_at ((0 ∷ 0 ∷ 0 ∷ 7 ∷ []) ++ codes "testing") ≡ Ok (codes "testing", [])
unfolding string_at number_at
string_read = refl

-- the examples of name lists: (), ("zlib"), ("zlib,none")
no_names : names_text [] ≡ 0 ∷ 0 ∷ 0 ∷ 0 ∷ []
unfolding names_text string_text u32_text
no_names = refl

one_name : names_text (codes "zlib" ∷ []) ≡ (0 ∷ 0 ∷ 0 ∷ 4 ∷ []) ++ codes "zlib"
unfolding names_text string_text u32_text
one_name = refl

two_names : names_text (codes "zlib" ∷ codes "none" ∷ []) ≡ (0 ∷ 0 ∷ 0 ∷ 9 ∷ []) ++ codes "zlib,none"
unfolding names_text string_text u32_text
two_names = refl

-- "All non-zero values MUST be interpreted as TRUE; however, applications MUST NOT store values other than 0 and 1."
flags_written : (bool_text true ≡ 1 ∷ []) × (bool_text false ≡ 0 ∷ [])
unfolding bool_text
flags_written = (refl, refl)

flag_read : boolean_at (7 ∷ []) ≡ Ok (true, [])
unfolding boolean_at byte_at
flag_read = refl

wide_number : u64_text 1 ≡ 0 ∷ 0 ∷ 0 ∷ 0 ∷ 0 ∷ 0 ∷ 0 ∷ 1 ∷ []
unfolding u64_text
wide_number = refl

-- the code's message numbers are the standards'
message_numbers :
    (code.DISCONNECT ≡ standard.DISCONNECT) × (code.IGNORE ≡ standard.IGNORE)
    × (code.UNIMPLEMENTED ≡ standard.UNIMPLEMENTED) × (code.DEBUG ≡ standard.DEBUG)
    × (code.SERVICE_REQUEST ≡ standard.SERVICE_REQUEST) × (code.SERVICE_ACCEPT ≡ standard.SERVICE_ACCEPT)
    × (code.EXT_INFO ≡ standard.EXT_INFO) × (code.USERAUTH_REQUEST ≡ standard.USERAUTH_REQUEST)
    × (code.USERAUTH_FAILURE ≡ standard.USERAUTH_FAILURE) × (code.USERAUTH_SUCCESS ≡ standard.USERAUTH_SUCCESS)
    × (code.USERAUTH_BANNER ≡ standard.USERAUTH_BANNER) × (code.USERAUTH_PK_OK ≡ standard.USERAUTH_PK_OK)
    × (code.USERAUTH_INFO_REQUEST ≡ standard.USERAUTH_INFO_REQUEST)
    × (code.USERAUTH_INFO_RESPONSE ≡ standard.USERAUTH_INFO_RESPONSE)
    × (code.USERAUTH_GSSAPI_RESPONSE ≡ standard.USERAUTH_GSSAPI_RESPONSE)
    × (code.USERAUTH_GSSAPI_TOKEN ≡ standard.USERAUTH_GSSAPI_TOKEN)
    × (code.USERAUTH_GSSAPI_EXCHANGE_COMPLETE ≡ standard.USERAUTH_GSSAPI_EXCHANGE_COMPLETE)
    × (code.USERAUTH_GSSAPI_ERROR ≡ standard.USERAUTH_GSSAPI_ERROR)
    × (code.USERAUTH_GSSAPI_ERRTOK ≡ standard.USERAUTH_GSSAPI_ERRTOK)
    × (code.USERAUTH_GSSAPI_MIC ≡ standard.USERAUTH_GSSAPI_MIC)
    × (code.GLOBAL_REQUEST ≡ standard.GLOBAL_REQUEST) × (code.REQUEST_SUCCESS ≡ standard.REQUEST_SUCCESS)
    × (code.REQUEST_FAILURE ≡ standard.REQUEST_FAILURE) × (code.CHANNEL_OPEN ≡ standard.CHANNEL_OPEN)
    × (code.CHANNEL_OPEN_CONFIRMATION ≡ standard.CHANNEL_OPEN_CONFIRMATION)
    × (code.CHANNEL_OPEN_FAILURE ≡ standard.CHANNEL_OPEN_FAILURE)
    × (code.CHANNEL_WINDOW_ADJUST ≡ standard.CHANNEL_WINDOW_ADJUST)
    × (code.CHANNEL_DATA ≡ standard.CHANNEL_DATA)
    × (code.CHANNEL_EXTENDED_DATA ≡ standard.CHANNEL_EXTENDED_DATA) × (code.CHANNEL_EOF ≡ standard.CHANNEL_EOF)
    × (code.CHANNEL_CLOSE ≡ standard.CHANNEL_CLOSE) × (code.CHANNEL_REQUEST ≡ standard.CHANNEL_REQUEST)
    × (code.CHANNEL_SUCCESS ≡ standard.CHANNEL_SUCCESS) × (code.CHANNEL_FAILURE ≡ standard.CHANNEL_FAILURE)
message_numbers = (refl, refl, refl, refl, refl, refl, refl, refl, refl, refl, refl, refl, refl, refl, refl, refl, refl, refl, refl, refl, refl, refl, refl, refl, refl, refl, refl, refl, refl, refl, refl, refl, refl, refl)
