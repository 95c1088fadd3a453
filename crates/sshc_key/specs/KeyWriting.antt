-- What a certificate says, in the parts in which it is written.
use Rattle.std.specs.Prelude.{ℕ, List, [], ◌++◌}
use Rattle.std.specs.List.{flat_map}
use Rattle.sshc_wire.specs.Wire.{string_text, u32_text, u64_text}
use Rattle.sshc_key.specs.KeyGrammar.{Key, plain, certificate, type_number, option_text, statement_text}

-- up to the principals
abbrev pub first_text : Key → List ℕ
first_text (plain k) = []
first_text (certificate nonce key says signer signature) =
    u64_text says.serial ++ (u32_text (type_number says.cert_type) ++ (string_text says.key_id ++ string_text (flat_map string_text says.valid_principals)))

-- what follows them
abbrev pub second_text : Key → List ℕ
second_text (plain k) = []
second_text (certificate nonce key says signer signature) =
    u64_text says.valid_after ++ (u64_text says.valid_before
    ++ (string_text (flat_map option_text says.critical_options) ++ (string_text (flat_map option_text says.extensions) ++ string_text says.reserved)))

abbrev pub said_text : Key → List ℕ
said_text (plain k) = []
said_text (certificate nonce key says signer signature) = statement_text says
