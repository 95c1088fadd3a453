-- A worked known hosts line with a whole key: its base64 is decoded to the key's blob, and a text of that line alone
-- accepts the key.
use Rattle.std.proofs.Common.{◌≡◌, ℕ, List, [], ◌∷◌, ◌++◌, Ok, Some, true, false, refl, ap, ◌∙◌}
use Rattle.std.specs.Fmt.{digits}
use Rattle.std.specs.Prelude.{codes, filter}
use Rattle.base64.proofs.OnLiterals.{base64_on_literals}
use Rattle.base64.specs.Engines.{standard}
use Rattle.base64.specs.GeneralPurpose.{decode_of}
use Rattle.sshc_key.specs.KeyGrammar.{Key}
use Rattle.sshc_key.specs.KeyText.{is_no_line_end, decoded, decoded_key}
use Rattle.sshc_key.specs.Nesting.{blob_key, key_or_fault}
use Rattle.sshc_hosts.specs.HostText.{host_text}
use Rattle.sshc_hosts.specs.declared.marks.Mark.TheVariants.{Recorded}
use Rattle.sshc_hosts.specs.Judgement.{is_certificate, read_lines, marked_keys, judged_by, judged}
use Rattle.sshc_hosts.specs.Learning.{once_learned}
use Rattle.sshc_hosts.specs.MatchingLines.{marked_as, matching}
use Rattle.sshc_hosts.proofs.JudgementLemmas.{judged-more}

-- ---- the key's text

-- the base64 of an Ed25519 key
abbrev pub key_field : List ℕ
key_field = codes "AAAAC3NzaC1lZDI1NTE5AAAAIJdD7y3aLq454yWBdwLWbieU1ebz9/cu7/QEXn9OIeZJ"

-- the 11 bytes `ssh-ed25519` and the 32 bytes of the key, each preceded by its length
abbrev pub key_blob : List ℕ
key_blob =
    0 ∷ 0 ∷ 0 ∷ 11 ∷ 115 ∷ 115 ∷ 104 ∷ 45 ∷ 101 ∷ 100 ∷ 50 ∷ 53 ∷ 53 ∷ 49 ∷ 57 ∷ 0 ∷ 0 ∷ 0 ∷ 32 ∷ 151 ∷ 67 ∷ 239 ∷ 45 ∷ 218 ∷ 46 ∷ 174
    ∷ 57 ∷ 227 ∷ 37 ∷ 129 ∷ 119 ∷ 2 ∷ 214 ∷ 110 ∷ 39 ∷ 148 ∷ 213 ∷ 230 ∷ 243 ∷ 247 ∷ 247 ∷ 46 ∷ 239 ∷ 244 ∷ 4 ∷ 94 ∷ 127 ∷ 78 ∷ 33 ∷ 230 ∷ 73 ∷ []

pub field_decodes : decode_of standard (filter is_no_line_end key_field) ≡ Ok key_blob
unfolding base64_on_literals
field_decodes = refl

-- the key in the base64 text is the one at the front of these bytes
pub field_key : decoded_key key_field ≡ key_or_fault (blob_key key_blob)
unfolding decoded_key
field_key = ap (λ r. decoded r) field_decodes

-- ---- the line

-- `localhost` at port 13265 has this key, and the line ends
abbrev pub localhost_line : List ℕ
localhost_line = codes "[localhost]:13265 ssh-ed25519 AAAAC3NzaC1lZDI1NTE5AAAAIJdD7y3aLq454yWBdwLWbieU1ebz9/cu7/QEXn9OIeZJ" ++ 10 ∷ []

line_matches : matching localhost_line (host_text (codes "localhost") 13265) ≡ (1, marked_as Recorded key_field) ∷ []
unfolding host_text digits
line_matches = refl

-- if no line matched before, a line that has the key accepts it
first_accepts : (key : Key) → is_certificate key ≡ false → once_learned (judged_by (read_lines []) key) ≡ Ok true
first_accepts key plain = rw plain refl

-- the text of this line accepts the key that is read from these bytes
pub line_accepts : (key : Key) → is_certificate key ≡ false → blob_key key_blob ≡ Some key → judged localhost_line (host_text (codes "localhost") 13265) key ≡ Ok true
unfolding judged marked_keys
line_accepts key plain is =
    ap (λ found. judged_by (read_lines found) key) line_matches
    ∙ judged-more [] 1 key_field key plain (field_key ∙ ap key_or_fault is)
    ∙ first_accepts key plain
