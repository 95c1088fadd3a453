-- What the code cuts off a line, as the values that it stands for.
use Rattle.std.specs.Prelude.{◌≡◌, ℕ, Bool, false, ◌&&◌, ◌||◌, not, if◌then◌else◌, List, [], ◌∷◌}
use Rattle.std.specs.List.{list_any, list_all}
use Rattle.sshc_hosts_openssh.specs.declared.entry.LineEntry.{LineEntry}
use Rattle.sshc_key.specs.KeyGrammar.{Key, plain, certificate}
use Rattle.sshc_hosts_openssh.specs.Certificates.{is_valid}
use Rattle.sshc_hosts_openssh.specs.Lines.{Entry, is_blank}
use Rattle.sshc_hosts_openssh.specs.declared.hosts_field.PartSays.{PartSays}
use Rattle.sshc_hosts_openssh.specs.declared.hosts_field.PartSays.TheVariants.{Nothing, Included, Excluded}
use Rattle.sshc_hosts_openssh.specs.Patterns.{matches}
use Rattle.sshc_hosts_openssh.specs.HostsField.{includes, excludes, is_negated, is_short, pattern_in}

abbrev pub entry_seen : LineEntry → Entry
entry_seen entry =
    record { mark = entry.mark; hosts = entry.hosts.now; key_type = entry.key_type.now; key = entry.key.now }

-- a list names the name, if patterns before it included it or not
abbrev pub names_from : Bool → List ℕ → List (List ℕ) → Bool
names_from included name parts =
    (included || list_any (includes name) parts) && not (list_any (excludes name) parts) && list_all is_short parts

-- the text begins with a word
abbrev pub BeginsWord : List ℕ → Type 0
BeginsWord [] = ⊥
BeginsWord (b ∷ rest) = is_blank b ≡ false

-- what one pattern says of a name
abbrev pub said_part : List ℕ → List ℕ → PartSays
said_part name part =
    if not (is_short part) then Excluded else if not (matches (pattern_in part) name) then Nothing
    else if is_negated part then Excluded else Included

-- a key without its comment
abbrev pub key_seen : Key × List ℕ → Key
key_seen key = key.0

-- what a certificate says is valid
abbrev pub is_valid_certificate : ℕ → List ℕ → Key → Bool
is_valid_certificate now host (plain k) = false
is_valid_certificate now host (certificate nonce key says signer signature) = is_valid now host says
