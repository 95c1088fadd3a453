-- What a known hosts text says of a key for a host (OpenSSH's sshd(8), "SSH_KNOWN_HOSTS FILE FORMAT").
-- Each line says one thing of the key, or nothing; the status follows from what all of them say, by five cases, of
-- which the first that fits is the result. The code reads the lines once.
use Rattle.std.specs.Prelude.{ℕ, Bool, true, false, ◌||◌, ◌==◌, if◌then◌else◌, List, [], ◌∷◌, Option, Some, None, option_map}
use Rattle.std.specs.List.{filter_map, enumerate_from}
use Rattle.std.specs.Option.{option_and_then, option_or}
use Rattle.sshc_key.specs.KeyGrammar.{Key}
use Rattle.sshc_key.specs.KeyEq.{key_eq}
use Rattle.sshc_hosts_openssh.specs.declared.entry.Mark.{Mark}
use Rattle.sshc_hosts_openssh.specs.declared.entry.Mark.TheVariants as marks
use Rattle.sshc_hosts_openssh.specs.declared.judgement.Finding.{Finding}
use Rattle.sshc_hosts_openssh.specs.declared.judgement.Finding.TheVariants.{Revokes, Certifies, Records, Contradicts}
use Rattle.sshc_hosts_openssh.specs.declared.judgement.HostStatus.{HostStatus}
use Rattle.sshc_hosts_openssh.specs.declared.judgement.HostStatus.TheVariants.{Known, Certified, Changed, Revoked, Unknown}
use Rattle.sshc_hosts_openssh.specs.HostsField.{field_names, name_of}
use Rattle.sshc_hosts_openssh.specs.Lines.{Entry, lines, read_line}
use Rattle.sshc_hosts_openssh.specs.LineKeys.{bare, key_on}
use Rattle.sshc_hosts_openssh.specs.Certificates.{is_good, is_signed_by}
use Rattle.sshc_key.specs.declared.signature.Signature.{Signature}

-- ---- one line

-- a key that isn't to be trusted takes its certificates with it, and those that it signed
abbrev pub is_revoked_by : Key → Key → Bool
is_revoked_by key other = key_eq (bare key) (bare other) || is_signed_by key (bare other)

-- what a line with this mark and another key says of the key; an unmarked line speaks of the key that a certificate
-- certifies
abbrev pub said_of : Key → Mark → Key → Option Finding
said_of key marks.Recorded other = if key_eq (bare key) other then Some Records else Some Contradicts
said_of key marks.Revoked other = if is_revoked_by key other then Some Revokes else None
said_of key marks.Authority other = if is_signed_by key (bare other) then Some Certifies else None

-- only a line that names the host says anything
abbrev pub said_for : List ℕ → Key → Entry → Option Finding
said_for name key entry =
    if field_names name entry.hosts then option_and_then (said_of key entry.mark) (key_on entry.key_type entry.key) else None

abbrev pub said_by : List ℕ → Key → List ℕ → Option Finding
said_by name key line = option_and_then (said_for name key) (read_line line)

-- ---- all lines

-- what the lines say, with their numbers from 1
abbrev pub numbered : List ℕ → Key → ℕ × List ℕ → Option (ℕ × Finding)
numbered name key line = option_map (λ finding. (line.0, finding)) (said_by name key line.1)

abbrev pub findings : List ℕ → List ℕ → Key → List (ℕ × Finding)
findings text name key = filter_map (numbered name key) (enumerate_from 1 (lines text))

abbrev pub revokes : Finding → Bool
revokes Revokes = true
revokes finding = false

abbrev pub certifies : Finding → Bool
certifies Certifies = true
certifies finding = false

abbrev pub records : Finding → Bool
records Records = true
records finding = false

abbrev pub contradicts : Finding → Bool
contradicts Contradicts = true
contradicts finding = false

-- the number of the first line that says this, and of the last one
abbrev pub first_line : (Finding → Bool) → List (ℕ × Finding) → Option ℕ
first_line test [] = None
first_line test (line ∷ later) = if test line.1 then Some line.0 else first_line test later

abbrev pub last_line : (Finding → Bool) → List (ℕ × Finding) → Option ℕ
last_line test [] = None
last_line test (line ∷ later) = option_or (last_line test later) (if test line.1 then Some line.0 else None)

-- a line that revokes the key refuses it; else an authority for the host accepts its good certificate; else a line that
-- records it accepts it; else one with another key contradicts it
abbrev pub status : Option ℕ → Option ℕ → Option ℕ → Option ℕ → HostStatus
status (Some line) certifying recording contrary = Revoked line
status None (Some line) recording contrary = Certified line
status None None (Some line) contrary = Known line
status None None None (Some line) = Changed line
status None None None None = Unknown

abbrev pub only_if : Bool → Option ℕ → Option ℕ
only_if good line = if good then line else None

abbrev pub status_among : Bool → List (ℕ × Finding) → HostStatus
status_among good said =
    status (first_line revokes said) (only_if good (first_line certifies said)) (first_line records said)
    (last_line contradicts said)

-- the status of a key, which is a good certificate or not, by a known hosts text, for the host that a name stands for
unfoldable pub status_by : List ℕ → List ℕ → Key → Bool → HostStatus
status_by text name key good = status_among good (findings text name key)

-- a key of which nothing is said for the host at its port may be accepted or revoked for the host alone
abbrev pub or_without_port : HostStatus → HostStatus → HostStatus
or_without_port Unknown (Changed line) = Unknown
or_without_port Unknown status = status
or_without_port (Known line) status = Known line
or_without_port (Certified line) status = Certified line
or_without_port (Changed line) status = Changed line
or_without_port (Revoked line) status = Revoked line

-- the status for a host at a port
unfoldable pub status_at : List ℕ → List ℕ → ℕ → Key → Bool → HostStatus
status_at text host port key good =
    if port == 22 then status_by text (name_of host port) key good
    else or_without_port (status_by text (name_of host port) key good) (status_by text (name_of host 22) key good)

-- the status where certificates are judged, at a moment: their principals are hosts without ports
abbrev pub certified_status :
    (Key → List ℕ → Signature → Bool) → ℕ → List ℕ → List ℕ → ℕ → Key → HostStatus
certified_status accepts now text host port key =
    status_at text host port key (is_good accepts now (name_of host 22) key)
