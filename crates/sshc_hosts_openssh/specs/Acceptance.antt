-- What an accepted key means for the lines of a text: none of them revokes the key for the host at the port.
-- A statement about each line, without the cases and the order of the judgement.
use Rattle.std.specs.Prelude.{◌≡◌, ℕ, Bool, true, false, List, Option, Some, None, All}
use Rattle.sshc_key.specs.KeyGrammar.{Key}
use Rattle.sshc_hosts_openssh.specs.declared.judgement.Finding.{Finding}
use Rattle.sshc_hosts_openssh.specs.declared.judgement.HostStatus.{HostStatus}
use Rattle.sshc_hosts_openssh.specs.declared.judgement.HostStatus.TheVariants.{Known, Certified}
use Rattle.sshc_hosts_openssh.specs.HostsField.{name_of}
use Rattle.sshc_hosts_openssh.specs.HostStatus.{revokes, said_by}
use Rattle.sshc_hosts_openssh.specs.Lines.{lines}

abbrev pub is_accepted : HostStatus → Bool
is_accepted (Known line) = true
is_accepted (Certified line) = true
is_accepted status = false

abbrev pub is_revoking : Option Finding → Bool
is_revoking (Some finding) = revokes finding
is_revoking None = false

-- no line revokes the key for the host that a name stands for
abbrev pub IsUnrevoked : List ℕ → List ℕ → Key → Type 0
IsUnrevoked text name key = All (λ line. is_revoking (said_by name key line) ≡ false) (lines text)

-- a key is accepted for a host at a port only if no line revokes it there
abbrev pub AcceptsUnrevoked : List ℕ → List ℕ → ℕ → Key → HostStatus → Type 0
AcceptsUnrevoked text host port key status = is_accepted status ≡ true → IsUnrevoked text (name_of host port) key
