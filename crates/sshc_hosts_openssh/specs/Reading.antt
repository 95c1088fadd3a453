-- What the code keeps of the lines that it has read: the numbers of those that decide.
use Rattle.std.specs.Prelude.{ℕ, Option, Some, None}
use Rattle.std.specs.Option.{option_or}
use Rattle.sshc_hosts_openssh.specs.declared.judgement.Deciding.{Deciding}
use Rattle.sshc_hosts_openssh.specs.declared.judgement.Finding.{Finding}
use Rattle.sshc_hosts_openssh.specs.declared.judgement.Finding.TheVariants.{Revokes, Certifies, Records, Contradicts}

abbrev pub undecided : Deciding
undecided = record { revoking = None; certifying = None; recording = None; contrary = None }

-- after one more line
abbrev pub with_line : Deciding → Option Finding → ℕ → Deciding
with_line deciding (Some Revokes) line = record deciding { revoking = option_or deciding.revoking (Some line) }
with_line deciding (Some Certifies) line = record deciding { certifying = option_or deciding.certifying (Some line) }
with_line deciding (Some Records) line = record deciding { recording = option_or deciding.recording (Some line) }
with_line deciding (Some Contradicts) line = record deciding { contrary = Some line }
with_line deciding None line = deciding
