use Rattle.std.proofs.Common.{◌≡◌, length}
use Rattle.sshc_hosts.specs.MatchingLines.{parts_at}
use Rattle.sshc_hosts_openssh.specs.Cuts.{names_from}
use Rattle.sshc_hosts_openssh.specs.HostsField.{list_names}
use Rattle.sshc_hosts_openssh.proofs.hosts_field.list_names.Given as goal

abbrev pub invariant-parts : goal.invariant-parts
invariant-parts l = names_from l.included l.name (parts_at 44 l.left) ≡ list_names l.name (parts_at 44 l.list)

abbrev pub decreases-parts : goal.decreases-parts
decreases-parts l = length l.left
