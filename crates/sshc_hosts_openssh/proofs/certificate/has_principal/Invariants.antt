use Rattle.std.proofs.Common.{◌≡◌, drop}
use Rattle.std.specs.Prelude.{bytes_eq}
use Rattle.std.specs.List.{list_any}
use Rattle.sshc_hosts_openssh.proofs.certificate.has_principal.Given as goal

abbrev pub invariant-loop-principal : goal.invariant-loop-principal
invariant-loop-principal l =
    list_any (λ principal. bytes_eq principal l.host) l.principals ≡ list_any (λ principal. bytes_eq principal l.host) (drop l.principal-index l.principals)
