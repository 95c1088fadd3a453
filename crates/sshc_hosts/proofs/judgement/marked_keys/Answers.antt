use Rattle.sshc_hosts.specs.Judgement.{IsUnreadable}
use Rattle.sshc_hosts.specs.RefusalLaws.{read_lines-refuses}
use Rattle.sshc_hosts.proofs.Refusals.{errors_by}
use Rattle.sshc_hosts.proofs.judgement.marked_keys.Goals as goal

pub returns-clause-refusal : goal.returns-clause-refusal
returns-clause-refusal c = errors_by IsUnreadable _ _ _ tt c.read_lines.ensures (read_lines-refuses _)
