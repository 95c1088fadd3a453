use Rattle.std.proofs.Common.{sym, ◌∙◌}
use Rattle.sshc_hosts.specs.AcceptanceLaws.{accepted_among}
use Rattle.sshc_hosts.specs.HostText.{host_text}
use Rattle.sshc_hosts.specs.Judgement.{keys_seen}
use Rattle.sshc_hosts.proofs.judgement.judge_text.Goals as goal

pub returns-clause-accepted : goal.returns-clause-accepted
returns-clause-accepted c is =
    accepted_among c.args.text.now (host_text c.args.host.now c.args.port) c.args.key.now.0 (keys_seen c.in_ok-keys.keys) c.judge_among.result
    (sym c.is_certificate.ensures ∙ c.if-is_certificate.false) c.in_ok-keys.ensures.keys c.judge_among.ensures is
