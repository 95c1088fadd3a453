use Rattle.std.proofs.Common.{ap, ◌∙◌, arith}
use Rattle.sshc_key.specs.View.{view}
use Rattle.sshc_hosts_openssh.specs.HostStatus.{findings}
use Rattle.sshc_hosts_openssh.proofs.ReadingLemmas.{next_line, last_of, status_of}
use Rattle.sshc_hosts_openssh.proofs.judgement.status_by.Goals as goal

pub returns-in-None : goal.returns-in-None
returns-in-None c =
    let last = rw c.in-None.is at c.cut.ensures.none in
    c.status.ensures ∙ ap (status_of c.args.good) c.with_line-deciding.ensures
    ∙ last_of c.args.text.now c.args.name.now (view c.args.key.now) c.args.good c.lines.deciding c.in_ok-said.said c.lines.number c.lines.left.now _ c.lines.invariant.0 last c.in_ok-said.ensures

pub lines-preserved : goal.lines-preserved
lines-preserved c =
    let cut = rw c.in-Some.is at c.cut.ensures.some in
    let less = rw c.in-Some.is at c.cut.ensures.shorter in
    let so = next_line c.args.name.now (view c.args.key.now) c.lines.deciding c.in_ok-said.said c.lines.number c.lines.left.now _ c.in-Some.others.now
    (findings c.args.text.now c.args.name.now (view c.args.key.now)) c.lines.invariant.0 cut c.in_ok-said.ensures in
    let counted = c.lines.invariant.1 in
    (rw c.with_line-deciding.ensures so, omega (arith, less, counted))
