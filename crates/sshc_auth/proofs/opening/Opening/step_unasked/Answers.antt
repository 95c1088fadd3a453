use Rattle.sshc_auth.proofs.StepLemmas.{by_table_unasked}
use Rattle.sshc_auth.proofs.opening.Opening.step_unasked.Goals as goal

pub returns : goal.returns
returns g c =
    by_table_unasked g.G.Gate.told_as (g.G.Gate.judges c.args.gate.now) g.G.Gate.tells g.G.Gate.tells_banner c.args.event.now c.args.self.now c.apply.new.self c.args.out.now c.apply.new.out
    (g.S.LocalSigner.calls c.args.signer.now) (g.S.LocalSigner.calls c.apply.new.signer) (g.S.LocalSigner.refusals c.args.signer.now) (g.S.LocalSigner.refusals c.apply.new.signer) (g.G.Gate.refusals c.args.gate.now) (g.G.Gate.setting c.args.gate.now)
    c.apply.result c.as_told.result c.requires.fresh c.requires.unasked c.as_told.ensures c.apply.ensures
