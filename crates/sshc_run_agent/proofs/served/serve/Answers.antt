use Rattle.std.proofs.Common.{arith, sym, ◌∙◌}
use Rattle.sshc_run_agent.specs.InputLaws.{next_less, no_more, one_more}
use Rattle.sshc_run_agent.proofs.Steps.{on_error}
use Rattle.sshc_run_agent.proofs.ServedSteps.{cut_between, gained_two, goes_cut, goes_more, goes_none}
use Rattle.sshc_run_agent.proofs.served.serve.Goals as goal

pub returns-in_err-input-clause-err : goal.returns-in_err-input-clause-err
returns-in_err-input-clause-err g c = on_error c.from_residual.result _ (cut_between c.args.now c.args.conn _ c.args.core.now _ c.inputs.out.records _ c.inputs.core c.inputs.invariant.on)

pub returns-in_default-clause-ok : goal.returns-in_default-clause-ok
returns-in_default-clause-ok g c =
    let none = rw c.in_default.is at c.in_ok-input.ensures in
    goes_none c.args.now c.args.conn _ c.args.core.now c.inputs.frames _ c.inputs.out.records c.inputs.core none.0 c.inputs.invariant.on

pub returns-in_default-clause-rest : goal.returns-in_default-clause-rest
returns-in_default-clause-rest g c =
    let none = rw c.in_default.is at c.in_ok-input.ensures in
    none.1 ∙ sym (no_more c.inputs.frames none.0).1 ∙ c.inputs.invariant.rest

pub inputs-smaller : goal.inputs-smaller
inputs-smaller g c =
    let some = rw c.in-Some.is at c.in_ok-input.ensures in
    next_less c.inputs.frames (c.in-Some.input, c.next.new.self) some

pub inputs-preserved : goal.inputs-preserved
inputs-preserved g c =
    let some = rw c.in-Some.is at c.in_ok-input.ensures in
    record {
      unmuted = c.take_whole.ensures.open;
      gained = gained_two (g.G.LocalSigner.calls c.args.signer.now) (g.G.LocalSigner.calls c.inputs.signer) (g.G.LocalSigner.calls c.take_whole.new.signer) c.inputs.invariant.gained c.take_whole.ensures.gained;
      later = omega (arith, c.inputs.invariant.later, c.take_whole.ensures.later);
      rest = sym (one_more c.inputs.frames (c.in-Some.input, c.next.new.self) some).1 ∙ c.inputs.invariant.rest;
      on = goes_more c.args.now c.args.conn _ c.args.core.now c.inputs.frames c.next.new.self c.in-Some.input some (g.G.LocalSigner.calls c.args.signer.now) (g.G.LocalSigner.calls c.inputs.signer) (g.G.LocalSigner.calls c.take_whole.new.signer)
          c.inputs.invariant.gained c.take_whole.ensures.gained c.inputs.out.records c.inputs.core c.inputs.invariant.on c.take_whole.new.core c.take_whole.new.out.records c.in_ok-take_whole.ensures.ok;
    }

pub returns-in_err-take_whole-clause-err : goal.returns-in_err-take_whole-clause-err
returns-in_err-take_whole-clause-err g c =
    let some = rw c.in-Some.is at c.in_ok-input.ensures in
    on_error c.from_residual-in_err-take_whole.result _
    (goes_cut c.args.now c.args.conn _ c.args.core.now c.inputs.frames c.next.new.self c.in-Some.input some (g.G.LocalSigner.calls c.args.signer.now) (g.G.LocalSigner.calls c.inputs.signer) (g.G.LocalSigner.calls c.take_whole.new.signer)
    c.inputs.invariant.gained c.take_whole.ensures.gained c.inputs.out.records c.inputs.core c.inputs.invariant.on c.in_err-take_whole.ensures.err)
