use Rattle.std.proofs.Common.{rules}
use Rattle.sshc_auth.specs.OpeningTable.{open_row}
use Rattle.sshc_auth.specs.Row.{signer_at, span}
use Rattle.sshc_auth.specs.Causes.{WasToldNo}
use Rattle.sshc_auth.proofs.FaultLemmas.{fault_rose}
use Rattle.sshc_auth.proofs.StepLemmas.{follows_cause, ended_cause}
use Rattle.sshc_auth.proofs.Rows.{signer_grows, step_went, step_opened, step_ended, step_refused}
use Rattle.sshc_auth.proofs.opening.Opening.apply.Goals as goal

pub returns-in-Ok-Went : goal.returns-in-Ok-Went
returns-in-Ok-Went g c =
    let asking = open_row c.args.self.now c.args.event.now c.args.told in
    let was = signer_at (g.S.LocalSigner.calls c.args.signer.now) (g.S.LocalSigner.refusals c.args.signer.now) in
    let is = signer_at (g.S.LocalSigner.calls c.row.new.signer) (g.S.LocalSigner.refusals c.row.new.signer) in
    let follows = rw c.in-Ok-Went.field-0-is at c.in-Ok-Went.ensures.row in
    record {
      closed = search rules;
      row = λ fresh. step_went asking was is (span c.args.self.now c.row.new.self c.args.out.now c.row.new.out) follows;
      cause = tt;
      signer = signer_grows asking (g.S.LocalSigner.calls c.args.signer.now) (g.S.LocalSigner.calls c.row.new.signer) (g.S.LocalSigner.refusals c.args.signer.now) (g.S.LocalSigner.refusals c.row.new.signer) (span c.args.self.now c.row.new.self c.args.out.now c.row.new.out) _ follows;
    }

pub returns-in-Ok-Opened : goal.returns-in-Ok-Opened
returns-in-Ok-Opened g c =
    let asking = open_row c.args.self.now c.args.event.now c.args.told in
    let was = signer_at (g.S.LocalSigner.calls c.args.signer.now) (g.S.LocalSigner.refusals c.args.signer.now) in
    let is = signer_at (g.S.LocalSigner.calls c.row.new.signer) (g.S.LocalSigner.refusals c.row.new.signer) in
    let follows = rw c.in-Ok-Opened.field-0-is at c.in-Ok-Opened.ensures.row in
    record {
      closed = search rules;
      row = λ fresh. rw c.shut.ensures (step_opened asking was is c.args.self.now c.row.new.self c.args.out.now c.row.new.out follows);
      cause = tt;
      signer = signer_grows asking (g.S.LocalSigner.calls c.args.signer.now) (g.S.LocalSigner.calls c.row.new.signer) (g.S.LocalSigner.refusals c.args.signer.now) (g.S.LocalSigner.refusals c.row.new.signer) (span c.args.self.now c.row.new.self c.args.out.now c.row.new.out) _ follows;
    }

pub returns-in-Ok-Ended : goal.returns-in-Ok-Ended
returns-in-Ok-Ended g c =
    let asking = open_row c.args.self.now c.args.event.now c.args.told in
    let was = signer_at (g.S.LocalSigner.calls c.args.signer.now) (g.S.LocalSigner.refusals c.args.signer.now) in
    let is = signer_at (g.S.LocalSigner.calls c.row.new.signer) (g.S.LocalSigner.refusals c.row.new.signer) in
    let follows = rw c.in-Ok-Ended.field-0-is at c.in-Ok-Ended.ensures.row in
    record {
      closed = search rules;
      row = λ fresh. rw (c.shut-in-Ok-Ended.ensures, c.into_ended.ensures) (step_ended asking was is c.args.self.now c.row.new.self c.args.out.now c.row.new.out c.in-Ok-Ended.e follows);
      cause = rw c.into_ended.ensures (ended_cause c.args.self.now c.args.event.now c.args.told was is (span c.args.self.now c.row.new.self c.args.out.now c.row.new.out) c.in-Ok-Ended.e follows);
      signer = signer_grows asking (g.S.LocalSigner.calls c.args.signer.now) (g.S.LocalSigner.calls c.row.new.signer) (g.S.LocalSigner.refusals c.args.signer.now) (g.S.LocalSigner.refusals c.row.new.signer) (span c.args.self.now c.row.new.self c.args.out.now c.row.new.out) _ follows;
    }

pub returns-in-Err : goal.returns-in-Err
returns-in-Err g c =
    let asking = open_row c.args.self.now c.args.event.now c.args.told in
    let was = signer_at (g.S.LocalSigner.calls c.args.signer.now) (g.S.LocalSigner.refusals c.args.signer.now) in
    let is = signer_at (g.S.LocalSigner.calls c.row.new.signer) (g.S.LocalSigner.refusals c.row.new.signer) in
    let follows = c.in-Err.ensures.row in
    let cause = follows_cause c.args.self.now c.args.event.now c.args.told was is (span c.args.self.now c.row.new.self c.args.out.now c.row.new.out) c.in-Err.e follows in
    record {
      closed = search rules;
      row = λ fresh. rw c.shut-in-Err.ensures (step_refused asking was is c.args.self.now c.row.new.self c.args.out.now c.row.new.out c.in-Err.e follows);
      cause = (cause, fault_rose (WasToldNo c.args.told) c.args.self.now c.args.event.now c.args.told was is (span c.args.self.now c.row.new.self c.args.out.now c.row.new.out) c.in-Err.e cause follows);
      signer = signer_grows asking (g.S.LocalSigner.calls c.args.signer.now) (g.S.LocalSigner.calls c.row.new.signer) (g.S.LocalSigner.refusals c.args.signer.now) (g.S.LocalSigner.refusals c.row.new.signer) (span c.args.self.now c.row.new.self c.args.out.now c.row.new.out) _ follows;
    }
