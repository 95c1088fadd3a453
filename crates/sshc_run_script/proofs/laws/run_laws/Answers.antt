use Rattle.sshc_run_script.proofs.laws.run_laws.Goals as goal

pub returns : goal.returns
returns c = record {
  laws = record {
    replies = c.session_laws.ensures.replies;
    accounted = c.session_laws.ensures.accounted;
    opens = c.session_laws.ensures.opens;
    account = c.account.ensures.account;
    legal = c.account.ensures.legal;
    fronts = c.account.ensures.front;
    rows = c.row_laws.ensures.laws;
  };
}
