use Rattle.sshc_proxy_session.proofs.HistoryLemmas.{remembers_more}
use Rattle.sshc_proxy_session.proofs.connection.SessionConnection.apply.Goals as goal

pub returns-clause-history : goal.returns-clause-history
returns-clause-history c = λ accepts steps told knows. remembers_more accepts _ steps _ _ _ _ _ c.knows_bytes.ensures told c.take.ensures.row knows
