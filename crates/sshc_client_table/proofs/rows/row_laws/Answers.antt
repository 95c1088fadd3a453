use Rattle.sshc_client_table.specs.OpeningStaysLaws.{open_stays}
use Rattle.sshc_client_table.specs.OpenCauseLaws.{session_holds}
use Rattle.sshc_client_table.proofs.StepLawLemmas.{rows_keep}
use Rattle.sshc_client_table.specs.OneKeyLaws.{session_has}
use Rattle.sshc_client_table.proofs.rows.row_laws.Goals as goal

pub returns-clause-unopened : goal.returns-clause-unopened
returns-clause-unopened c = λ s event told is. open_stays s event told is

pub returns-clause-opened : goal.returns-clause-opened
returns-clause-opened c = λ accepts o s event is. session_holds accepts o s event is

pub returns-clause-laws : goal.returns-clause-laws
returns-clause-laws c = λ accepts o event s new went live followed. rows_keep accepts o event s new went live followed

pub returns-clause-key : goal.returns-clause-key
returns-clause-key c = λ accepts o s x on. session_has accepts o s x on
