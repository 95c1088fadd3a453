use Rattle.sshc_client_table.proofs.AccountLemmas.{accounted, has_account}
use Rattle.sshc_client_table.specs.GrownLaws.{grown_closed}
use Rattle.sshc_client_table.specs.KeepLaws.{grown_keeps}
use Rattle.sshc_client_table.proofs.KeptLemmas.{grown_keeps_channels}
use Rattle.sshc_client_table.proofs.OpensLemmas.{answers_where_it_waits}
use Rattle.sshc_client_table.proofs.StayLemmas.{answered_stays}
use Rattle.sshc_client_table.proofs.QuietLemmas.{idle}
use Rattle.sshc_client_table.proofs.ReplyLemmas.{flagged, in_order}
use Rattle.sshc_client_table.proofs.TakenLemmas.{only_added}
use Rattle.sshc_client_table.proofs.law.session_laws.Goals as goal

pub returns-clause-accounted : goal.returns-clause-accounted
returns-clause-accounted c = λ moves s. accounted moves s

pub returns-clause-lives : goal.returns-clause-lives
returns-clause-lives c = λ moves s n l lives. has_account c.account.ensures.account moves s n l lives

pub returns-clause-quiet : goal.returns-clause-quiet
returns-clause-quiet c = λ m s. idle m s

pub returns-clause-replies : goal.returns-clause-replies
returns-clause-replies c = record { order = λ moves s. in_order moves s; flags = λ ask. flagged ask }

pub returns-clause-records : goal.returns-clause-records
returns-clause-records c = λ before moves s. only_added before moves s

pub returns-clause-grown : goal.returns-clause-grown
returns-clause-grown c = grown_closed

pub returns-clause-keeps : goal.returns-clause-keeps
returns-clause-keeps c = λ old new grown. grown_keeps old new grown

pub returns-clause-opens : goal.returns-clause-opens
returns-clause-opens c = record {
  waits = λ m s legal. answers_where_it_waits m s legal;
  stays = λ n m s legal none new. answered_stays c.account.ensures.part n m s legal none new;
}

pub returns-clause-channels : goal.returns-clause-channels
returns-clause-channels c = λ old new n channel legal grown found.
    grown_keeps_channels c.account.ensures.part c.account.ensures.rules c.account.ensures.legal old new n channel legal grown found
