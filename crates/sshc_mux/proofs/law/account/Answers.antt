use Rattle.sshc_mux.proofs.AccountLaw.{made_life, ended_front}
use Rattle.sshc_mux.proofs.LegalLemmas.{legal_stays}
use Rattle.sshc_mux.proofs.AddressLemmas.{addressed}
use Rattle.sshc_mux.proofs.ClosingLaw.{closing}
use Rattle.sshc_mux.proofs.LifeLemmas.{step_moves}
use Rattle.sshc_mux.proofs.QuietLemmas.{quiet, silent}
use Rattle.sshc_mux.proofs.NumberLemmas.{next_is}
use Rattle.sshc_mux.proofs.law.account.Goals as goal

pub returns-clause-account : goal.returns-clause-account
returns-clause-account c = λ n l. (made_life n l).account

pub returns-clause-front : goal.returns-clause-front
returns-clause-front c = λ n l last gone. ended_front n l last gone

pub returns-clause-closing : goal.returns-clause-closing
returns-clause-closing c = λ n l up. closing n l up

pub returns-clause-part : goal.returns-clause-part
returns-clause-part c = λ n call t channel after legal here there. step_moves n call t channel after legal.apart (legal.sound n channel here) here there

pub returns-clause-legal : goal.returns-clause-legal
returns-clause-legal c = (λ last. record { apart = tt; sound = λ n channel no. absurd (cc) }, λ call t legal. legal_stays call t legal)

pub returns-clause-rules : goal.returns-clause-rules
returns-clause-rules c = record {
  quiet = λ call t h. quiet call t h;
  silent = λ call t h. silent call t h;
  addressed = λ call t legal. addressed call t legal.apart;
  numbers = λ t n free. next_is t n free;
}
