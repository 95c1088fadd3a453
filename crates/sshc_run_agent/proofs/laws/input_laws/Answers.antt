use Rattle.sshc_run_agent.specs.InputLaws.{gives_inputs, in_pieces}
use Rattle.sshc_run_agent.specs.PieceLaws.{in_one, in_two, same_turn}
use Rattle.sshc_run_agent.proofs.laws.input_laws.Goals as goal

pub returns-clause-pieces : goal.returns-clause-pieces
returns-clause-pieces c = λ s a b. (in_pieces s a b).0

pub returns-clause-all : goal.returns-clause-all
returns-clause-all c = λ s. gives_inputs s

pub returns-clause-in_two : goal.returns-clause-in_two
returns-clause-in_two c = λ now conn a b s gained t makes. in_two now conn a b s gained t makes

pub returns-clause-in_one : goal.returns-clause-in_one
returns-clause-in_one c = λ now conn a b s calls more mid last one two.
    in_one now conn a b s calls more mid last one two

pub returns-clause-same : goal.returns-clause-same
returns-clause-same c = λ now event s s' gained t same makes. same_turn now event s s' gained t same makes
