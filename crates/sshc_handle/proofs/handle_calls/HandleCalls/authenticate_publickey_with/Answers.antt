use Rattle.sshc_handle_calls.proofs.SigningAnswers.{answers_with}
use Rattle.sshc_handle.proofs.handle_calls.HandleCalls.authenticate_publickey_with.Goals as goal

-- what the call of the same name ensures, without the calls of its line
pub returns-clause-answer : goal.returns-clause-answer
returns-clause-answer g c = answers_with _ _ _ _ _ _ c.authenticate_publickey_with-answer.ensures
