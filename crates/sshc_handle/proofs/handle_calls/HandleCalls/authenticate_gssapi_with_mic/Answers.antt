use Rattle.sshc_handle_calls.proofs.SigningAnswers.{answers_by_steps}
use Rattle.sshc_handle.proofs.handle_calls.HandleCalls.authenticate_gssapi_with_mic.Goals as goal

-- what the call of the same name ensures, without the calls of its line
pub returns-clause-answer : goal.returns-clause-answer
returns-clause-answer g c = answers_by_steps _ _ _ _ c.authenticate_gssapi_with_mic-answer.ensures
