-- Lemmas by which several goals of a function are proved, in sets.
use Rattle.sshc_handle_calls.proofs.Answering.{answers, answers_at_once, answers_prompts, declined, declined_at_once, replies}
use Rattle.sshc_handle.proofs.OpenedLemmas.{answers_opened}

pub ruleset channel_calls = (declined, declined_at_once)

pub ruleset handle_calls = (answers, answers_at_once, answers_prompts, declined, declined_at_once, replies, answers_opened)
