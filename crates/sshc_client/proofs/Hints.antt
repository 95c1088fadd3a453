-- Lemmas by which several goals of a function are proved, in sets.
use Rattle.sshc_client.proofs.AskedLemmas.{judged_in, key_refused, key_said_no, key_told, key_told_refused, not_asked, refused_banner, refused_exchange, told_banner, told_exchange}
use Rattle.sshc_client.proofs.BeforeLemmas.{exchange_there, not_live_early, refused_before, steps_behind}
use Rattle.sshc_client.proofs.HandlerLemmas.{asked_front, brought_back, called, confirmed_one, failed_one, kept_window, known_accepts, known_open, let_go_call, none_confirmed, none_failed, not_taken_open, not_taken_ran_out, own_with, passed_with, ran_out_with, refused_call, refused_with, reports_front, taken_accepts, taken_open}
use Rattle.sshc_client.proofs.RowLemmas.{disconnect_first, global_first, other_first}
use Rattle.sshc_client.proofs.StepLemmas.{before_steps, left_steps, live_steps, over_steps}

pub ruleset judge = (key_said_no, key_refused, key_told, key_told_refused)

pub ruleset ask_handler = (not_asked, told_exchange, told_banner, refused_exchange, refused_banner, judged_in)

pub ruleset step_asking = (exchange_there, steps_behind, refused_before)

pub ruleset handed_on = (ran_out_with, passed_with, refused_with)

pub ruleset confirmed = (ran_out_with, passed_with, refused_with, confirmed_one, none_confirmed)

pub ruleset failed_open = (ran_out_with, passed_with, refused_with, failed_one, none_failed)

pub ruleset known_opens = (ran_out_with, known_open, known_accepts)

pub ruleset unknown_open = (ran_out_with, passed_with, refused_with, taken_open, not_taken_open, not_taken_ran_out, taken_accepts)

pub ruleset passed = (passed_with, own_with)

pub ruleset first = (disconnect_first, global_first, other_first)

pub ruleset announced = (ran_out_with, refused_with, asked_front)

pub ruleset announce = (called, refused_call, let_go_call)

pub ruleset step_with = (over_steps, left_steps, live_steps, before_steps, not_live_early)

pub ruleset row = (refused_with, own_with)

pub ruleset reports = (ran_out_with, passed_with, refused_with, reports_front)

pub ruleset received = (kept_window, brought_back, ran_out_with)
