-- Lemmas by which several goals of a function are proved, in sets.
use Rattle.sshc_client_state.proofs.LiveLemmas.{later_runs, live_runs, live_unmuted, nothing_more, shown_open, shown_told}
use Rattle.sshc_client_state.proofs.MoveLemmas.{after_accepts, after_closes, after_confirms, after_denies, after_ends_bytes, after_fails, after_grants, after_opens, after_peer_closes, after_receives, after_rejects, after_replied, after_resolves, after_resumes, after_sends, after_tells, same_number}
use Rattle.sshc_client_state.proofs.UnknownLemmas.{none_confirmed, none_failed}
use Rattle.sshc_client_table.specs.MoveLaws.{is_done, not_done}

pub ruleset reply = (live_runs, after_replied, not_done)

pub ruleset send = (live_unmuted, shown_open, after_sends, not_done)

pub ruleset end_bytes = (live_unmuted, shown_open, after_ends_bytes, not_done)

pub ruleset close = (live_unmuted, shown_open, after_closes, not_done)

pub ruleset close_by_peer = (live_unmuted, shown_open, after_peer_closes, not_done)

pub ruleset grant = (live_unmuted, shown_open, after_grants, not_done)

pub ruleset receive = (live_unmuted, shown_open, after_receives, not_done)

pub ruleset moves_on = (live_unmuted, shown_open, is_done, not_done)

pub ruleset resume = (live_unmuted, shown_open, after_resumes, not_done)

pub ruleset opens = (live_unmuted, shown_open, after_opens, same_number)

pub ruleset confirm = (live_runs, nothing_more, after_confirms, none_confirmed)

pub ruleset fail = (live_runs, nothing_more, after_fails, none_failed)

pub ruleset accept = (live_unmuted, shown_open, after_accepts, not_done)

pub ruleset opens_nothing = (live_unmuted, shown_open, nothing_more)

pub ruleset reject = (live_unmuted, shown_open, after_rejects, not_done)

pub ruleset tell = (shown_told, after_tells, not_done)

pub ruleset resolve = (live_runs, after_resolves, not_done)

pub ruleset deny = (later_runs, after_denies, not_done)
