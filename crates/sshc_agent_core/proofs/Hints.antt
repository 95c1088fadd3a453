-- Lemmas by which several goals of a function are proved, in sets.
use Rattle.sshc_agent_core.proofs.AskedLemmas.{asked_now, none_now, none_other}
use Rattle.sshc_agent_core.proofs.Constrained.{kept_fails, kept_next, kept_no_more, shorter}
use Rattle.sshc_agent_core.proofs.DueCuts.{cut_agree, none_cut, none_past}
use Rattle.sshc_agent_core.proofs.DueLemmas.{appended_agree, appended_apart, kept_apart, moved_agree, removed_agree, same_agree, set_agree, set_apart}
use Rattle.sshc_agent_core.proofs.Listable.{without_listable}
use Rattle.sshc_agent_core.proofs.Stepped.{goes, starves, starves_new}
use Rattle.sshc_agent_core.proofs.StoredLemmas.{held_blob, held_stored, place_stored, placed_by, with_held, with_none}

pub ruleset next_held = (kept_fails, kept_no_more, kept_next, shorter)

pub ruleset asks = (asked_now, none_now, none_other)

pub ruleset remove = (without_listable)

pub ruleset row = (goes, starves, starves_new)

pub ruleset expire = (cut_agree, kept_apart, none_past, none_cut, same_agree)

pub ruleset find_place = (held_stored, placed_by, place_stored)

pub ruleset drop_found = (removed_agree, kept_apart, same_agree)

pub ruleset replace = (moved_agree, set_agree, set_apart, same_agree)

pub ruleset put_key = (appended_agree, appended_apart, same_agree, with_held, with_none, held_blob)
