-- Lemmas by which several goals of a function are proved, in sets.
use Rattle.sshc_wire.proofs.Extended.{extended, extended_on, unextended}
use Rattle.sshc_wire.proofs.NamesLemmas.{joined_on, names_first, names_none, names_skipped, names_whole}
use Rattle.sshc_wire.proofs.OutboxLemmas.{all_told, both_added, cut_to_old, first_taken, none_taken, nothing_more, one_shown, one_told, rest_told, texts_next, told_next}
use Rattle.sshc_wire.proofs.PackingLemmas.{cut_packed, cut_texts, cut_within, joined_from, joined_none, pushed_packed, pushed_texts, start_within, still_within}
use Rattle.sshc_wire.specs.NestedLaws.{string_ended}

pub ruleset extends = (extended, extended_on, unextended)

pub ruleset extends_joined = (joined_on, extended_on, unextended)

pub ruleset extends_string = (string_ended, extended, extended_on, unextended)

pub ruleset first_name = (names_first, names_skipped, names_whole, names_none)

pub ruleset take_first = (first_taken, none_taken, rest_told)

pub ruleset add_if_some = (nothing_more, one_shown, one_told)

pub ruleset add_both = (both_added, all_told, cut_to_old)

pub ruleset add_all = (texts_next, told_next, cut_to_old)

pub ruleset pushes = (pushed_packed, pushed_texts, still_within)

pub ruleset cut_back = (cut_packed, cut_texts, cut_within)

pub ruleset bytes_from = (start_within, joined_from, joined_none)
