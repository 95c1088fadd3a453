use Rattle.sshc_proxy_session.proofs.WayLemmas.{parted_at}
use Rattle.sshc_proxy_session.proofs.bound.parted.Goals as goal

pub returns-in-len1-up : goal.returns-in-len1-up
returns-in-len1-up c = parted_at _ _ c.in-len1-up.len_at_least c.last-item.is
