use Rattle.sshc_proxy.specs.ProxyWords.{two_words}
use Rattle.sshc_proxy.proofs.words.proxy_words.Goals as goal

pub returns-in-Some-clause-ends : goal.returns-in-Some-clause-ends
returns-in-Some-clause-ends g c = two_words _ _ c.in-Some.ensures.some c.proxy_places.ensures.ends
