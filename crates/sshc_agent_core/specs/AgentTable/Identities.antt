-- 11, REQUEST_IDENTITIES (draft-miller-ssh-agent, section 3.5): the keys' blobs, each with an empty comment, in the
-- order in which they were added.
use Rattle.sshc_agent_core.specs.AgentList.{AgentList}
use Rattle.sshc_agent_core.specs.KeyList.{listing}
use Rattle.sshc_agent_core.specs.Turn.{Turn, answers}

abbrev pub identities_turn : AgentList → Turn
identities_turn l = answers l (listing l.keys)
