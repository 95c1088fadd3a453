use Rattle.std.proofs.Common.{◌≡◌, true, ◌∙◌, sym}
use Rattle.sshc_agent_core.specs.KeyList.{has_room}
use Rattle.sshc_agent_core.proofs.Listable.{put_keeps}
use Rattle.sshc_agent_core.proofs.agent_core.AgentCore.add_key.Goals as goal

pub invariant_of-self : goal.invariant_of-self
invariant_of-self c =
    let room : has_room c.self.inside.keys c.args.key.blob ≡ true = sym c.has_room.ensures ∙ c.if-not-has_room.false in
    put_keeps c.put.result c.self.inside.keys c.put.new.self c.args.key c.put.ensures.ok c.put.ensures.err c.self.invariant room
