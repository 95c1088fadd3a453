use Rattle.std.proofs.Common.{◌≡◌, ◌≤◌, Ok, drop, length, take, sym, ap, ◌∙◌, arith}
use Rattle.std.specs.Int.{w32}
use Rattle.sshc_wire.specs.Reads.{number_at}
use Rattle.sshc_agent_core.specs.AgentFrames.{next_in}
use Rattle.sshc_agent_core.proofs.Fronts.{carried, frame_front, frame_within, range_to_end}
use Rattle.sshc_agent_core.proofs.frames.Frames.next.Goals as goal

pub invariant_of-self-2 : goal.invariant_of-self-2
invariant_of-self-2 c =
    let left : c.new-c.result ≡ drop c.self.inside.at c.self.inside.bytes.items = c.new-c.ensures ∙ range_to_end c.self.inside.at c.deref.result.now c.self.inside.bytes.items c.deref.ensures.value in
    let read : number_at w32 (drop c.self.inside.at c.self.inside.bytes.items) ≡ Ok (c.in-Ok.length, c.u32.new.self) = ap (number_at w32) (sym left) ∙ c.in-Ok.ensures in
    let fits : c.in-Ok.length ≤ length c.u32.new.self = omega (arith, ap length c.rest-rest.ensures.same, c.if-rest-count.false) in
    frame_within c.self.inside.bytes.items c.self.inside.at c.in-Ok.length c.u32.new.self c.self.invariant read fits

pub returns : goal.returns
returns c =
    let left : c.new-c.result ≡ drop c.self.inside.at c.self.inside.bytes.items = c.new-c.ensures ∙ range_to_end c.self.inside.at c.deref.result.now c.self.inside.bytes.items c.deref.ensures.value in
    let read : number_at w32 (drop c.self.inside.at c.self.inside.bytes.items) ≡ Ok (c.in-Ok.length, c.u32.new.self) = ap (number_at w32) (sym left) ∙ c.in-Ok.ensures in
    let fits : c.in-Ok.length ≤ length c.u32.new.self = omega (arith, ap length c.rest-rest.ensures.same, c.if-rest-count.false) in
    let small : c.in-Ok.length ≤ 262144 = omega (arith, c.if-length-gt-MAX_AGENT_FRAME_LEN.false) in
    let taken : c.in_ok-frame.frame ≡ take c.in-Ok.length c.u32.new.self = c.in_ok-frame.ensures ∙ ap (take c.in-Ok.length) c.rest-rest.ensures.same in
    ap next_in (sym c.self.view_is)
    ∙ carried c.self.inside.is_over _ _ _ c.if-self.false (frame_front c.self.inside.bytes.items c.self.inside.at c.in-Ok.length c.u32.new.self c.in_ok-frame.frame read small fits taken)
