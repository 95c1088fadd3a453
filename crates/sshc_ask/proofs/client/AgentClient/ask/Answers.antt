use Rattle.std.proofs.Common.{◌≡◌, length, ap, arith, sym, subst, ◌∙◌, refl}
use Rattle.sshc_wire.specs.Beside.{Beside, side}
use Rattle.sshc_wire.specs.Contents.{append}
use Rattle.sshc_wire.specs.Wire.{string_text}
use Rattle.sshc_ask.specs.SourceState.{SourceState, ReadsAnswer, source_state}
use Rattle.sshc_ask.proofs.CallLemmas.{heard}
use Rattle.sshc_ask.proofs.client.AgentClient.ask.Goals as goal

pub returns : goal.returns
returns g c =
    let old = c.self.inside.stream in
    let mid = c.send.new.sink in
    let new = c.read_answer.new.source in
    let law = g.met.S.AgentStream in
    let unread : side (g.S.Source.left mid) (g.S.Source.reads mid) (g.S.Source.empty_reads mid) (g.S.Source.faults mid) ≡ side (g.S.Source.left old) (g.S.Source.reads old) (g.S.Source.empty_reads old) (g.S.Source.faults old)
    = sym (law.beside_writes mid) ∙ c.in_ok-send.ensures.apart ∙ law.beside_writes old in
    let unwritten : side (g.S.Sink.contents new) (g.S.Sink.writes new) (g.S.Sink.empty_writes new) (g.S.Sink.faults new) ≡ side (g.S.Sink.contents mid) (g.S.Sink.writes mid) (g.S.Sink.empty_writes mid) (g.S.Sink.faults mid)
    = sym (law.beside_reads new) ∙ c.read_answer.ensures.apart ∙ law.beside_reads mid in
    let whole : c.deref.result.now ≡ string_text c.args.message = c.deref.ensures.value ∙ c.in_ok-frame.ensures in
    rw (← c.self.view_is)
    (heard _ _ _ c.read_answer.result
    (record {
      held = ap (λ (b : Beside). b.bytes) unwritten ∙ c.in_ok-send.ensures.written.0 ∙ ap (append (g.S.Sink.contents old)) whole;
      faults = ap (λ (b : Beside). b.faults) unwritten ∙ c.in_ok-send.ensures.written.1;
      writes = omega (arith, ap (λ (b : Beside). b.calls) unwritten, c.in_ok-send.ensures.writes, ap length whole);
      refusals = refl;
    })
    (subst (λ (s : SourceState). ReadsAnswer s (source_state (g.S.Source.left new) (g.S.Source.reads new) (g.S.Source.faults new)) c.read_answer.result)
    (ap (λ (b : Beside). source_state b.bytes b.calls b.faults) unread) c.read_answer.ensures.read))
