use Rattle.std.proofs.Common.{ℕ, List, ap, sym, ◌∙◌}
use Rattle.sshc_wire.specs.Memory.{HeldSink, is_failing}
use Rattle.sshc_wire.proofs.Counts.{not_failing}
use Rattle.sshc_wire.proofs.memory.MemSinkSink.write.Goals as goal

pub returns-in-Ok-clause-fails : goal.returns-in-Ok-clause-fails
returns-in-Ok-clause-fails c = λ yes.
    not_failing c.contains.result (is_failing c.self.inside.failing.items c.self.inside.calls)
    (ap (λ (items : List ℕ). is_failing items c.self.inside.calls) (sym c.deref.ensures.value) ∙ sym c.contains.ensures.value) c.if-contains.false
    (ap (λ (h : HeldSink). is_failing h.failing h.calls) c.self.view_is ∙ yes)

pub returns-in-Err-clause-fails : goal.returns-in-Err-clause-fails
returns-in-Err-clause-fails c = λ yes.
    not_failing c.contains.result (is_failing c.self.inside.failing.items c.self.inside.calls)
    (ap (λ (items : List ℕ). is_failing items c.self.inside.calls) (sym c.deref.ensures.value) ∙ sym c.contains.ensures.value) c.if-contains.false
    (ap (λ (h : HeldSink). is_failing h.failing h.calls) c.self.view_is ∙ yes)
