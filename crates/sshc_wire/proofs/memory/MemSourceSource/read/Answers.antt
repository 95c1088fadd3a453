use Rattle.std.proofs.Common.{ℕ, List, ap, sym, ◌∙◌}
use Rattle.sshc_wire.specs.Memory.{HeldSource, is_failing}
use Rattle.sshc_wire.proofs.Pieces.{next_bytes, range_to_end}
use Rattle.sshc_wire.proofs.Counts.{not_failing}
use Rattle.sshc_wire.proofs.memory.MemSourceSource.read.Goals as goal

pub returns-clause-bytes : goal.returns-clause-bytes
returns-clause-bytes c =
    ap (λ (s : HeldSource). s.left) (sym c.self.view_is)
    ∙ next_bytes c.self.inside.at c.copy_front-count.result c.self.inside.contents.items _ _ (range_to_end c.self.inside.at _ _ c.deref-2.ensures.value) c.copy_front-count.ensures.same

pub returns-clause-fails : goal.returns-clause-fails
returns-clause-fails c = λ yes.
    not_failing c.contains.result (is_failing c.self.inside.failing.items c.self.inside.calls)
    (ap (λ (items : List ℕ). is_failing items c.self.inside.calls) (sym c.deref.ensures.value) ∙ sym c.contains.ensures.value) c.if-contains.false
    (ap (λ (h : HeldSource). is_failing h.failing h.calls) c.self.view_is ∙ yes)
