use Rattle.std.proofs.Common.{ℕ, List, ap, sym, ◌∙◌}
use Rattle.sshc_wire.specs.Memory.{HeldFiles, is_failing}
use Rattle.sshc_wire.proofs.Counts.{not_failing}
use Rattle.sshc_wire.proofs.memory.MemFilesFiles.append.Goals as goal

pub returns-clause-fails : goal.returns-clause-fails
returns-clause-fails c = λ yes.
    not_failing c.contains.result (is_failing c.self.inside.failing.items c.self.inside.calls)
    (ap (λ (items : List ℕ). is_failing items c.self.inside.calls) (sym c.deref.ensures.value) ∙ sym c.contains.ensures.value) c.if-contains.false
    (ap (λ (h : HeldFiles). is_failing h.failing h.calls) c.self.view_is ∙ yes)
