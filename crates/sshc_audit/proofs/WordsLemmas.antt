-- No answer has the status of invalid arguments.
use Rattle.std.proofs.Common.{◌≡◌, inl, inr, ℕ, List, Option, Result, Ok, Err, sym, ◌∙◌, arith}
use Rattle.sshc_hosts_words.specs.Adding.{Adds}
use Rattle.sshc_audit.specs.declared.refusal.Refusal.{Refusal}
use Rattle.sshc_audit.specs.declared.refusal.Refusal.TheVariants as refusal
use Rattle.sshc_audit.specs.AuditWords.{Asked, written_for, status_for, Outside, Audits}

status_apart : (answer : Result (List ℕ) Refusal) → status_for answer ≡ 2 → ⊥
status_apart (Ok new) e = omega (arith, e)
status_apart (Err refusal.KnownFile) e = omega (arith, e)
status_apart (Err refusal.SaltFault) e = omega (arith, e)
status_apart (Err refusal.NoMemory) e = omega (arith, e)

adds_apart : (line : List ℕ) (own : ℕ) (held now : Option (List ℕ)) (faults faults' status : ℕ) → (own ≡ 2 → ⊥) → Adds line own held now faults faults' status → status ≡ 2 → ⊥
adds_apart line own held now faults faults' status apart adds e = elim adds [
  | inl whole ↦ apart (sym whole.0 ∙ e)
  | inr cut ↦ elim cut.1 [
    | inl fault ↦ omega (arith, fault.0, e)
    | inr memory ↦ omega (arith, memory.0, e)
  ]
]

pub audits_apart : (asked : Asked) (before after : Outside) (status : ℕ) → Audits asked before after status → status ≡ 2 → ⊥
audits_apart asked before after status (answer, is, writes) e =
    adds_apart (written_for answer) (status_for answer) before.written after.written before.writes after.writes status (status_apart answer) writes.adds e
