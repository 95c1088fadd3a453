-- The status of the program.
use Rattle.std.proofs.Common.{◌≡◌, inl, inr, ℕ, Bool, true, false, List, [], Result, Ok, Err, refl, sym, ◌∙◌, arith}
use Rattle.sshc_wire.specs.ContentsLaws.{append-nothing}
use Rattle.sshc_forward_core.specs.declared.error.FwdError.{FwdError}
use Rattle.sshc_forward_core.specs.declared.error.FwdError.TheVariants as errors
use Rattle.sshc_forward_core.specs.ForwardPromises.{SinkState, Outside}
use Rattle.sshc_forward_core.specs.ForwardWords.{Adds, answer_line, status_of, is_write_fault, TellsBy, RunsBy}

-- memory ran out for the line
pub told_nothing : (line : List ℕ) (own : ℕ) (s : SinkState) → Adds line own s s 20
told_nothing line own s = inr (([], line, refl, sym (append-nothing s.contents)), inr (refl, refl))

error_apart : (e : FwdError) → status_of (Err e) ≡ 2 → ⊥
error_apart errors.NoMemory e = omega (arith, e)
error_apart errors.ReadFault e = omega (arith, e)
error_apart errors.WriteFault e = omega (arith, e)
error_apart (errors.BadEvent place) e = omega (arith, e)
error_apart (errors.Taken place) e = omega (arith, e)

status_apart : (answer : Result ℕ FwdError) → status_of answer ≡ 2 → ⊥
status_apart (Ok left) e = omega (arith, e)
status_apart (Err e) h = error_apart e h

adds_apart : (line : List ℕ) (own : ℕ) (before now : SinkState) (status : ℕ) → (own ≡ 2 → ⊥) → Adds line own before now status → status ≡ 2 → ⊥
adds_apart line own before now status apart adds e = elim adds [
  | inl whole ↦ apart (sym whole.0 ∙ e)
  | inr cut ↦ elim cut.1 [
    | inl fault ↦ omega (arith, fault.0, e)
    | inr memory ↦ omega (arith, memory.0, e)
  ]
]

tells_apart : (fault : Bool) (answer : Result ℕ FwdError) (before now : SinkState) (status : ℕ) → TellsBy fault answer before now status → status ≡ 2 → ⊥
tells_apart true answer before now status t e = omega (arith, t.0, e)
tells_apart false answer before now status t e = adds_apart (answer_line answer) (status_of answer) before now status (status_apart answer) t e

-- a run's status isn't that of arguments
pub runs_apart : (before now : Outside) (status : ℕ) → RunsBy before now status → status ≡ 2 → ⊥
runs_apart before now status (answer, behind, promises, tells) e = tells_apart (is_write_fault answer) answer behind now.sink status tells e
