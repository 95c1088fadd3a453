-- The core's maps after one of their entries was written.
use Rattle.std.proofs.Common.{◌≡◌, ℕ, cond, List, [], Option, Some, None, Result, Ok, Err, Vec, sym, ap, subst, ◌∙◌}
use Rattle.std.specs.Prelude.{nat_eq}
use Rattle.std.specs.Ordering.{nat_cmp}
use Rattle.std.specs.Map.{lookup}
use Rattle.std.specs.FinMap.{FinMap, get, insert, from_entries}
use Rattle.std.specs.declared.alloc.Global.{Global}
use Rattle.sshc_wire.specs.declared.error.NoMemory.{NoMemory}
use Rattle.sshc_forward_core.specs.declared.event.FwdEvent.{FwdEvent}
use Rattle.sshc_forward_core.specs.declared.output.FwdOutput.{FwdOutput}
use Rattle.sshc_forward_core.specs.PairState.{PairState}
use Rattle.sshc_forward_core.specs.PairTurns.{Follows, turn}
use Rattle.sshc_forward_core.specs.Forwards.{Forwards, Does, turned, turn_at}
use Rattle.sshc_forward_core.proofs.MapLemmas.{get_is, inserted, insert_same}

-- the pair of a stream took its turn where it lies
took_turn :
    (s : ℕ) (event : FwdEvent) (es fs : List (ℕ × PairState)) (joined : FinMap nat_cmp ℕ) (p q : PairState) (r : Result (Vec FwdOutput Global) NoMemory) →
    get (from_entries {R = nat_cmp} es) s ≡ Some p →
    ((k : ℕ) → lookup (nat_eq k) fs ≡ cond (nat_eq s k) (Some q) (lookup (nat_eq k) es)) →
    Follows (turn s event p) p q r →
    let t : Forwards = record { pairs = from_entries es; joined = joined } in
    Does (turned s event (Some p) t) t (record { pairs = from_entries fs; joined = joined }) r
took_turn s event es fs joined p q (Ok outputs) at changed f = (
  ap (λ (m : FinMap nat_cmp PairState). let t : Forwards = record { pairs = m; joined = joined } in t)
      (inserted es fs s q changed ∙ ap (insert (from_entries es) s) f.0),
  f.1,
)
took_turn s event es fs joined p q (Err e) at changed f =
    ap (λ (m : FinMap nat_cmp PairState). let t : Forwards = record { pairs = m; joined = joined } in t)
    (inserted es fs s q changed ∙ ap (insert (from_entries es) s) f ∙ insert_same (from_entries es) s p at)

pub turned_there :
    (s : ℕ) (event : FwdEvent) (es fs : List (ℕ × PairState)) (joined : FinMap nat_cmp ℕ) (p q : PairState) (r : Result (Vec FwdOutput Global) NoMemory) →
    lookup (nat_eq s) es ≡ Some p →
    ((k : ℕ) → lookup (nat_eq k) fs ≡ cond (nat_eq s k) (Some q) (lookup (nat_eq k) es)) →
    Follows (turn s event p) p q r →
    let t : Forwards = record { pairs = from_entries es; joined = joined } in
    Does (turn_at s event t) t (record { pairs = from_entries fs; joined = joined }) r
turned_there s event es fs joined p q r there changed f =
    let at = get_is es s ∙ there in
    let t : Forwards = record { pairs = from_entries es; joined = joined } in
    let after : Forwards = record { pairs = from_entries fs; joined = joined } in
    subst (λ (o : Option PairState). Does (turned s event o t) t after r) (sym at) (took_turn s event es fs joined p q r at changed f)

pub turned_away :
    (s : ℕ) (event : FwdEvent) (es fs : List (ℕ × PairState)) (joined : FinMap nat_cmp ℕ) (outputs : List FwdOutput) →
    lookup (nat_eq s) es ≡ None → fs ≡ es → outputs ≡ [] →
    let t : Forwards = record { pairs = from_entries es; joined = joined } in
    let after : Forwards = record { pairs = from_entries fs; joined = joined } in
    (after ≡ (turn_at s event t).after) × (outputs ≡ (turn_at s event t).outputs)
turned_away s event es fs joined outputs away same nothing =
    let t : Forwards = record { pairs = from_entries es; joined = joined } in
    let after : Forwards = record { pairs = from_entries fs; joined = joined } in
    subst (λ (o : Option PairState). (after ≡ (turned s event o t).after) × (outputs ≡ (turned s event o t).outputs)) (sym (get_is es s ∙ away))
    (ap (λ (l : List (ℕ × PairState)). let x : Forwards = record { pairs = from_entries l; joined = joined } in x) same, nothing)
