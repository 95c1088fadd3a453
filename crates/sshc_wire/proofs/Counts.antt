-- Counts of calls that moved nothing.
use Rattle.std.proofs.Common.{◌≡◌, ℕ, ◌+◌, ◌-◌, ◌^◌, Bool, true, false, eqb, Ok, refl, min, cond}
use Rattle.std.specs.Prelude.{◌&&◌, nat_lt}
use Rattle.std.proofs.lemmas.Bool.{eqb-true}
use Rattle.std.proofs.Common.{Err, ap, ◌∙◌, arith}
use Rattle.sshc_wire.specs.Faults.{CountsEmpty, HasCause}
use Rattle.sshc_wire.specs.declared.source.Failed.{Failed}
use Rattle.sshc_wire.specs.declared.source.Failed.TheVariants.{Fault}

not_equal : (b : Bool) (n m before now : ℕ) → (b ≡ true → n ≡ 0) → (n ≡ 0 → ⊥) → now ≡ cond (b && nat_lt 0 m) (min (before + 1) (2 ^ 64 - 1)) before → now ≡ before
not_equal true n m before now same some e = absurd (some (same refl))
not_equal false n m before now same some e = e

-- a call that moved a byte isn't counted
pub some_moved : (n size before now : ℕ) → (n ≡ 0 → ⊥) → CountsEmpty (Ok n) size before now → now ≡ before
some_moved n size before now some e = not_equal (eqb n 0) n size before now (eqb-true n 0) some e

-- a call whose number isn't among those that fail
pub not_failing : {A : Type 0} (b found : Bool) → found ≡ b → b ≡ false → found ≡ true → A
not_failing b found is none told = absurd cc

-- the cause of an error, where the count stayed before it
pub still_cause : {S T : Type 0} (before middle now : ℕ) (e : Failed) → middle ≡ before → HasCause {T = S} middle now (Err e) → HasCause {T = T} before now (Err e)
still_cause {S} {T} before middle now e same cause = record {
  later = omega (arith, cause.later);
  fault = λ is. let f : e ≡ Fault = cc in omega (arith, cause.fault (ap Err f));
  same = λ no. cause.same (λ is. no (let f : e ≡ Fault = cc in ap Err f)) ∙ same;
}
