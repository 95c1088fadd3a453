-- Constraints that are read one after the other.
use Rattle.std.proofs.Common.{◌≡◌, ℕ, ◌<◌, ◌≤◌, List, [], ◌∷◌, length, Option, Some, None, Result, Ok, Err, refl, ap, ◌∙◌, subst, arith, length-drop, drop, take, cond, true, false, Bool}
use Rattle.std.specs.Prelude.{nat_lt, ◌==◌}
use Rattle.std.specs.Int.{w32, from_be_bytes}
use Rattle.sshc_wire.specs.declared.error.WireError.{WireError}
use Rattle.sshc_wire.specs.declared.error.WireError.TheVariants.{Short}
use Rattle.sshc_wire.specs.FormatLaws.{bind_ok, ok_is}
use Rattle.sshc_wire.specs.Reads.{◌>>=◌, byte_at, number_at}
use Rattle.sshc_wire.specs.Whole.{Takes, all_at}
use Rattle.sshc_wire.specs.WholeLaws.{all_fails, all_more, all_none}
use Rattle.sshc_agent_core.specs.declared.constraints.Constraints.{Constraints}
use Rattle.sshc_agent_core.specs.AgentTable.Add.{and_so, constraint_at, kept_in, with_one}

number_shorter : (bytes : List ℕ) (n : ℕ) (rest : List ℕ) → number_at w32 bytes ≡ Ok (n, rest) → length rest ≤ length bytes
unfolding number_at
number_shorter bytes n rest e = by_test (nat_lt (length bytes) 4) e
  where
    by_test : (b : Bool) → cond {A = Result (ℕ × List ℕ) WireError} b (Err Short) (Ok (from_be_bytes w32 (take 4 bytes), drop 4 bytes)) ≡ Ok (n, rest) → length rest ≤ length bytes
    by_test true e = absurd cc
    by_test false e = let is = ok_is {E = WireError} (from_be_bytes w32 (take 4 bytes), drop 4 bytes) (n, rest) e in subst (λ (p : ℕ × List ℕ). length p.1 ≤ length bytes) is (omega (arith, length-drop 4 bytes))

kind_shorter : (a b : Bool) (rest : List ℕ) (x : Option ℕ × List ℕ)
    → cond a (number_at w32 rest >>= λ seconds. Ok (Some seconds.0, seconds.1)) (cond b (Ok (None, rest)) (Err Short)) ≡ Ok x → length x.1 ≤ length rest
kind_shorter true b rest x e =
    let n = bind_ok (number_at w32 rest) (λ seconds. Ok (Some seconds.0, seconds.1)) x e in
    let short = number_shorter rest n.0.0 n.0.1 n.1 in
    let is = ok_is {E = WireError} (Some n.0.0, n.0.1) x n.2 in
    subst (λ (p : Option ℕ × List ℕ). length p.1 ≤ length rest) is short
kind_shorter false true rest x e = let is = ok_is {E = WireError} (None, rest) x e in subst (λ (p : Option ℕ × List ℕ). length p.1 ≤ length rest) is (omega arith)
kind_shorter false false rest x e = absurd cc

pub takes_constraint : Takes constraint_at
unfolding constraint_at byte_at
takes_constraint [] x rest e = absurd cc
takes_constraint (kind ∷ bytes) x rest e = let short = kind_shorter (kind == 1) (kind == 2) bytes (x, rest) e in omega (arith, short)

-- one more is read
and_then : (r : Result (List (Option ℕ)) WireError) (one : Option ℕ) (c : Constraints) → kept_in (r >>= λ xs. Ok (one ∷ xs)) c ≡ and_so (with_one c one) (kept_in r)
and_then (Ok xs) one c = refl
and_then (Err e) one c = by_next (with_one c one)
  where
    by_next : (o : Option Constraints) → None ≡ and_so o (kept_in (Err e))
    by_next None = refl
    by_next (Some d) = refl

pub kept_next : (bytes : List ℕ) (one : Option ℕ) (rest : List ℕ) (c d : Constraints) → constraint_at bytes ≡ Ok (one, rest) → with_one c one ≡ Some d → kept_in (all_at constraint_at bytes) c ≡ kept_in (all_at constraint_at rest) d
kept_next bytes one rest c d e more =
    ap (λ (r : Result (List (Option ℕ)) WireError). kept_in r c) (all_more constraint_at takes_constraint bytes one rest e)
    ∙ and_then (all_at constraint_at rest) one c
    ∙ ap (λ (o : Option Constraints). and_so o (kept_in (all_at constraint_at rest))) more

pub kept_no_more : (bytes : List ℕ) (one : Option ℕ) (rest : List ℕ) (c : Constraints) → constraint_at bytes ≡ Ok (one, rest) → with_one c one ≡ None → kept_in (all_at constraint_at bytes) c ≡ None
kept_no_more bytes one rest c e none =
    ap (λ (r : Result (List (Option ℕ)) WireError). kept_in r c) (all_more constraint_at takes_constraint bytes one rest e)
    ∙ and_then (all_at constraint_at rest) one c
    ∙ ap (λ (o : Option Constraints). and_so o (kept_in (all_at constraint_at rest))) none

pub kept_fails : (bytes : List ℕ) (c : Constraints) (e : WireError) → 0 < length bytes → constraint_at bytes ≡ Err e → kept_in (all_at constraint_at bytes) c ≡ None
kept_fails bytes c e some fails = ap (λ (r : Result (List (Option ℕ)) WireError). kept_in r c) (all_fails constraint_at bytes e some fails)

pub kept_all : (c : Constraints) → kept_in (all_at constraint_at []) c ≡ Some c
kept_all c = ap (λ (r : Result (List (Option ℕ)) WireError). kept_in r c) (all_none constraint_at)

pub shorter : (bytes : List ℕ) (one : Option ℕ) (rest : List ℕ) → constraint_at bytes ≡ Ok (one, rest) → length rest < length bytes
shorter bytes one rest e = takes_constraint bytes one rest e
