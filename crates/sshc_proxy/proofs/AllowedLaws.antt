-- The policy's test says exactly what is allowed: nothing where no host is bound, and else a key that the policy names for
-- each bound host.
use Rattle.std.proofs.Common.{◌≡◌, ℕ, suc, Bool, true, false, List, [], ◌∷◌, refl, ap, ◌∙◌, inl, inr, arith}
use Rattle.std.specs.Prelude.{◌&&◌, Contains, bytes_eq}
use Rattle.std.specs.List.{AllByRecursion, list_all, list_any}
use Rattle.std.proofs.lemmas.Bool.{and_parts, eq-eqb, or_cases}
use Rattle.std.proofs.lemmas.List.Elements.{All-from_recursion, recursion_from_All}
use Rattle.std.proofs.lemmas.List.Folds.{list_any_at}
use Rattle.sshc_wire.specs.LookupLaws.{same_bytes}
use Rattle.sshc_proxy.specs.Policy.{Rule, allowed, is_rule, names}
use Rattle.sshc_proxy.specs.ProxyHistory.{IsAllowed}

-- ---- what passes the test is allowed

rule_there : (policy : List Rule) (key host : List ℕ) → list_any (is_rule key host) policy ≡ true → Contains policy (key, host)
rule_there [] key host e = absurd cc
rule_there (rule ∷ policy) key host e = elim (or_cases (is_rule key host rule) (list_any (is_rule key host) policy) e) [
  | inl here ↦
      let h = and_parts _ _ here in
      let is : rule ≡ (key, host) = ap (λ (k : List ℕ). let r : Rule = (k, rule.1) in r) (same_bytes rule.0 key h.0) ∙ ap (λ (k : List ℕ). let r : Rule = (key, k) in r) (same_bytes rule.1 host h.1) in
      (0, omega arith, is)
  | inr later ↦ let c = rule_there policy key host later in (suc c.0, omega (arith, c.1), c.2)
]

all_named : (policy : List Rule) (hosts : List (List ℕ)) (key : List ℕ) → list_all (names policy key) hosts ≡ true → AllByRecursion (λ host. Contains policy (key, host)) hosts
all_named policy [] key e = tt
all_named policy (host ∷ hosts) key e = let h = and_parts (names policy key host) (list_all (names policy key) hosts) e in (rule_there policy key host h.0, all_named policy hosts key h.1)

pub allowed_is : (policy : List Rule) (hosts : List (List ℕ)) (key : List ℕ) → allowed policy hosts key ≡ true → IsAllowed policy hosts key
unfolding allowed
allowed_is policy [] key e = absurd cc
allowed_is policy (host ∷ hosts) key e = record {
  bound = λ none. absurd cc;
  named = All-from_recursion (λ h. Contains policy (key, h)) (host ∷ hosts) (all_named policy (host ∷ hosts) key e);
}

-- a key is never allowed where no host is bound
pub nothing_bound : (policy : List Rule) (key : List ℕ) → allowed policy [] key ≡ false
unfolding allowed
nothing_bound policy key = refl

-- ---- what is allowed passes the test

same_passes : (bytes : List ℕ) → bytes_eq bytes bytes ≡ true
same_passes [] = refl
same_passes (b ∷ bytes) = ap (λ (same : Bool). same && bytes_eq bytes bytes) (eq-eqb b b refl) ∙ same_passes bytes

rule_passes : (key host : List ℕ) → is_rule key host (key, host) ≡ true
rule_passes key host = ap (λ (same : Bool). same && bytes_eq host host) (same_passes key) ∙ same_passes host

named_passes : (policy : List Rule) (key host : List ℕ) → Contains policy (key, host) → list_any (is_rule key host) policy ≡ true
named_passes policy key host c = list_any_at (is_rule key host) policy c.0 (key, host) c.1 (ap (is_rule key host) c.2 ∙ rule_passes key host)

all_pass : (policy : List Rule) (hosts : List (List ℕ)) (key : List ℕ) → AllByRecursion (λ host. Contains policy (key, host)) hosts → list_all (names policy key) hosts ≡ true
all_pass policy [] key h = refl
all_pass policy (host ∷ hosts) key h =
    ap (λ (named : Bool). named && list_all (names policy key) hosts) (named_passes policy key host h.0) ∙ all_pass policy hosts key h.1

pub allowed_by : (policy : List Rule) (hosts : List (List ℕ)) (key : List ℕ) → IsAllowed policy hosts key → allowed policy hosts key ≡ true
unfolding allowed
allowed_by policy [] key is = absurd (is.bound refl)
allowed_by policy (host ∷ hosts) key is = all_pass policy (host ∷ hosts) key (recursion_from_All (λ h. Contains policy (key, h)) (host ∷ hosts) is.named)
