-- Lists of rules and of hosts' keys, read one after another.
use Rattle.std.proofs.Common.{◌≡◌, ℕ, ◌+◌, Bool, true, false, List, [], ◌∷◌, ◌++◌, Option, Some, None, Result, Ok, Err, refl, ap, sym, ◌∙◌, append_assoc, if◌then◌else◌, ◌==◌}
use Rattle.std.specs.List.{cons_option, onto_first}
use Rattle.sshc_wire.specs.Reads.{◌>>=◌}
use Rattle.sshc_hosts.specs.MatchingLines.{parts_at}
use Rattle.sshc_proxy_session.specs.declared.session_policy.SessionRule.{SessionRule}
use Rattle.sshc_proxy_policy.specs.declared.fault.Fault.{Fault}
use Rattle.sshc_proxy_policy.specs.declared.fault.Fault.TheVariants as faults
use Rattle.sshc_key.specs.Gives.{Fails}
use Rattle.sshc_key.specs.declared.error.Error.{Error}
use Rattle.sshc_key.specs.declared.error.Error.TheVariants as errors
use Rattle.sshc_hosts.specs.Judgement.{KnownKey}
use Rattle.sshc_proxy_policy.specs.PolicyNames.{Named, keys_by, unread}
use Rattle.sshc_proxy_policy.specs.PolicyNames.{host_keys as keys_at}
use Rattle.sshc_proxy_policy.specs.PolicyNames.{all_keys as keys_of}
use Rattle.sshc_proxy_policy.specs.WrittenPolicy.{GivesPart, after, line_rule, numbered, one_line, place_of, rules_from}

-- ---- a place with more than two parts

abbrev IsFull : List (List ℕ) → Type 0
IsFull [] = ⊥
IsFull (part ∷ parts) = Unit {0}

first_full : (x : ℕ) (parts : List (List ℕ)) (b : Bool) → IsFull (if b then [] ∷ parts else onto_first x parts)
first_full x parts true = tt
first_full x [] false = tt
first_full x (part ∷ parts) false = tt

parts_full : (c : ℕ) (xs : List ℕ) → IsFull (parts_at c xs)
parts_full c [] = tt
parts_full c (x ∷ xs) = first_full x (parts_at c xs) (x == c)

too_many : (user host : List ℕ) (parts : List (List ℕ)) → IsFull parts → place_of (user ∷ host ∷ parts) ≡ Err faults.NotARule
too_many user host [] full = absurd full
too_many user host (part ∷ parts) full = refl

pub third_part : (user host text rest : List ℕ) → parts_at 64 text ≡ host ∷ parts_at 64 rest → place_of (user ∷ parts_at 64 text) ≡ Err faults.NotARule
third_part user host text rest is = ap (λ (parts : List (List ℕ)). place_of (user ∷ parts)) is ∙ too_many user host (parts_at 64 rest) (parts_full 64 rest)

-- ---- what comes after what was read

pub after_none : {A E : Type 0} (read : Result (List A) E) → after [] read ≡ read
after_none (Ok xs) = refl
after_none (Err e) = refl

-- ---- hosts

pub known_fails : (e : Error) (known revoked : Result (List KnownKey) Error) → Fails e known → GivesPart {X = List (List ℕ)} {Y = List (List ℕ)} (λ keys. keys) (Err (unread e)) (keys_by known revoked)
known_fails errors.NoMemory known revoked fails = tt
known_fails e (Ok lines) revoked fails = cc fails
known_fails e (Err d) revoked fails = refl

pub revoked_fails : (e : Error) (known revoked : Result (List KnownKey) Error) → Fails e revoked → GivesPart {X = List (List ℕ)} {Y = List (List ℕ)} (λ keys. keys) (Err (unread e)) (keys_by known revoked)
revoked_fails errors.NoMemory known revoked fails = tt
revoked_fails e known (Ok lines) fails = cc fails
revoked_fails e (Ok lines) (Err d) fails = refl
revoked_fails e (Err f) (Err d) fails = refl

pub ruleset host_keys = (known_fails, revoked_fails)

more_keys : (before : List (List (List ℕ))) (keys : List (List ℕ)) (others : Result (List (List (List ℕ))) Fault) → after before (others >>= λ more. Ok (keys ∷ more)) ≡ after (before ++ keys ∷ []) others
more_keys before keys (Ok others) = ap (λ (all : List (List (List ℕ))). Ok all) (sym (append_assoc before (keys ∷ []) others))
more_keys before keys (Err fault) = refl

-- a host's keys are the next
pub keys_next : (hosts name : List ℕ) (names : List (List ℕ)) (before : List (List (List ℕ))) (keys : List (List ℕ)) → keys_at hosts name ≡ Ok keys
    → after before (keys_of hosts (name ∷ names)) ≡ after (before ++ keys ∷ []) (keys_of hosts names)
keys_next hosts name names before keys is =
    ap (λ (read : Result (List (List ℕ)) Fault). after before (read >>= λ k. keys_of hosts names >>= λ more. Ok (k ∷ more))) is ∙ more_keys before keys (keys_of hosts names)

pub keys_fail : (hosts name : List ℕ) (names : List (List ℕ)) (before : List (List (List ℕ))) (fault : Fault) → keys_at hosts name ≡ Err fault → after before (keys_of hosts (name ∷ names)) ≡ Err fault
keys_fail hosts name names before fault is = ap (λ (read : Result (List (List ℕ)) Fault). after before (read >>= λ k. keys_of hosts names >>= λ more. Ok (k ∷ more))) is

pub ruleset all_keys = (keys_next, keys_fail)

-- ---- lines

cons_one : (o : Option SessionRule) (xs : List SessionRule) → cons_option o xs ≡ cons_option o [] ++ xs
cons_one None xs = refl
cons_one (Some x) xs = refl

next_by : (number : ℕ) (before rules : List SessionRule) (read : Result (Option SessionRule) Fault) (more : Result (List SessionRule) (ℕ × Fault))
    → after before (numbered number read >>= λ rule. Ok (cons_option rule [])) ≡ Ok rules
    → after before (numbered number read >>= λ rule. more >>= λ others. Ok (cons_option rule others)) ≡ after rules more
next_by number before rules (Err fault) more e = absurd cc
next_by number before rules (Ok rule) (Err f) e = refl
next_by number before rules (Ok rule) (Ok others) e =
    let same : before ++ cons_option rule [] ≡ rules = cc in
    ap (λ (all : List SessionRule). Ok all)
    (ap (λ (xs : List SessionRule). before ++ xs) (cons_one rule others) ∙ sym (append_assoc before (cons_option rule []) others) ∙ ap (λ (xs : List SessionRule). xs ++ others) same)

-- the rule of a line is the next
pub line_next : (keys : List Named) (hosts line : List ℕ) (rest : List (List ℕ)) (number : ℕ) (before rules : List SessionRule) → after before (one_line keys hosts number line) ≡ Ok rules
    → after before (rules_from keys hosts number (line ∷ rest)) ≡ after rules (rules_from keys hosts (number + 1) rest)
line_next keys hosts line rest number before rules e = next_by number before rules (line_rule keys hosts line) (rules_from keys hosts (number + 1) rest) e

fails_by : (number : ℕ) (before : List SessionRule) (read : Result (Option SessionRule) Fault) (more : Result (List SessionRule) (ℕ × Fault)) (bad : ℕ × Fault)
    → after before (numbered number read >>= λ rule. Ok (cons_option rule [])) ≡ Err bad
    → after before (numbered number read >>= λ rule. more >>= λ others. Ok (cons_option rule others)) ≡ Err bad
fails_by number before (Ok rule) more bad e = absurd cc
fails_by number before (Err fault) more bad e = e

-- reading stops at a line
pub line_fails : (keys : List Named) (hosts line : List ℕ) (rest : List (List ℕ)) (number : ℕ) (before : List SessionRule) (bad : ℕ × Fault) → after before (one_line keys hosts number line) ≡ Err bad
    → after before (rules_from keys hosts number (line ∷ rest)) ≡ Err bad
line_fails keys hosts line rest number before bad e = fails_by number before (line_rule keys hosts line) (rules_from keys hosts (number + 1) rest) bad e

pub ruleset read_policy = (line_next, line_fails, after_none)
