-- A policy as a person writes it, in a format of this project: a line for each rule, `allow KEY [USER@]HOST [via HOST..]`.
-- What a text means is a function of its lines and fields; the code cuts off one after another.
use Rattle.std.specs.Prelude.{◌≡◌, ℕ, ◌+◌, Bool, true, false, ◌&&◌, List, [], ◌∷◌, ◌++◌, length, Option, Some, None, Result, Ok, Err, codes, bytes_eq, filter, nat_eq, nat_lt, option_map, if◌then◌else◌}
use Rattle.std.specs.List.{cons_option, ends_with, filter_map}
use Rattle.sshc_wire.specs.Reads.{◌>>=◌}
use Rattle.sshc_hosts.specs.MatchingLines.{is_comment, parts_at}
use Rattle.sshc_proxy_session.specs.declared.session_policy.SessionRule.{SessionRule}
use Rattle.sshc_proxy_policy.specs.declared.fault.Fault.{Fault}
use Rattle.sshc_proxy_policy.specs.declared.fault.Fault.TheVariants as faults
use Rattle.sshc_proxy_policy.specs.declared.fault.LineError.{LineError}
use Rattle.sshc_proxy_policy.specs.declared.fault.LineError.TheVariants as line_errors
use Rattle.sshc_proxy_policy.specs.declared.fault.WrittenError.{WrittenError}
use Rattle.sshc_proxy_policy.specs.declared.fault.WrittenError.TheVariants as errors
use Rattle.sshc_proxy_policy.specs.declared.rule_line.Place.{Place as LentPlace}
use Rattle.sshc_proxy_policy.specs.PolicyNames.{Named, all_keys, host_keys, key_named}

-- ---- a line

abbrev pub is_filled : List ℕ → Bool
is_filled [] = false
is_filled (b ∷ part) = true

-- the parts of a line between spaces
abbrev pub fields : List ℕ → List (List ℕ)
fields line = filter is_filled (parts_at 32 line)

-- a user, or anybody, and a host
abbrev pub Place : Type 0
Place = Option (List ℕ) × List ℕ

-- `[USER@]HOST`, by its parts at `@`
abbrev pub place_of : List (List ℕ) → Result Place Fault
place_of (host ∷ []) = Ok (None, host)
place_of (user ∷ host ∷ []) = if is_filled user then Ok (Some user, host) else Err faults.NotARule
place_of parts = Err faults.NotARule

-- `[via HOST..]`: at most fifteen, since a connection is bound to sixteen sessions at most
abbrev pub hops_of : List (List ℕ) → Result (List (List ℕ)) Fault
hops_of [] = Ok []
hops_of (word ∷ []) = Err faults.NotARule
hops_of (word ∷ host ∷ hosts) =
    if bytes_eq word (codes "via") then (if nat_lt (length hosts) 15 then Ok (host ∷ hosts) else Err faults.TooManyHops) else Err faults.NotARule

-- what the rule's names stand for
abbrev pub rule_by : List Named → List ℕ → List ℕ → List ℕ → List (List ℕ) → Result SessionRule Fault
rule_by keys hosts key place more = do
  at ← place_of (parts_at 64 place)
  hops ← hops_of more
  blob ← key_named keys key
  host ← host_keys hosts at.1
  via ← all_keys hosts hops
  Ok (record { key = blob; user = at.0; host = host; via = via })

unfoldable pub rule_of : List Named → List ℕ → List (List ℕ) → Result SessionRule Fault
rule_of keys hosts (word ∷ key ∷ place ∷ more) = if bytes_eq word (codes "allow") then rule_by keys hosts key place more else Err faults.NotARule
rule_of keys hosts parts = Err faults.NotARule

-- a line without fields has no rule, nor has one whose first field begins with `#`
abbrev pub is_dropped : List (List ℕ) → Bool
is_dropped [] = true
is_dropped (first ∷ parts) = is_comment first

unfoldable pub line_rule : List Named → List ℕ → List ℕ → Result (Option SessionRule) Fault
line_rule keys hosts line = if is_dropped (fields line) then Ok None else (rule_of keys hosts (fields line) >>= λ rule. Ok (Some rule))

-- ---- the text

-- a line's fault, with its number
abbrev pub numbered : {A : Type 0} → ℕ → Result A Fault → Result A (ℕ × Fault)
numbered number (Ok x) = Ok x
numbered number (Err fault) = Err (number, fault)

-- the rules of the lines in order, or the first line with a fault; the first line has this number
abbrev pub rules_from : List Named → List ℕ → ℕ → List (List ℕ) → Result (List SessionRule) (ℕ × Fault)
rules_from keys hosts number [] = Ok []
rules_from keys hosts number (line ∷ lines) = do
  rule ← numbered number (line_rule keys hosts line)
  rules ← rules_from keys hosts (number + 1) lines
  Ok (cons_option rule rules)

-- the rules of a text, whose lines are counted from 1
abbrev pub written_rules : List Named → List ℕ → List ℕ → Result (List SessionRule) (ℕ × Fault)
written_rules keys hosts text = rules_from keys hosts 1 (parts_at 10 text)

-- what reading a text as a policy returns
abbrev pub Reads : List Named → List ℕ → List ℕ → Result (List SessionRule) WrittenError → Type 0
Reads keys hosts text (Ok policy) = written_rules keys hosts text ≡ Ok policy
Reads keys hosts text (Err (errors.BadLine line fault)) = written_rules keys hosts text ≡ Err (line, fault)
Reads keys hosts text (Err errors.NoMemory) = Unit {0}

-- ---- parts of the code

-- a call gives what reading yields, or runs out of memory
abbrev pub GivesPart : {X Y : Type 0} → (X → Y) → Result X LineError → Result Y Fault → Type 0
GivesPart view (Ok x) reading = reading ≡ Ok (view x)
GivesPart view (Err (line_errors.Faulty fault)) reading = reading ≡ Err fault
GivesPart view (Err line_errors.NoMemory) reading = Unit {0}

-- the same where memory isn't asked for
abbrev pub Sees : {X Y : Type 0} → (X → Y) → Result X Fault → Result Y Fault → Type 0
Sees view (Ok x) reading = reading ≡ Ok (view x)
Sees view (Err fault) reading = reading ≡ Err fault

-- the place that a value of the code's type represents
abbrev pub place_seen : LentPlace → Place
place_seen place = (option_map (λ user. user.now) place.user, place.host.now)

abbrev pub line_error : LineError → ℕ → WrittenError
line_error line_errors.NoMemory line = errors.NoMemory
line_error (line_errors.Faulty fault) line = errors.BadLine line fault

-- what is read comes after these
abbrev pub after : {A E : Type 0} → List A → Result (List A) E → Result (List A) E
after before (Ok xs) = Ok (before ++ xs)
after before (Err e) = Err e

-- the rule of a line, if it has one, or its fault with its number
abbrev pub one_line : List Named → List ℕ → ℕ → List ℕ → Result (List SessionRule) (ℕ × Fault)
one_line keys hosts number line = numbered number (line_rule keys hosts line) >>= λ rule. Ok (cons_option rule [])

-- what a call returns that leaves these rules
abbrev pub GivesRules : List SessionRule → Result (Unit {0}) WrittenError → Result (List SessionRule) (ℕ × Fault) → Type 0
GivesRules rules (Ok u) reading = reading ≡ Ok rules
GivesRules rules (Err (errors.BadLine line fault)) reading = reading ≡ Err (line, fault)
GivesRules rules (Err errors.NoMemory) reading = Unit {0}

-- ---- files of keys

abbrev pub is_file : List ℕ → Bool
is_file name = ends_with nat_eq name (codes ".pub")

-- the key's name in a line, where it is the path of a file
abbrev pub key_file : List (List ℕ) → Option (List ℕ)
key_file (word ∷ key ∷ parts) = if bytes_eq word (codes "allow") && is_file key then Some key else None
key_file parts = None

-- the files that the lines of a text name, in order
abbrev pub key_files : List ℕ → List (List ℕ)
key_files text = filter_map (λ line. key_file (fields line)) (parts_at 10 text)
