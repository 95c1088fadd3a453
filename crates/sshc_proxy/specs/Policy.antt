-- A policy, in a format of this project: which keys may be used towards which hosts.
-- Its rules are a filter over all lines of the text, and its fault is the first line that has none of the forms; the
-- code cuts off one line after another.
use Rattle.std.specs.Prelude.{◌≡◌, ℕ, Bool, true, false, not, ◌&&◌, ◌++◌, List, [], ◌∷◌, Option, Some, None, Result, Ok, Err, codes, bytes_eq, find, option_map, if◌then◌else◌}
use Rattle.std.specs.List.{list_any, list_all, filter_map, enumerate_from}
use Rattle.std.specs.Option.{is_some}
use Rattle.base64.specs.Engines.{standard}
use Rattle.base64.specs.GeneralPurpose.{decoded_of}
use Rattle.sshc_key.specs.KeyGrammar.{Key, plain}
use Rattle.sshc_key.specs.Nesting.{whole_blob_key}
use Rattle.sshc_hosts.specs.MatchingLines.{is_comment, parts_at}
use Rattle.sshc_proxy.specs.declared.error.PolicyError.{PolicyError}
use Rattle.sshc_proxy.specs.declared.error.PolicyError.TheVariants.{BadLine, NoMemory}

-- the blob of a key, and the blob of a host key towards which it may be used
abbrev pub Rule : Type 0
Rule = List ℕ × List ℕ

-- ---- lines

-- a key that is no certificate
abbrev pub is_plain : Option Key → Bool
is_plain (Some (plain k)) = true
is_plain key = false

abbrev pub one_key : Option (List ℕ) → Option (List ℕ)
one_key None = None
one_key (Some blob) = if is_plain (whole_blob_key blob) then Some blob else None

-- the blob of which the text is the padded base64 (RFC 4648, section 4), if it is exactly one plain key
abbrev pub key_blob : List ℕ → Option (List ℕ)
key_blob text = one_key (decoded_of standard text)

abbrev pub rule_with : Option (List ℕ) → Option (List ℕ) → Option Rule
rule_with (Some key) (Some host) = Some (key, host)
rule_with key host = None

-- `allow`, a key and a host key, with one space between each two
abbrev pub rule_in : List (List ℕ) → Option Rule
rule_in (word ∷ key ∷ host ∷ []) = if bytes_eq word (codes "allow") then rule_with (key_blob key) (key_blob host) else None
rule_in fields = None

-- an empty line is dropped, and so is one that begins with `#`
abbrev pub is_dropped : List ℕ → Bool
is_dropped [] = true
is_dropped (b ∷ line) = is_comment (b ∷ line)

-- the rule of a line that has one
unfoldable pub rule_of : List ℕ → Option Rule
rule_of line = if is_dropped line then None else rule_in (parts_at 32 line)

-- a line that is neither dropped nor a rule
unfoldable pub is_bad : List ℕ → Bool
is_bad line = if is_dropped line then false else not (is_some (rule_in (parts_at 32 line)))

-- ---- the text

-- the rules of a text, in order
abbrev pub rules : List ℕ → List Rule
rules text = filter_map rule_of (parts_at 10 text)

-- the number of the first bad line, where the first one has this number
abbrev pub first_bad : ℕ → List (List ℕ) → Option ℕ
first_bad number lines = option_map (λ line. line.0) (find (λ line. is_bad line.1) (enumerate_from number lines))

-- the number of the first bad line of a text, counted from 1
abbrev pub bad_line : List ℕ → Option ℕ
bad_line text = first_bad 1 (parts_at 10 text)

-- what reading a text as a policy returns
abbrev pub Reads : List ℕ → Result (List Rule) PolicyError → Type 0
Reads text (Ok policy) = (bad_line text ≡ None) × (policy ≡ rules text)
Reads text (Err (BadLine line)) = bad_line text ≡ Some line
Reads text (Err NoMemory) = Unit {0}

-- reading a line of this number adds its rule, if it has one
abbrev pub AddsLine : List ℕ → ℕ → List Rule → List Rule → Result (Unit {0}) PolicyError → Type 0
AddsLine line number before after (Ok u) = (is_bad line ≡ false) × (after ≡ before ++ filter_map rule_of (line ∷ []))
AddsLine line number before after (Err (BadLine n)) = (is_bad line ≡ true) × (n ≡ number)
AddsLine line number before after (Err NoMemory) = Unit {0}

-- ---- what a policy allows

abbrev pub is_rule : List ℕ → List ℕ → Rule → Bool
is_rule key host rule = bytes_eq rule.0 key && bytes_eq rule.1 host

-- the policy names the key for the host
abbrev pub names : List Rule → List ℕ → List ℕ → Bool
names policy key host = list_any (is_rule key host) policy

-- a host is bound, and the policy names the key for each bound host
unfoldable pub allowed : List Rule → List (List ℕ) → List ℕ → Bool
allowed policy [] key = false
allowed policy (host ∷ hosts) key = list_all (names policy key) (host ∷ hosts)
