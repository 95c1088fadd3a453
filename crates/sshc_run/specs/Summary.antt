-- A summary of a text of record lines, in a few numbers. Counts over the list of lines; the code passes over the text
-- once.
use Rattle.std.specs.Prelude.{ℕ, ◌==◌, List, [], ◌∷◌, ◌++◌, length, filter, codes, nat_eq}
use Rattle.std.specs.Fmt.{decimal}
use Rattle.std.specs.List.{slice_split, starts_with}
use Rattle.hex.specs.Hex.{encode_lower}
use Rattle.sshc_hosts.specs.Hmac.{hmac_sha1}

-- all parts but the last
abbrev pub but_last : List (List ℕ) → List (List ℕ)
but_last [] = []
but_last (part ∷ []) = []
but_last (part ∷ next ∷ parts) = part ∷ but_last (next ∷ parts)

-- the lines of a text, without their line feeds; the bytes after the last line feed aren't a line
abbrev pub whole_lines : List ℕ → List (List ℕ)
whole_lines text = but_last (slice_split (λ b. b == 10) text)

-- how many lines begin with these bytes
abbrev pub begun : List ℕ → List (List ℕ) → ℕ
begun front lines = length (filter (λ line. starts_with nat_eq line front) lines)

-- how many records the lines contain, how many of them are payloads (kind 01) and how many the agent's bytes (kind 40)
pub record Counted : Type 0 where
  pub records : ℕ
  pub payloads : ℕ
  pub agent : ℕ

abbrev pub counted : List (List ℕ) → Counted
counted lines = record { records = length lines; payloads = begun (codes "01") lines; agent = begun (codes "40") lines }

-- the counts of a text of record lines, and the HMAC of the whole text under an empty key
pub record Summed : Type 0 where
  pub counts : Counted
  pub digest : List ℕ

abbrev pub summed : List ℕ → Summed
summed text = record { counts = counted (whole_lines text); digest = hmac_sha1 [] text }

-- a name, a space, a value and a line feed
abbrev pub named_line : List ℕ → List ℕ → List ℕ
named_line name value = name ++ 32 ∷ value ++ 10 ∷ []

-- the lines that report the summary of a run: the events of its script first
abbrev pub summary_lines : ℕ → Summed → List ℕ
summary_lines events s =
    named_line (codes "events") (decimal events)
    ++ named_line (codes "records") (decimal s.counts.records)
    ++ named_line (codes "payloads") (decimal s.counts.payloads)
    ++ named_line (codes "agent") (decimal s.counts.agent)
    ++ named_line (codes "digest") (encode_lower s.digest)
